use Rattle.std.proofs.Common.{◌≡◌, sym, ap, arith}
use Rattle.book.specs.declared.setup.Class.{Class}
use Rattle.book.specs.Sets.{numbers_of}
use Rattle.book.specs.Told.{bins_of}
use Rattle.port.proofs.Turning.{before-none, before_more}
use Rattle.port.proofs.numbers.ClassAt.bins_before.Goals as goal

pub loop-number-init : goal.loop-number-init
loop-number-init c = (sym (before-none (numbers_of c.args.self.now.settings.now)), omega arith)

pub loop-number-preserved : goal.loop-number-preserved
loop-number-preserved c =
    let s = numbers_of c.args.self.now.settings.now in
    let f = c.loop-number.number in
    let bins : c.class.result.bins ≡ bins_of s f = ap (λ (k : Class). k.bins) c.class.ensures in
    (omega (arith, before_more s f), omega arith)
