use Rattle.std.proofs.Common.{◌≡◌, ◌<◌, ap, ◌∙◌, inr, arith}
use Rattle.book.specs.declared.setup.Class.{Class}
use Rattle.book.specs.Told.{cycle_of}
use Rattle.book.specs.Sets.{numbers_of}
use Rattle.book.proofs.Legality.{settings-legal}
use Rattle.port.proofs.Leaving.{next_start}
use Rattle.port.proofs.wires.Moment.quiet_until.Goals as goal

pub nonzero_div-end : goal.nonzero_div-end
nonzero_div-end g c =
    let legal = settings-legal c.args.self.now.settings.now in
    let is : c.from-cycle.result ≡ cycle_of (numbers_of c.args.self.now.settings.now) 0 = c.from-cycle.ensures ∙ ap (λ (k : Class). k.cycle) c.class.ensures in
    omega (arith, legal.least 0 legal.one_class)

pub returns : goal.returns
returns g c =
    let legal = settings-legal c.args.self.now.settings.now in
    let T = cycle_of (numbers_of c.args.self.now.settings.now) 0 in
    let is : c.from-cycle.result ≡ T = c.from-cycle.ensures ∙ ap (λ (k : Class). k.cycle) c.class.ensures in
    let some : 0 < T = omega (arith, legal.least 0 legal.one_class) in
    let p = next_start c.args.self.now.tick c.from-cycle.result T c.args.until c.min.result is some c.requires.0 c.min.ensures in
    record { onward = p.0; within = p.1; quiet = inr p.2 }
