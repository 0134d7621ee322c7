use Rattle.std.proofs.Common.{rules, ◌≡◌, ◌/◌, div-le_self, arith}
use Rattle.book.specs.Sets.{numbers_of}
use Rattle.book.specs.Told.{SetNumbers, cycle_of}
use Rattle.book.proofs.Legality.{settings-legal, cycle-most}
use Rattle.book.proofs.setup.Settings.times.Goals as goal

pub returns-clause-bound : goal.returns-clause-bound
returns-clause-bound c =
    let s : SetNumbers = numbers_of c.args.self.now in
    let e : c.from.result ≡ cycle_of s c.args.slower / cycle_of s c.args.faster = search rules in
    omega (arith, e, div-le_self (cycle_of s c.args.slower) (cycle_of s c.args.faster), cycle-most s (settings-legal c.args.self.now) c.args.slower)
