use Rattle.std.proofs.Common.{◌≡◌, None}
use Rattle.book.specs.Sets.{numbers_of}
use Rattle.book.specs.Sums.{over_below}
use Rattle.book.proofs.ledger.sums.Sums.check.Given as goal

abbrev pub invariant-loop-class : goal.invariant-loop-class
invariant-loop-class l = over_below (numbers_of l.self.settings.now) l.self.rows.now l.class ≡ None
