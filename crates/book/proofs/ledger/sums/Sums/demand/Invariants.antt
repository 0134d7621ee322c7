use Rattle.std.proofs.Common.{◌≡◌, ◌+◌, ◌*◌, ◌≤◌}
use Rattle.book.specs.Sets.{numbers_of}
use Rattle.book.specs.Sums.{weighed}
use Rattle.book.proofs.ledger.sums.Sums.demand.Given as goal

abbrev pub invariant-loop-faster : goal.invariant-loop-faster
invariant-loop-faster l = (l.sum ≡ 1542 + (numbers_of l.self.settings.now).dead_time + weighed (numbers_of l.self.settings.now) l.self.rows.now l.class l.faster)
    × (l.sum ≤ 4294968837 + 576460752169205760 * l.faster)
