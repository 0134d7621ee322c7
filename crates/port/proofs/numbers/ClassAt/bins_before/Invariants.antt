use Rattle.std.proofs.Common.{◌≡◌, ◌*◌, ◌≤◌}
use Rattle.book.specs.Sets.{numbers_of}
use Rattle.schedule.specs.Bins.{bins_before}
use Rattle.port.proofs.numbers.ClassAt.bins_before.Given as goal

abbrev pub invariant-loop-number : goal.invariant-loop-number
invariant-loop-number l = (l.before ≡ bins_before (numbers_of l.self.settings.now) l.number) × (l.before ≤ 255 * l.number)
