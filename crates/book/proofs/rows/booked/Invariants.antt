use Rattle.std.proofs.Common.{◌≡◌, ◌*◌, ◌≤◌, take}
use Rattle.book.specs.Rows.{booked}
use Rattle.book.proofs.rows.booked.Given as goal

abbrev pub invariant-loop-row : goal.invariant-loop-row
invariant-loop-row l = (l.sum ≡ booked l.class (take l.row-index l.rows)) × (l.sum ≤ 4294967295 * l.row-index)
