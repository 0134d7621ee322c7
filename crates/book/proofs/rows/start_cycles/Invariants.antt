use Rattle.std.proofs.Common.{◌≡◌, ◌++◌, map, take, drop}
use Rattle.book.specs.Sets.{numbers_of}
use Rattle.book.specs.Rows.{settled}
use Rattle.book.proofs.rows.start_cycles.Given as goal

abbrev pub invariant-loop-row : goal.invariant-loop-row
invariant-loop-row l = l.rows ≡ map (settled (numbers_of l.settings) l.clock) (take l.row-index l.initial.rows) ++ drop l.row-index l.initial.rows
