-- A table as a function of the stream.
use Rattle.std.specs.Prelude.{ℕ, slice_index_or}
use Rattle.placers.specs.declared.table.Table.{Table}

-- The row of each stream; d is never seen of one that is there.
abbrev pub row_in : {X : Type 0} → X → Table X → (stream : ℕ) → X
row_in d t s = slice_index_or t.rows s d
