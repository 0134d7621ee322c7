-- The last stamps as a function of the stream.
use Rattle.std.specs.Prelude.{ℕ}
use Rattle.placers.specs.declared.table.Table.{Table}
use Rattle.placers.specs.Tables.{row_in}

abbrev pub stamps_of : Table ℕ → (stream : ℕ) → ℕ
stamps_of = row_in 0
