-- A mark from its parts.
use Rattle.std.specs.Prelude.{ℕ}
use Rattle.loads.specs.declared.marks.Mark.{Mark}

abbrev pub mark_of : (stream length buffer : ℕ) → Mark
mark_of s l b = record { stream = s; length = l; buffer = b }
