-- Refusals of a line: their numbers.
use Rattle.std.specs.Prelude.{ℕ}
use Rattle.book.specs.Faults as book
use Rattle.line.specs.declared.faults.LineFault.{LineFault}
use Rattle.line.specs.declared.faults.LineFault.TheVariants.{NoPath, AtLeg}

-- The number by which a refusal is known; a book's fault that was passed on keeps its own.
abbrev pub number_of : LineFault → ℕ
number_of NoPath = 18
number_of (AtLeg e) = book.number_of e.fault
