-- Refusals: their numbers and values.
use Rattle.std.specs.Prelude.{ℕ, List, []}
use Rattle.placers.specs.declared.faults.PlacerFault.{PlacerFault}
use Rattle.placers.specs.declared.faults.PlacerFault.TheVariants.{NotThere, NotInside, NoRoom}

-- The number by which a refusal is known.
abbrev pub number_of : PlacerFault → ℕ
number_of NotThere = 5
number_of NotInside = 13
number_of NoRoom = 14

-- No value comes with it.
abbrev pub values_of : PlacerFault → List ℕ
values_of NotThere = []
values_of NotInside = []
values_of NoRoom = []
