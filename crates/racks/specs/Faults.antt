-- The refusals of a rack: their numbers and values.
use Rattle.std.specs.Prelude.{ℕ, List, []}
use Rattle.racks.specs.declared.faults.RackFault.{RackFault}
use Rattle.racks.specs.declared.faults.RackFault.TheVariants.{OutOfLimits, TooFewPlaces, NotThere, Full}

-- The number by which a refusal is known.
abbrev pub number_of : RackFault → ℕ
number_of OutOfLimits = 2
number_of TooFewPlaces = 4
number_of NotThere = 5
number_of Full = 19

-- No refusal of a rack comes with values.
abbrev pub values_of : RackFault → List ℕ
values_of OutOfLimits = []
values_of TooFewPlaces = []
values_of NotThere = []
values_of Full = []
