-- The kinds of racks and placers, and the racks that can be made.
use Rattle.std.specs.Prelude.{ℕ, List, cond, codes, Some, None, Option}
use Rattle.std.specs.Str.{bytes_eq}
use Rattle.racks.specs.declared.faults.RackFault.{RackFault}
use Rattle.racks.specs.declared.faults.RackFault.TheVariants.{OutOfLimits, TooFewPlaces, NotThere, Full}
use Rattle.racks.specs.Plans.{plan_fault, rows_need}
use Rattle.ecqf_port.specs.declared.kinds.RackKind.{RackKind}
use Rattle.ecqf_port.specs.declared.kinds.RackKind.TheVariants.{Rows, Cells}
use Rattle.ecqf_port.specs.declared.kinds.RackChoice.{RackChoice}
use Rattle.ecqf_port.specs.declared.kinds.PlacerKind.{PlacerKind}
use Rattle.ecqf_port.specs.declared.kinds.PlacerKind.TheVariants.{ByTime, ByCount}

-- The kind that a word names.
abbrev pub rack_kind_in : (word : List ℕ) → Option RackKind
rack_kind_in word = cond (bytes_eq word (codes "rows")) (Some Rows) (cond (bytes_eq word (codes "cells")) (Some Cells) None)

abbrev pub placer_kind_in : (word : List ℕ) → Option PlacerKind
placer_kind_in word = cond (bytes_eq word (codes "time")) (Some ByTime) (cond (bytes_eq word (codes "count")) (Some ByCount) None)

-- A rack is lent just the places that it needs.
abbrev pub unless_places : Option RackFault → Option RackFault
unless_places None = None
unless_places (Some OutOfLimits) = Some OutOfLimits
unless_places (Some TooFewPlaces) = None
unless_places (Some NotThere) = Some NotThere
unless_places (Some Full) = Some Full

-- Why no such rack can be made. Rows and cells have the same limits.
abbrev pub rack_fault : RackChoice → Option RackFault
rack_fault c = unless_places (plan_fault c.numbers.bins c.numbers.depth c.numbers.total (rows_need c.numbers.bins c.numbers.depth) 0)

-- How many places a rack needs, and how many numbers of next places.
abbrev pub places_by : RackKind → RackChoice → ℕ × ℕ
places_by Rows c = (rows_need c.numbers.bins c.numbers.depth, 0)
places_by Cells c = (c.numbers.total, c.numbers.total)

abbrev pub places_of : RackChoice → ℕ × ℕ
places_of c = places_by c.kind c
