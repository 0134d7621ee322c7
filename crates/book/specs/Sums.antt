-- Admission: what the bookings take of each class's cycle.
use Rattle.std.specs.Prelude.{◌≡◌, ℕ, zero, suc, ◌+◌, ◌-◌, ◌*◌, ◌/◌, ◌<◌, ◌≤◌, cond, List, Some, None, Option, nat_lt}
use Rattle.book.specs.declared.faults.BookFault.{BookFault}
use Rattle.book.specs.declared.faults.BookFault.TheVariants.{Over}
use Rattle.book.specs.declared.rows.Row.{Row}
use Rattle.book.specs.Faults.{or_else}
use Rattle.book.specs.Told.{SetNumbers, cycle_of, class_count}
use Rattle.book.specs.Rows.{booked}

-- The booked octets of the classes below a number, each as often as its cycle comes in a cycle of class c.
unfoldable pub weighed : SetNumbers → List Row → (c below : ℕ) → ℕ
weighed s rows c zero = 0
weighed s rows c (suc f) = weighed s rows c f + cycle_of s c / cycle_of s f * booked f rows

-- The ticks that a cycle of class c must have: the longest frame on the wire, the dead time,
-- and the octets booked in the classes up to c.
abbrev pub demand : SetNumbers → List Row → ℕ → ℕ
demand s rows c = 1542 + s.dead_time + weighed s rows c (suc c)

-- The fault of a class whose demand passes its cycle.
abbrev pub over_at : SetNumbers → List Row → ℕ → Option BookFault
over_at s rows c = cond (nat_lt (cycle_of s c) (demand s rows c)) (Some (Over c (demand s rows c - cycle_of s c))) None

-- The lowest class below a number that fails.
unfoldable pub over_below : SetNumbers → List Row → ℕ → Option BookFault
over_below s rows zero = None
over_below s rows (suc c) = or_else (over_below s rows c) (over_at s rows c)

abbrev pub over_fault : SetNumbers → List Row → Option BookFault
over_fault s rows = over_below s rows (class_count s)

-- Every class's sum is within its cycle.
abbrev pub Within : SetNumbers → List Row → Type 0
Within s rows = (c : ℕ) → c < class_count s → demand s rows c ≤ cycle_of s c

-- Class c is the lowest whose demand passes its cycle, and it does by so many ticks.
pub record LowestOver (s : SetNumbers) (rows : List Row) (c ticks : ℕ) : Type 0 where
  pub there : c < class_count s
  pub some : 0 < ticks
  pub over : demand s rows c ≡ cycle_of s c + ticks
  pub lower : (d : ℕ) → d < c → demand s rows d ≤ cycle_of s d
