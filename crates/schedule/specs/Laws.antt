-- The laws of a module over every history of calls.
use Rattle.std.specs.Prelude.{◌≡◌, ℕ, suc, ◌+◌, ◌-◌, ◌*◌, ◌/◌, ◌<◌, ◌≤◌, cond, List, ◌++◌, length, nat_lt, slice_index_or}
use Rattle.std.specs.List.{AllByRecursion}
use Rattle.book.specs.declared.rows.Row.{Row}
use Rattle.book.specs.declared.rows.Row.TheVariants.{Free, Held, Live, Leaving}
use Rattle.book.specs.Ticks.{start_of}
use Rattle.book.specs.declared.setup.Class.{Class}
use Rattle.book.specs.Told.{SetNumbers, no_class, class_count, cycle_of}
use Rattle.book.specs.Rows.{octets_in}
use Rattle.book.specs.Books.{row_of}
use Rattle.placers.specs.Placers.{Rules}
use Rattle.schedule.specs.declared.departures.Departure.{Departure}
use Rattle.schedule.specs.declared.rooms.Room.{Room}
use Rattle.schedule.specs.Bins.{current_of, bins_before, most_loads, most_below, loads_below}
use Rattle.schedule.specs.Wires.{Loads, wire_octets}
use Rattle.schedule.specs.Modules.{clock_of}
use Rattle.schedule.specs.Histories.{Call, after, written, given, left, waiting, Ended, octets_for}

-- The room that the bins of a class need, and those of class c.
abbrev pub room_for : Class → Room
room_for k = record { bins = k.bins; depth = k.cycle / 84; total = k.bins * (k.cycle / 84) }

abbrev pub room_in : SetNumbers → (c : ℕ) → Room
room_in s c = room_for (slice_index_or s.classes c no_class)

-- The rack that settings need: bins for all classes, in each as many loads as a cycle of the slowest class can carry,
-- and in all bins as many as their classes' cycles can carry.
abbrev pub room_of : SetNumbers → Room
room_of s = record { bins = bins_before s (class_count s); depth = most_loads s (class_count s - 1); total = most_below s (class_count s) }

-- What a row allows its stream in cycle q of class c, which has not ended: the quota of its own class while it is live,
-- and while it is leaving in the cycles before the one from whose start on it is free.
abbrev pub allowed : (c q : ℕ) → Row → ℕ
allowed c q Free = 0
allowed c q (Held k) = 0
allowed c q (Live k) = octets_in c k
allowed c q (Leaving k u) = cond (nat_lt q u) (octets_in c k) 0

-- A departure begins in its cycle and ends before the dead time of that cycle.
pub record Whole {L : Type 0} (loads : Loads L) (s : SetNumbers) (d : Departure L) : Type 0 where
  pub class : d.class < class_count s
  pub from : start_of (cycle_of s d.class) d.cycle ≤ d.start
  pub to : d.start + wire_octets loads d.load + s.dead_time ≤ start_of (cycle_of s d.class) (suc d.cycle)

-- The laws after one history.
module _ {L Record : Type 0} (loads : Loads L) (m : Rules Record) (s : SetNumbers) (begun : ℕ → Record) (h : List (Call L)) where
  pub record Laws : Type 0 where
    -- What was given a cycle has left in it or waits for it, in the order in which it came.
    pub kept : (c q : ℕ) → given loads m s begun h c q ≡ left loads m s begun h c q ++ waiting loads m s begun h c q
    -- A stream has in a cycle that has not ended no more than its row allows.
    pub within_quota : (i c q : ℕ) → c < class_count s → current_of s (clock_of loads m (after loads m s begun h)) c ≤ q
        → octets_for loads i (given loads m s begun h c q) ≤ allowed c q (row_of (after loads m s begun h).book i)
    -- Every departure is whole.
    pub whole : AllByRecursion (Whole loads s) (written loads m s begun h)
    -- What was given a cycle has left in it, all of it and in order, once the cycle has ended.
    pub emptied : (c q : ℕ) → c < class_count s → Ended loads m s begun h c q
        → left loads m s begun h c q ≡ given loads m s begun h c q
    -- No bin ever holds more than a cycle of its class can carry, no bin past the last class holds a load,
    -- and so a rack with the room that the settings need is never full before a load is put.
    pub room : (c q : ℕ) → c < class_count s → length (waiting loads m s begun h c q) ≤ most_loads s c
    pub depth : (b : ℕ) → length ((after loads m s begun h).bins b) ≤ (room_of s).depth
    pub total : (bins : ℕ) → loads_below (after loads m s begun h).bins bins ≤ (room_of s).total

-- So it is after every history, whatever records the placer came with.
abbrev pub LawsOf : {L Record : Type 0} → Loads L → Rules Record → SetNumbers → Type 0
LawsOf {L} {Record} loads m s = (begun : ℕ → Record) (h : List (Call L)) → Laws loads m s begun h
