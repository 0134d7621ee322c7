-- The bins of a module as a function from their numbers to loads, oldest first, and which bin a cycle uses.
use Rattle.std.specs.Prelude.{ℕ, zero, suc, ◌+◌, ◌*◌, ◌/◌, ◌%◌, Bool, cond, ◌&&◌, List, [], length, nat_le, nat_lt}
use Rattle.book.specs.Ticks.{cycle_at}
use Rattle.book.specs.Told.{SetNumbers, class_count, cycle_of, bins_of}

-- The bins of faster classes are numbered first: so many bins stand before those of class c.
unfoldable pub bins_before : SetNumbers → (c : ℕ) → ℕ
bins_before s zero = 0
bins_before s (suc c) = bins_before s c + bins_of s c

-- The bin of cycle q of class c.
abbrev pub bin_of : SetNumbers → (c q : ℕ) → ℕ
bin_of s c q = bins_before s c + q % bins_of s c

-- The cycle of class c that is current at a clock.
abbrev pub current_of : SetNumbers → (clock c : ℕ) → ℕ
current_of s clock c = cycle_at (cycle_of s c) clock

-- A cycle has a bin of its own from the time that it is as many cycles ahead as its class has bins, less one, to its end.
abbrev pub in_reach : SetNumbers → (clock c q : ℕ) → Bool
in_reach s clock c q = nat_lt c (class_count s) && (nat_le (current_of s clock c) q && nat_lt q (current_of s clock c + bins_of s c))

-- The loads that wait for cycle q of class c.
unfoldable pub waiting_in : {L : Type 0} → SetNumbers → (clock : ℕ) → (bins : ℕ → List L) → (c q : ℕ) → List L
waiting_in s clock bins c q = cond (in_reach s clock c q) (bins (bin_of s c q)) []

-- The loads in the bins below a number.
unfoldable pub loads_below : {L : Type 0} → (ℕ → List L) → (below : ℕ) → ℕ
loads_below bins zero = 0
loads_below bins (suc n) = loads_below bins n + length (bins n)

-- The most loads of 84 octets on the wire that a cycle of class c can carry.
abbrev pub most_loads : SetNumbers → (c : ℕ) → ℕ
most_loads s c = cycle_of s c / 84

-- The most loads that the bins of all classes below a number can hold together.
unfoldable pub most_below : SetNumbers → (below : ℕ) → ℕ
most_below s zero = 0
most_below s (suc c) = most_below s c + bins_of s c * most_loads s c
