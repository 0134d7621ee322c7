-- The placer by count: a frame goes into the earliest cycle that has room for it.
use Rattle.std.specs.Prelude.{ℕ, ◌+◌, ◌<◌, ◌≤◌, Bool, cond, ◌&&◌, Err, Result, nat_le, nat_lt}
use Rattle.book.specs.Ticks.{last_tick}
use Rattle.placers.specs.declared.faults.PlacerFault.{PlacerFault}
use Rattle.placers.specs.declared.faults.PlacerFault.TheVariants.{NoRoom}
use Rattle.placers.specs.declared.terms.Terms.{Terms}
use Rattle.placers.specs.declared.terms.Ask.{Ask}
use Rattle.placers.specs.declared.table.Latest.{Latest}
use Rattle.placers.specs.Terms.{current}
use Rattle.placers.specs.Placers.{Rules}
use Rattle.placers.specs.Latest.{held_in, has_room, added, rules_by}

-- The first cycle after the current one that is not before the stream's last.
abbrev pub first_after : Latest → (current : ℕ) → ℕ
first_after r k = cond (nat_lt k r.cycle) r.cycle (k + 1)

-- Only the stream's last cycle can be too full, so the one after it has room.
abbrev pub earliest : Latest → (first w quota : ℕ) → ℕ
earliest r first w quota = cond (has_room r first w quota) first (first + 1)

-- The cycle is the earliest that is later than the current one, not before the stream's last, and has room.
pub record Earliest (r : Latest) (k w quota q : ℕ) : Type 0 where
  pub later : k < q
  pub order : r.cycle ≤ q
  pub room : held_in r q + w ≤ quota
  pub least : (p : ℕ) → (k < p) × (r.cycle ≤ p) × (held_in r p + w ≤ quota) → q ≤ p

abbrev pub counted_cycle : Terms → Latest → Ask → ℕ
counted_cycle t r a = earliest r (first_after r (current t a.clock)) a.octets a.quota

-- The cycle is within reach: it has a bin. No clock is after the last tick.
abbrev pub in_reach : Terms → (clock cycle : ℕ) → Bool
in_reach t clock q = nat_le clock last_tick && nat_lt q (current t clock + t.bins)

-- A frame is refused if that cycle is out of reach, or if no cycle has room for it.
abbrev pub counted : Terms → Latest → Ask → Result Latest PlacerFault
counted t r a = cond (in_reach t a.clock (counted_cycle t r a)) (added r (counted_cycle t r a) a.octets a.quota) (Err NoRoom)

abbrev pub count_rules : Rules Latest
count_rules = rules_by counted

-- The rule finds the earliest cycle for every frame that the quota holds.
abbrev pub FindsEarliest : Terms → Type 0
FindsEarliest t = (r : Latest) (a : Ask) → a.octets ≤ a.quota → Earliest r (current t a.clock) a.octets a.quota (counted_cycle t r a)
