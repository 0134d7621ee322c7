-- Where input cycles lie, which frame lies inside one, and when terms are legal.
use Rattle.std.specs.Prelude.{ℕ, ◌+◌, ◌-◌, ◌<◌, ◌≤◌, Bool, cond, ◌&&◌, Some, None, Option, nat_le, nat_lt}
use Rattle.book.specs.Ticks.{last_tick, cycle_at, start_of, shift}
use Rattle.book.specs.Told.{SetNumbers, class_count, input_count, cycle_of, bins_of, phase_of}
use Rattle.placers.specs.declared.terms.Terms.{Terms}

-- The first tick of input cycle i, and the input cycle that holds a tick.
abbrev pub input_start : Terms → (i : ℕ) → ℕ
input_start t i = t.phase + start_of t.cycle i

abbrev pub input_cycle : Terms → (tick : ℕ) → ℕ
input_cycle t tick = cycle_at t.cycle (tick - t.phase)

-- A frame of w wire octets with that stamp lies inside input cycle i.
pub record Inside (t : Terms) (i stamp w : ℕ) : Type 0 where
  pub from : input_start t i ≤ stamp
  pub to : stamp + w ≤ input_start t i + t.cycle

-- It lies inside the input cycle that holds its stamp. No stamp is after the last tick.
abbrev pub is_inside : Terms → (stamp w : ℕ) → Bool
is_inside t stamp w = nat_le stamp last_tick && nat_le t.phase stamp && nat_le (stamp + w) (input_start t (input_cycle t stamp) + t.cycle)

-- The cycle of the class that holds a tick.
abbrev pub current : Terms → (tick : ℕ) → ℕ
current t tick = cycle_at t.cycle tick

abbrev pub shift_in : Terms → ℕ
shift_in t = shift t.delay t.cycle t.phase

-- Terms that legal settings give to a class and an input.
pub record LegalTerms (t : Terms) : Type 0 where
  pub least : 2000 ≤ t.cycle
  pub most : t.cycle ≤ 1048576
  pub phased : t.phase < t.cycle
  pub delays : t.delay ≤ 65535
  pub eight_bins : t.bins ≤ 8
  pub served : shift_in t + 1 ≤ t.bins

-- The terms of a class and an input, by their numbers, if both are there.
abbrev pub terms_of : SetNumbers → (class input : ℕ) → Terms
terms_of s c i = record { cycle = cycle_of s c; phase = phase_of s c i; delay = s.delay; bins = bins_of s c }

abbrev pub terms_at : SetNumbers → (class input : ℕ) → Option Terms
terms_at s c i = cond (nat_lt c (class_count s) && nat_lt i (input_count s)) (Some (terms_of s c i)) None
