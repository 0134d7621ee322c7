-- The list of departures that a run is given.
use Rattle.std.specs.Prelude.{ℕ, ◌+◌, ◌-◌, ◌/◌, min, cond, Some, None, Option, nat_lt}

-- The places that a run needs: one each 84 ticks, and one.
abbrev pub places_needed : (clock until : ℕ) → ℕ
places_needed c u = (u - c) / 84 + 1

abbrev pub places_asked : Option ℕ → (most : ℕ) → ℕ
places_asked None most = most
places_asked (Some n) most = min most n

-- No more than that, and none for a tick that the port refuses.
abbrev pub list_places : (clock until : ℕ) → (places : Option ℕ) → ℕ
list_places c u o = cond (nat_lt u c) 0 (cond (nat_lt 1099511627775 u) 0 (places_asked o (places_needed c u)))
