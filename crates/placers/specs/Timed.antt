-- The placer by time: a frame goes by the input cycle that it came in.
use Rattle.std.specs.Prelude.{◌≡◌, ℕ, ◌+◌, ◌<◌, ◌≤◌, true, cond, Err, Result}
use Rattle.book.specs.Ticks.{last_tick}
use Rattle.placers.specs.declared.faults.PlacerFault.{PlacerFault}
use Rattle.placers.specs.declared.faults.PlacerFault.TheVariants.{NotInside}
use Rattle.placers.specs.declared.terms.Terms.{Terms}
use Rattle.placers.specs.declared.terms.Ask.{Ask}
use Rattle.placers.specs.declared.table.Latest.{Latest}
use Rattle.placers.specs.Terms.{input_cycle, Inside, is_inside, shift_in}
use Rattle.placers.specs.Placers.{Rules}
use Rattle.placers.specs.Latest.{added, rules_by}

-- The cycle of a frame with that stamp: its input cycle and the shift. So the octets there are those accepted from the input cycle.
abbrev pub timed_cycle : Terms → (stamp : ℕ) → ℕ
timed_cycle t stamp = input_cycle t stamp + shift_in t

-- A frame inside no input cycle is refused, then one that passes the quota.
abbrev pub timed : Terms → Latest → Ask → Result Latest PlacerFault
timed t r a = cond (is_inside t a.stamp a.octets) (added r (timed_cycle t a.stamp) a.octets a.quota) (Err NotInside)

abbrev pub time_rules : Rules Latest
time_rules = rules_by timed

-- The test tells the input cycle: what passes lies inside that of its stamp, and what lies inside one passes, with that one.
pub record TellsInput (t : Terms) : Type 0 where
  pub right : (stamp w : ℕ) → is_inside t stamp w ≡ true → Inside t (input_cycle t stamp) stamp w
  pub found : (i stamp w : ℕ) → 0 < w → stamp ≤ last_tick → Inside t i stamp w → (is_inside t stamp w ≡ true) × (input_cycle t stamp ≡ i)
