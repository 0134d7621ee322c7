-- The record that both placers keep of a stream: the last cycle given and the octets given there.
use Rattle.std.specs.Prelude.{◌≡◌, ℕ, ◌+◌, ◌≤◌, Bool, cond, Ok, Err, Result, nat_le}
use Rattle.placers.specs.declared.faults.PlacerFault.{PlacerFault}
use Rattle.placers.specs.declared.faults.PlacerFault.TheVariants.{NoRoom}
use Rattle.placers.specs.declared.terms.Terms.{Terms}
use Rattle.placers.specs.declared.terms.Ask.{Ask}
use Rattle.placers.specs.declared.table.Latest.{Latest}
use Rattle.placers.specs.declared.table.Table.{Table}
use Rattle.placers.specs.Terms.{shift_in}
use Rattle.placers.specs.Tables.{row_in}
use Rattle.placers.specs.Placers.{Placing, given, refused, Rules, octets_in}

-- A new record: no cycle, no octets.
abbrev pub unused : Latest
unused = record { cycle = 0; octets = 0 }

-- The record of each stream of a table.
abbrev pub records_of : Table Latest → ℕ → Latest
records_of = row_in unused

-- The octets of the stream in a cycle, and whether w more are within the quota.
abbrev pub held_in : Latest → (cycle : ℕ) → ℕ
held_in r q = octets_in r.cycle r.octets q

abbrev pub has_room : Latest → (cycle w quota : ℕ) → Bool
has_room r q w quota = nat_le (held_in r q + w) quota

-- A frame of w octets goes into a cycle, if the quota allows.
abbrev pub added : Latest → (cycle w quota : ℕ) → Result Latest PlacerFault
added r q w quota = cond (has_room r q w quota) (Ok (record { cycle = q; octets = held_in r q + w })) (Err NoRoom)

-- The cycle given is that of the next record.
abbrev pub placing_to : Result Latest PlacerFault → Placing Latest
placing_to (Ok r) = given r.cycle r
placing_to (Err f) = refused f

-- No later cycle was given than a frame of input cycle i gets by time, and what is in that one was sent in i.
pub record Fits (t : Terms) (r : Latest) (i u : ℕ) : Type 0 where
  pub order : r.cycle ≤ i + shift_in t
  pub room : r.cycle ≡ i + shift_in t → r.octets ≤ u

-- A placer by its rule for the next record.
abbrev pub rules_by : (Terms → Latest → Ask → Result Latest PlacerFault) → Rules Latest
rules_by next = record {
  fresh = λ t. unused;
  rule = λ t r a. placing_to (next t r a);
  last = λ r. r.cycle;
  octets = λ r. r.octets;
  fits = Fits;
}
