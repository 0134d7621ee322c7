-- What a placer is: its rules over the record of one stream, the duties of these rules, and what its calls do.
use Rattle.std.specs.Prelude.{◌≡◌, ℕ, ◌+◌, ◌<◌, ◌≤◌, cond, ◌⊎◌, Ok, Err, Result, ◌==◌, nat_lt}
use Rattle.book.specs.Ticks.{last_tick}
use Rattle.placers.specs.declared.faults.PlacerFault.{PlacerFault}
use Rattle.placers.specs.declared.faults.PlacerFault.TheVariants.{NotThere}
use Rattle.placers.specs.declared.terms.Terms.{Terms}
use Rattle.placers.specs.declared.terms.Ask.{Ask}
use Rattle.placers.specs.Faults.{number_of}
use Rattle.placers.specs.Terms.{Inside, current, shift_in, LegalTerms}

-- What a placer makes of a frame: the cycle that it gets with the stream's next record, or a refusal, and then the record stays.
pub data Placing (Record : Type 0) : Type 0 where
  given : ℕ → Record → Placing Record
  refused : PlacerFault → Placing Record

abbrev pub answer_of : {Record : Type 0} → Placing Record → Result ℕ PlacerFault
answer_of (given q r) = Ok q
answer_of (refused f) = Err f

abbrev pub next_of : {Record : Type 0} → Record → Placing Record → Record
next_of r (given q n) = n
next_of r (refused f) = r

-- The meaning of a placer, over its records of one stream.
pub record Rules (Record : Type 0) : Type 1 where
  -- the record that a confirm makes new
  pub fresh : Terms → Record
  -- what a frame gets
  pub rule : Terms → Record → Ask → Placing Record
  -- the last cycle given, and the octets given there
  pub last : Record → ℕ
  pub octets : Record → ℕ
  -- the record fits 'u octets sent in input cycle i, and none in a later one'
  pub fits : Terms → Record → (i u : ℕ) → Type 0

-- The octets in a cycle, where so many are in the last one and none are in a later one.
abbrev pub octets_in : (last octets cycle : ℕ) → ℕ
octets_in last octets cycle = cond (last == cycle) octets 0

-- A frame that passed every check of the port, with the stamp and the clock of the stream's frame before it.
pub record Asked (t : Terms) (quota stamp clock : ℕ) (a : Ask) : Type 0 where
  pub booked : a.quota ≡ quota
  pub since : stamp ≤ a.stamp
  pub onward : clock ≤ a.clock
  pub handed : a.stamp ≤ a.clock
  pub soon : a.clock ≤ a.stamp + t.delay
  pub timely : a.clock ≤ last_tick
  pub shortest : 84 ≤ a.octets
  pub longest : a.octets ≤ 1542
  pub share : a.octets ≤ quota

-- The records that calls led to, with the last accepted stamp and its clock: made new, or given with an accepted frame.
pub data Led {Record : Type 0} (m : Rules Record) (t : Terms) (quota : ℕ) : Record → (stamp clock : ℕ) → Type 0 where
  renewed : Led m t quota (m.fresh t) 0 0
  placed : (r next : Record) (stamp clock q : ℕ) (a : Ask) → Led m t quota r stamp clock → Asked t quota stamp clock a
      → m.rule t r a ≡ given q next → Led m t quota next a.stamp a.clock

-- What is due of a cycle that a frame got.
pub record Due {Record : Type 0} (m : Rules Record) (t : Terms) (r : Record) (a : Ask) (q : ℕ) (next : Record) : Type 0 where
  pub later : current t a.clock < q
  pub reach : q < current t a.clock + t.bins
  pub order : m.last r ≤ q
  pub noted : m.last next ≡ q
  pub counted : m.octets next ≡ octets_in (m.last r) (m.octets r) q + a.octets
  pub within : m.octets next ≤ a.quota

-- A frame is accepted, into that cycle or an earlier one, and what is left holds of the next record.
pub record Accepted {Record : Type 0} (p : Placing Record) (latest : ℕ) (left : Record → Type 0) : Type 0 where
  pub cycle : ℕ
  pub next : Record
  pub is : p ≡ given cycle next
  pub early : cycle ≤ latest
  pub again : left next

-- A rule refuses by 13 or 14.
abbrev pub Refusal : PlacerFault → Type 0
Refusal f = (number_of f ≡ 13) ⊎ (number_of f ≡ 14)

-- The duties of a placer, on records that calls led to. That a stream's answer and next record follow from its own record
-- and these numbers alone, and that a refusal changes nothing, is in the calls' contracts.
pub record Duties {Record : Type 0} (m : Rules Record) : Type 0 where
  pub refusals : (t : Terms) (r : Record) (a : Ask) (f : PlacerFault) → m.rule t r a ≡ refused f → Refusal f
  -- The cycle is later than the current one, within as many cycles as there are bins, and not before the stream's last;
  -- the octets of the stream in it are within the quota.
  pub due : (t : Terms) (quota stamp clock : ℕ) (r : Record) (a : Ask) (q : ℕ) (next : Record) → LegalTerms t
      → Led m t quota r stamp clock → Asked t quota stamp clock a → m.rule t r a ≡ given q next → Due m t r a q next
  -- A new record fits every input cycle with nothing sent.
  pub begins : (t : Terms) (i : ℕ) → LegalTerms t → m.fits t (m.fresh t) i 0
  -- From a fitting record, a frame of that input cycle that stays within the quota, or of a later one, is accepted in time.
  pub accepts : (t : Terms) (quota stamp clock : ℕ) (r : Record) (a : Ask) (i u j : ℕ) → LegalTerms t
      → Led m t quota r stamp clock → Asked t quota stamp clock a → m.fits t r i u
      → i ≤ j → Inside t j a.stamp a.octets → octets_in i u j + a.octets ≤ quota
      → Accepted (m.rule t r a) (j + shift_in t) (λ next. m.fits t next j (octets_in i u j + a.octets))

-- The records of all streams, with that of one replaced.
abbrev pub replaced : {Record : Type 0} → (ℕ → Record) → (stream : ℕ) → Record → ℕ → Record
replaced rs stream r s = cond (stream == s) r (rs s)

-- What a call of place makes of the records of all streams. There are the streams 0 to 127.
abbrev pub placing : {Record : Type 0} → Rules Record → Terms → (ℕ → Record) → (stream : ℕ) → Ask → Placing Record
placing m t rs s a = cond (nat_lt 127 s) (refused NotThere) (m.rule t (rs s) a)

abbrev pub stored : {Record : Type 0} → (ℕ → Record) → (stream : ℕ) → Placing Record → ℕ → Record
stored rs s (given q r) = replaced rs s r
stored rs s (refused f) = rs

-- What a call of renew leaves.
abbrev pub renewing : {Record : Type 0} → Rules Record → Terms → (ℕ → Record) → (stream : ℕ) → ℕ → Record
renewing m t rs s = cond (nat_lt 127 s) rs (replaced rs s (m.fresh t))
