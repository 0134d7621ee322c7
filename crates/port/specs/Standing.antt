-- A port as plain values, and the history of calls after which it stands.
use Rattle.std.specs.Prelude.{◌≡◌, ℕ, ◌≤◌, List, ◌∷◌, length, take, drop, Ok, Err, Result}
use Rattle.book.specs.Told.{SetNumbers}
use Rattle.book.specs.Books.{BookState, state_of, advance_of}
use Rattle.loads.specs.declared.Load as Load
use Rattle.racks.specs.declared.rack.Rack as Rack
use Rattle.racks.specs.Bins.{bin_of}
use Rattle.placers.specs.declared.placer.Placer as Placer
use Rattle.placers.specs.Placers.{Rules}
use Rattle.schedule.specs.declared.departures.Departure.{Departure}
use Rattle.schedule.specs.declared.faults.PortFault.{PortFault}
use Rattle.schedule.specs.Wires.{Loads}
use Rattle.schedule.specs.Modules.{State}
use Rattle.schedule.specs.Histories.{Call, Answer, ran, after, answer}
use Rattle.schedule.specs.Laws.{room_of}
use Rattle.port.specs.declared.ports.Port.{Port}
use Rattle.port.specs.Stamped.{stamps_of}

-- What a port is made of: its book, which has the settings, the placer's records, the last stamps, the tick from which on the wire is free,
-- and the rack: its bins, the most loads in one of them, and the most in all.
pub record Parts (L Record : Type 0) : Type 0 where
  pub book : BookState
  pub records : ℕ → Record
  pub stamps : ℕ → ℕ
  pub wire : ℕ
  pub bins : List (List L)
  pub depth : ℕ
  pub total : ℕ

-- What a kind of load tells of a frame, by its two readings.
abbrev pub loads_by : {L : Type 0} → Load.Ghosts L → Loads L
loads_by l = record { stream_of = l.stream_of; length_of = l.length_of }

-- What the rack, the loads and the placer of a port mean.
pub record Meaning (R P L Record : Type 0) : Type 1 where
  pub bins : R → List (List L)
  pub depth : R → ℕ
  pub total : R → ℕ
  pub loads : Loads L
  pub records : P → ℕ → Record
  pub rules : Rules Record

abbrev pub meant : {R P L : Type 0} → Rack.Ghosts R L → Load.Ghosts L → (p : Placer.Ghosts P) → Meaning R P L p.Record
meant r l p =
    record { bins = r.bins; depth = r.depth; total = r.total; loads = loads_by l; records = p.records; rules = p.rules }

abbrev pub parts_of : {R P L Record : Type 0} → Meaning R P L Record → Port R P → Parts L Record
parts_of m p = record {
  book = state_of p.book;
  records = m.records p.placer;
  stamps = stamps_of p.stamps;
  wire = p.wire;
  bins = m.bins p.rack;
  depth = m.depth p.rack;
  total = m.total p.rack;
}

-- The parts as the state of a module.
abbrev pub state_in : {L Record : Type 0} → Parts L Record → State L Record
state_in p = record { book = p.book; records = p.records; stamps = p.stamps; wire = p.wire; bins = bin_of p.bins }

module _ {L Record : Type 0} (loads : Loads L) (m : Rules Record) (s : SetNumbers) (begun : ℕ → Record) where
  -- The port was set with settings s and a placer with the records begun, and stands after history h:
  -- it is in the state that the rules give, and its rack has the room that the settings need.
  pub record Stands (h : List (Call L)) (p : Parts L Record) : Type 0 where
    pub told : p.book.settings ≡ s
    pub state : state_in p ≡ after loads m s begun h
    pub bins : (room_of s).bins ≤ length p.bins
    pub depth : (room_of s).depth ≤ p.depth
    pub total : (room_of s).total ≤ p.total

  -- A call after history h: the port stands after it, and the answer is the rules'.
  pub record Went (h : List (Call L)) (call : Call L) (p : Parts L Record) (r : Answer L) : Type 0 where
    pub stands : Stands (call ∷ h) p
    pub answered : r ≡ answer loads m s begun h call

-- A call goes by the rules, whatever the history after which the port stood.
abbrev pub Follows : {L Record : Type 0} → Loads L → Rules Record → Call L → (was is : Parts L Record) → Answer L → Type 0
Follows {L} {Record} loads m call was is r =
    (s : SetNumbers) (begun : ℕ → Record) (h : List (Call L)) → Stands loads m s begun h was → Went loads m s begun h call is r

-- The same of a port, by its meaning: how it was and how it is.
abbrev pub ByRules : {R P L Record : Type 0} → Meaning R P L Record → Call L → (was is : Port R P) → Answer L → Type 0
ByRules m call was is r = Follows m.loads m.rules call (parts_of m was) (parts_of m is) r

-- The state of a module that a port is in.
abbrev pub module_of : {R P L Record : Type 0} → Meaning R P L Record → Port R P → State L Record
module_of m p = state_in (parts_of m p)

-- What a definition of the rules says of that state.
abbrev pub of_port : {R P L Record A : Type 0} → (Loads L → Rules Record → State L Record → A) → Meaning R P L Record → Port R P → A
of_port rule m p = rule m.loads m.rules (module_of m p)

-- A run answers how many departures it wrote: those stand at the front of the list, in order.
abbrev pub ran_of : {L : Type 0} → Result ℕ PortFault → List (Departure L) → Answer L
ran_of (Ok n) list = ran (Ok (take n list))
ran_of (Err f) list = ran (Err f)

-- It leaves the places after them alone, and refused it leaves all alone.
abbrev pub LeftAlone : {L : Type 0} → Result ℕ PortFault → (was is : List (Departure L)) → Type 0
LeftAlone (Ok n) was is = (n ≤ length is) × (drop n is ≡ drop n was)
LeftAlone (Err f) was is = is ≡ was

-- A run advances the book; refused it leaves it.
abbrev pub ran_book : Result ℕ PortFault → (until : ℕ) → BookState → BookState
ran_book (Ok n) until b = (advance_of b until).1
ran_book (Err f) until b = b
