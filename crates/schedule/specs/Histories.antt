-- Histories: every sequence of calls on a module from set on, refused ones included; what each call was answered, the state
-- after it, and what was given a cycle, what left in it and what waits for it. Histories are lists with the newest call first.
use Rattle.std.specs.Prelude.{ℕ, suc, ◌+◌, ◌≤◌, Bool, cond, ◌&&◌, List, [], ◌∷◌, ◌++◌, Ok, Err, Result, ◌==◌}
use Rattle.book.specs.declared.faults.BookFault.{BookFault}
use Rattle.book.specs.declared.rows.Booking.{Booking}
use Rattle.book.specs.declared.rows.Row.{Row}
use Rattle.book.specs.declared.rows.Row.TheVariants.{Free, Held, Live, Leaving}
use Rattle.book.specs.declared.ledger.Note.{Note}
use Rattle.book.specs.Ticks.{start_of}
use Rattle.book.specs.Told.{SetNumbers, cycle_of}
use Rattle.book.specs.Books.{row_of}
use Rattle.placers.specs.Placers.{Rules}
use Rattle.schedule.specs.declared.departures.Departure.{Departure}
use Rattle.schedule.specs.declared.faults.PortFault.{PortFault}
use Rattle.schedule.specs.Bins.{waiting_in}
use Rattle.schedule.specs.Wires.{Loads, wire_octets}
use Rattle.schedule.specs.Modules.{State, new_module, clock_of, holding, confirming, dropping, releasing, framing, filling, running}

-- A call on a module, with any values. A run has the tick up to which it goes and the places of its list.
pub data Call (L : Type 0) : Type 0 where
  Hold : (stream : ℕ) → Booking → Call L
  Confirm : Note → Call L
  DropHold : Note → Call L
  Release : (stream : ℕ) → Call L
  Frame : (input stamp : ℕ) → L → Call L
  Filler : (length : ℕ) → Call L
  Run : (until places : ℕ) → Call L

-- What a call was answered.
pub data Answer (L : Type 0) : Type 0 where
  held : Result Note BookFault → Answer L
  spent : Result (Unit {0}) (BookFault × Note) → Answer L
  released : Result ℕ BookFault → Answer L
  placed : Result ℕ PortFault → Answer L
  filled : Result (Unit {0}) PortFault → Answer L
  ran : Result (List (Departure L)) PortFault → Answer L

-- The loads of the departures in one cycle of a class, in their order.
abbrev pub is_in : {L : Type 0} → (c q : ℕ) → Departure L → Bool
is_in c q d = d.class == c && d.cycle == q

unfoldable pub loads_in : {L : Type 0} → (c q : ℕ) → List (Departure L) → List L
loads_in c q [] = []
loads_in c q (d ∷ ds) = cond (is_in c q d) (d.load ∷ loads_in c q ds) (loads_in c q ds)

-- The octets on the wire of loads, and of those of one stream among them.
unfoldable pub octets_of : {L : Type 0} → Loads L → List L → ℕ
octets_of loads [] = 0
octets_of loads (x ∷ xs) = wire_octets loads x + octets_of loads xs

unfoldable pub octets_for : {L : Type 0} → Loads L → (stream : ℕ) → List L → ℕ
octets_for loads i [] = 0
octets_for loads i (x ∷ xs) = cond (loads.stream_of x == i) (wire_octets loads x) 0 + octets_for loads i xs

-- The departures that an answer shows.
abbrev pub written_by : {L : Type 0} → Answer L → List (Departure L)
written_by (held r) = []
written_by (spent r) = []
written_by (released r) = []
written_by (placed r) = []
written_by (filled r) = []
written_by (ran (Ok ds)) = ds
written_by (ran (Err f)) = []

-- The load that a frame brings into cycle q of class c, if it was given that cycle and its row is of that class.
abbrev pub of_class : {L : Type 0} → Row → (c : ℕ) → List L → List L
of_class Free c xs = []
of_class (Held k) c xs = []
of_class (Live k) c xs = cond (k.class == c) xs []
of_class (Leaving k u) c xs = []

abbrev pub given_by : {L : Type 0} → Result ℕ PortFault → Row → L → (c q : ℕ) → List L
given_by (Ok p) row x c q = cond (p == q) (of_class row c (x ∷ [])) []
given_by (Err f) row x c q = []

module _ {L Record : Type 0} (loads : Loads L) (m : Rules Record) where
  abbrev pub answer_to : State L Record → Call L → Answer L
  answer_to a (Hold x k) = held (holding loads m a x k).0
  answer_to a (Confirm n) = spent (confirming loads m a n).0
  answer_to a (DropHold n) = spent (dropping loads m a n).0
  answer_to a (Release x) = released (releasing loads m a x).0
  answer_to a (Frame input stamp x) = placed (framing loads m a input stamp x).0
  answer_to a (Filler n) = filled (filling loads m a n).0
  answer_to a (Run until places) = ran (running loads m a until places).0

  abbrev pub next_of : State L Record → Call L → State L Record
  next_of a (Hold x k) = (holding loads m a x k).1
  next_of a (Confirm n) = (confirming loads m a n).1
  next_of a (DropHold n) = (dropping loads m a n).1
  next_of a (Release x) = (releasing loads m a x).1
  next_of a (Frame input stamp x) = (framing loads m a input stamp x).1
  next_of a (Filler n) = (filling loads m a n).1
  next_of a (Run until places) = (running loads m a until places).1

  -- What one call adds to cycle q of class c.
  abbrev pub given_in : State L Record → Call L → (c q : ℕ) → List L
  given_in a (Hold x k) c q = []
  given_in a (Confirm n) c q = []
  given_in a (DropHold n) c q = []
  given_in a (Release x) c q = []
  given_in a (Frame input stamp x) c q = given_by (framing loads m a input stamp x).0 (row_of a.book (loads.stream_of x)) x c q
  given_in a (Filler n) c q = []
  given_in a (Run until places) c q = []

  module _ (s : SetNumbers) (begun : ℕ → Record) where
    -- The state after a history, of a module with these settings whose placer came with the records begun.
    unfoldable pub after : List (Call L) → State L Record
    after [] = new_module s begun
    after (c ∷ h) = next_of (after h) c

    -- The answer to a call that comes after a history, and the departures that all runs of a history wrote, oldest first.
    abbrev pub answer : List (Call L) → Call L → Answer L
    answer h c = answer_to (after h) c

    unfoldable pub written : List (Call L) → List (Departure L)
    written [] = []
    written (c ∷ h) = written h ++ written_by (answer h c)

    -- The loads accepted into cycle q of class c, oldest first; those that left in it; those that wait for it.
    unfoldable pub given : List (Call L) → (c q : ℕ) → List L
    given [] c q = []
    given (call ∷ h) c q = given h c q ++ given_in (after h) call c q

    abbrev pub left : List (Call L) → (c q : ℕ) → List L
    left h c q = loads_in c q (written h)

    abbrev pub waiting : List (Call L) → (c q : ℕ) → List L
    waiting h c q = waiting_in s (clock_of loads m (after h)) (after h).bins c q

    -- A cycle has ended once the clock is at its end or later.
    abbrev pub Ended : List (Call L) → (c q : ℕ) → Type 0
    Ended h c q = start_of (cycle_of s c) (suc q) ≤ clock_of loads m (after h)
