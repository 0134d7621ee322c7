-- A module as plain values, and for every call its answer and the next state: the checks in their order, then the change.
use Rattle.std.specs.Prelude.{ℕ, ◌+◌, ◌-◌, ◌/◌, Bool, cond, not, ◌&&◌, ◌||◌, List, [], ◌∷◌, ◌++◌, Some, None, Ok, Err, Option, Result, ◌==◌, nat_le, nat_lt}
use Rattle.book.specs.declared.faults.BookFault.{BookFault}
use Rattle.book.specs.declared.rows.Booking.{Booking}
use Rattle.book.specs.declared.rows.Row.{Row}
use Rattle.book.specs.declared.rows.Row.TheVariants.{Free, Held, Live, Leaving}
use Rattle.book.specs.declared.ledger.Note.{Note}
use Rattle.book.specs.Ticks.{inside, last_tick}
use Rattle.book.specs.Told.{SetNumbers}
use Rattle.book.specs.Books.{BookState, new_book, row_of, no_stream, no_input, held_by, hold_of, confirm_of, drop_of, release_of, advanced}
use Rattle.placers.specs.declared.terms.Terms.{Terms}
use Rattle.placers.specs.declared.terms.Ask.{Ask}
use Rattle.placers.specs.Terms.{terms_of}
use Rattle.placers.specs.Placers as placer
use Rattle.placers.specs.Placers.{Rules, replaced}
use Rattle.schedule.specs.declared.departures.Departure.{Departure}
use Rattle.schedule.specs.declared.faults.PortFault.{PortFault}
use Rattle.schedule.specs.declared.faults.PortFault.TheVariants.{NotThere, NotLive, WrongInput, BadLength, BadStamp, StampBack, Placing, WireTaken, BadUntil, ShortList}
use Rattle.schedule.specs.Faults.{first_hit, check}
use Rattle.schedule.specs.Bins.{bin_of}
use Rattle.schedule.specs.Wires.{Loads, wire_octets, Sending, is_some, next_out, ticks}

-- A module: its book, the placer's record of each stream, the last stamp accepted of each stream since its confirm,
-- the tick from which on the wire is free, and the bins.
pub record State (L Record : Type 0) : Type 0 where
  pub book : BookState
  pub records : ℕ → Record
  pub stamps : ℕ → ℕ
  pub wire : ℕ
  pub bins : ℕ → List L

-- A module as it is set: a new book, the wire free, the bins empty. A placer comes with any records:
-- no frame is placed by one before a confirm has made it new.
abbrev pub new_module : {L Record : Type 0} → SetNumbers → (ℕ → Record) → State L Record
new_module s records = record { book = new_book s; records = records; stamps = λ x. 0; wire = 0; bins = λ b. [] }

-- Where a fault was found it is answered and nothing changes; otherwise what is due.
abbrev pub judged : {X S : Type 0} → Option PortFault → S → Result X PortFault × S → Result X PortFault × S
judged (Some f) old due = (Err f, old)
judged None old due = due

module _ {L Record : Type 0} (loads : Loads L) (m : Rules Record) where
  abbrev pub with_book : State L Record → BookState → State L Record
  with_book a b = record { book = b; records = a.records; stamps = a.stamps; wire = a.wire; bins = a.bins }

  abbrev pub clock_of : State L Record → ℕ
  clock_of a = a.book.clock

  -- The terms that the placer goes by for a booking.
  abbrev pub terms_for : State L Record → Booking → Terms
  terms_for a k = terms_of a.book.settings k.class k.input

  -- Hold, drop and release are the book's alone.
  unfoldable pub holding : State L Record → (stream : ℕ) → Booking → Result Note BookFault × State L Record
  holding a x k = ((hold_of a.book x k).0, with_book a (hold_of a.book x k).1)

  unfoldable pub dropping : State L Record → Note → Result (Unit {0}) (BookFault × Note) × State L Record
  dropping a n = ((drop_of a.book n).0, with_book a (drop_of a.book n).1)

  unfoldable pub releasing : State L Record → (stream : ℕ) → Result ℕ BookFault × State L Record
  releasing a x = ((release_of a.book x).0, with_book a (release_of a.book x).1)

  -- The record of a stream made new, and no stamp accepted yet.
  abbrev pub renewed : State L Record → (stream : ℕ) → Booking → State L Record
  renewed a x k = record {
    book = a.book;
    records = replaced a.records x (m.fresh (terms_for a k));
    stamps = replaced a.stamps x 0;
    wire = a.wire;
    bins = a.bins;
  }

  -- A confirm of a held row makes the stream's record new, beside what it does to the book.
  abbrev pub renewed_at : State L Record → (stream : ℕ) → Row → State L Record
  renewed_at a x Free = a
  renewed_at a x (Held k) = renewed a x k
  renewed_at a x (Live k) = a
  renewed_at a x (Leaving k q) = a

  unfoldable pub confirming : State L Record → Note → Result (Unit {0}) (BookFault × Note) × State L Record
  confirming a n = (
    (confirm_of a.book n).0,
    with_book (cond (held_by a.book n) (renewed_at a n.stream (row_of a.book n.stream)) a) (confirm_of a.book n).1,
  )

  -- Frame: the stream and the input are there; the row is live; by its booking the input, the length and the stamp are good;
  -- the stamp does not go back; and the placer gives a cycle.
  abbrev pub good_stamp : State L Record → (stamp : ℕ) → Bool
  good_stamp a stamp = nat_le stamp (clock_of a) && nat_le (clock_of a) (stamp + a.book.settings.delay)

  unfoldable pub booked_fault : State L Record → Booking → (input stamp : ℕ) → L → Option PortFault
  booked_fault a k input stamp x = first_hit
      (check (not (input == k.input)) WrongInput ∷ check (not (inside 64 k.longest (loads.length_of x))) BadLength
      ∷ check (not (good_stamp a stamp)) BadStamp ∷ check (nat_lt stamp (a.stamps (loads.stream_of x))) StampBack ∷ [])

  abbrev pub ask_of : State L Record → Booking → (stamp : ℕ) → L → Ask
  ask_of a k stamp x = record { clock = clock_of a; stamp = stamp; octets = wire_octets loads x; quota = k.quota }

  -- The load goes to the end of the bin of its cycle, and the record and the stamp are noted.
  abbrev pub put_into : State L Record → (class q stamp : ℕ) → L → Record → State L Record
  put_into a c q stamp x next = record {
    book = a.book;
    records = replaced a.records (loads.stream_of x) next;
    stamps = replaced a.stamps (loads.stream_of x) stamp;
    wire = a.wire;
    bins = replaced a.bins (bin_of a.book.settings c q) (a.bins (bin_of a.book.settings c q) ++ (x ∷ []));
  }

  abbrev pub placed_by : placer.Placing Record → State L Record → (class stamp : ℕ) → L → Result ℕ PortFault × State L Record
  placed_by (placer.given q next) a c stamp x = (Ok q, put_into a c q stamp x next)
  placed_by (placer.refused f) a c stamp x = (Err (Placing f), a)

  abbrev pub placing : State L Record → Booking → (stamp : ℕ) → L → placer.Placing Record
  placing a k stamp x = m.rule (terms_for a k) (a.records (loads.stream_of x)) (ask_of a k stamp x)

  unfoldable pub framing_by : Row → State L Record → (input stamp : ℕ) → L → Result ℕ PortFault × State L Record
  framing_by Free a input stamp x = (Err NotLive, a)
  framing_by (Held k) a input stamp x = (Err NotLive, a)
  framing_by (Live k) a input stamp x = judged (booked_fault a k input stamp x) a (placed_by (placing a k stamp x) a k.class stamp x)
  framing_by (Leaving k q) a input stamp x = (Err NotLive, a)

  abbrev pub not_there : State L Record → (input : ℕ) → L → Bool
  not_there a input x = no_stream (loads.stream_of x) || no_input a.book input

  unfoldable pub framing : State L Record → (input stamp : ℕ) → L → Result ℕ PortFault × State L Record
  framing a input stamp x = judged (first_hit (check (not_there a input x) NotThere ∷ [])) a
      (framing_by (row_of a.book (loads.stream_of x)) a input stamp x)

  -- Filler: the length of a frame; the wire is free and no current bin holds a load. It takes the wire from the clock on.
  abbrev pub wire_taken : State L Record → Bool
  wire_taken a = nat_lt (clock_of a) a.wire || is_some (next_out loads a.book.settings (clock_of a) a.bins)

  abbrev pub filled : State L Record → (length : ℕ) → State L Record
  filled a n = record { book = a.book; records = a.records; stamps = a.stamps; wire = clock_of a + (n + 20); bins = a.bins }

  unfoldable pub filling : State L Record → (length : ℕ) → Result (Unit {0}) PortFault × State L Record
  filling a n = judged (first_hit (check (not (inside 64 1522 n)) BadLength ∷ check (wire_taken a) WireTaken ∷ [])) a (Ok tt, filled a n)

  -- Run: until is not before the clock and not past the last tick; the list has a place more than the most frames that fit
  -- into the time. The ticks up to until are played, and leaving rows whose cycle has come are free then.
  abbrev pub sending_of : State L Record → Sending L
  sending_of a = record { clock = clock_of a; wire = a.wire; bins = a.bins; sent = [] }

  abbrev pub played : State L Record → (until : ℕ) → Sending L
  played a until = ticks loads a.book.settings (until - clock_of a) (sending_of a)

  abbrev pub bad_until : State L Record → (until : ℕ) → Bool
  bad_until a until = nat_lt until (clock_of a) || nat_lt last_tick until

  abbrev pub short_list : State L Record → (until places : ℕ) → Bool
  short_list a until places = nat_lt places ((until - clock_of a) / 84 + 1)

  abbrev pub ran : State L Record → (until : ℕ) → Sending L → State L Record
  ran a until g = record { book = advanced a.book until; records = a.records; stamps = a.stamps; wire = g.wire; bins = g.bins }

  unfoldable pub running : State L Record → (until places : ℕ) → Result (List (Departure L)) PortFault × State L Record
  running a until places = judged (first_hit (check (bad_until a until) BadUntil ∷ check (short_list a until places) ShortList ∷ [])) a
      (Ok (played a until).sent, ran a until (played a until))
