-- The book as plain values, and for every call its answer and the next state: the checks in their order, then the change.
use Rattle.std.specs.Prelude.{ℕ, ◌-◌, Bool, true, false, cond, not, ◌&&◌, ◌||◌, List, [], ◌∷◌, map, replicate, Some, None, Ok, Err, Option, Result, ◌==◌, nat_lt, slice_index_or, slice_set}
use Rattle.book.specs.declared.faults.BookFault.{BookFault}
use Rattle.book.specs.declared.faults.BookFault.TheVariants.{NotThere, BadLengths, WrongState, BadUntil}
use Rattle.book.specs.declared.rows.Booking.{Booking}
use Rattle.book.specs.declared.rows.Row.{Row}
use Rattle.book.specs.declared.rows.Row.TheVariants.{Free, Held}
use Rattle.book.specs.declared.ledger.Note.{Note}
use Rattle.book.specs.declared.ledger.Book.{Book}
use Rattle.book.specs.Faults.{first_hit, check, or_else}
use Rattle.book.specs.Ticks.{last_tick}
use Rattle.book.specs.Told.{SetNumbers, class_count, input_count, cycle_of}
use Rattle.book.specs.Sets.{numbers_of}
use Rattle.book.specs.Rows.{is_free, is_held, fits, holding, confirmed, dropped, released, releasing, settled, booked}
use Rattle.book.specs.Sums.{demand, over_fault}

pub record BookState : Type 0 where
  pub settings : SetNumbers
  pub clock : ℕ
  pub rows : List Row

abbrev pub state_of : Book → BookState
state_of b = record { settings = numbers_of b.settings; clock = b.clock; rows = b.rows }

-- A book as it is made: clock 0, all rows free.
abbrev pub new_book : SetNumbers → BookState
new_book s = record { settings = s; clock = 0; rows = replicate 128 Free }

abbrev pub row_of : BookState → (stream : ℕ) → Row
row_of b s = slice_index_or b.rows s Free

abbrev pub with_rows : BookState → List Row → BookState
with_rows b rows = record { settings = b.settings; clock = b.clock; rows = rows }

-- The book with the row of one stream changed.
abbrev pub changed : BookState → (stream : ℕ) → (Row → Row) → BookState
changed b s f = with_rows b (slice_set b.rows s (f (row_of b s)))

abbrev pub no_stream : ℕ → Bool
no_stream s = nat_lt 127 s

abbrev pub no_input : BookState → ℕ → Bool
no_input b i = not (nat_lt i (input_count b.settings))

abbrev pub no_class_at : BookState → ℕ → Bool
no_class_at b c = not (nat_lt c (class_count b.settings))

-- The stream, the input or the class is not there.
abbrev pub lacks : BookState → (stream : ℕ) → Booking → Bool
lacks b s k = no_stream s || (no_input b k.input || no_class_at b k.class)

-- Where a fault was found it is answered and nothing changes; otherwise the answer and the change.
abbrev pub judged : {X : Type 0} → Option BookFault → X → BookState → BookState → Result X BookFault × BookState
judged (Some f) x next b = (Err f, b)
judged None x next b = (Ok x, next)

-- Hold: the stream, the input and the class are there; the lengths; the row is free; the sums with the row held.
unfoldable pub hold_fault : BookState → (stream : ℕ) → Booking → Option BookFault
hold_fault b s k = or_else
    (first_hit (check (lacks b s k) NotThere ∷ check (not (fits k)) BadLengths
    ∷ check (not (is_free (row_of b s))) WrongState ∷ []))
    (over_fault b.settings (slice_set b.rows s (Held k)))

abbrev pub note_of : BookState → (stream : ℕ) → Note
note_of b s = record { number = b.settings.number; stream = s }

unfoldable pub hold_of : BookState → (stream : ℕ) → Booking → Result Note BookFault × BookState
hold_of b s k = judged (hold_fault b s k) (note_of b s) (changed b s (holding k)) b

-- Confirm and drop: the row is held, and by this book's note.
abbrev pub held_by : BookState → Note → Bool
held_by b n = n.number == b.settings.number && (not (no_stream n.stream) && is_held (row_of b n.stream))

-- A refused note is handed back.
abbrev pub spent_by : Bool → (Row → Row) → BookState → Note → Result (Unit {0}) (BookFault × Note) × BookState
spent_by true f b n = (Ok tt, changed b n.stream f)
spent_by false f b n = (Err (WrongState, n), b)

unfoldable pub confirm_of : BookState → Note → Result (Unit {0}) (BookFault × Note) × BookState
confirm_of b n = spent_by (held_by b n) confirmed b n

unfoldable pub drop_of : BookState → Note → Result (Unit {0}) (BookFault × Note) × BookState
drop_of b n = spent_by (held_by b n) dropped b n

-- Release: the stream is there; the row is live. It answers the cycle from whose start on the row is free.
abbrev pub released_by : Bool → Option ℕ → BookState → (stream : ℕ) → Result ℕ BookFault × BookState
released_by true o b s = (Err NotThere, b)
released_by false None b s = (Err WrongState, b)
released_by false (Some q) b s = (Ok q, changed b s (released b.settings b.clock))

unfoldable pub release_of : BookState → (stream : ℕ) → Result ℕ BookFault × BookState
release_of b s = released_by (no_stream s) (releasing b.settings b.clock (row_of b s)) b s

-- Advance: until is not before the clock and not past the last tick. Leaving rows whose cycle has come are free then.
abbrev pub advanced : BookState → (until : ℕ) → BookState
advanced b t = record { settings = b.settings; clock = t; rows = map (settled b.settings t) b.rows }

unfoldable pub advance_of : BookState → (until : ℕ) → Result (Unit {0}) BookFault × BookState
advance_of b t = judged (first_hit (check (nat_lt t b.clock || nat_lt last_tick t) BadUntil ∷ [])) tt (advanced b t) b

-- Readings.
abbrev pub read_row : BookState → (stream : ℕ) → Result Row BookFault
read_row b s = cond (no_stream s) (Err NotThere) (Ok (row_of b s))

abbrev pub read_booked : BookState → (class : ℕ) → Result ℕ BookFault
read_booked b c = cond (no_class_at b c) (Err NotThere) (Ok (booked c b.rows))

-- What the sum leaves of the cycle.
abbrev pub read_spare : BookState → (class : ℕ) → Result ℕ BookFault
read_spare b c = cond (no_class_at b c) (Err NotThere) (Ok (cycle_of b.settings c - demand b.settings b.rows c))
