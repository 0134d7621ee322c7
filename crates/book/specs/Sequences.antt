-- Every sequence of calls on a book, and the laws that hold over all of them.
use Rattle.std.specs.Prelude.{◌≡◌, ℕ, ◌+◌, ◌<◌, ◌≤◌, Bool, true, false, not, ◌&&◌, List, [], ◌∷◌, is_ok, Ok, Err, ◌==◌, slice_set}
use Rattle.book.specs.declared.faults.BookFault.TheVariants.{Over}
use Rattle.book.specs.declared.rows.Booking.{Booking}
use Rattle.book.specs.declared.rows.Row.TheVariants.{Free, Held, Live, Leaving}
use Rattle.book.specs.declared.ledger.Note.{Note}
use Rattle.book.specs.Ticks.{cycle_at, start_of}
use Rattle.book.specs.Told.{SetNumbers, cycle_of, bins_of}
use Rattle.book.specs.Sums.{Within, LowestOver}
use Rattle.book.specs.Books.{BookState, new_book, row_of, hold_of, confirm_of, drop_of, release_of, advance_of}

-- A call on a book, with any values.
pub data Call : Type 0 where
  Hold : (stream : ℕ) → Booking → Call
  Confirm : Note → Call
  DropHold : Note → Call
  Release : (stream : ℕ) → Call
  Advance : (until : ℕ) → Call

-- The book after a call, and whether the call was accepted.
abbrev pub next_of : BookState → Call → BookState
next_of b (Hold s k) = (hold_of b s k).1
next_of b (Confirm n) = (confirm_of b n).1
next_of b (DropHold n) = (drop_of b n).1
next_of b (Release s) = (release_of b s).1
next_of b (Advance t) = (advance_of b t).1

abbrev pub accepted_of : BookState → Call → Bool
accepted_of b (Hold s k) = is_ok (hold_of b s k).0
accepted_of b (Confirm n) = is_ok (confirm_of b n).0
accepted_of b (DropHold n) = is_ok (drop_of b n).0
accepted_of b (Release s) = is_ok (release_of b s).0
accepted_of b (Advance t) = is_ok (advance_of b t).0

-- The book after calls, of which the newest is first.
unfoldable pub after : List Call → BookState → BookState
after [] b = b
after (c ∷ cs) b = next_of (after cs b) c

-- A hold of that stream.
abbrev pub is_hold_of : (stream : ℕ) → Call → Bool
is_hold_of x (Hold s k) = s == x
is_hold_of x (Confirm n) = false
is_hold_of x (DropHold n) = false
is_hold_of x (Release s) = false
is_hold_of x (Advance t) = false

-- None of the calls is a hold of that stream that the book accepts.
unfoldable pub not_held_again : (stream : ℕ) → List Call → BookState → Bool
not_held_again x [] b = true
not_held_again x (c ∷ cs) b = not (is_hold_of x c && accepted_of (after cs b) c) && not_held_again x cs b

-- The release of a live row at a clock answers the cycle q, k + N. Whatever calls follow, the row stays booked while the clock
-- is before the start of that cycle; from then on it is free until it is held again.
pub record Leaves (s : SetNumbers) (clock stream : ℕ) (b : Booking) (q : ℕ) (next : BookState) : Type 0 where
  pub named : q ≡ cycle_at (cycle_of s b.class) clock + bins_of s b.class
  pub booked_before : (g : List Call) → (after g next).clock < start_of (cycle_of s b.class) q
      → row_of (after g next) stream ≡ Leaving b q
  pub free_from : (g : List Call) → start_of (cycle_of s b.class) q ≤ (after g next).clock → not_held_again stream g next ≡ true
      → row_of (after g next) stream ≡ Free

-- The laws of a book with these settings, over every sequence of calls from the new book on: every class's sum is within its cycle;
-- refusal 8 names the lowest class that the hold would take past its cycle, and by how much; a released row leaves on time;
-- a refused call leaves the whole book as it was.
pub record BookLaws (s : SetNumbers) : Type 0 where
  pub always_within : (h : List Call) → Within s (after h (new_book s)).rows
  pub over_lowest : (h : List Call) (stream : ℕ) (b : Booking) (c ticks : ℕ) → (hold_of (after h (new_book s)) stream b).0 ≡ Err (Over c ticks)
      → LowestOver s (slice_set (after h (new_book s)).rows stream (Held b)) c ticks
  pub leaves_on_time : (h : List Call) (stream : ℕ) (b : Booking) (q : ℕ) → row_of (after h (new_book s)) stream ≡ Live b
      → (release_of (after h (new_book s)) stream).0 ≡ Ok q
      → Leaves s (after h (new_book s)).clock stream b q (next_of (after h (new_book s)) (Release stream))
  pub refused_unchanged : (h : List Call) (call : Call) → accepted_of (after h (new_book s)) call ≡ false
      → next_of (after h (new_book s)) call ≡ after h (new_book s)
