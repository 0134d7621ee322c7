-- What a call on a book answers, in the words of the script, and the book after it.
use Rattle.std.specs.Prelude.{ℕ, Ok, Err, Some, None, Option, Result}
use Rattle.book.specs.declared.faults.BookFault.{BookFault}
use Rattle.book.specs.declared.ledger.Note.{Note}
use Rattle.book.specs.declared.rows.Booking.{Booking}
use Rattle.book.specs.Books.{BookState, hold_of, confirm_of, drop_of, release_of, advance_of}
use Rattle.scripting.specs.declared.answers.Done.{Done}
use Rattle.scripting.specs.declared.answers.Done.TheVariants.{Held, Live, Free, LeavingUntil, Clock}
use Rattle.scripting.specs.declared.answers.Refusal.{Refusal}
use Rattle.scripting.specs.declared.answers.Refusal.TheVariants.{Book, NoNote, NothingSet}
use Rattle.scripting.specs.declared.script.Call.{Call}
use Rattle.scripting.specs.declared.script.Call.TheVariants as call
use Rattle.scripting.specs.Notes.{note_in}

abbrev pub Answer : Type 0
Answer = Result Done Refusal

abbrev pub said : {X : Type 0} → (X → Done) → Result X BookFault → Answer
said done (Ok x) = Ok (done x)
said done (Err f) = Err (Book f)

abbrev pub answered : {X : Type 0} → (X → Done) → Result X BookFault × BookState → Answer × BookState
answered done r = (said done r.0, r.1)

-- A call that spends the note of a stream, where it is in hand.
abbrev pub said_of_note : Done → Result (Unit {0}) (BookFault × Note) → Answer
said_of_note done (Ok x) = Ok done
said_of_note done (Err p) = Err (Book p.0)

abbrev pub spent : Done → (Note → Result (Unit {0}) (BookFault × Note) × BookState) → BookState → Option Note → Answer × BookState
spent done call b None = (Err NoNote, b)
spent done call b (Some n) = (said_of_note done (call n).0, (call n).1)

-- A call on the book, where one is set.
abbrev pub called_on : Option BookState → (BookState → Answer × BookState) → Answer × Option BookState
called_on None call = (Err NothingSet, None)
called_on (Some b) call = ((call b).0, Some (call b).1)

unfoldable pub hold_done : Option BookState → (stream : ℕ) → Booking → Answer × Option BookState
hold_done o stream booking = called_on o (λ b. answered (λ n. Held) (hold_of b stream booking))

unfoldable pub confirm_done : Option BookState → (stream : ℕ) → Answer × Option BookState
confirm_done o stream = called_on o (λ b. spent Live (confirm_of b) b (note_in b stream))

unfoldable pub drop_done : Option BookState → (stream : ℕ) → Answer × Option BookState
drop_done o stream = called_on o (λ b. spent Free (drop_of b) b (note_in b stream))

unfoldable pub release_done : Option BookState → (stream : ℕ) → Answer × Option BookState
release_done o stream = called_on o (λ b. answered LeavingUntil (release_of b stream))

unfoldable pub advance_done : Option BookState → (until : ℕ) → Answer × Option BookState
advance_done o until = called_on o (λ b. answered (λ u. Clock until) (advance_of b until))

abbrev pub call_done : Option BookState → Call → Answer × Option BookState
call_done o (call.Hold stream booking) = hold_done o stream booking
call_done o (call.Confirm stream) = confirm_done o stream
call_done o (call.Drop stream) = drop_done o stream
call_done o (call.Release stream) = release_done o stream
