-- What one stream sees of a module, and which histories are the same to it: those with the same runs and the same calls of
-- the stream, its booking calls accepted in both or in neither.
use Rattle.std.specs.Prelude.{◌≡◌, ℕ, Bool, true, false, cond, ◌&&◌, List, [], ◌∷◌, ◌++◌, is_ok, filter, Result, ◌==◌, nat_eq}
use Rattle.book.specs.Told.{SetNumbers}
use Rattle.book.specs.Books.{row_of}
use Rattle.placers.specs.Placers.{Rules}
use Rattle.schedule.specs.declared.faults.PortFault.{PortFault}
use Rattle.schedule.specs.Wires.{Loads}
use Rattle.schedule.specs.Modules.{clock_of}
use Rattle.schedule.specs.Histories.{Call, Hold, Confirm, DropHold, Release, Frame, Filler, Run, Answer, held, spent, released, placed, filled, ran, after, answer, given, left}

-- A call that asks the book for a change of a row.
abbrev pub is_booking : {L : Type 0} → Call L → Bool
is_booking (Hold x k) = true
is_booking (Confirm n) = true
is_booking (DropHold n) = true
is_booking (Release x) = true
is_booking (Frame input stamp x) = false
is_booking (Filler n) = false
is_booking (Run until places) = false

-- Whether an answer says yes.
abbrev pub is_accepted : {L : Type 0} → Answer L → Bool
is_accepted (held r) = is_ok r
is_accepted (spent r) = is_ok r
is_accepted (released r) = is_ok r
is_accepted (placed r) = is_ok r
is_accepted (filled r) = is_ok r
is_accepted (ran r) = is_ok r

-- What a frame was answered, and nothing where the answer is to another call.
abbrev pub to_frame : {L : Type 0} → Answer L → List (Result ℕ PortFault)
to_frame (held r) = []
to_frame (spent r) = []
to_frame (released r) = []
to_frame (placed r) = r ∷ []
to_frame (filled r) = []
to_frame (ran r) = []

module _ {L : Type 0} (loads : Loads L) (S : ℕ) where
  -- A run concerns every stream, a filler none, and any other call the stream that it names.
  abbrev pub concerns : Call L → Bool
  concerns (Hold x k) = x == S
  concerns (Confirm n) = n.stream == S
  concerns (DropHold n) = n.stream == S
  concerns (Release x) = x == S
  concerns (Frame input stamp x) = loads.stream_of x == S
  concerns (Filler n) = false
  concerns (Run until places) = true

  -- A booking call of stream S.
  abbrev pub books : Call L → Bool
  books c = concerns c && is_booking c

  -- The loads of stream S among loads, in their order.
  abbrev pub own_of : List L → List L
  own_of xs = filter (λ x. nat_eq (loads.stream_of x) S) xs

module _ {L Record : Type 0} (loads : Loads L) (m : Rules Record) (s : SetNumbers) (begun : ℕ → Record) (S : ℕ) where
  -- Whether each booking call of S was accepted, newest first.
  unfoldable pub verdicts : List (Call L) → List Bool
  verdicts [] = []
  verdicts (c ∷ h) = cond (books loads S c) (is_accepted (answer loads m s begun h c) ∷ verdicts h) (verdicts h)

  -- What the frames of S were answered, the cycle or the refusal, newest first.
  unfoldable pub answers : List (Call L) → List (Result ℕ PortFault)
  answers [] = []
  answers (c ∷ h) = cond (concerns loads S c) (to_frame (answer loads m s begun h c)) [] ++ answers h

  -- The loads of S that were given cycle q of class c, and those that left in it.
  abbrev pub given_to : List (Call L) → (c q : ℕ) → List L
  given_to h c q = own_of loads S (given loads m s begun h c q)

  abbrev pub left_in : List (Call L) → (c q : ℕ) → List L
  left_in h c q = own_of loads S (left loads m s begun h c q)

  -- Two histories with the same runs and the same calls of S, and the book's same yes or no to them.
  pub record Twins (h k : List (Call L)) : Type 0 where
    pub calls : filter (concerns loads S) h ≡ filter (concerns loads S) k
    pub accepted : verdicts h ≡ verdicts k

  -- Two histories that S cannot tell apart.
  pub record Alike (h k : List (Call L)) : Type 0 where
    pub clocks : clock_of loads m (after loads m s begun h) ≡ clock_of loads m (after loads m s begun k)
    pub rows : row_of (after loads m s begun h).book S ≡ row_of (after loads m s begun k).book S
    pub records : (after loads m s begun h).records S ≡ (after loads m s begun k).records S
    pub stamps : (after loads m s begun h).stamps S ≡ (after loads m s begun k).stamps S
    pub answered : answers h ≡ answers k
    pub given : (c q : ℕ) → given_to h c q ≡ given_to k c q

-- A stream sees the settings, the placer, the runs and its own calls with the book's yes or no to them, and nothing else.
abbrev pub Apart : {L Record : Type 0} → Loads L → Rules Record → SetNumbers → Type 0
Apart {L} {Record} loads m s = (begun : ℕ → Record) (S : ℕ) (h k : List (Call L))
    → Twins loads m s begun S h k → Alike loads m s begun S h k
