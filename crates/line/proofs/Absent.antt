-- A number that no module has: every call is refused, and changes nothing.
use Rattle.std.proofs.Common.{◌≡◌, ℕ, ◌<◌, ◌≤◌, Bool, true, false, not, ◌||◌, eqb, ltb, [], ◌∷◌, set, Err, Result, sym, refl, arith}
use Rattle.book.specs.declared.faults.BookFault.{BookFault}
use Rattle.std.proofs.lemmas.Bool.{lt-ltb, le-ltb, and_right, or_left, or_right, not_from_false}
use Rattle.book.specs.declared.faults.BookFault.TheVariants.{NotThere, BadLengths, WrongState}
use Rattle.book.specs.declared.rows.Booking.{Booking}
use Rattle.book.specs.declared.ledger.Note.{Note}
use Rattle.book.specs.declared.rows.Row.TheVariants.{Held}
use Rattle.book.specs.Faults.{first_hit, check, or_else}
use Rattle.book.specs.Rows.{fits, is_free, holding}
use Rattle.book.specs.Sums.{over_fault}
use Rattle.book.proofs.Within.{nope}
use Rattle.book.specs.Books.{lacks, no_input, no_class_at, row_of, judged, note_of, changed, no_stream, held_by, hold_fault, hold_of, confirm_of, drop_of, release_of}
use Rattle.placers.specs.declared.table.Latest.{Latest}
use Rattle.schedule.specs.Modules as modules
use Rattle.schedule.specs.Modules.{State, confirming, dropping, releasing}
use Rattle.schedule.specs.Histories.{Call, Hold, Confirm, DropHold, Release, next_of}
use Rattle.line.specs.Banks.{nothing, no_book, no_module, Changed}

lacks-all : (s : ℕ) (k : Booking) → lacks no_book s k ≡ true
lacks-all s k = or_right (no_stream s) (no_input no_book k.input || no_class_at no_book k.class)
    (or_left (no_input no_book k.input) (no_class_at no_book k.class) (not_from_false (ltb k.input 0) (le-ltb k.input 0 (omega arith))))

pub absent-hold : (s : ℕ) (k : Booking) → hold_of no_book s k ≡ (Err NotThere, no_book)
unfolding hold_of hold_fault
absent-hold s k = go (lacks no_book s k) (lacks-all s k)
  where
    go : (x : Bool) → x ≡ true
        → judged (or_else (first_hit (check x NotThere ∷ check (not (fits k)) BadLengths ∷ check (not (is_free (row_of no_book s))) WrongState ∷ []))
        (over_fault no_book.settings (set no_book.rows s (Held k)))) (note_of no_book s) (changed no_book s (holding k)) no_book ≡ (Err NotThere, no_book)
    go true e = refl
    go false e = nope (cc)

not-held : (n : Note) → held_by no_book n ≡ false
not-held n = and_right (eqb n.number 0) _ (and_right (not (no_stream n.stream)) false refl)

pub absent-confirm : (n : Note) → confirm_of no_book n ≡ (Err (WrongState, n), no_book)
unfolding confirm_of
absent-confirm n = rw (not-held n) refl

pub absent-drop : (n : Note) → drop_of no_book n ≡ (Err (WrongState, n), no_book)
unfolding drop_of
absent-drop n = rw (not-held n) refl

pub absent-stream : (s : ℕ) → 127 < s → release_of no_book s ≡ (Err NotThere, no_book)
unfolding release_of
absent-stream s h = rw (lt-ltb 127 s h) refl

pub absent-release : (s : ℕ) → s ≤ 127 → release_of no_book s ≡ (Err WrongState, no_book)
unfolding release_of
absent-release s h = rw (le-ltb 127 s h) refl

-- So a module that is not there stays so.
after : Call (Unit {0}) → State (Unit {0}) Latest
after call = next_of nothing.loads nothing.rules no_module call

stays : (call : Call (Unit {0})) (k : ℕ) → after call ≡ no_module → Changed (λ j. nothing) k call (λ j h. Unit {0}) (λ j h. Unit {0}) (λ j. no_module) (λ j. no_module)
unfolding after
stays call k e = record { here = record { next = λ h u. sym e; onward = λ h u. tt }; others = λ j d. refl; stay = λ j d h u. tt }

pub stays-hold : (s : ℕ) (b : Booking) (k : ℕ) → Changed (λ j. nothing) k (Hold s b) (λ j h. Unit {0}) (λ j h. Unit {0}) (λ j. no_module) (λ j. no_module)
unfolding after modules.holding
stays-hold s b k = stays (Hold s b) k (rw (absent-hold s b) refl)

pub stays-confirm : (n : Note) (k : ℕ) → Changed (λ j. nothing) k (Confirm n) (λ j h. Unit {0}) (λ j h. Unit {0}) (λ j. no_module) (λ j. no_module)
unfolding after confirming
stays-confirm n k = stays (Confirm n) k (rw (absent-confirm n, not-held n) refl)

pub stays-drop : (n : Note) (k : ℕ) → Changed (λ j. nothing) k (DropHold n) (λ j h. Unit {0}) (λ j h. Unit {0}) (λ j. no_module) (λ j. no_module)
unfolding after dropping
stays-drop n k = stays (DropHold n) k (rw (absent-drop n) refl)

pub stays-release : (s : ℕ) (r : Result ℕ BookFault) (k : ℕ) → release_of no_book s ≡ (r, no_book) → Changed (λ j. nothing) k (Release s) (λ j h. Unit {0}) (λ j h. Unit {0}) (λ j. no_module) (λ j. no_module)
unfolding after releasing
stays-release s r k e = stays (Release s) k (rw e refl)
