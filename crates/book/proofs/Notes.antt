-- A note is good for the book that gave it: laws for the layers above, which need not open the rules of a hold.
use Rattle.std.proofs.Common.{◌≡◌, ℕ, ◌≤◌, Bool, true, false, not, List, length, set, Some, None, Ok, Err, Option, sym, refl, ap, ◌∙◌, arith}
use Rattle.std.proofs.lemmas.List.{get_or-set_same, set-set, set-get_or}
use Rattle.std.proofs.lemmas.Bool.{eq-eqb, le-ltb, not-false}
use Rattle.book.specs.declared.faults.BookFault.{BookFault}
use Rattle.book.specs.declared.faults.BookFault.TheVariants.{WrongState}
use Rattle.book.specs.declared.rows.Booking.{Booking}
use Rattle.book.specs.declared.rows.Row.{Row}
use Rattle.book.specs.declared.rows.Row.TheVariants.{Free, Held, Live, Leaving}
use Rattle.book.specs.declared.ledger.Note.{Note}
use Rattle.book.specs.Rows.{is_free, is_held, fits, holding, confirmed, dropped}
use Rattle.book.specs.Books.{BookState, row_of, with_rows, changed, lacks, judged, note_of, hold_fault, hold_of, held_by, spent_by, confirm_of, drop_of}
use Rattle.book.proofs.Within.{nope}
use Rattle.book.proofs.Answering.{free-holding, confirm-at, drop_at, lacks-not}
use Rattle.book.proofs.Steps.{hold-passed}

free-is : (r : Row) → is_free r ≡ true → r ≡ Free
free-is Free e = refl
free-is (Held b) e = nope (cc)
free-is (Live b) e = nope (cc)
free-is (Leaving b q) e = nope (cc)

-- What an accepted hold says.
pub record Taken (b : BookState) (s : ℕ) (k : Booking) (n : Note) : Type 0 where
  pub note : n ≡ note_of b s
  pub there : s ≤ 127
  pub was : row_of b s ≡ Free
  pub next : (hold_of b s k).1 ≡ with_rows b (set b.rows s (Held k))

judged-ok : (o : Option BookFault) (x y : Note) (next b : BookState) → (judged o x next b).0 ≡ Ok y → (o ≡ None) × (y ≡ x)
judged-ok (Some f) x y next b e = nope (cc)
judged-ok None x y next b e = (refl, cc)

pub hold-taken-says : (b : BookState) (s : ℕ) (k : Booking) (n : Note) → (hold_of b s k).0 ≡ Ok n → Taken b s k n
unfolding hold_of hold_fault
hold-taken-says b s k n e =
    let j = judged-ok (hold_fault b s k) (note_of b s) n (changed b s (holding k)) b e in
    let p = hold-passed (lacks b s k) (not (fits k)) (not (is_free (row_of b s))) _ j.0 in
    let free = not-false (is_free (row_of b s)) p.1 in
    record {
      note = j.1;
      there = lacks-not b s k p.0;
      was = free-is (row_of b s) free;
      next = ap (λ (o : Option BookFault). (judged o (note_of b s) (changed b s (holding k)) b).1) j.0
          ∙ ap (λ (r : Row). with_rows b (set b.rows s r)) (free-holding k (row_of b s) free);
    }

pub hold-refused-says : (b : BookState) (s : ℕ) (k : Booking) (f : BookFault) → (hold_of b s k).0 ≡ Err f → (hold_of b s k).1 ≡ b
unfolding hold_of
hold-refused-says b s k f e = go (hold_fault b s k) e
  where
    go : (o : Option BookFault) → (judged o (note_of b s) (changed b s (holding k)) b).0 ≡ Err f → (judged o (note_of b s) (changed b s (holding k)) b).1 ≡ b
    go (Some g) h = refl
    go None h = nope (cc)

-- While its row is held, the note of a book is accepted there.
pub note-good : (b : BookState) (s : ℕ) → s ≤ 127 → is_held (row_of b s) ≡ true → held_by b (note_of b s) ≡ true
note-good b s l h = rw (eq-eqb b.settings.number b.settings.number refl, le-ltb 127 s l, h)

-- Straight after the hold: confirm makes the row live, and drop gives the book back as it was before.
module _ (b : BookState) (s : ℕ) (k : Booking) (n : Note) (full : length b.rows ≡ 128) (t : Taken b s k n) where
  after-hold : BookState
  after-hold = with_rows b (set b.rows s (Held k))

  row-held : row_of after-hold s ≡ Held k
  unfolding after-hold
  row-held = get_or-set_same b.rows s (Held k) Free (omega (arith, full, t.there))

  good : held_by after-hold (note_of b s) ≡ true
  unfolding after-hold
  good = note-good after-hold s t.there (ap is_held row-held)

  pub confirm-taken : confirm_of (hold_of b s k).1 n ≡ (Ok tt, with_rows b (set b.rows s (Live k)))
  unfolding after-hold
  confirm-taken =
      rw (t.next, t.note) (confirm-at after-hold (note_of b s) true good
      ∙ ap (λ (r : Row). (Ok tt, with_rows b (set (set b.rows s (Held k)) s (confirmed r)))) row-held
      ∙ ap (λ (rs : List Row). (Ok tt, with_rows b rs)) (set-set b.rows s (Held k) (Live k)))

  pub drop-taken : drop_of (hold_of b s k).1 n ≡ (Ok tt, b)
  unfolding after-hold
  drop-taken =
      rw (t.next, t.note) (drop_at after-hold (note_of b s) true good
      ∙ ap (λ (r : Row). (Ok tt, with_rows b (set (set b.rows s (Held k)) s (dropped r)))) row-held
      ∙ ap (λ (rs : List Row). (Ok tt, with_rows b rs)) (set-set b.rows s (Held k) Free ∙ ap (λ (r : Row). set b.rows s r) (sym t.was) ∙ set-get_or b.rows s Free))

-- A good note is never refused.
pub good-confirmed : (b : BookState) (n m : Note) (f : BookFault) → held_by b n ≡ true → (confirm_of b n).0 ≡ Err (f, m) → ⊥
good-confirmed b n m f h e = let k = confirm-at b n true h in let z : ◌≡◌ {A = ℕ} 0 1 = cc in omega arith

pub good-dropped : (b : BookState) (n m : Note) (f : BookFault) → held_by b n ≡ true → (drop_of b n).0 ≡ Err (f, m) → ⊥
good-dropped b n m f h e = let k = drop_at b n true h in let z : ◌≡◌ {A = ℕ} 0 1 = cc in omega arith

-- A refused note is handed back as it was.
pub confirm-hands-back : (b : BookState) (n m : Note) (f : BookFault) → (confirm_of b n).0 ≡ Err (f, m) → m ≡ n
unfolding confirm_of
confirm-hands-back b n m f e = go (held_by b n) e
  where
    go : (x : Bool) → (spent_by x confirmed b n).0 ≡ Err (f, m) → m ≡ n
    go true h = nope (cc)
    go false h = let p : ◌≡◌ {A = BookFault × Note} (WrongState, n) (f, m) = cc in sym (ap (λ (w : BookFault × Note). w.1) p)
