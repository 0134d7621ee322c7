-- Lemmas on the notes that are dropped one after another.
use Rattle.std.proofs.Common.{◌≡◌, ℕ, ◌+◌, ◌<◌, ◌≤◌, Bool, false, ◌≢◌, List, length, get_or, set, is_some, Some, None, Option, sym, refl, ap, ◌∙◌, arith, length-set, below_more}
use lib.ListN.{get_or-replicate}
use Rattle.std.proofs.lemmas.List.FromFn.{fill_by_all}
use Rattle.std.proofs.lemmas.List.{get_or-set_same, get_or-set_other}
use Rattle.std.specs.Result.{is_ok}
use Rattle.book.specs.declared.ledger.Note.{Note}
use Rattle.book.specs.declared.rows.Row.TheVariants as Row
use Rattle.book.specs.Told.{SetNumbers}
use Rattle.book.specs.Rows.{dropped, is_held}
use Rattle.book.specs.Books.{BookState, row_of, note_of, new_book, drop_of}
use Rattle.scripting.specs.declared.answers.Done.TheVariants.{Free}
use Rattle.scripting.specs.Calls.{Answer, spent, said_of_note, drop_done}
use Rattle.scripting.specs.Notes.{note_by, note_in, note_at, in_hand}
use Rattle.scripting.proofs.Pairing.{Matching, drop-spent, dropped-unheld, note-spent, note-other}

-- A book has a row for each stream.
abbrev pub Full : Option BookState → Type 0
Full o = (b : BookState) → o ≡ Some b → length b.rows ≡ 128

-- After a note is dropped it is in hand no more, and the others are as before.
pub record Stepped (o : Option BookState) (s : ℕ) (a : Answer) (next : Option BookState) : Type 0 where
  pub answer : is_ok a ≡ is_some (note_at o s)
  pub gone : note_at next s ≡ None
  pub others : (k : ℕ) → (k ≡ s → ⊥) → note_at next k ≡ note_at o k

stepped_by : (b : BookState) (s : ℕ) (x : Option Note) → length b.rows ≡ 128 → note_in b s ≡ x
    → Stepped (Some b) s (spent Free (drop_of b) b x).0 (Some (spent Free (drop_of b) b x).1)
stepped_by b s None e p = record { answer = ap is_some (sym p); gone = p; others = λ k ne. refl }
stepped_by b s (Some n) e p =
    let d = drop-spent b s n e p in
    record {
      answer = ap (λ r. is_ok (said_of_note Free r)) d.answer ∙ ap is_some (sym p);
      gone = ap (λ x. note_in x s) d.next ∙ note-spent b s dropped e d.stream (dropped-unheld (row_of b s));
      others = λ k ne. ap (λ x. note_in x k) d.next ∙ note-other b s k dropped ne;
    }

pub stepped : (o : Option BookState) (s : ℕ) → Full o → Stepped o s (drop_done o s).0 (drop_done o s).1
unfolding drop_done
stepped None s f = record { answer = refl; gone = refl; others = λ k ne. refl }
stepped (Some b) s f = stepped_by b s (note_in b s) (f b refl) refl

-- The notes of the streams below a number are dropped.
pub record Dropping (from now : Option BookState) (marks : List Bool) (s : ℕ) : Type 0 where
  pub places : length marks ≡ 128
  pub marked : (k : ℕ) → k < s → get_or marks k false ≡ is_some (note_at from k)
  pub gone : (k : ℕ) → k < s → note_at now k ≡ None
  pub left : (k : ℕ) → s ≤ k → note_at now k ≡ note_at from k

pub dropping-more : (from now next : Option BookState) (marks : List Bool) (s : ℕ) (a : Answer) (r : Bool) → s < 128 → Full now → a ≡ (drop_done now s).0
    → next ≡ (drop_done now s).1 → r ≡ is_ok a → Dropping from now marks s → Dropping from next (set marks s r) (s + 1)
dropping-more from now next marks s a r h f p q e d =
    let t = stepped now s f in
    let ls : s < length marks = omega (arith, d.places) in
    record {
      places = length-set marks s r ∙ d.places;
      marked = below_more _ s
          (λ k l. let ne : k ≢ s = omega arith in get_or-set_other marks s k r false ne ∙ d.marked k l)
          (get_or-set_same marks s r false ls ∙ e ∙ ap is_ok p ∙ t.answer ∙ ap is_some (d.left s (omega arith)));
      gone = below_more _ s
          (λ k l. let ne : k ≢ s = omega arith in ap (λ x. note_at x k) q ∙ t.others k ne ∙ d.gone k l)
          (ap (λ x. note_at x s) q ∙ t.gone);
      left = λ k l.
          let ne : k ≢ s = omega arith in
          let le : s ≤ k = omega arith in
          ap (λ x. note_at x k) q ∙ t.others k ne ∙ d.left k le;
    }

pub dropping-all : (from now : Option BookState) (marks : List Bool) (s : ℕ) → 128 ≤ s → Dropping from now marks s → marks ≡ in_hand from
unfolding in_hand
dropping-all from now marks s h d =
    fill_by_all (λ k. is_some (note_at from k)) marks 128 false d.places (λ k l. let g : k < s = omega arith in d.marked k g)

-- A new book has no held row.
pub new-matching : (b : BookState) (n : SetNumbers) (notes : List (Option Note)) → b ≡ new_book n → ((s : ℕ) → s < 128 → get_or notes s None ≡ None)
    → Matching b notes
new-matching b n notes e m s h =
    m s h ∙ sym (ap (λ x. note_in x s) e ∙ ap (λ r. note_by (is_held r) (note_of (new_book n) s)) (get_or-replicate 128 s Row.Free Row.Free h))
