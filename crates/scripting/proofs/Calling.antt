-- Lemmas on the answers of calls on the book that is set.
use Rattle.std.proofs.Common.{◌≡◌, ℕ, Some, None, Ok, Err, Option, Result, sym, ap, ◌∙◌, arith}
use Rattle.std.specs.Result.{IsErrAnd}
use Rattle.book.specs.declared.faults.BookFault.{BookFault}
use Rattle.book.specs.declared.ledger.Note.{Note}
use Rattle.book.specs.declared.rows.Row.{Row}
use Rattle.book.specs.Books.{BookState}
use Rattle.scripting.specs.declared.answers.Done.{Done}
use Rattle.scripting.specs.declared.answers.Refusal.TheVariants.{NothingSet, NoNote}
use Rattle.scripting.specs.Notes.{note_in}
use Rattle.scripting.specs.Calls.{Answer, called_on, said_of_note, spent}
use Rattle.scripting.proofs.Pairing.{Spent}

pub errs : {A E : Type 0} (r : Result A E) (e : E) → IsErrAnd r (λ x. x ≡ e) → r ≡ Err e
errs (Ok x) e p = absurd p
errs (Err x) e p = ap Err p

pub ok-not-err : {A E : Type 0} (r : Result A E) (a : A) (e : E) → r ≡ Ok a → Err e ≡ r → ⊥
ok-not-err r a e p q = let z : ◌≡◌ {A = ℕ} 0 1 = cc in omega arith

-- What a call answers and leaves.
pub record Called (o : Option BookState) (call : BookState → Answer × BookState) (a : Answer) (o' : Option BookState) : Type 0 where
  pub answer : a ≡ (called_on o call).0
  pub next : o' ≡ (called_on o call).1

-- No book is set.
pub missing : (o : Option BookState) (call : BookState → Answer × BookState) → o ≡ None → Called o call (Err NothingSet) o
missing o call e = record {
  answer = ap (λ x. (called_on x call).0) (sym e);
  next = e ∙ ap (λ x. (called_on x call).1) (sym e);
}

pub done : (o : Option BookState) (b : BookState) (call : BookState → Answer × BookState) (a : Answer) (next : BookState) → o ≡ Some b
    → a ≡ (call b).0 → next ≡ (call b).1 → Called o call a (Some next)
done o b call a next e p q = record {
  answer = p ∙ ap (λ x. (called_on x call).0) (sym e);
  next = ap Some q ∙ ap (λ x. (called_on x call).1) (sym e);
}

-- A call for a note that is not in hand, and one that spends a note in hand.
pub noteless : (o : Option BookState) (b : BookState) (d : Done) (call : BookState → Note → Result (Unit {0}) (BookFault × Note) × BookState) (s : ℕ) → o ≡ Some b
    → None ≡ note_in b s → Called o (λ b. spent d (call b) b (note_in b s)) (Err NoNote) (Some b)
noteless o b d call s e p =
    done o b (λ b. spent d (call b) b (note_in b s)) (Err NoNote) b e (ap (λ x. (spent d (call b) b x).0) p) (ap (λ x. (spent d (call b) b x).1) p)

pub noted : (o : Option BookState) (b next : BookState) (d : Done) (call : BookState → Note → Result (Unit {0}) (BookFault × Note) × BookState) (s : ℕ) (f : Row → Row) (n : Note)
    → o ≡ Some b → Some n ≡ note_in b s → Spent b s f n (call b n) → next ≡ (call b n).1 → Called o (λ b. spent d (call b) b (note_in b s)) (Ok d) (Some next)
noted o b next d call s f n e p h q =
    done o b (λ b. spent d (call b) b (note_in b s)) (Ok d) next e (ap (said_of_note d) (sym h.answer) ∙ ap (λ x. (spent d (call b) b x).0) p)
    (q ∙ ap (λ x. (spent d (call b) b x).1) p)
