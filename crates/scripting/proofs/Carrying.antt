-- Lemmas on commands that are carried out.
use Rattle.std.proofs.Common.{◌≡◌, ℕ, Some, None, Ok, Err, sym, ap, ◌∙◌}
use Rattle.book.specs.declared.faults.BookFault.{BookFault}
use Rattle.book.specs.Told.{SetNumbers, set_fault}
use Rattle.book.specs.Books.{new_book}
use Rattle.scripting.specs.declared.answers.Done.TheVariants.{Set}
use Rattle.scripting.specs.declared.answers.Refusal.TheVariants.{Book}
use Rattle.scripting.specs.Notes.{in_hand}
use Rattle.scripting.specs.Benches.{BenchState, empty_bench, with_book, used_up, told_in, set_by, set_of}

pub set-refused : (t : BenchState) (delay dead : ℕ) (n : SetNumbers) (fault : BookFault) → n ≡ told_in t delay dead → set_fault n ≡ Some fault
    → (Err (Book fault) ≡ (set_of t delay dead).0) × (used_up t ≡ (set_of t delay dead).1)
unfolding set_of
set-refused t delay dead n fault e p =
    let q = sym p ∙ ap set_fault e in
    (ap (λ o. (set_by o (told_in t delay dead) t).0) q, ap (λ o. (set_by o (told_in t delay dead) t).1) q)

pub set-accepted : (t : BenchState) (delay dead : ℕ) (n : SetNumbers) → n ≡ told_in t delay dead → set_fault n ≡ None
    → (Ok (Set (in_hand t.book)) ≡ (set_of t delay dead).0) × (with_book empty_bench (Some (new_book n)) ≡ (set_of t delay dead).1)
unfolding set_of
set-accepted t delay dead n e p =
    let q = sym p ∙ ap set_fault e in (
      ap (λ o. (set_by o (told_in t delay dead) t).0) q,
      ap (λ x. with_book empty_bench (Some (new_book x))) e ∙ ap (λ o. (set_by o (told_in t delay dead) t).1) q,
    )
