-- Which class sends next: the lowest whose list has a load, if any has.
use Rattle.std.proofs.Common.{◌≡◌, ℕ, zero, suc, ◌<◌, List, [], ◌∷◌, refl, ap, ◌∙◌, arith}
use native.Mathlib.Decide.{ℕ_discrete}
use Rattle.schedule.specs.Wires.{Next, none, some, oldest, or_else, lowest}

abbrev pub Looked : {L : Type 0} → ℕ → (ℕ → List L) → Next L → Type 0
Looked n of none = (c : ℕ) → c < n → of c ≡ []
Looked n of (some c x rest) = (c < n) × (of c ≡ x ∷ rest) × ((f : ℕ) → f < c → of f ≡ [])

pub looked : {L : Type 0} (n : ℕ) (of : ℕ → List L) → Looked n of (lowest n of)
unfolding lowest oldest
looked zero of = λ c l. absurd (omega arith)
looked (suc n) of = go (lowest n of) (looked n of) (of n) refl
  where
    go : (a : Next _) → Looked n of a → (xs : List _) → of n ≡ xs → Looked (suc n) of (or_else a (oldest n xs))
    go none h [] e = λ c l. elim (ℕ_discrete c n) [ yes d ↦ ap of d ∙ e | no d ↦ h c (omega arith) ]
    go none h (x ∷ rest) e = (omega arith, e, λ f l. h f l)
    go (some c x rest) h xs e = (omega (arith, h.0), h.1, h.2)
