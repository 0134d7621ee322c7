-- A test of every number below a bound: one more number, a number that fails, and what a passed test says.
use Rattle.std.proofs.Common.{◌≡◌, ℕ, zero, suc, ◌+◌, ◌<◌, Bool, true, false, ◌&&◌, List, [], ◌∷◌, leb, length, get_or, Some, None, Option, refl, sym, ap, ◌∙◌, subst, ⊎_elim, not-suc-le-zero, add-one, arith}
use Rattle.std.proofs.lemmas.Bool.{and_from, and_left, and_right, and_parts, cases_lt}
use Rattle.std.specs.List.{list_all}
use Rattle.book.specs.declared.setup.Class.{Class}
use Rattle.book.specs.Ticks.{inside}
use Rattle.book.specs.Told.{all_below, cycle_in, bins_in, class_fits, step_after}

pub below_none : (p : ℕ → Bool) → all_below p 0 ≡ true
unfolding all_below
below_none p = refl

pub below_more : (p : ℕ → Bool) (i : ℕ) → all_below p i ≡ true → p i ≡ true → all_below p (i + 1) ≡ true
unfolding all_below
below_more p i h k = rw add-one (and_from (all_below p i) (p i) h k)

pub below_fails : (p : ℕ → Bool) (n i : ℕ) → i < n → p i ≡ false → all_below p n ≡ false
unfolding all_below
below_fails p zero i h k = absurd (not-suc-le-zero h)
below_fails p (suc n) i h k =
    ⊎_elim (λ l. and_left (all_below p n) (p n) (below_fails p n i l k))
    (λ l. let e : i ≡ n = omega arith in and_right (all_below p n) (p n) (subst (λ (x : ℕ). p x ≡ false) e k)) (cases_lt i n)

pub below_each : (p : ℕ → Bool) (n : ℕ) → all_below p n ≡ true → (i : ℕ) → i < n → p i ≡ true
unfolding all_below
below_each p zero h i l = absurd (not-suc-le-zero l)
below_each p (suc n) h i l =
    let parts : (all_below p n ≡ true) × (p n ≡ true) = and_parts (all_below p n) (p n) h in
    ⊎_elim (λ k. below_each p n parts.0 i k)
    (λ k. let e : n ≡ i = omega arith in subst (λ (x : ℕ). p x ≡ true) e parts.1) (cases_lt i n)

pub below-from : (p : ℕ → Bool) (n : ℕ) → ((i : ℕ) → i < n → p i ≡ true) → all_below p n ≡ true
unfolding all_below
below-from p zero f = refl
below-from p (suc n) f = and_from (all_below p n) (p n) (below-from p n (λ i h. f i (omega arith))) (f n (omega arith))

-- The same of a list's items: the first, and then the rest.
below-first : (p : ℕ → Bool) (n : ℕ) → all_below p (suc n) ≡ (p 0 && all_below (λ i. p (suc i)) n)
unfolding all_below
below-first p zero = go (p 0)
  where
    go : (x : Bool) → (true && x) ≡ (x && true)
    go true = refl
    go false = refl
below-first p (suc n) = ap (λ (x : Bool). x && p (suc n)) (below-first p n) ∙ go (p 0) (all_below (λ i. p (suc i)) n) (p (suc n))
  where
    go : (x y z : Bool) → ((x && y) && z) ≡ (x && (y && z))
    go true y z = refl
    go false y z = refl

pub all-below : {X : Type 0} (p : X → Bool) (d : X) (xs : List X) → list_all p xs ≡ all_below (λ i. p (get_or xs i d)) (length xs)
unfolding all_below
all-below p d [] = refl
all-below p d (x ∷ xs) = ap (λ (b : Bool). p x && b) (all-below p d xs) ∙ sym (below-first (λ i. p (get_or (x ∷ xs) i d)) (length xs))

-- The cycle of the class before, if there is one.
abbrev pub cycle_before : List Class → ℕ → Option ℕ
cycle_before cs zero = None
cycle_before cs (suc c) = Some (cycle_in cs c)

pub fits-after : (cs : List Class) (c : ℕ) (before : Option ℕ) → before ≡ cycle_before cs c
    → class_fits cs c ≡ (leb (cycle_in cs c) 1048576 && inside 2 8 (bins_in cs c) && step_after before (cycle_in cs c))
fits-after cs zero before e = rw e refl
fits-after cs (suc c) before e = rw e refl
