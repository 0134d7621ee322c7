-- A lay from the places of each bin: its length, a bin of it, and what one or two bins that change do to it.
use Rattle.std.proofs.Common.{◌≡◌, ℕ, ◌+◌, ◌<◌, List, [], ◌∷◌, ◌++◌, length, get_or, set, replicate, sym, ap, ◌∙◌, ⊎_elim, arith}
use Rattle.std.proofs.lemmas.List.{length-set, ext_get_or, get_or-set_same, get_or-set_other, length-replicate, get_or-replicate}
use Rattle.std.proofs.lemmas.List.FromFn.{length-map-range_with_len, get_or-map-range_with_len, map-range_with_len_more}
use Rattle.std.proofs.lemmas.Bool.{cases_eq}
use Rattle.racks.specs.Places.{tabled}

module _ (n : ℕ) (f : ℕ → List ℕ) where
  pub length-tabled : length (tabled n f) ≡ n
  unfolding tabled
  length-tabled = length-map-range_with_len f 0 n

  pub tab-at : (b : ℕ) → b < n → get_or (tabled n f) b [] ≡ f b
  unfolding tabled
  tab-at b h = get_or-map-range_with_len f 0 n b b [] h (omega arith)

pub tab-more : (n : ℕ) (f : ℕ → List ℕ) → tabled (n + 1) f ≡ tabled n f ++ (f n ∷ [])
unfolding tabled
tab-more n f = map-range_with_len_more f 0 n n (omega arith)

-- One bin changed.
pub tab-set : (n : ℕ) (f g : ℕ → List ℕ) (b : ℕ) (row : List ℕ) → b < n → ((a : ℕ) → a < n → (a ≡ b → ⊥) → g a ≡ f a) → g b ≡ row → tabled n g ≡ set (tabled n f) b row
tab-set n f g b row h others this =
    ext_get_or [] _ _ (length-tabled n g ∙ sym (length-tabled n f) ∙ sym (length-set (tabled n f) b row))
    (λ a l. let la : a < n = omega (arith, length-tabled n g) in
    tab-at n g a la ∙
    ⊎_elim
    (λ q. ap g q ∙ this ∙ sym (get_or-set_same (tabled n f) b row [] (omega (arith, length-tabled n f))) ∙ ap (λ z. get_or (set (tabled n f) b row) z []) (sym q))
    (λ q. others a la q ∙ sym (tab-at n f a la) ∙ sym (get_or-set_other (tabled n f) b a row [] q))
    (cases_eq a b))

-- Two bins changed.
pub tab-set2 : (n : ℕ) (f g : ℕ → List ℕ) (b c : ℕ) → b < n → c < n → (b ≡ c → ⊥) → ((a : ℕ) → a < n → (a ≡ b → ⊥) → (a ≡ c → ⊥) → g a ≡ f a) → tabled n g ≡ set (set (tabled n f) b (g b)) c (g c)
tab-set2 n f g b c hb hc ne others =
    ext_get_or [] _ _ (length-tabled n g ∙ sym (length-tabled n f) ∙ sym (length-set (tabled n f) b (g b)) ∙ sym (length-set (set (tabled n f) b (g b)) c (g c)))
    (λ a l. let la : a < n = omega (arith, length-tabled n g) in
    tab-at n g a la ∙
    ⊎_elim
    (λ q. ap g q ∙ sym (get_or-set_same (set (tabled n f) b (g b)) c (g c) [] (omega (arith, length-tabled n f, length-set (tabled n f) b (g b)))) ∙ ap (λ z. get_or (set (set (tabled n f) b (g b)) c (g c)) z []) (sym q))
    (λ q. ⊎_elim
    (λ r. ap g r ∙ sym (get_or-set_same (tabled n f) b (g b) [] (omega (arith, length-tabled n f))) ∙ ap (λ z. get_or (set (tabled n f) b (g b)) z []) (sym r) ∙ sym (get_or-set_other (set (tabled n f) b (g b)) c a (g c) [] q))
    (λ r. others a la r q ∙ sym (tab-at n f a la) ∙ sym (get_or-set_other (tabled n f) b a (g b) [] r) ∙ sym (get_or-set_other (set (tabled n f) b (g b)) c a (g c) [] q))
    (cases_eq a b))
    (cases_eq a c))

pub tab-empty : (n : ℕ) (f : ℕ → List ℕ) → ((a : ℕ) → a < n → f a ≡ []) → tabled n f ≡ replicate n []
tab-empty n f h =
    ext_get_or [] _ _ (length-tabled n f ∙ sym (length-replicate n []))
    (λ a l. let la : a < n = omega (arith, length-tabled n f) in tab-at n f a la ∙ h a la ∙ sym (get_or-replicate n a [] [] la))
