-- The bins as rings: the cycles in reach have bins of their own, and when a cycle ends empty its bin is that of the next in reach.
use Rattle.std.proofs.Common.{◌≡◌, ℕ, zero, suc, ◌+◌, ◌*◌, ◌/◌, ◌%◌, ◌<◌, ◌≤◌, Bool, true, false, cond, eqb, ltb, leb, ◌⊎◌, List, [], sym, refl, ap, ◌∙◌, subst, inl, inr, mod-lt, mul-le-mul_left, arith}
use native.Mathlib.Decide.{dec_lt, ℕ_discrete}
use native.Mathlib.Nat.{mod-add-div, add-mod_right}
use Rattle.std.proofs.lemmas.Bool.{lt-ltb, le-leb, ltb-true, leb-true, eq-eqb, ne_eqb, cond-true, cond-false, and_from, and_parts, cases_order, both_ways}
use Rattle.book.specs.Told.{SetNumbers, Legal, class_count, cycle_of, bins_of}
use Rattle.placers.specs.Placers.{replaced}
use Rattle.schedule.specs.Bins.{bins_before, bin_of, current_of, in_reach, waiting_in}
use Rattle.schedule.proofs.Cycles.{times_in, nested, Same, New, rolls}

pub replaced-same : {X : Type 0} (f : ℕ → X) (i : ℕ) (x : X) → replaced f i x i ≡ x
replaced-same f i x = cond-true (eqb i i) x (f i) (eq-eqb i i refl)

pub replaced-other : {X : Type 0} (f : ℕ → X) (i j : ℕ) (x : X) → (i ≡ j → ⊥) → replaced f i x j ≡ f j
replaced-other f i j x h = cond-false (eqb i j) x (f j) (ne_eqb i j h)

-- The two functions agree but at c and q.
abbrev pub Else : {X : Type 0} → (c q : ℕ) → (W W' : ℕ → ℕ → X) → Type 0
Else c q W W' = (d r : ℕ) → ((d ≡ c) × (r ≡ q) → ⊥) → W d r ≡ W' d r

-- Numbers less than N apart with the same rest are the same.
apart : (N k q r : ℕ) → k ≤ q → q < k + N → k ≤ r → r < k + N → q % N ≡ r % N → q ≡ r
apart N k q r h1 h2 h3 h4 e = go (cases_order (q / N) (r / N))
  where
    go : (q / N ≡ r / N) ⊎ ((q / N < r / N) ⊎ (r / N < q / N)) → q ≡ r
    go (inl a) = omega (arith, mod-add-div q N, mod-add-div r N, ap (λ x. N * x) a)
    go (inr (inl a)) = absurd (omega (arith, mod-add-div q N, mod-add-div r N, mul-le-mul_left N a))
    go (inr (inr a)) = absurd (omega (arith, mod-add-div q N, mod-add-div r N, mul-le-mul_left N a))

module _ (s : SetNumbers) where
  before-mono : (c d : ℕ) → c < d → bins_before s c + bins_of s c ≤ bins_before s d
  unfolding bins_before
  before-mono c zero h = absurd (omega arith)
  before-mono c (suc d) h = go (before-mono c d) (ℕ_discrete c d)
    where
      go : (c < d → bins_before s c + bins_of s c ≤ bins_before s d) → Dec (c ≡ d) → bins_before s c + bins_of s c ≤ bins_before s d + bins_of s d
      go ih (yes e) = subst (λ x. bins_before s c + bins_of s c ≤ bins_before s x + bins_of s x) e (omega arith)
      go ih (no e) = omega (arith, ih (omega arith))

  -- Cycle q of class c is in reach at tick t.
  pub record In (t c q : ℕ) : Type 0 where
    pub class : c < class_count s
    pub low : current_of s t c ≤ q
    pub high : q < current_of s t c + bins_of s c

  pub reach-in : (t c q : ℕ) → in_reach s t c q ≡ true → In t c q
  reach-in t c q e =
      let a = and_parts (ltb c (class_count s)) _ e in
      let b = and_parts (leb (current_of s t c) q) _ a.1 in
      record { class = ltb-true c (class_count s) a.0; low = leb-true (current_of s t c) q b.0; high = ltb-true q (current_of s t c + bins_of s c) b.1 }

  reach-from : (t c q : ℕ) → In t c q → in_reach s t c q ≡ true
  reach-from t c q i = and_from (ltb c (class_count s)) _ (lt-ltb c (class_count s) i.class)
      (and_from (leb (current_of s t c) q) _ (le-leb (current_of s t c) q i.low) (lt-ltb q (current_of s t c + bins_of s c) i.high))

  one-bin : (t c q d r : ℕ) → In t c q → In t d r → bin_of s c q ≡ bin_of s d r → (d ≡ c) × (r ≡ q)
  one-bin t c q d r i j e = go (cases_order d c)
    where
      lc : q % bins_of s c < bins_of s c
      lc = mod-lt q (omega (arith, i.low, i.high))

      ld : r % bins_of s d < bins_of s d
      ld = mod-lt r (omega (arith, j.low, j.high))

      go : (d ≡ c) ⊎ ((d < c) ⊎ (c < d)) → (d ≡ c) × (r ≡ q)
      go (inl a) = (
        a,
        apart (bins_of s c) (current_of s t c) r q (subst (λ z. current_of s t z ≤ r) a j.low) (subst (λ z. r < current_of s t z + bins_of s z) a j.high) i.low i.high
            (omega (arith, e, ap (λ x. bins_before s x) a, ap (λ x. r % bins_of s x) a)),
      )
      go (inr (inl a)) = absurd (omega (arith, e, lc, ld, before-mono d c a))
      go (inr (inr a)) = absurd (omega (arith, e, lc, ld, before-mono c d a))

  pub bin_small : (t c q : ℕ) → In t c q → bin_of s c q < bins_before s (class_count s)
  bin_small t c q i = omega (arith, mod-lt q {m = bins_of s c} (omega (arith, i.low, i.high)), before-mono c (class_count s) i.class)

  module _ {L : Type 0} (t : ℕ) (bins : ℕ → List L) where
    pub waiting-in : (c q : ℕ) → In t c q → waiting_in s t bins c q ≡ bins (bin_of s c q)
    unfolding waiting_in
    waiting-in c q i = cond-true (in_reach s t c q) _ _ (reach-from t c q i)

    -- A write to a bin in reach.
    pub ring-set : (c q : ℕ) (v : List L) → In t c q
        → (waiting_in s t (replaced bins (bin_of s c q) v) c q ≡ v) × Else c q (waiting_in s t bins) (waiting_in s t (replaced bins (bin_of s c q) v))
    unfolding waiting_in
    ring-set c q v i = (
      cond-true (in_reach s t c q) _ _ (reach-from t c q i) ∙ replaced-same bins (bin_of s c q) v,
      λ d r h. go d r h (in_reach s t d r) refl,
    )
      where
        go : (d r : ℕ) → ((d ≡ c) × (r ≡ q) → ⊥) → (b : Bool) → in_reach s t d r ≡ b
            → cond b (bins (bin_of s d r)) [] ≡ cond b (replaced bins (bin_of s c q) v (bin_of s d r)) []
        go d r h false e = refl
        go d r h true e = sym (replaced-other bins (bin_of s c q) (bin_of s d r) v (λ a. h (one-bin t c q d r i (reach-in t d r e) a)))

    -- The clock moves on, and what a cycle that ends had was sent.
    pub ring-step : Legal s → ((c : ℕ) → c < class_count s → New (cycle_of s) t c → waiting_in s t bins c (current_of s t c) ≡ [])
        → (c q : ℕ) → waiting_in s (suc t) bins c q ≡ waiting_in s t bins c q
    unfolding waiting_in
    ring-step legal empty c q = go (in_reach s (suc t) c q) (in_reach s t c q) refl refl
      where
        roll : c < class_count s → Same (cycle_of s) t c ⊎ New (cycle_of s) t c
        roll l = rolls (cycle_of s) (times_in s) (class_count s) (nested s legal) t c l

        -- The bin of the cycle that ends is empty.
        ended : c < class_count s → New (cycle_of s) t c → bins (bin_of s c (current_of s t c)) ≡ []
        ended l v = sym (cond-true (in_reach s t c (current_of s t c)) _ _
            (reach-from t c (current_of s t c) (record { class = l; low = omega arith; high = omega (arith, legal.two_bins c l) }))) ∙ empty c l v

        out : (u : ℕ) → In u c q → in_reach s u c q ≡ false → ⊥
        out u i f = both_ways (in_reach s u c q) f (reach-from u c q i)

        in-new : In (suc t) c q → in_reach s t c q ≡ false → Same (cycle_of s) t c ⊎ New (cycle_of s) t c → bins (bin_of s c q) ≡ []
        in-new i f (inl k) = absurd (out t (record { class = i.class; low = omega (arith, i.low); high = omega (arith, i.high) }) f)
        in-new i f (inr v) = near (dec_lt q (current_of s t c + bins_of s c))
          where
            near : Dec (q < current_of s t c + bins_of s c) → bins (bin_of s c q) ≡ []
            near (yes d) = absurd (out t (record { class = i.class; low = omega (arith, i.low, v.0); high = d }) f)
            near (no d) =
                let e : q ≡ current_of s t c + bins_of s c = omega (arith, i.high, v.0) in
                let r : q % bins_of s c ≡ current_of s t c % bins_of s c = ap (λ x. x % bins_of s c) e ∙ add-mod_right (current_of s t c) (bins_of s c) in
                ap (λ x. bins (bins_before s c + x)) r ∙ ended i.class v

        in-old : In t c q → in_reach s (suc t) c q ≡ false → Same (cycle_of s) t c ⊎ New (cycle_of s) t c → bins (bin_of s c q) ≡ []
        in-old i f (inl k) = absurd (out (suc t) (record { class = i.class; low = omega (arith, i.low); high = omega (arith, i.high) }) f)
        in-old i f (inr v) = now (ℕ_discrete q (current_of s t c))
          where
            now : Dec (q ≡ current_of s t c) → bins (bin_of s c q) ≡ []
            now (no d) = absurd (out (suc t) (record { class = i.class; low = omega (arith, i.low, v.0); high = omega (arith, i.high, v.0) }) f)
            now (yes d) = ap (λ x. bins (bin_of s c x)) d ∙ ended i.class v

        go : (a b : Bool) → in_reach s (suc t) c q ≡ a → in_reach s t c q ≡ b → cond a (bins (bin_of s c q)) [] ≡ cond b (bins (bin_of s c q)) []
        go true true e f = refl
        go false false e f = refl
        go true false e f = let i = reach-in (suc t) c q e in in-new i f (roll i.class)
        go false true e f = let i = reach-in t c q f in sym (in-old i e (roll i.class))
