-- Cycles of several classes beside each other, one tick on: each either goes on or ends, and where a slower one ends, so do the faster.
use Rattle.std.proofs.Common.{◌≡◌, ℕ, suc, ◌+◌, ◌*◌, ◌/◌, ◌%◌, ◌<◌, ◌⊎◌, sym, ap, ◌∙◌, inl, inr, mod-lt, div-lt_iff_lt-mul, mul-div_cancel, arith}
use native.Mathlib.Decide.{dec_lt}
use native.Mathlib.Nat.{div-eq_of_lt-le, mod-add-div, div-div-eq-div-mul}
use Rattle.book.specs.Told.{SetNumbers, Legal, class_count, cycle_of}

-- T c is the cycle time of class c, and m c cycles of class c make one of class c + 1, for n classes.
pub record Nested (T m : ℕ → ℕ) (n : ℕ) : Type 0 where
  pub next : (c : ℕ) → suc c < n → T (suc c) ≡ T c * m c
  pub ticks : (c : ℕ) → c < n → 0 < T c
  pub times : (c : ℕ) → suc c < n → 0 < m c

-- How many cycles of class c make one of the next class.
abbrev pub times_in : SetNumbers → ℕ → ℕ
times_in s c = cycle_of s (suc c) / cycle_of s c

pub nested : (s : SetNumbers) → Legal s → Nested (cycle_of s) (times_in s) (class_count s)
nested s legal = record {
  next = λ c l. sym (legal.whole c l);
  ticks = λ c l. omega (arith, legal.least c l);
  times = λ c l. omega (arith, legal.twice c l);
}

-- Which of the cycles of class c inside one of class c + 1 holds tick t.
abbrev pub place : (T m : ℕ → ℕ) → (t c : ℕ) → ℕ
place T m t c = (t / T c) % m c

-- The next tick is in the same cycle, or it starts the next one.
abbrev pub Same : (T : ℕ → ℕ) → (t c : ℕ) → Type 0
Same T t c = suc t / T c ≡ t / T c

abbrev pub New : (T : ℕ → ℕ) → (t c : ℕ) → Type 0
New T t c = (suc t / T c ≡ suc (t / T c)) × (suc t ≡ suc (t / T c) * T c)

roll : (t d : ℕ) → 0 < d → (suc t / d ≡ t / d) ⊎ ((suc t / d ≡ suc (t / d)) × (suc t ≡ suc (t / d) * d))
roll t d z = go (dec_lt (suc (t % d)) d)
  where
    e : t % d + d * (t / d) ≡ t
    e = mod-add-div t d

    l : t % d < d
    l = mod-lt t z

    go : Dec (suc (t % d) < d) → (suc t / d ≡ t / d) ⊎ ((suc t / d ≡ suc (t / d)) × (suc t ≡ suc (t / d) * d))
    go (yes h) = inl (div-eq_of_lt-le d (omega arith) (omega arith))
    go (no h) = inr (div-eq_of_lt-le d (omega arith) (omega arith), omega arith)

module _ (T m : ℕ → ℕ) (n : ℕ) (cycles : Nested T m n) (t : ℕ) where
  pub rolls : (c : ℕ) → c < n → Same T t c ⊎ New T t c
  rolls c l = roll t (T c) (cycles.ticks c l)

  pub above : (u c : ℕ) → suc c < n → u / T (suc c) ≡ u / T c / m c
  above u c l = ap (λ x. u / x) (cycles.next c l) ∙ sym (div-div-eq-div-mul u (T c) (m c))

  pub new-below : (c : ℕ) → suc c < n → New T t (suc c) → New T t c
  new-below c l h = go (rolls c l')
    where
      l' : c < n
      l' = omega arith

      x : ℕ
      x = suc (t / T (suc c)) * m c

      e : suc t ≡ x * T c
      e = h.1 ∙ ap (λ y. suc (t / T (suc c)) * y) (cycles.next c l) ∙ omega arith

      d : suc t / T c ≡ x
      d = ap (λ y. y / T c) e ∙ mul-div_cancel x (cycles.ticks c l')

      go : Same T t c ⊎ New T t c → New T t c
      go (inl s) =
          let k : t / T c < x = (div-lt_iff_lt-mul (cycles.ticks c l')).1 (omega (arith, e)) in
          absurd (omega (arith, d, s))
      go (inr w) = w

  pub place_same : (c : ℕ) → Same T t c → place T m (suc t) c ≡ place T m t c
  place_same c s = ap (λ x. x % m c) s

  pub place-new : (c : ℕ) → suc c < n → Same T t (suc c) → New T t c → place T m (suc t) c ≡ suc (place T m t c)
  place-new c l s v =
      let e : suc t / T c / m c ≡ t / T c / m c = sym (above (suc t) c l) ∙ s ∙ above t c l in
      let e1 : suc t / T c % m c + m c * (suc t / T c / m c) ≡ suc t / T c = mod-add-div (suc t / T c) (m c) in
      let e2 : t / T c % m c + m c * (t / T c / m c) ≡ t / T c = mod-add-div (t / T c) (m c) in
      let e3 : suc t / T c % m c + m c * (t / T c / m c) ≡ suc t / T c = rw e at e1 in
      omega arith
