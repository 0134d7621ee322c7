-- A class and the faster ones inside its cycle: what was given them so far never passes what was admitted, though bookings change
-- from one fast cycle to the next. Each fast cycle that has ended is charged its whole share of what is left.
use Rattle.std.proofs.Common.{◌≡◌, ℕ, zero, suc, ◌+◌, ◌-◌, ◌*◌, ◌/◌, ◌<◌, ◌≤◌, sym, subst, inl, inr, mul-le-mul_right, mod-lt, le-div_iff_mul-le, arith}
use native.Mathlib.Nat.{mul-div-le}
use Rattle.schedule.proofs.Cycles.{Nested, place, Same, New, rolls, new-below, place_same, place-new}

-- The bookings A of the classes up to c, in octets per cycle of c.
unfoldable pub per_cycle : (A m : ℕ → ℕ) → ℕ → ℕ
per_cycle A m zero = A 0
per_cycle A m (suc c) = A (suc c) + m c * per_cycle A m c

-- The sum over the classes up to c.
unfoldable pub upto : (B : ℕ → ℕ) → ℕ → ℕ
upto B zero = B 0
upto B (suc c) = B (suc c) + upto B c

-- With b octets for a class itself, what is left of s for each of the m cycles of the class below.
abbrev pub share : (b m s : ℕ) → ℕ
share b m s = (s - b) / m

-- A bound on the octets of the classes up to c in the current cycle of class c, where a whole cycle may have s:
-- B f octets were given to the current cycle of f, and i f cycles of f have ended in the current one of f + 1.
unfoldable pub sofar : (B m i : ℕ → ℕ) → ℕ → ℕ → ℕ
sofar B m i zero s = B 0
sofar B m i (suc c) s = B (suc c) + i c * share (B (suc c)) (m c) s + sofar B m i c (share (B (suc c)) (m c) s)

share-fits : (a b m w s : ℕ) → 0 < m → b ≤ a → a + m * w ≤ s → w ≤ share b m s
share-fits a b m w s z h k = let e : w * m ≤ s - b = omega arith in (le-div_iff_mul-le z).1 e

share-step : (a b m i w u s : ℕ) → b ≤ a → i < m → a + m * w ≤ s → (w ≤ share b m s → u ≤ share b m s) → b + i * share b m s + u ≤ s
share-step a b m i w u s h1 h2 h3 h4 =
    let l : u ≤ share b m s = h4 (share-fits a b m w s (omega arith) h1 h3) in
    let n : m * share b m s ≤ s - b = mul-div-le (s - b) m in
    let o : suc i * share b m s ≤ m * share b m s = mul-le-mul_right (share b m s) h2 in
    let p : b ≤ s = omega arith in
    omega arith

pub enough : (A B m i : ℕ → ℕ) (c s : ℕ) → ((f : ℕ) → f ≤ c → B f ≤ A f) → ((f : ℕ) → f < c → i f < m f)
    → per_cycle A m c ≤ s → sofar B m i c s ≤ s
unfolding per_cycle sofar
enough A B m i zero s hb hi hw = omega (arith, hb 0)
enough A B m i (suc c) s hb hi hw =
    share-step (A (suc c)) (B (suc c)) (m c) (i c) (per_cycle A m c) (sofar B m i c (share (B (suc c)) (m c) s)) s
    (hb (suc c) (omega arith)) (hi c (omega arith)) hw
    (λ k. enough A B m i c (share (B (suc c)) (m c) s) (λ f l. hb f (omega arith)) (λ f l. hi f (omega arith)) k)

pub upto-le-sofar : (B m i : ℕ → ℕ) (c s : ℕ) → upto B c ≤ sofar B m i c s
unfolding upto sofar
upto-le-sofar B m i zero s = omega arith
upto-le-sofar B m i (suc c) s = omega (arith, upto-le-sofar B m i c (share (B (suc c)) (m c) s))

-- One class, where its cycle goes on, and the class below goes on or starts anew.
same_step : (b b' i i' m s p p' P P' : ℕ) (U U' : ℕ → ℕ) → b' ≡ b → i' ≡ i → p' ≡ p
    → U (share b m s) + P' ≤ U' (share b m s) + P
    → b + i * share b m s + U (share b m s) + (p' + P') ≤ b' + i' * share b' m s + U' (share b' m s) + (p + P)
same_step b b' i i' m s p p' P P' U U' eb ei ep h = rw (eb, ei, ep) (omega arith)

new-step : (b b' i i' m s p p' P P' : ℕ) (U U' : ℕ → ℕ) → b' ≡ b → i' ≡ suc i → p' ≡ p → P ≡ 0
    → U (share b m s) ≤ share b m s → P' ≤ U' (share b m s)
    → b + i * share b m s + U (share b m s) + (p' + P') ≤ b' + i' * share b' m s + U' (share b' m s) + (p + P)
new-step b b' i i' m s p p' P P' U U' eb ei ep z h k = rw (eb, ei, ep) (omega arith)

-- From tick t to the next: B and B' were given to the current cycles, p and p' of it wait.
module _ (T m : ℕ → ℕ) (n : ℕ) (cycles : Nested T m n) (t : ℕ) (A B B' p p' : ℕ → ℕ)
    (same : (f : ℕ) → f < n → Same T t f → (B' f ≡ B f) × (p' f ≡ p f))
    (new : (f : ℕ) → f < n → New T t f → (p f ≡ 0) × (p' f ≡ B' f))
    (booked : (f : ℕ) → f < n → B f ≤ A f) where
  pub all_new : (c : ℕ) → c < n → New T t c → (upto p c ≡ 0) × (upto p' c ≡ upto B' c)
  unfolding upto
  all_new zero l v = new 0 l v
  all_new (suc c) l v =
      let h = all_new c (omega arith) (new-below T m n cycles t c l v) in
      let k = new (suc c) l v in
      (omega arith, omega arith)

  pub grow : (c s : ℕ) → c < n → Same T t c → per_cycle A m c ≤ s
      → sofar B m (place T m t) c s + upto p' c ≤ sofar B' m (place T m (suc t)) c s + upto p c
  unfolding sofar upto per_cycle
  grow zero s l h w = let k = same 0 l h in omega arith
  grow (suc c) s l h w =
      let s' : ℕ = share (B (suc c)) (m c) s in
      let sm = same (suc c) l h in
      let l' : c < n = omega arith in
      let U : ℕ → ℕ = λ z. sofar B m (place T m t) c z in
      let U' : ℕ → ℕ = λ z. sofar B' m (place T m (suc t)) c z in
      let fit : per_cycle A m c ≤ s' = share-fits (A (suc c)) (B (suc c)) (m c) (per_cycle A m c) s (cycles.times c l) (booked (suc c) l) w in
      elim (rolls T m n cycles t c l') [
        | inl x ↦ same_step (B (suc c)) (B' (suc c)) (place T m t c) (place T m (suc t) c) (m c) s (p (suc c)) (p' (suc c)) (upto p c) (upto p' c) U U'
            sm.0 (place_same T m n cycles t c x) sm.1 (grow c s' l' x fit)
        | inr x ↦ new-step (B (suc c)) (B' (suc c)) (place T m t c) (place T m (suc t) c) (m c) s (p (suc c)) (p' (suc c)) (upto p c) (upto p' c) U U'
            sm.0 (place-new T m n cycles t c l h x) sm.1 (all_new c l' x).0
            (enough A B m (place T m t) c s' (λ f k. booked f (omega arith)) (λ f k. mod-lt (t / T f) (cycles.times f (omega arith))) fit)
            (subst (λ z. z ≤ U' s') (sym (all_new c l' x).1) (upto-le-sofar B' m (place T m (suc t)) c s'))
      ]
