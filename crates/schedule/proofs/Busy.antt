-- While a current bin holds a load the wire is never idle: from the start of its cycle on it was taken first by one frame
-- that had begun before, at most, and then by this class and faster ones alone. So every load ends before the dead time.
use Rattle.std.proofs.Common.{◌≡◌, ℕ, zero, suc, ◌+◌, ◌-◌, ◌*◌, ◌/◌, ◌<◌, ◌≤◌, ◌≢◌, ◌⊎◌, sym, ap, subst, inl, inr, mod-lt, arith}
use native.Mathlib.Decide.{dec_lt, ℕ_discrete}
use Rattle.schedule.proofs.Cycles.{Nested, place, Same, New, rolls}
use Rattle.schedule.proofs.Enough.{per_cycle, upto, sofar, enough, upto-le-sofar, all_new, grow}

-- The octets that a cycle of class c can carry.
abbrev pub cap : (T : ℕ → ℕ) → (Z c : ℕ) → ℕ
cap T Z c = T c - (1542 + Z)

-- The bookings A are admitted, with dead time Z.
abbrev pub Admitted : (T m : ℕ → ℕ) → (n Z : ℕ) → (A : ℕ → ℕ) → Type 0
Admitted T m n Z A = (c : ℕ) → c < n → 1542 + Z + per_cycle A m c ≤ T c

-- The tick by which all that was given so far to the current cycle of class c, and to faster ones in it, is through.
abbrev pub bound : (T m : ℕ → ℕ) → (Z : ℕ) → (B : ℕ → ℕ) → (t c : ℕ) → ℕ
bound T m Z B t c = t / T c * T c + 1541 + sofar B m (place T m t) c (cap T Z c)

-- p f octets wait in the current bin of f: they fit before the bound, from the clock and from the end of what is on the wire.
pub record BusyAt (T m : ℕ → ℕ) (Z : ℕ) (B p : ℕ → ℕ) (wire t c : ℕ) : Type 0 where
  pub clocks : t + upto p c ≤ bound T m Z B t c
  pub wires : wire + upto p c ≤ bound T m Z B t c

abbrev pub Busy : (T m : ℕ → ℕ) → (n Z : ℕ) → (B p : ℕ → ℕ) → (wire t : ℕ) → Type 0
Busy T m n Z B p wire t = (c : ℕ) → c < n → 0 < p c → BusyAt T m Z B p wire t c

upto-same : (p p' : ℕ → ℕ) (d : ℕ) → ((f : ℕ) → f ≤ d → p f ≡ p' f) → upto p d ≡ upto p' d
unfolding upto
upto-same p p' zero h = h 0 (omega arith)
upto-same p p' (suc d) h = omega (arith, h (suc d) (omega arith), upto-same p p' d (λ f l. h f (omega arith)))

upto-less : (p p' : ℕ → ℕ) (c w : ℕ) → p c ≡ w + p' c → ((f : ℕ) → f ≢ c → p f ≡ p' f) → (d : ℕ) → c ≤ d → upto p d ≡ w + upto p' d
unfolding upto
upto-less p p' zero w e o zero l = e
upto-less p p' (suc c) w e o zero l = absurd (omega arith)
upto-less p p' c w e o (suc d) l = go (upto-less p p' c w e o d) (ℕ_discrete c (suc d))
  where
    go : (c ≤ d → upto p d ≡ w + upto p' d) → Dec (c ≡ suc d) → p (suc d) + upto p d ≡ w + (p' (suc d) + upto p' d)
    go ih (yes h) = omega (arith, subst (λ x. p x ≡ w + p' x) h e, upto-same p p' d (λ f k. o f (λ r. omega arith)))
    go ih (no h) = omega (arith, o (suc d) (λ r. h (sym r)), ih (omega arith))

pub upto-has : (p : ℕ → ℕ) (c : ℕ) → p c ≤ upto p c
unfolding upto
upto-has p zero = omega arith
upto-has p (suc c) = omega arith

module _ (T m : ℕ → ℕ) (n : ℕ) (cycles : Nested T m n) (Z t : ℕ) (A B : ℕ → ℕ)
    (booked : (f : ℕ) → f < n → B f ≤ A f) (admitted : Admitted T m n Z A) where
  -- The bound lies before the dead time.
  pub within : (c : ℕ) → c < n → bound T m Z B t c + Z + 1 ≤ suc (t / T c) * T c
  within c l =
      let e : sofar B m (place T m t) c (cap T Z c) ≤ cap T Z c =
      enough A B m (place T m t) c (cap T Z c) (λ f k. booked f (omega arith)) (λ f k. mod-lt (t / T f) (cycles.times f (omega arith)))
      (omega (arith, admitted c l)) in
      omega (arith, admitted c l)

  -- Class c, the lowest with a load, sends w octets at tick t.
  pub send-keeps : (p p' : ℕ → ℕ) (c w wire : ℕ) → p c ≡ w + p' c → ((f : ℕ) → f ≢ c → p f ≡ p' f) → ((f : ℕ) → f < c → p f ≡ 0)
      → Busy T m n Z B p wire t → Busy T m n Z B p' (t + w) t
  send-keeps p p' c w wire e o z busy d l h = go (dec_lt d c)
    where
      pos : Dec (d ≡ c) → 0 < p d
      pos (yes r) = subst (λ x. 0 < p x) (sym r) (omega (arith, subst (λ x. 0 < p' x) r h))
      pos (no r) = omega (arith, o d r)

      go : Dec (d < c) → BusyAt T m Z B p' (t + w) t d
      go (yes k) = absurd (omega (arith, z d k, o d (λ r. omega arith)))
      go (no k) =
          let u : upto p d ≡ w + upto p' d = upto-less p p' c w e o d (omega arith) in
          let b = busy d l (pos (ℕ_discrete d c)) in
          record { clocks = omega arith; wires = omega arith }

  -- The clock moves on by a tick, at which the wire is taken or nothing waits.
  module _ (B' p p' : ℕ → ℕ) (wire : ℕ)
      (same : (f : ℕ) → f < n → Same T t f → (B' f ≡ B f) × (p' f ≡ p f))
      (future : (f : ℕ) → f < n → New T t f → p' f ≡ B' f)
      (works : ((f : ℕ) → f < n → p f ≡ 0) ⊎ (t < wire))
      (busy : Busy T m n Z B p wire t) where
    -- A cycle that ends has nothing left.
    pub ends-empty : (f : ℕ) → f < n → New T t f → p f ≡ 0
    ends-empty f l w = go works (dec_lt 0 (p f))
      where
        go : ((f : ℕ) → f < n → p f ≡ 0) ⊎ (t < wire) → Dec (0 < p f) → p f ≡ 0
        go (inl q) d = q f l
        go (inr q) (yes d) = let b = busy f l d in absurd (omega (arith, within f l))
        go (inr q) (no d) = omega arith

    new : (f : ℕ) → f < n → New T t f → (p f ≡ 0) × (p' f ≡ B' f)
    new f l w = (ends-empty f l w, future f l w)

    pub step_keeps : wire ≤ t + 1542 → Busy T m n Z B' p' wire (suc t)
    step_keeps short c l h = go (rolls T m n cycles t c l) works
      where
        go : Same T t c ⊎ New T t c → ((f : ℕ) → f < n → p f ≡ 0) ⊎ (t < wire) → BusyAt T m Z B' p' wire (suc t) c
        go (inl s) (inl q) = absurd (omega (arith, q c l, (same c l s).1))
        go (inl s) (inr q) =
            let b = busy c l (omega (arith, (same c l s).1)) in
            let g = grow T m n cycles t A B B' p p' same new booked c (cap T Z c) l s (omega (arith, admitted c l)) in
            let k : suc t / T c * T c ≡ t / T c * T c = ap (λ x. x * T c) s in
            record { clocks = omega arith; wires = omega arith }
        go (inr w) q =
            let a = all_new T m n cycles t A B B' p p' same new booked c l w in
            let u = upto-le-sofar B' m (place T m (suc t)) c (cap T Z c) in
            let k : suc t / T c * T c ≡ suc (t / T c) * T c = ap (λ x. x * T c) w.0 in
            record { clocks = omega arith; wires = omega arith }
