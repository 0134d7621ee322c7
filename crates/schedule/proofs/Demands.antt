-- The sum of admission, class by class: the octets booked per cycle of class c are those of c and m times those per cycle of the class below.
use Rattle.std.proofs.Common.{◌≡◌, ℕ, zero, suc, ◌*◌, ◌/◌, ◌<◌, ◌≤◌, false, List, is_some, sym, ap, ◌∙◌, mul_assoc, arith}
use native.Mathlib.Decide.{ℕ_discrete}
use native.Mathlib.Nat.{mul-div_cancel_left, div_self}
use Rattle.book.specs.declared.rows.Row.{Row}
use Rattle.book.specs.Told.{SetNumbers, Legal, class_count, cycle_of}
use Rattle.book.specs.Rows.{booked}
use Rattle.book.specs.Sums.{weighed, over_fault}
use Rattle.book.proofs.Within.{within-from}
use Rattle.schedule.proofs.Cycles.{Nested, times_in, nested}
use Rattle.schedule.proofs.Enough.{per_cycle}
use Rattle.schedule.proofs.Busy.{Admitted}

module _ (T m : ℕ → ℕ) (n : ℕ) (cycles : Nested T m n) where
  -- A slower cycle is a whole number of faster ones.
  multiple : (f c : ℕ) → f ≤ c → c < n → (x : ℕ) × (T c ≡ T f * x)
  multiple f zero h l = let e : 0 ≡ f = omega arith in (1, ap T e ∙ omega arith)
  multiple f (suc c) h l = go (multiple f c) (ℕ_discrete f (suc c))
    where
      go : (f ≤ c → c < n → (x : ℕ) × (T c ≡ T f * x)) → Dec (f ≡ suc c) → (x : ℕ) × (T (suc c) ≡ T f * x)
      go ih (yes e) = (1, ap T (sym e) ∙ omega arith)
      go ih (no e) =
          let p = ih (omega arith) (omega arith) in
          (p.0 * m c, cycles.next c l ∙ ap (λ z. z * m c) p.1 ∙ mul_assoc (T f) p.0 (m c))

  pub ratio : (f c : ℕ) → f ≤ c → suc c < n → T (suc c) / T f ≡ m c * (T c / T f)
  ratio f c h l =
      let p = multiple f c h (omega arith) in
      let z : 0 < T f = cycles.ticks f (omega arith) in
      let a : T c / T f ≡ p.0 = ap (λ y. y / T f) p.1 ∙ mul-div_cancel_left p.0 z in
      let b : T (suc c) ≡ T f * (p.0 * m c) = cycles.next c l ∙ ap (λ y. y * m c) p.1 ∙ mul_assoc (T f) p.0 (m c) in
      let d : T (suc c) / T f ≡ p.0 * m c = ap (λ y. y / T f) b ∙ mul-div_cancel_left (p.0 * m c) z in
      d ∙ omega arith ∙ ap (λ y. m c * y) (sym a)

module _ (s : SetNumbers) (legal : Legal s) (rows : List Row) where
  scaled : (c d : ℕ) → d ≤ suc c → suc c < class_count s → weighed s rows (suc c) d ≡ times_in s c * weighed s rows c d
  unfolding weighed
  scaled c zero h l = omega arith
  scaled c (suc d) h l =
      let r = ratio (cycle_of s) (times_in s) (class_count s) (nested s legal) d c (omega arith) l in
      let e : cycle_of s (suc c) / cycle_of s d * booked d rows ≡ times_in s c * (cycle_of s c / cycle_of s d) * booked d rows = ap (λ y. y * booked d rows) r in
      let k = mul_assoc (times_in s c) (cycle_of s c / cycle_of s d) (booked d rows) in
      let i = scaled c d (omega arith) l in
      omega arith

  weighed-per : (c : ℕ) → c < class_count s → weighed s rows c (suc c) ≡ per_cycle (λ f. booked f rows) (times_in s) c
  unfolding weighed per_cycle
  weighed-per zero l = let e = ap (λ y. y * booked 0 rows) (div_self ((nested s legal).ticks 0 l)) in omega arith
  weighed-per (suc c) l =
      let e : cycle_of s (suc c) / cycle_of s (suc c) * booked (suc c) rows ≡ 1 * booked (suc c) rows = ap (λ y. y * booked (suc c) rows) (div_self ((nested s legal).ticks (suc c) l)) in
      let k : times_in s c * weighed s rows c (suc c) ≡ times_in s c * per_cycle (λ f. booked f rows) (times_in s) c = ap (λ y. times_in s c * y) (weighed-per c (omega arith)) in
      omega (arith, e, k, scaled c (suc c) (omega arith) l)

  pub admitted : is_some (over_fault s rows) ≡ false → Admitted (cycle_of s) (times_in s) (class_count s) s.dead_time (λ f. booked f rows)
  admitted e c l = omega (arith, within-from s rows e c l, weighed-per c l)
