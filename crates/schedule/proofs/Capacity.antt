-- The room that bins take: every bin is that of some cycle in reach, so where no cycle has more loads than it can carry, no bin has,
-- and all bins together have no more than the bins of all classes can.
use Rattle.std.proofs.Common.{◌≡◌, ℕ, zero, suc, ◌+◌, ◌-◌, ◌*◌, ◌/◌, ◌%◌, ◌<◌, ◌≤◌, List, [], length, sym, ap, ◌∙◌, subst, add-zero, add-suc, mod-lt, mul-le-mul_left, le-div_iff_mul-le, div-mul-le_self, arith}
use native.Mathlib.Decide.{dec_lt, dec_le, ℕ_discrete}
use native.Mathlib.Nat.{mod-add-div}
use lib.Arith.{digits_mod}
use Rattle.book.specs.Told.{SetNumbers, Legal, class_count, cycle_of, bins_of}
use Rattle.schedule.specs.Bins.{bins_before, bin_of, current_of, waiting_in, loads_below, most_loads, most_below}
use Rattle.schedule.specs.Laws.{room_of}
use Rattle.schedule.proofs.Rings.{waiting-in}

-- Each place of a ring is that of some cycle.
record Covered (N k i : ℕ) : Type 0 where
  cycle : ℕ
  low : k ≤ cycle
  high : cycle < k + N
  is : cycle % N ≡ i

covers : (N k i : ℕ) → i < N → Covered N k i
covers N k i l = go (dec_le (k % N) i)
  where
    z : k % N < N
    z = mod-lt k (omega arith)

    d : k % N + N * (k / N) ≡ k
    d = mod-add-div k N

    go : Dec (k % N ≤ i) → Covered N k i
    go (yes h) = record { cycle = k / N * N + i; low = omega (arith, d); high = omega (arith, d); is = digits_mod (k / N) l }
    go (no h) = record { cycle = suc (k / N) * N + i; low = omega (arith, d, z); high = omega (arith, d, z); is = digits_mod (suc (k / N)) l }

-- A bin below those of class n is that of a class, at a place of its ring.
record Placed (s : SetNumbers) (n b : ℕ) : Type 0 where
  class : ℕ
  below : class < n
  place : ℕ
  inside : place < bins_of s class
  is : b ≡ bins_before s class + place

placed : (s : SetNumbers) (n b : ℕ) → b < bins_before s n → Placed s n b
unfolding bins_before
placed s zero b h = absurd (omega arith)
placed s (suc n) b h = go (placed s n b) (dec_lt b (bins_before s n))
  where
    go : (b < bins_before s n → Placed s n b) → Dec (b < bins_before s n) → Placed s (suc n) b
    go ih (yes l) = let p = ih l in record { class = p.class; below = omega (arith, p.below); place = p.place; inside = p.inside; is = p.is }
    go ih (no l) = record { class = n; below = omega arith; place = b - bins_before s n; inside = omega arith; is = omega arith }

-- Cycles grow with the class, and what they can carry too.
cycles-up : (s : SetNumbers) → Legal s → (c d : ℕ) → c ≤ d → d < class_count s → cycle_of s c ≤ cycle_of s d
cycles-up s legal c zero h l = let e : 0 ≡ c = omega arith in subst (λ z. cycle_of s z ≤ cycle_of s 0) e (omega arith)
cycles-up s legal c (suc d) h l = go (cycles-up s legal c d) (ℕ_discrete c (suc d))
  where
    go : (c ≤ d → d < class_count s → cycle_of s c ≤ cycle_of s d) → Dec (c ≡ suc d) → cycle_of s c ≤ cycle_of s (suc d)
    go ih (yes e) = subst (λ z. cycle_of s c ≤ cycle_of s z) e (omega arith)
    go ih (no e) =
        let i = ih (omega arith) (omega arith) in
        omega (arith, legal.whole d l, mul-le-mul_left (cycle_of s d) (legal.twice d l))

most-up : (s : SetNumbers) → Legal s → (c d : ℕ) → c ≤ d → d < class_count s → most_loads s c ≤ most_loads s d
most-up s legal c d h l =
    (le-div_iff_mul-le {k = 84} (omega arith)).1 (omega (arith, div-mul-le_self (cycle_of s c) 84, cycles-up s legal c d h l))

module _ {L : Type 0} (s : SetNumbers) (legal : Legal s) (t : ℕ) (bins : ℕ → List L)
    (room : (c q : ℕ) → c < class_count s → length (waiting_in s t bins c q) ≤ most_loads s c)
    (spare : (b : ℕ) → bins_before s (class_count s) ≤ b → bins b ≡ []) where
  in-class : (c i : ℕ) → c < class_count s → i < bins_of s c → length (bins (bins_before s c + i)) ≤ most_loads s c
  in-class c i l h =
      let p = covers (bins_of s c) (current_of s t c) i h in
      let e : waiting_in s t bins c p.cycle ≡ bins (bin_of s c p.cycle) = waiting-in s t bins c p.cycle (record { class = l; low = p.low; high = p.high }) in
      let f : bins (bin_of s c p.cycle) ≡ bins (bins_before s c + i) = ap (λ x. bins (bins_before s c + x)) p.is in
      subst (λ x. length x ≤ most_loads s c) (e ∙ f) (room c p.cycle l)

  pub one-bin : (b : ℕ) → length (bins b) ≤ (room_of s).depth
  one-bin b = go (dec_lt b (bins_before s (class_count s)))
    where
      go : Dec (b < bins_before s (class_count s)) → length (bins b) ≤ (room_of s).depth
      go (no h) = omega (arith, ap length (spare b (omega arith)))
      go (yes h) =
          let p = placed s (class_count s) b h in
          omega (
            arith,
            ap (λ z. length (bins z)) p.is,
            in-class p.class p.place p.below p.inside,
            most-up s legal p.class (class_count s - 1) (omega (arith, p.below)) (omega (arith, p.below)),
          )

  some-places : (c j : ℕ) → c < class_count s → j ≤ bins_of s c → loads_below bins (bins_before s c) ≤ most_below s c
      → loads_below bins (bins_before s c + j) ≤ most_below s c + j * most_loads s c
  unfolding loads_below
  some-places c zero l h below = subst (λ z. loads_below bins z ≤ most_below s c + 0 * most_loads s c) (sym (add-zero (bins_before s c))) (omega arith)
  some-places c (suc j) l h below =
      subst (λ z. loads_below bins z ≤ most_below s c + suc j * most_loads s c) (sym (add-suc (bins_before s c) j))
      (omega (arith, some-places c j l (omega arith) below, in-class c j l h))

  some-classes : (c : ℕ) → c ≤ class_count s → loads_below bins (bins_before s c) ≤ most_below s c
  unfolding loads_below bins_before most_below
  some-classes zero l = omega arith
  some-classes (suc c) l = some-places c (bins_of s c) l (omega arith) (some-classes c (omega arith))

  -- Bins past the last class add nothing, and fewer bins have no more loads.
  past : (j : ℕ) → loads_below bins (bins_before s (class_count s) + j) ≤ most_below s (class_count s)
  unfolding loads_below
  past zero = subst (λ z. loads_below bins z ≤ most_below s (class_count s)) (sym (add-zero (bins_before s (class_count s)))) (some-classes (class_count s) (omega arith))
  past (suc j) = subst (λ z. loads_below bins z ≤ most_below s (class_count s)) (sym (add-suc (bins_before s (class_count s)) j))
      (omega (arith, past j, ap length (spare (bins_before s (class_count s) + j) (omega arith))))

  fewer : (n j : ℕ) → loads_below bins n ≤ loads_below bins (n + j)
  unfolding loads_below
  fewer n zero = subst (λ z. loads_below bins n ≤ loads_below bins z) (sym (add-zero n)) (omega arith)
  fewer n (suc j) = subst (λ z. loads_below bins n ≤ loads_below bins z) (sym (add-suc n j)) (omega (arith, fewer n j))

  pub all-bins : (n : ℕ) → loads_below bins n ≤ (room_of s).total
  all-bins n =
      let B : ℕ = bins_before s (class_count s) in
      let e : n + B ≡ B + n = omega arith in
      omega (arith, fewer n B, ap (loads_below bins) e, past n)
