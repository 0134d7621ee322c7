-- The bins needed are the fewest that let the last hand-over come before its cycle.
use Rattle.std.proofs.Common.{◌≡◌, ℕ, ◌+◌, ◌-◌, ◌*◌, ◌/◌, ◌<◌, ◌≤◌, div-lt_iff_lt-mul, arith}
use native.Mathlib.Nat.{lt-div-mul-add}
use Rattle.book.specs.Ticks.{bins_needed, start_of, Fewest}

pub fewest : (delay cycle phase : ℕ) → 0 < cycle → Fewest delay cycle phase (bins_needed delay cycle phase)
fewest delay cycle phase pos = record {
  enough = λ i. enough i;
  least = λ i g h. least i g h;
}
  where
    a : ℕ
    a = phase + delay + (cycle - 1)

    enough : (i : ℕ) → phase + (i + 1) * cycle + delay ≤ start_of cycle (i + (bins_needed delay cycle phase - 1))
    enough i =
        let q : ℕ = (phase + delay + (cycle - 1)) / cycle in
        let h : phase + delay + (cycle - 1) < q * cycle + cycle = lt-div-mul-add pos in
        let e : i + (1 + q + 1 - 1) ≡ i + q + 1 = omega arith in
        rw e (omega (arith, h))

    least : (i g : ℕ) → phase + (i + 1) * cycle + delay ≤ start_of cycle (i + g) → bins_needed delay cycle phase ≤ g + 1
    least i g h =
        let k : phase + delay + (cycle - 1) < g * cycle = omega arith in
        let l : (phase + delay + (cycle - 1)) / cycle < g = (div-lt_iff_lt-mul pos).1 k in
        omega arith
