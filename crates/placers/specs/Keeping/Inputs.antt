-- Input cycles, and the cycles of the class beside them.
use Rattle.std.specs.Prelude.{◌≡◌, ℕ, ◌+◌, ◌-◌, ◌<◌, ◌≤◌, true, ◌&&◌, nat_le}
use Rattle.std.proofs.Common.{ap, le-div_iff_mul-le, div-lt_iff_lt-mul, div-mul-le_self, arith}
use Rattle.std.proofs.Math.Nat.{lt-div-mul-add, div-eq_of_lt-le}
use Rattle.std.proofs.lemmas.Bool.{leb-true, le-leb, and_parts, and_from}
use Rattle.book.specs.Ticks.{last_tick}
use Rattle.placers.specs.declared.terms.Terms.{Terms}
use Rattle.placers.specs.Terms.{input_start, input_cycle, Inside, is_inside, current, shift_in}

pub inside-own : (t : Terms) (stamp w : ℕ) → is_inside t stamp w ≡ true → Inside t (input_cycle t stamp) stamp w
inside-own t stamp w h =
    let a = and_parts (nat_le stamp last_tick && nat_le t.phase stamp) (nat_le (stamp + w) (input_start t (input_cycle t stamp) + t.cycle)) h in
    let b = and_parts (nat_le stamp last_tick) (nat_le t.phase stamp) a.0 in
    let p = leb-true t.phase stamp b.1 in
    record {
      from = omega (arith, div-mul-le_self (stamp - t.phase) t.cycle);
      to = leb-true (stamp + w) (input_start t (input_cycle t stamp) + t.cycle) a.1;
    }

module _ (t : Terms) (pos : 0 < t.cycle) where
  -- A frame lies inside one input cycle at most, that of its stamp.
  pub inside_one : (j stamp w : ℕ) → 0 < w → Inside t j stamp w → input_cycle t stamp ≡ j
  inside_one j stamp w z h = div-eq_of_lt-le t.cycle (omega (arith, h.from)) (omega (arith, h.from, h.to))

  pub is-inside : (j stamp w : ℕ) → 0 < w → stamp ≤ last_tick → Inside t j stamp w → is_inside t stamp w ≡ true
  is-inside j stamp w z l h =
      let e : input_start t (input_cycle t stamp) ≡ input_start t j = ap (input_start t) (inside_one j stamp w z h) in
      and_from (nat_le stamp last_tick && nat_le t.phase stamp) (nat_le (stamp + w) (input_start t (input_cycle t stamp) + t.cycle))
      (and_from (nat_le stamp last_tick) (nat_le t.phase stamp) (le-leb stamp last_tick l) (le-leb t.phase stamp (omega (arith, h.from))))
      (le-leb (stamp + w) (input_start t (input_cycle t stamp) + t.cycle) (omega (arith, h.to, e)))

  -- Input cycles follow the stamps.
  pub inputs-onward : (a b : ℕ) → a ≤ b → input_cycle t a ≤ input_cycle t b
  inputs-onward a b h = (le-div_iff_mul-le pos).1 (omega (arith, div-mul-le_self (a - t.phase) t.cycle))

  module _ (i stamp w clock : ℕ) (inside : Inside t i stamp w) where
    -- The hand-over of a frame is not before the cycle of its input cycle's number, and before the cycle one shift later.
    pub not-before : stamp ≤ clock → i ≤ current t clock
    not-before h = (le-div_iff_mul-le pos).1 (omega (arith, inside.from))

    pub before-shift : 0 < w → clock ≤ stamp + t.delay → current t clock < i + shift_in t
    before-shift z h =
        let e = lt-div-mul-add {a = t.phase + t.delay + (t.cycle - 1)} {b = t.cycle} pos in
        (div-lt_iff_lt-mul pos).1 (omega (arith, inside.to, e))
