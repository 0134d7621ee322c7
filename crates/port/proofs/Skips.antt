-- Ticks at which nothing happens, taken in one step: while the wire is taken, up to the end of the fastest class's cycle where
-- nothing leaves, and any number of them where nothing waits; and the tick at which a load is sent.
use Rattle.std.proofs.Common.{◌≡◌, ℕ, zero, suc, ◌+◌, ◌-◌, ◌*◌, ◌/◌, ◌<◌, ◌≤◌, ltb, List, [], sym, refl, ap, ◌∙◌, add-zero, add-suc, div-mul-le_self, arith}
use native.Mathlib.Nat.{div-div-eq-div-mul, div-eq_of_lt-le}
use Rattle.std.proofs.lemmas.Bool.{lt-ltb, le-ltb, cond-true, cond-false}
use Rattle.book.specs.Told.{SetNumbers, class_count, cycle_of, Legal}
use Rattle.racks.specs.Bins.{bin_of, held_in}
use Rattle.racks.proofs.Rules.{bin-of-none}
use Rattle.schedule.specs.Bins as rules
use Rattle.schedule.specs.Wires.{Loads, Sending, Next, none, oldest, lowest, current_bin, next_out, sending, moved, tick, ticks}
use Rattle.port.specs.Playing.{sending_at}

-- Every cycle is a multiple of the fastest, so all current cycles stay while the fastest does.
multiple : (s : SetNumbers) → Legal s → (c : ℕ) → c < class_count s → (k : ℕ) × (cycle_of s c ≡ cycle_of s 0 * k)
multiple s legal zero l = (1, omega arith)
multiple s legal (suc c) l =
    let p = multiple s legal c (omega arith) in
    let m = cycle_of s (suc c) / cycle_of s c in
    (p.0 * m, sym (legal.whole c l) ∙ ap (λ (t : ℕ). t * m) p.1 ∙ omega arith)

pub same-cycles : (s : SetNumbers) → Legal s → (t u c : ℕ) → t ≤ u → u < suc (t / cycle_of s 0) * cycle_of s 0 → c < class_count s
    → rules.current_of s u c ≡ rules.current_of s t c
same-cycles s legal t u c l h k =
    let p = multiple s legal c k in
    let T = cycle_of s 0 in
    let same : u / T ≡ t / T = div-eq_of_lt-le T (omega (arith, div-mul-le_self t T)) (omega arith) in
    let at : (v : ℕ) → v / cycle_of s c ≡ v / T / p.0 = λ v. ap (λ (d : ℕ). v / d) p.1 ∙ sym (div-div-eq-div-mul v T p.0) in
    at u ∙ ap (λ (d : ℕ). d / p.0) same ∙ sym (at t)

-- Who sends next depends on the lists of the classes there are.
lowest-same : {L : Type 0} (n : ℕ) (of of' : ℕ → List L) → ((c : ℕ) → c < n → of c ≡ of' c) → lowest n of ≡ lowest n of'
unfolding lowest
lowest-same zero of of' h = refl
lowest-same (suc n) of of' h = cc (lowest-same n of of' (λ c l. h c (omega arith)), h n (omega arith))

lowest-empty : {L : Type 0} (n : ℕ) (of : ℕ → List L) → ((c : ℕ) → of c ≡ []) → lowest n of ≡ none
unfolding lowest oldest
lowest-empty zero of h = refl
lowest-empty (suc n) of h = rw (lowest-empty n of h, h n) refl

module _ {L : Type 0} (loads : Loads L) (s : SetNumbers) where
  at : Sending L → ℕ → Sending L
  at g t = sending_at t g.wire g.bins g.sent

  ticks-front : (j : ℕ) (g : Sending L) → ticks loads s (suc j) g ≡ ticks loads s j (tick loads s g)
  unfolding ticks
  ticks-front zero g = refl
  ticks-front (suc j) g = ap (tick loads s) (ticks-front j g)

  ticks-add : (i j : ℕ) (g : Sending L) → ticks loads s (j + i) g ≡ ticks loads s j (ticks loads s i g)
  unfolding ticks
  ticks-add i zero g = let e : 0 + i ≡ i = omega arith in ap (λ (k : ℕ). ticks loads s k g) e
  ticks-add i (suc j) g = let e : suc j + i ≡ suc (j + i) = omega arith in ap (λ (k : ℕ). ticks loads s k g) e ∙ ap (tick loads s) (ticks-add i j g)

  -- One tick.
  tick-waits : (g : Sending L) → g.clock < g.wire → tick loads s g ≡ at g (suc g.clock)
  unfolding tick at
  tick-waits g h = ap (moved loads s) (cond-true (ltb g.clock g.wire) g _ (lt-ltb g.clock g.wire h))

  tick-idle : (g : Sending L) → g.wire ≤ g.clock → next_out loads s g.clock g.bins ≡ none → tick loads s g ≡ at g (suc g.clock)
  unfolding tick at sending
  tick-idle g h k = ap (moved loads s) (cond-false (ltb g.clock g.wire) g _ (le-ltb g.clock g.wire h) ∙ ap (sending loads s g) k)

  tick-sends : (g : Sending L) (f : Next L) → g.wire ≤ g.clock → next_out loads s g.clock g.bins ≡ f
      → (sending loads s g f).clock < (sending loads s g f).wire → tick loads s g ≡ tick loads s (sending loads s g f)
  unfolding tick
  tick-sends g f h e k = ap (moved loads s)
      (cond-false (ltb g.clock g.wire) g _ (le-ltb g.clock g.wire h) ∙ ap (sending loads s g) e
      ∙ sym (cond-true (ltb (sending loads s g f).clock (sending loads s g f).wire) (sending loads s g f) _ (lt-ltb _ _ k)))

  -- Many ticks.
  wait : (j : ℕ) (g : Sending L) → g.clock + j ≤ g.wire → ticks loads s j g ≡ at g (g.clock + j)
  unfolding ticks at
  wait zero g h = ap (at g) (sym (add-zero g.clock))
  wait (suc j) g h =
      ap (tick loads s) (wait j g (omega arith)) ∙ tick-waits (at g (g.clock + j)) (omega arith) ∙ ap (at g) (sym (add-suc g.clock j))

  idle : (j : ℕ) (g : Sending L) → g.wire ≤ g.clock → ((i : ℕ) → i < j → next_out loads s (g.clock + i) g.bins ≡ none)
      → ticks loads s j g ≡ at g (g.clock + j)
  unfolding ticks at
  idle zero g f k = ap (at g) (sym (add-zero g.clock))
  idle (suc j) g f k =
      ap (tick loads s) (idle j g f (λ i l. k i (omega arith))) ∙ tick-idle (at g (g.clock + j)) (omega arith) (k j (omega arith))
      ∙ ap (at g) (sym (add-suc g.clock j))

  -- Where nothing leaves at a tick, nothing leaves before the next start of a cycle of the fastest class.
  quiet-cycle : Legal s → (t u : ℕ) (bins : ℕ → List L) → next_out loads s t bins ≡ none → t ≤ u → u < suc (t / cycle_of s 0) * cycle_of s 0
      → next_out loads s u bins ≡ none
  quiet-cycle legal t u bins e l h =
      lowest-same (class_count s) (current_bin loads s u bins) (current_bin loads s t bins)
      (λ c k. ap (λ (q : ℕ). bins (rules.bin_of s c q)) (same-cycles s legal t u c l h k)) ∙ e

  quiet-empty : (u : ℕ) (bs : List (List L)) → held_in bs ≡ 0 → next_out loads s u (bin_of bs) ≡ none
  quiet-empty u bs e = lowest-empty (class_count s) (current_bin loads s u (bin_of bs)) (λ c. bin-of-none bs (rules.bin_of s c (rules.current_of s u c)) e)

  part : (until c c' : ℕ) (g : Sending L) → c ≤ c' → c' ≤ until → ticks loads s (until - c) g ≡ ticks loads s (until - c') (ticks loads s (c' - c) g)
  part until c c' g h k =
      let e : until - c ≡ until - c' + (c' - c) = omega arith in
      ap (λ (j : ℕ). ticks loads s j g) e ∙ ticks-add (c' - c) (until - c') g

  -- The run to until goes on from a later clock as from an earlier one.
  module _ (until c wire : ℕ) (bins : ℕ → List L) (sent : List _) (c' : ℕ) (on : c ≤ c') (end : c' ≤ until) where
    skip_by : ticks loads s (c' - c) (sending_at c wire bins sent) ≡ sending_at (c + (c' - c)) wire bins sent
        → ticks loads s (until - c) (sending_at c wire bins sent) ≡ ticks loads s (until - c') (sending_at c' wire bins sent)
    skip_by e =
        let there : c + (c' - c) ≡ c' = omega arith in
        part until c c' (sending_at c wire bins sent) on end
        ∙ ap (ticks loads s (until - c')) (e ∙ ap (λ (t : ℕ). sending_at t wire bins sent) there)

    pub skip-wait : c' ≤ wire → ticks loads s (until - c) (sending_at c wire bins sent) ≡ ticks loads s (until - c') (sending_at c' wire bins sent)
    unfolding at
    skip-wait h = skip_by (wait (c' - c) (sending_at c wire bins sent) (omega arith))

    pub skip-cycle : Legal s → wire ≤ c → next_out loads s c bins ≡ none → c' ≤ suc (c / cycle_of s 0) * cycle_of s 0
        → ticks loads s (until - c) (sending_at c wire bins sent) ≡ ticks loads s (until - c') (sending_at c' wire bins sent)
    unfolding at
    skip-cycle legal f e h = skip_by (idle (c' - c) (sending_at c wire bins sent) f (λ i l. quiet-cycle legal c (c + i) bins e (omega arith) (omega arith)))

    pub skip-empty : (bs : List (List L)) → bins ≡ bin_of bs → held_in bs ≡ 0 → wire ≤ c
        → ticks loads s (until - c) (sending_at c wire bins sent) ≡ ticks loads s (until - c') (sending_at c' wire bins sent)
    unfolding at
    skip-empty bs same e f =
        skip_by (idle (c' - c) (sending_at c wire bins sent) f (λ i l. ap (next_out loads s (c + i)) same ∙ quiet-empty (c + i) bs e))

  -- A load that is sent changes the wire, its bin and what was sent, and the run goes on from there.
  pub send-on : (until : ℕ) (g : Sending L) (f : Next L) → g.clock < until → g.wire ≤ g.clock → next_out loads s g.clock g.bins ≡ f
      → (sending loads s g f).clock < (sending loads s g f).wire
      → ticks loads s (until - g.clock) g ≡ ticks loads s (until - g.clock) (sending loads s g f)
  send-on until g f h w e k =
      let j = until - suc g.clock in
      let more : until - g.clock ≡ suc j = omega arith in
      ap (λ (i : ℕ). ticks loads s i g) more ∙ ticks-front j g ∙ ap (ticks loads s j) (tick-sends g f w e k)
      ∙ sym (ticks-front j (sending loads s g f)) ∙ ap (λ (i : ℕ). ticks loads s i (sending loads s g f)) (sym more)
