-- The check of settings passes exactly those that keep the rules, read as facts.
use Rattle.std.proofs.Common.{◌≡◌, ℕ, zero, suc, ◌+◌, ◌*◌, ◌/◌, ◌%◌, ◌<◌, ◌≤◌, Bool, true, false, not, ◌&&◌, eqb, leb, List, [], ◌∷◌, get_or, take, Some, None, Option, refl, ap, ◌∙◌, ⊎_elim, mul-le-mul_left, arith}
use native.Mathlib.Nat.{div-add-mod}
use Rattle.std.proofs.lemmas.List.{get_or_past, take_all}
use Rattle.std.proofs.lemmas.Bool.{cases_lt, and_parts, and_from, leb-true, ltb-true, eqb-true, le-leb, lt-ltb, eq-eqb}
use Rattle.book.specs.declared.faults.BookFault.{BookFault}
use Rattle.book.specs.declared.faults.BookFault.TheVariants.{NotInNumber, OutOfLimits, TooFewBins}
use Rattle.book.specs.declared.setup.Class.{Class}
use Rattle.book.specs.Faults.{first_hit, check}
use Rattle.book.specs.Ticks.{inside}
use Rattle.book.specs.declared.setup.Settings.{Settings}
use Rattle.book.specs.declared.setup.Setup.{Setup}
use Rattle.book.specs.Sets.{numbers_of}
use Rattle.book.specs.Told.{SetNumbers, told, told_by, set_fault, in_number, within_limits, enough_bins, all_below, class_fits, step_fits, phase_fits, serves, serves_all, whole_times, cycle_in, cycle_of, bins_in, bins_of, no_class, class_count, input_count, Legal}
use Rattle.book.proofs.Below.{below_each, below-from}
use Rattle.book.proofs.Within.{none_from}

-- The answer from the three tests.
abbrev pub set_from : (number limits bins : Bool) → Option BookFault
set_from x y z = first_hit (check (not x) NotInNumber ∷ check (not y) OutOfLimits ∷ check (not z) TooFewBins ∷ [])

pub set_at : (s : SetNumbers) (x y z : Bool) → in_number s ≡ x → within_limits s ≡ y → enough_bins s ≡ z → set_fault s ≡ set_from x y z
unfolding set_fault
set_at s x y z p q r = rw (p, q, r)

pub record Passed (s : SetNumbers) : Type 0 where
  pub numbers : in_number s ≡ true
  pub limits : within_limits s ≡ true
  pub bins : enough_bins s ≡ true

pub passed-from : (s : SetNumbers) → set_fault s ≡ None → Passed s
passed-from s e = go (in_number s) (within_limits s) (enough_bins s) refl refl refl
  where
    go : (x y z : Bool) → in_number s ≡ x → within_limits s ≡ y → enough_bins s ≡ z → Passed s
    go true true true p q r = record { numbers = p; limits = q; bins = r }
    go true true false p q r = let k = set_at s true true false p q r in let z : ◌≡◌ {A = ℕ} 0 1 = cc in absurd (omega arith)
    go true false z p q r = let k = set_at s true false z p q r in let z : ◌≡◌ {A = ℕ} 0 1 = cc in absurd (omega arith)
    go false y z p q r = let k = set_at s false y z p q r in let z : ◌≡◌ {A = ℕ} 0 1 = cc in absurd (omega arith)

inside-parts : (low high x : ℕ) → inside low high x ≡ true → (low ≤ x) × (x ≤ high)
inside-parts low high x h = let k = and_parts (leb low x) (leb x high) h in (leb-true low x k.0, leb-true x high k.1)

inside-from : (low high x : ℕ) → low ≤ x → x ≤ high → inside low high x ≡ true
inside-from low high x h k = and_from (leb low x) (leb x high) (le-leb low x h) (le-leb x high k)

-- One class within its limits.
record Fitting (cs : List Class) (c : ℕ) : Type 0 where
  most : cycle_in cs c ≤ 1048576
  two_bins : 2 ≤ bins_in cs c
  eight_bins : bins_in cs c ≤ 8
  step : step_fits cs c ≡ true

fitting : (cs : List Class) (c : ℕ) → class_fits cs c ≡ true → Fitting cs c
fitting cs c h =
    let k = and_parts (leb (cycle_in cs c) 1048576 && inside 2 8 (bins_in cs c)) (step_fits cs c) h in
    let l = and_parts (leb (cycle_in cs c) 1048576) (inside 2 8 (bins_in cs c)) k.0 in
    let b = inside-parts 2 8 (bins_in cs c) l.1 in
    record { most = leb-true (cycle_in cs c) 1048576 l.0; two_bins = b.0; eight_bins = b.1; step = k.1 }

-- One step from a cycle to the next.
record Stepping (before cycle : ℕ) : Type 0 where
  whole : before * (cycle / before) ≡ cycle
  twice : 2 ≤ cycle / before
  times64 : cycle / before ≤ 64

stepping : (before cycle : ℕ) → whole_times before cycle ≡ true → Stepping before cycle
stepping before cycle h =
    let k = and_parts (eqb (cycle % before) 0) (inside 2 64 (cycle / before)) h in
    let e : cycle % before ≡ 0 = eqb-true (cycle % before) 0 k.0 in
    let b = inside-parts 2 64 (cycle / before) k.1 in
    record { whole = omega (arith, div-add-mod cycle before); twice = b.0; times64 = b.1 }

twice-le : (before cycle : ℕ) → Stepping before cycle → before ≤ cycle
twice-le before cycle s = go (before * (cycle / before)) refl
  where
    go : (x : ℕ) → before * (cycle / before) ≡ x → before ≤ cycle
    go x e = let m : before * 2 ≤ before * (cycle / before) = mul-le-mul_left before s.twice in omega (arith, s.whole)

least-from : (cs : List Class) (n : ℕ) → ((c : ℕ) → c < n → class_fits cs c ≡ true) → (c : ℕ) → c < n → 2000 ≤ cycle_in cs c
least-from cs n f zero h = leb-true 2000 (cycle_in cs 0) (fitting cs 0 (f 0 h)).step
least-from cs n f (suc c) h =
    let k : 2000 ≤ cycle_in cs c = least-from cs n f c (omega arith) in
    let l : cycle_in cs c ≤ cycle_in cs (suc c) = twice-le _ _ (stepping (cycle_in cs c) (cycle_in cs (suc c)) (fitting cs (suc c) (f (suc c) h)).step) in
    omega arith

pub record Limits (s : SetNumbers) : Type 0 where
  pub delays : s.delay ≤ 65535
  pub dead : s.dead_time + 1626 ≤ cycle_of s 0
  pub classes : (c : ℕ) → c < class_count s → class_fits s.classes c ≡ true
  pub phased : (i : ℕ) → i < input_count s → phase_fits s.classes s.phases i ≡ true

pub limits-from : (s : SetNumbers) → within_limits s ≡ true → Limits s
limits-from s h =
    let A : Bool = leb s.delay 65535 in
    let B : Bool = leb (s.dead_time + 1626) (cycle_of s 0) in
    let C : Bool = all_below (class_fits s.classes) (class_count s) in
    let D : Bool = all_below (phase_fits s.classes s.phases) (input_count s) in
    let abc = and_parts (A && B && C) D h in
    let ab = and_parts (A && B) C abc.0 in
    let a = and_parts A B ab.0 in
    record {
      delays = leb-true s.delay 65535 a.0;
      dead = leb-true (s.dead_time + 1626) (cycle_of s 0) a.1;
      classes = below_each (class_fits s.classes) (class_count s) ab.1;
      phased = below_each (phase_fits s.classes s.phases) (input_count s) abc.1;
    }

-- The cycles of classes within their limits.
pub cycles-fit : (s : SetNumbers) → Limits s → (c : ℕ) → c < class_count s → (2000 ≤ cycle_of s c) × (cycle_of s c ≤ 1048576)
cycles-fit s l c h = (least-from s.classes (class_count s) l.classes c h, (fitting s.classes c (l.classes c h)).most)

-- The counts.
pub record Few (s : SetNumbers) : Type 0 where
  pub one_class : 1 ≤ class_count s
  pub four_classes : class_count s ≤ 4
  pub one_input : 1 ≤ input_count s
  pub eight_inputs : input_count s ≤ 8

pub some-few : (s : SetNumbers) → in_number s ≡ true → Few s
some-few s h =
    let n = and_parts (inside 1 4 (class_count s)) (inside 1 8 (input_count s)) h in
    let c = inside-parts 1 4 (class_count s) n.0 in
    let i = inside-parts 1 8 (input_count s) n.1 in
    record { one_class = c.0; four_classes = c.1; one_input = i.0; eight_inputs = i.1 }

pub legal-from : (s : SetNumbers) → set_fault s ≡ None → Legal s
legal-from s e =
    let p : Passed s = passed-from s e in
    let n : Few s = some-few s p.numbers in
    let l : Limits s = limits-from s p.limits in
    let step : (c : ℕ) → suc c < class_count s → Stepping (cycle_of s c) (cycle_of s (suc c)) = λ c h. stepping _ _ (fitting s.classes (suc c) (l.classes (suc c) h)).step in
    record {
      one_class = n.one_class;
      four_classes = n.four_classes;
      one_input = n.one_input;
      eight_inputs = n.eight_inputs;
      delays = l.delays;
      dead = l.dead;
      least = λ c h. (cycles-fit s l c h).0;
      most = λ c h. (cycles-fit s l c h).1;
      two_bins = λ c h. (fitting s.classes c (l.classes c h)).two_bins;
      eight_bins = λ c h. (fitting s.classes c (l.classes c h)).eight_bins;
      whole = λ c h. (step c h).whole;
      twice = λ c h. (step c h).twice;
      times64 = λ c h. (step c h).times64;
      phased = λ i h. ltb-true _ _ (l.phased i h);
      served = λ c i h k. leb-true _ _ (below_each _ (input_count s) (below_each _ (class_count s) p.bins c h) i k);
    }

-- Conversely, what keeps the rules passes.
step_from : (s : SetNumbers) → Legal s → (c : ℕ) → c < class_count s → step_fits s.classes c ≡ true
step_from s l zero h = le-leb 2000 (cycle_of s 0) (l.least 0 h)
step_from s l (suc c) h =
    let T : ℕ = cycle_of s c in
    let U : ℕ = cycle_of s (suc c) in
    let e : U % T ≡ 0 = omega (arith, div-add-mod U T, l.whole c h) in
    and_from (eqb (U % T) 0) (inside 2 64 (U / T)) (eq-eqb (U % T) 0 e) (inside-from 2 64 (U / T) (l.twice c h) (l.times64 c h))

pub legal-passes : (s : SetNumbers) → Legal s → set_fault s ≡ None
legal-passes s l = set_at s true true true numbers limits bins
  where
    numbers : in_number s ≡ true
    numbers = and_from (inside 1 4 (class_count s)) (inside 1 8 (input_count s)) (inside-from 1 4 _ l.one_class l.four_classes) (inside-from 1 8 _ l.one_input l.eight_inputs)

    class-fits : (c : ℕ) → c < class_count s → class_fits s.classes c ≡ true
    class-fits c h = and_from (leb (cycle_of s c) 1048576 && inside 2 8 (bins_of s c)) (step_fits s.classes c)
        (and_from (leb (cycle_of s c) 1048576) (inside 2 8 (bins_of s c)) (le-leb _ _ (l.most c h)) (inside-from 2 8 _ (l.two_bins c h) (l.eight_bins c h)))
        (step_from s l c h)

    limits : within_limits s ≡ true
    limits =
        let A : Bool = leb s.delay 65535 in
        let B : Bool = leb (s.dead_time + 1626) (cycle_of s 0) in
        let C : Bool = all_below (class_fits s.classes) (class_count s) in
        let D : Bool = all_below (phase_fits s.classes s.phases) (input_count s) in
        and_from (A && B && C) D
        (and_from (A && B) C (and_from A B (le-leb _ _ l.delays) (le-leb _ _ l.dead)) (below-from (class_fits s.classes) (class_count s) class-fits))
        (below-from (phase_fits s.classes s.phases) (input_count s) (λ i h. lt-ltb _ _ (l.phased i h)))

    bins : enough_bins s ≡ true
    bins = below-from (λ c. serves_all s.delay s.phases (get_or s.classes c no_class)) (class_count s)
        (λ c h. below-from (λ i. serves s.delay (get_or s.classes c no_class) (get_or s.phases i 0)) (input_count s) (λ i k. le-leb _ _ (l.served c i h k)))

pub refused-not : (s : SetNumbers) (f : BookFault) → set_fault s ≡ Some f → Legal s → ⊥
refused-not s f e l = let p = legal-passes s l in let z : ◌≡◌ {A = ℕ} 0 1 = cc in omega arith

-- What a refusal and what is accepted say, from the three tests.
pub refuses : (s : SetNumbers) (x y z : Bool) (f : BookFault) → in_number s ≡ x → within_limits s ≡ y → enough_bins s ≡ z
    → set_from x y z ≡ Some f → (set_fault s ≡ Some f) × (Legal s → ⊥)
refuses s x y z f p q r e = let h = set_at s x y z p q r ∙ e in (h, refused-not s f h)

pub accepts : (s : SetNumbers) → in_number s ≡ true → within_limits s ≡ true → enough_bins s ≡ true → set_fault s ≡ None
accepts s p q r = set_at s true true true p q r

-- Settings that were checked keep the rules.
pub settings-legal : (s : Settings) → Legal (numbers_of s)
settings-legal s = legal-from (numbers_of s) (none_from (set_fault (numbers_of s)) s.passed)

-- A cycle is never longer than the limit, also of a class that is not there.
pub cycle-most : (s : SetNumbers) → Legal s → (c : ℕ) → cycle_of s c ≤ 1048576
cycle-most s l c = ⊎_elim (λ h. l.most c h) (λ h. let e = ap (λ (k : Class). k.cycle) (get_or_past s.classes c no_class h) in omega arith) (cases_lt c (class_count s))

-- As many items as are told are kept.
pub same-told : (t : Setup) (xs : List Class) (ys : List ℕ) → in_number (told_by t) ≡ true → xs ≡ take 4 t.classes.now → ys ≡ take 8 t.phases.now
    → told t.number t.delay t.dead_time xs ys ≡ told_by t
same-told t xs ys h p q =
    let few = some-few (told_by t) h in
    ap (λ (v : List Class). told t.number t.delay t.dead_time v ys) (p ∙ take_all 4 t.classes.now few.four_classes)
    ∙ ap (λ (v : List ℕ). told t.number t.delay t.dead_time t.classes.now v) (q ∙ take_all 8 t.phases.now few.eight_inputs)
