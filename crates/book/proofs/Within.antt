-- The sums of the classes: rows that book no more keep them within their cycles, and what the lowest class that fails says.
use Rattle.std.proofs.Common.{◌≡◌, ℕ, zero, suc, ◌-◌, ◌/◌, ◌<◌, ◌≤◌, Bool, true, false, cond, ltb, leb, List, [], ◌∷◌, map, get_or, set, replicate, is_some, Some, None, Option, refl, ap, ◌∙◌, subst, inl, inr, mul-le-mul_left, arith}
use Rattle.std.proofs.lemmas.Bool.{ltb-true, ltb-false, le-ltb, cases_lt, cond_both, cond-false}
use Rattle.book.specs.declared.faults.BookFault.{BookFault}
use Rattle.book.specs.declared.faults.BookFault.TheVariants.{Over}
use Rattle.book.specs.declared.rows.Row.{Row}
use Rattle.book.specs.declared.rows.Row.TheVariants.{Free, Held, Live, Leaving}
use Rattle.book.specs.Faults.{or_else}
use Rattle.book.specs.Ticks.{cycle_at}
use Rattle.book.specs.Told.{SetNumbers, class_count, cycle_of, Legal}
use Rattle.book.specs.Rows.{octets, octets_in, booked, confirmed, dropped, released, settled}
use Rattle.book.specs.Sums.{weighed, demand, over_at, over_below, over_fault, Within}

-- Two constructors are never equal.
pub nope : {X : Type 0} → ◌≡◌ {A = ℕ} 0 1 → X
nope z = let w : ⊥ = omega arith in absurd w

-- A row changed to one that books no more, or all of them.
pub booked-set : (rows : List Row) (s : ℕ) (r : Row) → ((c : ℕ) → octets c r ≤ octets c (get_or rows s Free)) → (c : ℕ)
    → booked c (set rows s r) ≤ booked c rows
unfolding booked
booked-set [] s r h c = omega arith
booked-set (x ∷ rows) zero r h c = omega (arith, h c)
booked-set (x ∷ rows) (suc s) r h c = omega (arith, booked-set rows s r h c)

pub booked-map : (g : Row → Row) → ((c : ℕ) (r : Row) → octets c (g r) ≤ octets c r) → (rows : List Row) (c : ℕ)
    → booked c (map g rows) ≤ booked c rows
unfolding booked
booked-map g h [] c = omega arith
booked-map g h (r ∷ rows) c = omega (arith, h c r, booked-map g h rows c)

pub weighed-less : (s : SetNumbers) (rows rows' : List Row) → ((c : ℕ) → booked c rows' ≤ booked c rows) → (c below : ℕ)
    → weighed s rows' c below ≤ weighed s rows c below
unfolding weighed
weighed-less s rows rows' h c zero = omega arith
weighed-less s rows rows' h c (suc f) =
    let a = weighed-less s rows rows' h c f in
    let b = mul-le-mul_left (cycle_of s c / cycle_of s f) (h f) in
    omega arith

-- No class below a number fails, as a test and as facts.
pub none_from : {X : Type 0} (o : Option X) → is_some o ≡ false → o ≡ None
none_from (Some x) e = nope (cc)
none_from None e = refl

pub from-none : {X : Type 0} (o : Option X) → o ≡ None → is_some o ≡ false
from-none o e = ap is_some e

or-none : (a b : Option BookFault) → or_else a b ≡ None → (a ≡ None) × (b ≡ None)
or-none (Some f) b e = nope (cc)
or-none None b e = (refl, e)

at_none : (s : SetNumbers) (rows : List Row) (c : ℕ) → over_at s rows c ≡ None → demand s rows c ≤ cycle_of s c
at_none s rows c e = go (ltb (cycle_of s c) (demand s rows c)) refl e
  where
    go : (x : Bool) → ltb (cycle_of s c) (demand s rows c) ≡ x
        → cond x (Some (Over c (demand s rows c - cycle_of s c))) None ≡ None → demand s rows c ≤ cycle_of s c
    go true p q = nope (cc)
    go false p q = ltb-false (cycle_of s c) (demand s rows c) p

pub over_none : (s : SetNumbers) (rows : List Row) (n : ℕ) → over_below s rows n ≡ None → (c : ℕ) → c < n
    → demand s rows c ≤ cycle_of s c
unfolding over_below
over_none s rows zero e c l = let w : ⊥ = omega arith in absurd w
over_none s rows (suc n) e c l =
    let p = or-none (over_below s rows n) (over_at s rows n) e in
    elim (cases_lt c n) [
      | inl k ↦ over_none s rows n p.0 c k
      | inr k ↦ let q : n ≡ c = omega arith in subst (λ x. demand s rows x ≤ cycle_of s x) q (at_none s rows n p.1)
    ]

pub none_over : (s : SetNumbers) (rows : List Row) (n : ℕ) → ((c : ℕ) → c < n → demand s rows c ≤ cycle_of s c)
    → over_below s rows n ≡ None
unfolding over_below
none_over s rows zero h = refl
none_over s rows (suc n) h =
    let a = none_over s rows n (λ c l. h c (omega arith)) in
    let test = le-ltb (cycle_of s n) (demand s rows n) (h n (omega arith)) in
    let b : over_at s rows n ≡ None = cond-false (ltb (cycle_of s n) (demand s rows n)) _ None test in
    rw (a, b)

pub within-from : (s : SetNumbers) (rows : List Row) → is_some (over_fault s rows) ≡ false → Within s rows
within-from s rows e = over_none s rows (class_count s) (none_from (over_fault s rows) e)

pub from-within : (s : SetNumbers) (rows : List Row) → Within s rows → is_some (over_fault s rows) ≡ false
from-within s rows h = from-none (over_fault s rows) (none_over s rows (class_count s) h)

-- What the fault of the lowest class that fails says.
pub record Lowest (s : SetNumbers) (rows : List Row) (n : ℕ) (f : BookFault) : Type 0 where
  pub class : ℕ
  pub there : class < n
  pub named : f ≡ Over class (demand s rows class - cycle_of s class)
  pub over : cycle_of s class < demand s rows class
  pub lower : (d : ℕ) → d < class → demand s rows d ≤ cycle_of s d

at_some : (s : SetNumbers) (rows : List Row) (c : ℕ) (f : BookFault) → over_at s rows c ≡ Some f
    → (f ≡ Over c (demand s rows c - cycle_of s c)) × (cycle_of s c < demand s rows c)
at_some s rows c f e = go (ltb (cycle_of s c) (demand s rows c)) refl e
  where
    go : (x : Bool) → ltb (cycle_of s c) (demand s rows c) ≡ x
        → cond x (Some (Over c (demand s rows c - cycle_of s c))) None ≡ Some f
        → (f ≡ Over c (demand s rows c - cycle_of s c)) × (cycle_of s c < demand s rows c)
    go true p q = (cc, ltb-true (cycle_of s c) (demand s rows c) p)
    go false p q = nope (cc)

pub over-found : (s : SetNumbers) (rows : List Row) (n : ℕ) (f : BookFault) → over_below s rows n ≡ Some f → Lowest s rows n f
unfolding over_below
over-found s rows zero f e = nope (cc)
over-found s rows (suc n) f e = go (over_below s rows n) refl e (over-found s rows n f)
  where
    go : (o : Option BookFault) → over_below s rows n ≡ o → or_else o (over_at s rows n) ≡ Some f
        → (over_below s rows n ≡ Some f → Lowest s rows n f) → Lowest s rows (suc n) f
    go (Some g) p q before =
        let l = before (p ∙ q) in
        record { class = l.class; there = omega (arith, l.there); named = l.named; over = l.over; lower = l.lower }
    go None p q before =
        let a = at_some s rows n f q in
        record { class = n; there = omega arith; named = a.0; over = a.1; lower = over_none s rows n p }

pub over-stays : (s : SetNumbers) (rows : List Row) (c n : ℕ) (f : BookFault) → over_below s rows c ≡ None
    → over_at s rows c ≡ Some f → c < n → over_below s rows n ≡ Some f
unfolding over_below
over-stays s rows c zero f e h l = let w : ⊥ = omega arith in absurd w
over-stays s rows c (suc n) f e h l =
    elim (cases_lt c n) [
      | inl k ↦ rw (over-stays s rows c n f e h k)
      | inr k ↦
          let q : c ≡ n = omega arith in
          let a : over_below s rows n ≡ None = subst (λ x. over_below s rows x ≡ None) q e in
          let b : over_at s rows n ≡ Some f = subst (λ x. over_at s rows x ≡ Some f) q h in
          rw (a, b)
    ]

-- Rows that book no more fail in no class.
pub over-less : (s : SetNumbers) (rows rows' : List Row) → ((c : ℕ) → booked c rows' ≤ booked c rows) → (n : ℕ)
    → is_some (over_below s rows n) ≡ false → is_some (over_below s rows' n) ≡ false
over-less s rows rows' h n e =
    let old = over_none s rows n (none_from (over_below s rows n) e) in
    from-none (over_below s rows' n) (none_over s rows' n (λ c l. omega (arith, old c l, weighed-less s rows rows' h c (suc c))))

-- What a row becomes books no more than the row did.
pub confirmed-books : (c : ℕ) (r : Row) → octets c (confirmed r) ≤ octets c r
confirmed-books c Free = omega arith
confirmed-books c (Held b) = omega arith
confirmed-books c (Live b) = omega arith
confirmed-books c (Leaving b q) = omega arith

pub dropped-books : (c : ℕ) (r : Row) → octets c (dropped r) ≤ octets c r
dropped-books c Free = omega arith
dropped-books c (Held b) = omega arith
dropped-books c (Live b) = omega arith
dropped-books c (Leaving b q) = omega arith

pub released-books : (s : SetNumbers) (t c : ℕ) (r : Row) → octets c (released s t r) ≤ octets c r
released-books s t c Free = omega arith
released-books s t c (Held b) = omega arith
released-books s t c (Live b) = omega arith
released-books s t c (Leaving b q) = omega arith

pub settled-books : (s : SetNumbers) (t c : ℕ) (r : Row) → octets c (settled s t r) ≤ octets c r
settled-books s t c Free = omega arith
settled-books s t c (Held b) = omega arith
settled-books s t c (Live b) = omega arith
settled-books s t c (Leaving b q) =
    cond_both (leb q (cycle_at (cycle_of s b.class) t)) Free (Leaving b q)
    (λ r. octets c r ≤ octets_in c b) (λ e. omega arith) (λ e. omega arith)

-- So each call but hold keeps the sums within the cycles.
pub over-set : (s : SetNumbers) (rows : List Row) (i : ℕ) (g : Row → Row) → ((c : ℕ) (r : Row) → octets c (g r) ≤ octets c r)
    → is_some (over_fault s rows) ≡ false → is_some (over_fault s (set rows i (g (get_or rows i Free)))) ≡ false
over-set s rows i g h =
    let r : Row = g (get_or rows i Free) in
    over-less s rows (set rows i r) (booked-set rows i r (λ c. h c (get_or rows i Free))) (class_count s)

pub over-confirmed : (s : SetNumbers) (rows : List Row) (i : ℕ) → is_some (over_fault s rows) ≡ false
    → is_some (over_fault s (set rows i (confirmed (get_or rows i Free)))) ≡ false
over-confirmed s rows i = over-set s rows i confirmed confirmed-books

pub over-dropped : (s : SetNumbers) (rows : List Row) (i : ℕ) → is_some (over_fault s rows) ≡ false
    → is_some (over_fault s (set rows i (dropped (get_or rows i Free)))) ≡ false
over-dropped s rows i = over-set s rows i dropped dropped-books

pub over-released : (s : SetNumbers) (t : ℕ) (rows : List Row) (i : ℕ) → is_some (over_fault s rows) ≡ false
    → is_some (over_fault s (set rows i (released s t (get_or rows i Free)))) ≡ false
over-released s t rows i = over-set s rows i (released s t) (released-books s t)

pub over-settled : (s : SetNumbers) (t : ℕ) (rows : List Row) → is_some (over_fault s rows) ≡ false
    → is_some (over_fault s (map (settled s t) rows)) ≡ false
over-settled s t rows = over-less s rows (map (settled s t) rows) (booked-map (settled s t) (settled-books s t) rows) (class_count s)

pub ruleset keeps = (over-confirmed, over-dropped, over-released)

-- A new book is within: the cycles grow from the first on, and that has room for the longest frame beside the dead time.
pub cycles-grow : (s : SetNumbers) → Legal s → (c : ℕ) → c < class_count s → cycle_of s 0 ≤ cycle_of s c
cycles-grow s h zero l = omega arith
cycles-grow s h (suc c) l =
    let a = cycles-grow s h c (omega arith) in
    let m = mul-le-mul_left (cycle_of s c) (h.twice c l) in
    omega (arith, a, m, h.whole c l)

booked-free : (n c : ℕ) → booked c (replicate n Free) ≡ 0
unfolding booked
booked-free zero c = refl
booked-free (suc n) c = omega (arith, booked-free n c)

weighed-free : (s : SetNumbers) (n c below : ℕ) → weighed s (replicate n Free) c below ≡ 0
unfolding weighed
weighed-free s n c zero = refl
weighed-free s n c (suc f) = rw (weighed-free s n c f, booked-free n f) (omega arith)

pub over-new : (s : SetNumbers) → Legal s → is_some (over_fault s (replicate 128 Free)) ≡ false
over-new s h = from-within s (replicate 128 Free) (λ c l. omega (arith, weighed-free s 128 c (suc c), cycles-grow s h c l, h.dead))
