-- A released row: it stays leaving while the clock is before the start of its cycle, and is free from then on.
use Rattle.std.proofs.Common.{◌≡◌, ℕ, ◌/◌, ◌<◌, ◌≤◌, Bool, true, false, not, ◌&&◌, eqb, leb, List, [], ◌∷◌, map, length, get_or, set, Some, Ok, Option, sym, refl, ap, ◌∙◌, subst, inl, inr, div-lt_iff_lt-mul, le-div_iff_mul-le, arith}
use lib.ListN.{get_or-map}
use Rattle.std.proofs.lemmas.List.{get_or-set_same, get_or-set_other, get_or_past, set-get_or}
use Rattle.std.proofs.lemmas.Bool.{cases_lt, cases_eq, le-leb, lt-leb, cond-true, cond-false, eq-eqb, and_parts, not-true, and_from}
use Rattle.book.specs.declared.rows.Booking.{Booking}
use Rattle.book.specs.declared.rows.Row.{Row}
use Rattle.book.specs.declared.rows.Row.TheVariants.{Free, Live, Leaving}
use Rattle.book.specs.Ticks.{start_of}
use Rattle.book.specs.Told.{SetNumbers, class_count, cycle_of, Legal}
use Rattle.book.specs.Rows.{holding, released, releasing, settled, leaves_at}
use Rattle.book.specs.Books.{BookState, row_of, changed, no_stream, released_by, release_of}
use Rattle.book.specs.Sequences.{Call, Hold, Release, next_of, accepted_of, after, is_hold_of, not_held_again, Leaves}
use Rattle.book.proofs.Within.{nope}
use Rattle.book.proofs.Steps.{Classed, Moves, refused, held, turned, moved, moves, clock-on}
use Rattle.book.proofs.Sound.{Sound, all-at, after-settings}

-- A row that a change leaves as it is stays, whichever row is changed.
row_kept : (rows : List Row) (x y : ℕ) (g : Row → Row) → g (get_or rows x Free) ≡ get_or rows x Free
    → get_or (set rows y (g (get_or rows y Free))) x Free ≡ get_or rows x Free
row_kept rows x y g h =
    elim (cases_eq x y) [
      | inl e ↦
          let k : g (get_or rows y Free) ≡ get_or rows y Free = subst (λ z. g (get_or rows z Free) ≡ get_or rows z Free) e h in
          ap (λ (r : Row). get_or (set rows y r) x Free) k ∙ ap (λ (l : List Row). get_or l x Free) (set-get_or rows y Free)
      | inr e ↦ get_or-set_other rows y x (g (get_or rows y Free)) Free e
    ]

row-turned : (b : BookState) (x y : ℕ) (g : Row → Row) (r : Row) → row_of b x ≡ r → g r ≡ r → row_of (changed b y g) x ≡ r
row-turned b x y g r w h = row_kept b.rows x y g (ap g w ∙ h ∙ sym w) ∙ w

row_settled : (b : BookState) (x t : ℕ) (r : Row) → row_of b x ≡ r
    → get_or (map (settled b.settings t) b.rows) x Free ≡ settled b.settings t r
row_settled b x t r w = get_or-map (settled b.settings t) b.rows x Free ∙ ap (settled b.settings t) w

settled-early : (s : SetNumbers) (t : ℕ) (k : Booking) (q : ℕ) → 0 < cycle_of s k.class
    → t < start_of (cycle_of s k.class) q → settled s t (Leaving k q) ≡ Leaving k q
settled-early s t k q pos l =
    let d : t / cycle_of s k.class < q = (div-lt_iff_lt-mul pos).1 l in
    cond-false (leb q (t / cycle_of s k.class)) Free (Leaving k q) (lt-leb q (t / cycle_of s k.class) d)

settled-due : (s : SetNumbers) (t : ℕ) (k : Booking) (q : ℕ) → 0 < cycle_of s k.class
    → start_of (cycle_of s k.class) q ≤ t → settled s t (Leaving k q) ≡ Free
settled-due s t k q pos l =
    let d : q ≤ t / cycle_of s k.class = (le-div_iff_mul-le pos).1 l in
    cond-true (leb q (t / cycle_of s k.class)) Free (Leaving k q) (le-leb q (t / cycle_of s k.class) d)

-- One call: a leaving row whose cycle has not come stays; the call in which it comes frees it; a free row stays till it is held.
leaving-stays : {b b' : BookState} {c : Call} (x : ℕ) (k : Booking) (q : ℕ) → Moves b c b'
    → 0 < cycle_of b.settings k.class
    → b'.clock < start_of (cycle_of b.settings k.class) q → row_of b x ≡ Leaving k q → row_of b' x ≡ Leaving k q
leaving-stays x k q (refused r) pos l w = w
leaving-stays {b} x k q (held y j a m i) pos l w = row-turned b x y (holding j) (Leaving k q) w refl
leaving-stays {b} x k q (turned y g a t) pos l w = row-turned b x y g (Leaving k q) w (t.leaving k q)
leaving-stays {b} x k q (moved t a m) pos l w = row_settled b x t (Leaving k q) w ∙ settled-early b.settings t k q pos l

leaving-freed : {b b' : BookState} {c : Call} (x : ℕ) (k : Booking) (q : ℕ) → Moves b c b'
    → 0 < cycle_of b.settings k.class
    → b.clock < start_of (cycle_of b.settings k.class) q → start_of (cycle_of b.settings k.class) q ≤ b'.clock
    → row_of b x ≡ Leaving k q → row_of b' x ≡ Free
leaving-freed x k q (refused r) pos l m w = let z : ⊥ = omega arith in absurd z
leaving-freed x k q (held y j a i n) pos l m w = let z : ⊥ = omega arith in absurd z
leaving-freed x k q (turned y g a t) pos l m w = let z : ⊥ = omega arith in absurd z
leaving-freed {b} x k q (moved t a i) pos l m w = row_settled b x t (Leaving k q) w ∙ settled-due b.settings t k q pos m

free_stays : {b b' : BookState} {c : Call} (x : ℕ) → Moves b c b' → (is_hold_of x c && accepted_of b c) ≡ false
    → row_of b x ≡ Free → row_of b' x ≡ Free
free_stays x (refused r) n w = w
free_stays {b} x (held y j a m i) n w =
    elim (cases_eq x y) [
      | inl e ↦ let p = and_from (eqb y x) (accepted_of b (Hold y j)) (eq-eqb y x (sym e)) a in nope (cc)
      | inr e ↦ get_or-set_other b.rows y x (holding j (row_of b y)) Free e ∙ w
    ]
free_stays {b} x (turned y g a t) n w = row-turned b x y g Free w t.free
free_stays {b} x (moved t a m) n w = row_settled b x t Free w

-- Over every sequence of calls from a book in which the row leaves.
module _ (b : BookState) (x : ℕ) (k : Booking) (q : ℕ) (pos : 0 < cycle_of b.settings k.class)
    (early : b.clock < start_of (cycle_of b.settings k.class) q) (leaves : row_of b x ≡ Leaving k q) where
  cycle-same : (g : List Call) → cycle_of b.settings k.class ≡ cycle_of (after g b).settings k.class
  cycle-same g = sym (ap (λ (s : SetNumbers). cycle_of s k.class) (after-settings b g))

  pub booked-before : (g : List Call) → (after g b).clock < start_of (cycle_of b.settings k.class) q
      → row_of (after g b) x ≡ Leaving k q
  unfolding after
  booked-before [] l = leaves
  booked-before (c ∷ g) l =
      let m = moves (after g b) c in
      let before = booked-before g (omega (arith, clock-on m)) in
      leaving-stays x k q m (subst (λ n. 0 < n) (cycle-same g) pos)
      (subst (λ n. (next_of (after g b) c).clock < start_of n q) (cycle-same g) l) before

  pub free-from : (g : List Call) → start_of (cycle_of b.settings k.class) q ≤ (after g b).clock
      → not_held_again x g b ≡ true → row_of (after g b) x ≡ Free
  unfolding after not_held_again
  free-from [] l n = let z : ⊥ = omega arith in absurd z
  free-from (c ∷ g) l n =
      let m = moves (after g b) c in
      let p = and_parts (not (is_hold_of x c && accepted_of (after g b) c)) (not_held_again x g b) n in
      elim (cases_lt (after g b).clock (start_of (cycle_of b.settings k.class) q)) [
        | inl i ↦ leaving-freed x k q m (subst (λ n. 0 < n) (cycle-same g) pos)
            (subst (λ n. (after g b).clock < start_of n q) (cycle-same g) i)
            (subst (λ n. start_of n q ≤ (next_of (after g b) c).clock) (cycle-same g) l) (booked-before g i)
        | inr i ↦ free_stays x m (not-true (is_hold_of x c && accepted_of (after g b) c) p.0) (free-from g i p.1)
      ]

-- What the release of a live row answers, and the book after it.
release-by : (b : BookState) (x p q : ℕ) (absent : Bool) → (released_by absent (Some p) b x).0 ≡ Ok q
    → (q ≡ p) × ((released_by absent (Some p) b x).1 ≡ changed b x (released b.settings b.clock))
release-by b x p q true e = nope (cc)
release-by b x p q false e = (cc, refl)

release_live : (b : BookState) (x : ℕ) (k : Booking) (q : ℕ) → row_of b x ≡ Live k → (release_of b x).0 ≡ Ok q
    → (q ≡ leaves_at b.settings b.clock k) × (next_of b (Release x) ≡ changed b x (released b.settings b.clock))
unfolding release_of
release_live b x k q w e =
    let at : ℕ = leaves_at b.settings b.clock k in
    let o : releasing b.settings b.clock (row_of b x) ≡ Some at = ap (releasing b.settings b.clock) w in
    let answer = ap (λ (p : Option ℕ). (released_by (no_stream x) p b x).0) o in
    let r = release-by b x at q (no_stream x) (sym answer ∙ e) in
    (r.0, ap (λ (p : Option ℕ). (released_by (no_stream x) p b x).1) o ∙ r.1)

-- A row that is not free is in the list.
row-there : (rows : List Row) (x : ℕ) (k : Booking) → get_or rows x Free ≡ Live k → x < length rows
row-there rows x k w =
    elim (cases_lt x (length rows)) [
      | inl l ↦ l
      | inr l ↦ let p = get_or_past rows x Free l in nope (cc)
    ]

pub leaves-on-time : (b : BookState) → Sound b → Legal b.settings → (x : ℕ) (k : Booking) (q : ℕ) → row_of b x ≡ Live k
    → (release_of b x).0 ≡ Ok q → Leaves b.settings b.clock x k q (next_of b (Release x))
leaves-on-time b sound legal x k q w e =
    let r = release_live b x k q w e in
    let next : BookState = changed b x (released b.settings b.clock) in
    let n : ℕ = class_count b.settings in
    let there : k.class < n = subst (Classed n) w (all-at (Classed n) tt b.rows sound.classed x) in
    let pos : 0 < cycle_of b.settings k.class = omega (arith, legal.least k.class there) in
    let later : b.clock / cycle_of b.settings k.class < q = omega (arith, r.0, legal.two_bins k.class there) in
    let early : b.clock < start_of (cycle_of b.settings k.class) q = (div-lt_iff_lt-mul pos).0 later in
    let at = get_or-set_same b.rows x (released b.settings b.clock (row_of b x)) Free (row-there b.rows x k w) in
    let left = ap (released b.settings b.clock) w in
    let row : row_of next x ≡ Leaving k q = at ∙ left ∙ ap (λ p. Leaving k p) (sym r.0) in
    subst (Leaves b.settings b.clock x k q) (sym r.1) (record {
      named = r.0;
      booked_before = booked-before next x k q pos early row;
      free_from = free-from next x k q pos early row;
    })
