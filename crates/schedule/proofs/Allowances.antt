-- What the rows allow: no stream has more in a cycle than its row allows there, and the rows' bookings are admitted.
-- It is kept when the clock moves on, when a row changes, when leaving rows are freed, and when a load is put.
use Rattle.std.proofs.Common.{◌≡◌, ℕ, suc, ◌+◌, ◌<◌, ◌≤◌, Bool, true, false, cond, eqb, ltb, leb, List, [], ◌∷◌, ◌++◌, map, length, get_or, set, is_some, sym, refl, ap, ◌∙◌, subst, arith}
use native.Mathlib.Decide.{ℕ_discrete}
use lib.ListN.{get_or-map}
use Rattle.std.specs.List.{AllByRecursion as All}
use Rattle.std.proofs.lemmas.List.{length-map, length-set, get_or-set_same, get_or-set_other}
use Rattle.std.proofs.ByRecursion.{All-push}
use Rattle.std.proofs.lemmas.Bool.{eq-eqb, ne_eqb, le-ltb, leb-true, ltb-false, cond-true, cond-false, cond_both}
use Rattle.book.specs.declared.rows.Booking.{Booking}
use Rattle.book.specs.declared.rows.Row.{Row}
use Rattle.book.specs.declared.rows.Row.TheVariants.{Free, Held, Live, Leaving}
use Rattle.book.specs.Told.{SetNumbers, Legal, class_count, input_count, cycle_of, bins_of}
use Rattle.book.specs.Rows.{octets_in, octets, booked, settled, leaves_at}
use Rattle.book.specs.Sums.{over_fault}
use Rattle.book.proofs.Within.{over-settled}
use Rattle.schedule.specs.Bins.{current_of}
use Rattle.schedule.specs.Wires.{Loads, wire_octets}
use Rattle.schedule.specs.Histories.{octets_of, octets_for}
use Rattle.schedule.specs.Laws.{allowed}
use Rattle.schedule.proofs.Cycles.{times_in, nested, rolls}
use Rattle.schedule.proofs.Octets.{all-booked, for-push}
use Rattle.schedule.proofs.Rings.{Else}
use Rattle.schedule.proofs.Sound.{at_each}

-- A booking that a hold took: its class and input are there, and its quota holds its longest frame.
pub record FairBooking (s : SetNumbers) (k : Booking) : Type 0 where
  pub class : k.class < class_count s
  pub input : k.input < input_count s
  pub longest : k.longest ≤ 1522
  pub quota : k.longest + 20 ≤ k.quota

abbrev pub Fair : SetNumbers → Row → Type 0
Fair s Free = Unit {0}
Fair s (Held k) = FairBooking s k
Fair s (Live k) = FairBooking s k
Fair s (Leaving k u) = FairBooking s k

in-other : (c : ℕ) (k : Booking) → (k.class ≡ c → ⊥) → octets_in c k ≡ 0
in-other c k h = cond-false (eqb k.class c) k.quota 0 (ne_eqb k.class c h)

in-own : (c : ℕ) (k : Booking) → k.class ≡ c → octets_in c k ≡ k.quota
in-own c k h = cond-true (eqb k.class c) k.quota 0 (eq-eqb k.class c h)

-- A row allows no more than it books.
allowed-booked : (c q : ℕ) (r : Row) → allowed c q r ≤ octets c r
allowed-booked c q Free = omega arith
allowed-booked c q (Held k) = omega arith
allowed-booked c q (Live k) = omega arith
allowed-booked c q (Leaving k u) = cond_both (ltb q u) (octets_in c k) 0 (λ x. x ≤ octets_in c k) (λ e. omega arith) (λ e. omega arith)

-- A row that is freed since its cycle has come allowed nothing more, in cycles that have not ended.
settled-allows : (s : SetNumbers) (t : ℕ) (r : Row) (c q : ℕ) → current_of s t c ≤ q → allowed c q r ≤ allowed c q (settled s t r)
settled-allows s t Free c q h = omega arith
settled-allows s t (Held k) c q h = omega arith
settled-allows s t (Live k) c q h = omega arith
settled-allows s t (Leaving k u) c q h = go (leb u (current_of s t k.class)) refl (ℕ_discrete k.class c)
  where
    go : (x : Bool) → leb u (current_of s t k.class) ≡ x → Dec (k.class ≡ c) → cond (ltb q u) (octets_in c k) 0 ≤ allowed c q (cond x Free (Leaving k u))
    go false e d = omega arith
    go true e (yes d) =
        let v : u ≤ current_of s t c = subst (λ z. u ≤ current_of s t z) d (leb-true u (current_of s t k.class) e) in
        omega (arith, cond-false (ltb q u) (octets_in c k) 0 (le-ltb q u (omega arith)))
    go true e (no d) = cond_both (ltb q u) (octets_in c k) 0 (λ x. x ≤ 0) (λ z. omega (arith, in-other c k d)) (λ z. omega arith)

settled-fair : (s : SetNumbers) (t : ℕ) (r : Row) → Fair s r → Fair s (settled s t r)
settled-fair s t Free h = h
settled-fair s t (Held k) h = h
settled-fair s t (Live k) h = h
settled-fair s t (Leaving k u) h = cond_both (leb u (current_of s t k.class)) Free (Leaving k u) (Fair s) (λ e. tt) (λ e. h)

-- What holds of each row holds after a write.
pub set-each : (P : ℕ → Row → Type 0) (rows : List Row) (i : ℕ) (r : Row) → i < length rows → P i r
    → ((j : ℕ) → P j (get_or rows j Free)) → (j : ℕ) → P j (get_or (set rows i r) j Free)
set-each P rows i r l h a j = go (ℕ_discrete j i)
  where
    go : Dec (j ≡ i) → P j (get_or (set rows i r) j Free)
    go (yes e) = subst (λ k. P k (get_or (set rows i r) k Free)) (sym e) (subst (P i) (sym (get_or-set_same rows i r Free l)) h)
    go (no e) = subst (P j) (sym (get_or-set_other rows i j r Free e)) (a j)

module _ {L : Type 0} (loads : Loads L) (s : SetNumbers) where
  pub record Booked (t : ℕ) (rows : List Row) (G : ℕ → ℕ → List L) : Type 0 where
    pub full : length rows ≡ 128
    pub streams : (c q : ℕ) → All (λ x. loads.stream_of x < length rows) (G c q)
    pub shares : (i c q : ℕ) → c < class_count s → current_of s t c ≤ q → octets_for loads i (G c q) ≤ allowed c q (get_or rows i Free)
    pub fair : (i : ℕ) → Fair s (get_or rows i Free)
    pub within : is_some (over_fault s rows) ≡ false

  module _ (t : ℕ) (rows : List Row) (G : ℕ → ℕ → List L) (book : Booked t rows G) where
    pub in-book : (c q : ℕ) → c < class_count s → current_of s t c ≤ q → octets_of loads (G c q) ≤ booked c rows
    in-book c q l h = all-booked loads c rows (G c q) (book.streams c q)
        (λ i. omega (arith, book.shares i c q l h, allowed-booked c q (get_or rows i Free)))

    pub book-later : Legal s → Booked (suc t) rows G
    book-later legal = record {
      full = book.full;
      streams = book.streams;
      shares = λ i c q l h. book.shares i c q l (omega (arith, rolls (cycle_of s) (times_in s) (class_count s) (nested s legal) t c l));
      fair = book.fair;
      within = book.within;
    }

    pub book-settled : Booked t (map (settled s t) rows) G
    book-settled = record {
      full = length-map rows (settled s t) ∙ book.full;
      streams = λ c q. subst (λ n. All (λ x. loads.stream_of x < n) (G c q)) (sym (length-map rows (settled s t))) (book.streams c q);
      shares = λ i c q l h. subst (λ r. octets_for loads i (G c q) ≤ allowed c q r) (sym (at i))
          (omega (arith, book.shares i c q l h, settled-allows s t (get_or rows i Free) c q h));
      fair = λ i. subst (Fair s) (sym (at i)) (settled-fair s t (get_or rows i Free) (book.fair i));
      within = over-settled s t rows book.within;
    }
      where
        at : (i : ℕ) → get_or (map (settled s t) rows) i Free ≡ settled s t (get_or rows i Free)
        at i = get_or-map (settled s t) rows i Free

    -- A row changes to one that allows all that its stream has.
    pub book-changed : (i : ℕ) (r : Row) → i < length rows → Fair s r
        → ((c q : ℕ) → c < class_count s → current_of s t c ≤ q → octets_for loads i (G c q) ≤ allowed c q r)
        → is_some (over_fault s (set rows i r)) ≡ false → Booked t (set rows i r) G
    book-changed i r l f h w = record {
      full = length-set rows i r ∙ book.full;
      streams = λ c q. subst (λ n. All (λ x. loads.stream_of x < n) (G c q)) (sym (length-set rows i r)) (book.streams c q);
      shares = λ j c q k g. set-each (λ j x. octets_for loads j (G c q) ≤ allowed c q x) rows i r l (h c q k g) (λ j. book.shares j c q k g) j;
      fair = set-each (λ j x. Fair s x) rows i r l f book.fair;
      within = w;
    }

    -- What a stream has, by its row.
    has : (i : ℕ) (r : Row) → get_or rows i Free ≡ r → (c q : ℕ) → c < class_count s → current_of s t c ≤ q → octets_for loads i (G c q) ≤ allowed c q r
    has i r e c q l h = subst (λ r. octets_for loads i (G c q) ≤ allowed c q r) e (book.shares i c q l h)

    pub book-held : (i : ℕ) (k : Booking) → i < length rows → get_or rows i Free ≡ Free → FairBooking s k
        → is_some (over_fault s (set rows i (Held k))) ≡ false → Booked t (set rows i (Held k)) G
    book-held i k l e f w = book-changed i (Held k) l f (has i Free e) w

    pub book-confirmed : (i : ℕ) (k : Booking) → i < length rows → get_or rows i Free ≡ Held k
        → is_some (over_fault s (set rows i (Live k))) ≡ false → Booked t (set rows i (Live k)) G
    book-confirmed i k l e w = book-changed i (Live k) l (subst (Fair s) e (book.fair i)) (λ c q n h. omega (arith, has i (Held k) e c q n h)) w

    pub book-dropped : (i : ℕ) (k : Booking) → i < length rows → get_or rows i Free ≡ Held k
        → is_some (over_fault s (set rows i Free)) ≡ false → Booked t (set rows i Free) G
    book-dropped i k l e w = book-changed i Free l tt (has i (Held k) e) w

    -- A released row allows the cycles that have a bin, and none was given a later one.
    pub book-released : (i : ℕ) (k : Booking) → i < length rows → get_or rows i Free ≡ Live k
        → ((c q : ℕ) → c < class_count s → current_of s t c + bins_of s c ≤ q → G c q ≡ [])
        → is_some (over_fault s (set rows i (Leaving k (leaves_at s t k)))) ≡ false → Booked t (set rows i (Leaving k (leaves_at s t k))) G
    unfolding octets_for
    book-released i k l e far w = book-changed i (Leaving k u) l (subst (Fair s) e (book.fair i))
        (λ c q n h. go c q n h (ltb q u) refl (ℕ_discrete k.class c)) w
      where
        u : ℕ
        u = leaves_at s t k

        go : (c q : ℕ) → c < class_count s → current_of s t c ≤ q → (x : Bool) → ltb q u ≡ x → Dec (k.class ≡ c)
            → octets_for loads i (G c q) ≤ cond x (octets_in c k) 0
        go c q n h true x d = has i (Live k) e c q n h
        go c q n h false x (no d) = omega (arith, has i (Live k) e c q n h, in-other c k d)
        go c q n h false x (yes d) =
            let v : current_of s t c + bins_of s c ≤ q = subst (λ z. current_of s t z + bins_of s z ≤ q) d (ltb-false q u x) in
            omega (arith, ap (octets_for loads i) (far c q n v))

    pub book-put : (q : ℕ) (x : L) (k : Booking) (G' : ℕ → ℕ → List L) → loads.stream_of x < length rows
        → get_or rows (loads.stream_of x) Free ≡ Live k
        → octets_for loads (loads.stream_of x) (G k.class q) + wire_octets loads x ≤ k.quota
        → G' k.class q ≡ G k.class q ++ (x ∷ []) → Else k.class q G G' → Booked t rows G'
    book-put q x k G' l e fits more others = record {
      full = book.full;
      streams = at_each (λ d r. All (λ y. loads.stream_of y < length rows) (G' d r)) k.class q
          (subst (All (λ y. loads.stream_of y < length rows)) (sym more) (All-push (λ y. loads.stream_of y < length rows) (G k.class q) x (book.streams k.class q) l))
          (λ d r a. subst (All (λ y. loads.stream_of y < length rows)) (others d r a) (book.streams d r));
      shares = λ i. at_each (λ d r. d < class_count s → current_of s t d ≤ r → octets_for loads i (G' d r) ≤ allowed d r (get_or rows i Free)) k.class q
          (λ n h. own i n h (ℕ_discrete (loads.stream_of x) i))
          (λ d r a n h. subst (λ z. octets_for loads i z ≤ allowed d r (get_or rows i Free)) (others d r a) (book.shares i d r n h));
      fair = book.fair;
      within = book.within;
    }
      where
        pushed : (i : ℕ) → octets_for loads i (G' k.class q) ≡ octets_for loads i (G k.class q) + cond (eqb (loads.stream_of x) i) (wire_octets loads x) 0
        pushed i = ap (octets_for loads i) more ∙ for-push loads i (G k.class q) x

        own : (i : ℕ) → k.class < class_count s → current_of s t k.class ≤ q → Dec (loads.stream_of x ≡ i)
            → octets_for loads i (G' k.class q) ≤ allowed k.class q (get_or rows i Free)
        own i n h (no v) = omega (arith, pushed i, book.shares i k.class q n h, cond-false (eqb (loads.stream_of x) i) (wire_octets loads x) 0 (ne_eqb (loads.stream_of x) i v))
        own i n h (yes v) =
            let el : get_or rows i Free ≡ Live k = subst (λ z. get_or rows z Free ≡ Live k) v e in
            let f : octets_for loads i (G k.class q) + wire_octets loads x ≤ k.quota = subst (λ z. octets_for loads z (G k.class q) + wire_octets loads x ≤ k.quota) v fits in
            subst (λ z. octets_for loads i (G' k.class q) ≤ allowed k.class q z) (sym el)
            (omega (arith, f, pushed i, cond-true (eqb (loads.stream_of x) i) (wire_octets loads x) 0 (eq-eqb (loads.stream_of x) i v), in-own k.class k refl))
