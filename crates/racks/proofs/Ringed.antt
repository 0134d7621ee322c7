-- Rows: each bin a ring of places of its own. What a put and a take do to the lay, and why no place serves twice.
use Rattle.std.proofs.Common.{◌≡◌, ℕ, zero, suc, ◌+◌, ◌-◌, ◌*◌, ◌/◌, ◌%◌, ◌<◌, ◌≤◌, false, ◌||◌, leb, ◌⊎◌, List, [], ◌∷◌, ◌++◌, length, get_or, set, replicate, Some, None, Ok, sym, refl, ap, subst, ◌∙◌, inl, inr, ⊎_elim, mul-le-mul_right, mod-lt, mod-eq_of_lt, suc-mul, arith}
use native.Mathlib.Nat.{mod-add-mod, mod-eq-sub-mod}
use lib.Arith.{digits_div, digits_lt}
use Rattle.std.proofs.lemmas.List.{get_or-set_same, get_or-set_other}
use Rattle.std.proofs.lemmas.Bool.{cases_eq, cases_lt}
use Rattle.racks.specs.Bins.{bin_of, held_in, empty_bins, is_full, added, take_of}
use Rattle.racks.specs.Places.{FreshIn, Within, Given}
use Rattle.racks.specs.Rings.{ring, ring_end, row_of, rows_lay}
use Rattle.racks.proofs.Rules.{bin-there, put-at, take_at, held_in-set, held_in-added}
use Rattle.racks.proofs.Tables.{length-tabled, tab-at, tab-set, tab-empty}

-- A number below twice d, by d.
pub mod_cases : (x d : ℕ) → x < d + d → ((x < d) × (x % d ≡ x)) ⊎ ((d ≤ x) × (x % d + d ≡ x))
mod_cases x d h =
    ⊎_elim (λ l. inl (l, mod-eq_of_lt l))
    (λ l. let m : x - d < d = omega arith in
    let e : x % d ≡ x - d = mod-eq-sub-mod l ∙ mod-eq_of_lt m in
    inr (l, omega arith))
    (cases_lt x d)

-- Rings.
mod-step : (s u d : ℕ) → ((s + 1) % d + u) % d ≡ (s + suc u) % d
mod-step s u d = mod-add-mod (s + 1) d u ∙ ap (λ z. z % d) (omega arith)

mod-start : (s d : ℕ) → s < d → (s + 0) % d ≡ s
mod-start s d h = ap (λ z. z % d) (omega arith) ∙ mod-eq_of_lt h

length-ring : (base d s u : ℕ) → length (ring base d s u) ≡ u
length-ring base d s zero = refl
length-ring base d s (suc u) = ap suc (length-ring base d ((s + 1) % d) u)

ring-push : (base d s u : ℕ) → s < d → ring base d s (suc u) ≡ ring base d s u ++ ((base + (s + u) % d) ∷ [])
ring-push base d s zero h = ap (λ z. (base + z) ∷ []) (sym (mod-start s d h))
ring-push base d s (suc u) h =
    let l : (s + 1) % d < d = mod-lt (s + 1) (omega arith) in
    ap (λ (t : List ℕ). (base + s) ∷ t) (ring-push base d ((s + 1) % d) u l)
    ∙ ap (λ z. (base + s) ∷ (ring base d ((s + 1) % d) u ++ ((base + z) ∷ []))) (mod-step s u d)

ring-at : (base d s u k : ℕ) → s < d → k < u → get_or (ring base d s u) k 0 ≡ base + (s + k) % d
ring-at base d s zero k h l = absurd (omega arith)
ring-at base d s (suc u) zero h l = ap (λ z. base + z) (sym (mod-start s d h))
ring-at base d s (suc u) (suc k) h l =
    let m : (s + 1) % d < d = mod-lt (s + 1) (omega arith) in
    ring-at base d ((s + 1) % d) u k m (omega arith) ∙ ap (λ z. base + z) (mod-step s k d)

-- Places of one ring differ, and so do those of two rows.
apart-in-ring : (d s k u : ℕ) → s < d → k < u → u < d → (s + k) % d ≡ (s + u) % d → ⊥
apart-in-ring d s k u h l m e =
    ⊎_elim
    (λ p. ⊎_elim (λ q. omega (arith, p.0, p.1, q.0, q.1)) (λ q. omega (arith, p.0, p.1, q.0, q.1)) (mod_cases (s + u) d (omega arith)))
    (λ p. ⊎_elim (λ q. omega (arith, p.0, p.1, q.0, q.1)) (λ q. omega (arith, p.0, p.1, q.0, q.1)) (mod_cases (s + u) d (omega arith)))
    (mod_cases (s + k) d (omega arith))

same_row : (a b d m n : ℕ) → m < d → n < d → a * d + m ≡ b * d + n → a ≡ b
same_row a b d m n h l e = sym (digits_div a h) ∙ ap (λ z. z / d) e ∙ digits_div b l

module _ (n d : ℕ) (starts counts : List ℕ) where
  pub length-row : (b : ℕ) → b < n → length (bin_of (rows_lay n d starts counts) b) ≡ get_or counts b 0
  length-row b h = ap length (tab-at n (row_of d starts counts) b h) ∙ length-ring (b * d) d (get_or starts b 0) (get_or counts b 0)

  pub rows-there : (b : ℕ) → b < n → b < length (rows_lay n d starts counts)
  rows-there b h = omega (arith, length-tabled n (row_of d starts counts))

  -- A bin's count is part of the sum.
  pub held-row : (b : ℕ) → b < n → get_or counts b 0 ≤ held_in (rows_lay n d starts counts)
  held-row b h = omega (arith, length-row b h, held_in-set (rows_lay n d starts counts) b [] (rows-there b h))

  pub rows-full : (t b : ℕ) → b < n → is_full (rows_lay n d starts counts) d t b ≡ (leb d (get_or counts b 0) || leb t (held_in (rows_lay n d starts counts)))
  rows-full t b h = ap (λ u. leb d u || leb t (held_in (rows_lay n d starts counts))) (length-row b h)

  module _ (low : (b : ℕ) → b < n → get_or starts b 0 < d) where
    place_at : (b k : ℕ) → b < n → k < length (bin_of (rows_lay n d starts counts) b) → get_or (bin_of (rows_lay n d starts counts) b) k 0 ≡ b * d + (get_or starts b 0 + k) % d
    place_at b k h l =
        let m : k < get_or counts b 0 = omega (arith, length-row b h) in
        ap (λ (t : List ℕ). get_or t k 0) (tab-at n (row_of d starts counts) b h) ∙ ring-at (b * d) d (get_or starts b 0) (get_or counts b 0) k (low b h) m

    pub rows-within : Within (n * d) (rows_lay n d starts counts)
    rows-within b k h l =
        let hb : b < n = omega (arith, length-tabled n (row_of d starts counts)) in
        let m : (get_or starts b 0 + k) % d < d = mod-lt (get_or starts b 0 + k) (omega (arith, low b hb)) in
        let z = mul-le-mul_right {m = suc b} {n = n} d hb in
        omega (arith, place_at b k hb l, suc-mul b d)

    rows-fresh : (b : ℕ) → b < n → get_or counts b 0 < d → FreshIn (ring_end d b (get_or starts b 0) (get_or counts b 0)) (rows_lay n d starts counts)
    rows-fresh b hb f a k ha hk e =
        let la : a < n = omega (arith, length-tabled n (row_of d starts counts)) in
        let m1 : (get_or starts a 0 + k) % d < d = mod-lt (get_or starts a 0 + k) (omega (arith, low a la)) in
        let m2 : (get_or starts b 0 + get_or counts b 0) % d < d = mod-lt (get_or starts b 0 + get_or counts b 0) (omega (arith, low b hb)) in
        let p = place_at a k la hk in
        let q = same_row a b d _ _ m1 m2 (sym p ∙ e) in
        let hk2 : k < get_or counts b 0 = omega (arith, length-row a la, ap (λ z. get_or counts z 0) q) in
        let e2 : (get_or starts b 0 + k) % d ≡ (get_or starts b 0 + get_or counts b 0) % d = omega (arith, p, e, ap (λ z. z * d) q, ap (λ z. (get_or starts z 0 + k) % d) q) in
        apart-in-ring d (get_or starts b 0) k (get_or counts b 0) (low b hb) hk2 f e2

    -- The bin's count goes up: its ring has one more place at its end.
    module _ (b : ℕ) (hb : b < n) (hu : b < length counts) where
      rows-added : rows_lay n d starts (set counts b (get_or counts b 0 + 1)) ≡ added (rows_lay n d starts counts) b (ring_end d b (get_or starts b 0) (get_or counts b 0))
      rows-added =
          let one : get_or counts b 0 + 1 ≡ suc (get_or counts b 0) = omega arith in
          tab-set n (row_of d starts counts) (row_of d starts (set counts b (get_or counts b 0 + 1))) b _ hb
          (λ a l q. ap (λ z. ring (a * d) d (get_or starts a 0) z) (get_or-set_other counts b a (get_or counts b 0 + 1) 0 q))
          (ap (λ z. ring (b * d) d (get_or starts b 0) z) (get_or-set_same counts b (get_or counts b 0 + 1) 0 hu ∙ one)
          ∙ ring-push (b * d) d (get_or starts b 0) (get_or counts b 0) (low b hb)
          ∙ ap (λ (t : List ℕ). t ++ (ring_end d b (get_or starts b 0) (get_or counts b 0) ∷ [])) (sym (tab-at n (row_of d starts counts) b hb)))

      pub held-given : held_in (rows_lay n d starts (set counts b (get_or counts b 0 + 1))) ≡ held_in (rows_lay n d starts counts) + 1
      held-given = ap held_in rows-added ∙ held_in-added (rows_lay n d starts counts) b _ (rows-there b hb)

      pub rows-given : (t room : ℕ) → room ≡ n * d → get_or counts b 0 < d → (leb d (get_or counts b 0) || leb t (held_in (rows_lay n d starts counts))) ≡ false
          → Given (rows_lay n d starts counts) d t room b (Ok (ring_end d b (get_or starts b 0) (get_or counts b 0))) (rows_lay n d starts (set counts b (get_or counts b 0 + 1)))
      rows-given t room e f free =
          let z = mod-lt (get_or starts b 0 + get_or counts b 0) (omega (arith, low b hb)) in
          let inside : ring_end d b (get_or starts b 0) (get_or counts b 0) < n * d = digits_lt hb z in (
            put-at (rows_lay n d starts counts) b d t _ false false (bin-there (rows_lay n d starts counts) b (rows-there b hb)) (rows-full t b hb ∙ free)
                ∙ ap (λ (w : List (List ℕ)). (Ok tt, w)) (sym rows-added),
            rows-fresh b hb f,
            omega (arith, inside, e),
          )

  -- The bin's start goes on and its count down: its ring loses its first place.
  module _ (b m next : ℕ) (hb : b < n) (hu : b < length counts) (hs : b < length starts) (e : get_or counts b 0 ≡ suc m) (on : next ≡ (get_or starts b 0 + 1) % d) where
    row-head : bin_of (rows_lay n d starts counts) b ≡ (b * d + get_or starts b 0) ∷ ring (b * d) d next m
    row-head =
        tab-at n (row_of d starts counts) b hb ∙ ap (λ z. ring (b * d) d (get_or starts b 0) z) e
        ∙ ap (λ z. (b * d + get_or starts b 0) ∷ ring (b * d) d z m) (sym on)

    rows_left : rows_lay n d (set starts b next) (set counts b m) ≡ set (rows_lay n d starts counts) b (ring (b * d) d next m)
    rows_left =
        tab-set n (row_of d starts counts) (row_of d (set starts b next) (set counts b m)) b _ hb
        (λ a l q. ap (λ z. ring (a * d) d z (get_or (set counts b m) a 0)) (get_or-set_other starts b a next 0 q)
        ∙ ap (λ z. ring (a * d) d (get_or starts a 0) z) (get_or-set_other counts b a m 0 q))
        (ap (λ z. ring (b * d) d z (get_or (set counts b m) b 0)) (get_or-set_same starts b next 0 hs)
        ∙ ap (λ z. ring (b * d) d next z) (get_or-set_same counts b m 0 hu))

    pub held-freed : held_in (rows_lay n d (set starts b next) (set counts b m)) + 1 ≡ held_in (rows_lay n d starts counts)
    held-freed =
        omega (
          arith,
          ap held_in rows_left,
          ap length row-head,
          length-ring (b * d) d next m,
          held_in-set (rows_lay n d starts counts) b (ring (b * d) d next m) (rows-there b hb),
        )

    pub rows-freed : take_of (rows_lay n d starts counts) b ≡ (Ok (Some (b * d + get_or starts b 0)), rows_lay n d (set starts b next) (set counts b m))
    rows-freed =
        take_at (rows_lay n d starts counts) b false _ (bin-there (rows_lay n d starts counts) b (rows-there b hb)) row-head
        ∙ ap (λ (w : List (List ℕ)). (Ok (Some (b * d + get_or starts b 0)), w)) (sym rows_left)

  pub row-none : (b : ℕ) → b < n → get_or counts b 0 ≡ 0 → take_of (rows_lay n d starts counts) b ≡ (Ok None, rows_lay n d starts counts)
  row-none b hb e =
      take_at (rows_lay n d starts counts) b false [] (bin-there (rows_lay n d starts counts) b (rows-there b hb))
      (tab-at n (row_of d starts counts) b hb ∙ ap (λ z. ring (b * d) d (get_or starts b 0) z) e)

-- What holds of every item of a list, where one of them changes.
keep : (P : ℕ → Type 0) (n : ℕ) (xs : List ℕ) (b v : ℕ) → b < length xs → ((a : ℕ) → a < n → P (get_or xs a 0)) → P v → (a : ℕ) → a < n → P (get_or (set xs b v) a 0)
keep P n xs b v hb h hv a l =
    ⊎_elim (λ q. subst P (sym (ap (λ z. get_or (set xs b v) z 0) q ∙ get_or-set_same xs b v 0 hb)) hv)
    (λ q. subst P (sym (get_or-set_other xs b a v 0 q)) (h a l)) (cases_eq a b)

-- What well-kept rows say of their rings, and keep when a place is given or freed.
pub record Kept (n d held : ℕ) (starts counts : List ℕ) : Type 0 where
  pub starts_within : (b : ℕ) → b < n → get_or starts b 0 < d
  pub counts_within : (b : ℕ) → b < n → get_or counts b 0 ≤ d
  pub sum : held ≡ held_in (rows_lay n d starts counts)

module _ {n d held : ℕ} {starts counts : List ℕ} (k : Kept n d held starts counts) (b : ℕ) (hb : b < n) (hu : b < length counts) where
  pub kept-given : (starts2 counts2 : List ℕ) → get_or counts b 0 < d → starts2 ≡ starts → counts2 ≡ set counts b (get_or counts b 0 + 1) → Kept n d (held + 1) starts2 counts2
  kept-given starts2 counts2 f es ec = rw (es, ec) (record {
    starts_within = k.starts_within;
    counts_within = keep (λ z. z ≤ d) n counts b (get_or counts b 0 + 1) hu k.counts_within (omega arith);
    sum = omega (arith, k.sum, held-given n d starts counts k.starts_within b hb hu);
  })

  pub kept-freed : (m next : ℕ) (starts2 counts2 : List ℕ) → b < length starts → get_or counts b 0 ≡ suc m → next ≡ (get_or starts b 0 + 1) % d → next < d
      → starts2 ≡ set starts b next → counts2 ≡ set counts b m → Kept n d (held - 1) starts2 counts2
  kept-freed m next starts2 counts2 hs e on low es ec = rw (es, ec) (record {
    starts_within = keep (λ z. z < d) n starts b next hs k.starts_within low;
    counts_within = keep (λ z. z ≤ d) n counts b m hu k.counts_within (omega (arith, k.counts_within b hb));
    sum = omega (arith, k.sum, held-freed n d starts counts b m next hb hu hs e on);
  })

-- New rows.
pub get_or-zeros : (n b : ℕ) → get_or {A = ℕ} (replicate n 0) b 0 ≡ 0
get_or-zeros zero b = refl
get_or-zeros (suc n) zero = refl
get_or-zeros (suc n) (suc b) = get_or-zeros n b

pub rows_empty : (n d : ℕ) (starts counts : List ℕ) → ((b : ℕ) → get_or counts b 0 ≡ 0) → rows_lay n d starts counts ≡ empty_bins n
rows_empty n d starts counts h = tab-empty n (row_of d starts counts) (λ a l. ap (λ z. ring (a * d) d (get_or starts a 0) z) (h a))
