-- The calls on rows: the bin's ring is read, one ring is written back.
use Rattle.std.proofs.Common.{◌≡◌, ℕ, suc, ◌+◌, ◌-◌, ◌*◌, ◌%◌, ◌<◌, false, ◌||◌, leb, List, length, get_or, set, Some, Ok, sym, refl, ap, ◌∙◌, arith}
use Rattle.std.proofs.lemmas.List.{length-map, map-set, set-get_or}
use Rattle.std.proofs.Math.ListN.{get_or-map}
use Rattle.std.proofs.lemmas.Bool.{leb-false, or_parts}
use Rattle.racks.specs.declared.rows.RowSlots.{RowSlots}
use Rattle.racks.specs.declared.rings.Ring.{Ring}
use Rattle.racks.specs.Bins.{is_full, take_of}
use Rattle.racks.specs.Places.{Given}
use Rattle.racks.specs.Rings.{starts_of, counts_of, rows_lay}
use Rattle.racks.proofs.Ringed.{rows-full, rows-given, rows-freed, held-row, Kept, kept-given, kept-freed}

-- What stands past the end of a list of rings, for reads that never go there.
abbrev pub nil : Ring
nil = record { start = 0; count = 0 }

module _ (s : RowSlots) (b : ℕ) (long : length s.rings ≡ 32) (hb : b < s.plan.numbers.bins) (r : Ring)
    (rs : r.start ≡ get_or (starts_of s.rings) b 0) (rc : r.count ≡ get_or (counts_of s.rings) b 0) where
  start-at : (get_or s.rings b nil).start ≡ get_or (starts_of s.rings) b 0
  start-at = sym (get_or-map (λ q. q.start) s.rings b nil)

  count-at : (get_or s.rings b nil).count ≡ get_or (counts_of s.rings) b 0
  count-at = sym (get_or-map (λ q. q.count) s.rings b nil)

  abbrev pub lay : List (List ℕ)
  lay = rows_lay s.plan.numbers.bins s.plan.numbers.depth (starts_of s.rings) (counts_of s.rings)

  kept : Kept s.plan.numbers.bins s.plan.numbers.depth s.held (starts_of s.rings) (counts_of s.rings)
  kept = record { starts_within = s.starts_within; counts_within = s.counts_within; sum = s.sum }

  starts-long : b < length (starts_of s.rings)
  starts-long = omega (arith, s.plan.few_bins, length-map s.rings (λ q. q.start))

  counts-long : b < length (counts_of s.rings)
  counts-long = omega (arith, s.plan.few_bins, length-map s.rings (λ q. q.count))

  pub full-is : is_full lay s.plan.numbers.depth s.plan.numbers.total b ≡ (leb s.plan.numbers.depth r.count || leb s.plan.numbers.total s.held)
  full-is =
      let n = s.plan.numbers in
      rows-full n.bins n.depth (starts_of s.rings) (counts_of s.rings) n.total b hb
      ∙ ap (λ h. leb n.depth (get_or (counts_of s.rings) b 0) || leb n.total h) (sym s.sum)
      ∙ ap (λ u. leb n.depth u || leb n.total s.held) (sym rc)

  module _ (r2 : Ring) (e1 : r2.start ≡ (get_or s.rings b nil).start) (e2 : r2.count ≡ (get_or s.rings b nil).count + 1) (free : (leb s.plan.numbers.depth r.count || leb s.plan.numbers.total s.held) ≡ false) where
    given-starts : starts_of (set s.rings b r2) ≡ starts_of s.rings
    given-starts = map-set (λ q. q.start) s.rings b r2 ∙ ap (λ z. set (starts_of s.rings) b z) (e1 ∙ start-at) ∙ set-get_or (starts_of s.rings) b 0

    given-counts : counts_of (set s.rings b r2) ≡ set (counts_of s.rings) b (get_or (counts_of s.rings) b 0 + 1)
    given-counts = map-set (λ q. q.count) s.rings b r2 ∙ ap (λ z. set (counts_of s.rings) b z) (e2 ∙ ap (λ u. u + 1) count-at)

    room : get_or (counts_of s.rings) b 0 < s.plan.numbers.depth
    room = omega (arith, rc, leb-false s.plan.numbers.depth r.count (or_parts (leb s.plan.numbers.depth r.count) (leb s.plan.numbers.total s.held) free).0)

    pub given-kept : Kept s.plan.numbers.bins s.plan.numbers.depth (s.held + 1) (starts_of (set s.rings b r2)) (counts_of (set s.rings b r2))
    given-kept = kept-given kept b hb counts-long (starts_of (set s.rings b r2)) (counts_of (set s.rings b r2)) room given-starts given-counts

    pub given-is : (place : ℕ) → place ≡ b * s.plan.numbers.depth + (r.start + r.count) % s.plan.numbers.depth
        → Given lay s.plan.numbers.depth s.plan.numbers.total (s.plan.numbers.bins * s.plan.numbers.depth) b (Ok place)
        (rows_lay s.plan.numbers.bins s.plan.numbers.depth (starts_of (set s.rings b r2)) (counts_of (set s.rings b r2)))
    given-is place e =
        let n = s.plan.numbers in
        let full = sym (rows-full n.bins n.depth (starts_of s.rings) (counts_of s.rings) n.total b hb) ∙ full-is ∙ free in
        rw (e, rs, rc, given-starts, given-counts)
        (rows-given n.bins n.depth (starts_of s.rings) (counts_of s.rings) s.starts_within b hb counts-long n.total (n.bins * n.depth) refl room full)

  -- The ring has places, and loses its oldest.
  module _ (m : ℕ) (some : r.count ≡ suc m) (r2 : Ring) (e1 : r2.start ≡ ((get_or s.rings b nil).start + 1) % s.plan.numbers.depth) (low : r2.start < s.plan.numbers.depth) (e2 : r2.count ≡ (get_or s.rings b nil).count - 1) where
    freed-starts : starts_of (set s.rings b r2) ≡ set (starts_of s.rings) b r2.start
    freed-starts = map-set (λ q. q.start) s.rings b r2

    freed-counts : counts_of (set s.rings b r2) ≡ set (counts_of s.rings) b m
    freed-counts = map-set (λ q. q.count) s.rings b r2 ∙ ap (λ z. set (counts_of s.rings) b z) (omega (arith, some, e2, rc, count-at))

    has : get_or (counts_of s.rings) b 0 ≡ suc m
    has = sym rc ∙ some

    on : r2.start ≡ (get_or (starts_of s.rings) b 0 + 1) % s.plan.numbers.depth
    on = e1 ∙ ap (λ z. (z + 1) % s.plan.numbers.depth) start-at

    pub some-held : 0 < s.held
    some-held = omega (arith, has, s.sum, held-row s.plan.numbers.bins s.plan.numbers.depth (starts_of s.rings) (counts_of s.rings) b hb)

    pub freed-kept : Kept s.plan.numbers.bins s.plan.numbers.depth (s.held - 1) (starts_of (set s.rings b r2)) (counts_of (set s.rings b r2))
    freed-kept = kept-freed kept b hb counts-long m r2.start (starts_of (set s.rings b r2)) (counts_of (set s.rings b r2)) starts-long has on low freed-starts freed-counts

    pub freed-is : (place : ℕ) → place ≡ b * s.plan.numbers.depth + r.start
        → take_of lay b ≡ (Ok (Some place), rows_lay s.plan.numbers.bins s.plan.numbers.depth (starts_of (set s.rings b r2)) (counts_of (set s.rings b r2)))
    freed-is place e =
        let n = s.plan.numbers in
        rw (e, rs, freed-starts, freed-counts)
        (rows-freed n.bins n.depth (starts_of s.rings) (counts_of s.rings) b m r2.start hb counts-long starts-long has on)
