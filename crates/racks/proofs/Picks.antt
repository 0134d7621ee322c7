-- The bins that a lay makes of a list of places: what a write, a put and a take do to them.
use Rattle.std.proofs.Common.{◌≡◌, ℕ, zero, suc, ◌<◌, ◌≤◌, Bool, true, false, not, ◌||◌, eqb, ltb, leb, List, [], ◌∷◌, ◌++◌, map, length, get_or, set, Some, None, Ok, Err, sym, refl, ap, ◌∙◌, ⊎_elim, arith}
use Rattle.std.proofs.lemmas.List.{append-nil, append_assoc, length-append, length-set, length-map, map-set, get_or-map, ext_get_or}
use Rattle.std.proofs.lemmas.Bool.{cases_Bool, cases_lt, le-leb, lt-leb, cond-true, cond-false, or_right}
use Rattle.racks.specs.declared.faults.RackFault.{RackFault}
use Rattle.racks.specs.declared.faults.RackFault.TheVariants.{NotThere, Full}
use Rattle.racks.specs.Bins.{bin_of, held_in, is_empty, empty_bins, no_bin, is_full, added, put_by, put_of, take_of, count_by, count_of}
use Rattle.racks.specs.Places.{FreshIn, Within, Given, at, picked, nothing, bins_over, total_over}
use Rattle.racks.proofs.Rules.{bin-there, there-bin, put-at, take_at, count_at, put-accepted, refused-by, took-some, took-none, took-err}

-- One place.
at_set_same : {L : Type 0} (ps : List L) (i : ℕ) (x : L) → i < length ps → at (set ps i x) i ≡ x ∷ []
at_set_same [] i x h = absurd (omega arith)
at_set_same (p ∷ ps) zero x h = refl
at_set_same (p ∷ ps) (suc i) x h = at_set_same ps i x (omega arith)

at_set_other : {L : Type 0} (ps : List L) (i j : ℕ) (x : L) → (i ≡ j → ⊥) → at (set ps j x) i ≡ at ps i
at_set_other [] i j x h = refl
at_set_other (p ∷ ps) zero zero x h = absurd (h refl)
at_set_other (p ∷ ps) zero (suc j) x h = refl
at_set_other (p ∷ ps) (suc i) zero x h = refl
at_set_other (p ∷ ps) (suc i) (suc j) x h = at_set_other ps i j x (λ e. h (ap suc e))

pub at_read : {L : Type 0} (ps : List L) (i : ℕ) (x : L) → i < length ps → x ≡ get_or ps i x → at ps i ≡ x ∷ []
at_read [] i x h e = absurd (omega arith)
at_read (p ∷ ps) zero x h e = ap (λ y. y ∷ []) (sym e)
at_read (p ∷ ps) (suc i) x h e = at_read ps i x (omega arith) e

length_at : {L : Type 0} (ps : List L) (i : ℕ) → i < length ps → length (at ps i) ≡ 1
length_at [] i h = absurd (omega arith)
length_at (p ∷ ps) zero h = refl
length_at (p ∷ ps) (suc i) h = length_at ps i (omega arith)

-- The places of one bin.
picked-set : {L : Type 0} (ps : List L) (is : List ℕ) (j : ℕ) (x : L) → ((k : ℕ) → k < length is → get_or is k 0 ≡ j → ⊥) → picked (set ps j x) is ≡ picked ps is
picked-set ps [] j x h = refl
picked-set ps (i ∷ is) j x h =
    let a = at_set_other ps i j x (h 0 (omega arith)) in
    let b = picked-set ps is j x (λ k l. h (suc k) (omega arith)) in
    cc

picked-push : {L : Type 0} (ps : List L) (is : List ℕ) (j : ℕ) → picked ps (is ++ (j ∷ [])) ≡ picked ps is ++ at ps j
picked-push ps [] j = append-nil (at ps j)
picked-push ps (i ∷ is) j = ap (λ t. at ps i ++ t) (picked-push ps is j) ∙ sym (append_assoc (at ps i) (picked ps is) (at ps j))

length-picked : {L : Type 0} (ps : List L) (is : List ℕ) → ((k : ℕ) → k < length is → get_or is k 0 < length ps) → length (picked ps is) ≡ length is
length-picked ps [] h = refl
length-picked ps (i ∷ is) h =
    let a = length_at ps i (h 0 (omega arith)) in
    let b = length-picked ps is (λ k l. h (suc k) (omega arith)) in
    let e = length-append (at ps i) (picked ps is) in
    omega arith

-- All bins.
held_in-picked : {L : Type 0} (ps : List L) (lay : List (List ℕ)) → Within (length ps) lay → held_in (map (picked ps) lay) ≡ held_in lay
held_in-picked ps [] h = refl
held_in-picked ps (is ∷ lay) h =
    let a = length-picked ps is (λ k l. h 0 k (omega arith) l) in
    let b = held_in-picked ps lay (λ b k l m. h (suc b) k (omega arith) m) in
    omega arith

held_in-nothing : (L : Type 0) (lay : List (List ℕ)) → held_in {L = L} (map nothing lay) ≡ 0
held_in-nothing L [] = refl
held_in-nothing L (is ∷ lay) = let b = held_in-nothing L lay in omega arith

bin-map : {L : Type 0} (f : List ℕ → List L) (lay : List (List ℕ)) (b : ℕ) → b < length lay → bin_of (map f lay) b ≡ f (bin_of lay b)
bin-map f lay b h = get_or-map f lay b [] [] h

module _ {L : Type 0} (ps : List L) (lay : List (List ℕ)) (b j : ℕ) (x : L)
    (hb : b < length lay) (hj : j < length ps) (fresh : FreshIn j lay) where
  -- A write into a place that no bin has leaves all bins as they were.
  map-fresh : map (picked (set ps j x)) lay ≡ map (picked ps) lay
  map-fresh =
      ext_get_or [] _ _ (length-map lay (picked (set ps j x)) ∙ sym (length-map lay (picked ps)))
      (λ i h. let l : i < length lay = omega (arith, length-map lay (picked (set ps j x))) in
      bin-map (picked (set ps j x)) lay i l ∙ picked-set ps (bin_of lay i) j x (λ k m e. fresh i k l m e) ∙ sym (bin-map (picked ps) lay i l))

  pub map-added : map (picked (set ps j x)) (added lay b j) ≡ added (map (picked ps) lay) b x
  map-added =
      map-set (picked (set ps j x)) lay b (bin_of lay b ++ (j ∷ []))
      ∙ ap (λ t. set t b (picked (set ps j x) (bin_of lay b ++ (j ∷ [])))) map-fresh
      ∙ ap (λ t. set (map (picked ps) lay) b t)
      (picked-push (set ps j x) (bin_of lay b) j
      ∙ ap (λ t. t ++ at (set ps j x) j) (picked-set ps (bin_of lay b) j x (λ k m e. fresh b k hb m e) ∙ sym (bin-map (picked ps) lay b hb))
      ∙ ap (λ t. bin_of (map (picked ps) lay) b ++ t) (at_set_same ps j x hj))

-- A list of places that is long enough, or is not.
module _ {L : Type 0} (room : ℕ) (ps : List L) where
  pub bins-long : (lay : List (List ℕ)) → room ≤ length ps → bins_over room ps lay ≡ map (picked ps) lay
  unfolding bins_over
  bins-long lay h = cond-true (leb room (length ps)) _ _ (le-leb room (length ps) h)

  pub bins-short : (lay : List (List ℕ)) → length ps < room → bins_over room ps lay ≡ map nothing lay
  unfolding bins_over
  bins-short lay h = cond-false (leb room (length ps)) _ _ (lt-leb room (length ps) h)

  pub total-long : (t : ℕ) → room ≤ length ps → total_over room ps t ≡ t
  unfolding total_over
  total-long t h = cond-true (leb room (length ps)) _ _ (le-leb room (length ps) h)

  pub total-short : (t : ℕ) → length ps < room → total_over room ps t ≡ 0
  unfolding total_over
  total-short t h = cond-false (leb room (length ps)) _ _ (lt-leb room (length ps) h)

  pub length-bins : (lay : List (List ℕ)) → length (bins_over room ps lay) ≡ length lay
  length-bins lay = ⊎_elim (λ h. ap length (bins-short lay h) ∙ length-map lay nothing) (λ h. ap length (bins-long lay h) ∙ length-map lay (picked ps)) (cases_lt (length ps) room)

  pub same_none : (lay : List (List ℕ)) (b : ℕ) → no_bin (bins_over room ps lay) b ≡ no_bin lay b
  same_none lay b = ap (λ n. not (ltb b n)) (length-bins lay)

pub total_kept : {L : Type 0} (ps ps2 : List L) (room room2 t t2 : ℕ) → room2 ≡ room → t2 ≡ t → length ps2 ≡ length ps → total_over room2 ps2 t2 ≡ total_over room ps t
unfolding total_over
total_kept ps ps2 room room2 t t2 e f h = cc

pub bins-same : {L : Type 0} (ps ps2 : List L) (lay lay2 : List (List ℕ)) (room room2 : ℕ) → ps2 ≡ ps → lay2 ≡ lay → room2 ≡ room → bins_over room2 ps2 lay2 ≡ bins_over room ps lay
bins-same ps ps2 lay lay2 room room2 e f g = cc

-- Over a lay with nothing in it every bin is empty.
map-empty : {L : Type 0} (f : List ℕ → List L) (n : ℕ) → f [] ≡ [] → map f (empty_bins n) ≡ empty_bins n
map-empty f zero e = refl
map-empty f (suc n) e = let a = map-empty f n e in cc

pub bins-empty : {L : Type 0} (room : ℕ) (ps : List L) (lay : List (List ℕ)) (n : ℕ) → lay ≡ empty_bins n → bins_over room ps lay ≡ empty_bins n
bins-empty room ps lay n e =
    ⊎_elim (λ h. bins-short room ps lay h ∙ ap (map nothing) e ∙ map-empty nothing n refl)
    (λ h. bins-long room ps lay h ∙ ap (map (picked ps)) e ∙ map-empty (picked ps) n refl)
    (cases_lt (length ps) room)

-- Too short a list: the calls answer as those of a rack with empty bins and a total of 0.
module _ {L : Type 0} (ps : List L) (lay : List (List ℕ)) (room b : ℕ) (short : length ps < room) where
  short-bin : b < length lay → bin_of (bins_over room ps lay) b ≡ []
  short-bin hb = ap (λ (q : List (List L)). bin_of q b) (bins-short room ps lay short) ∙ bin-map nothing lay b hb

  pub put-short : (d t : ℕ) (x : L) → b < length lay → put_of (bins_over room ps lay) d (total_over room ps t) b x ≡ (Err Full, bins_over room ps lay)
  put-short d t x hb =
      let B = bins_over room ps lay in
      put-at B b d (total_over room ps t) x false true (same_none room ps lay b ∙ bin-there lay b hb)
      (or_right (leb d (length (bin_of B b))) (leb (total_over room ps t) (held_in B)) (le-leb (total_over room ps t) (held_in B) (omega (arith, total-short room ps t short))))

  pub take_short : b < length lay → take_of (bins_over room ps lay) b ≡ (Ok None, bins_over room ps lay)
  take_short hb = take_at (bins_over room ps lay) b false [] (same_none room ps lay b ∙ bin-there lay b hb) (short-bin hb)

  pub count-short : b < length lay → count_of (bins_over room ps lay) b ≡ Ok 0
  count-short hb = count_at (bins_over room ps lay) b false 0 (same_none room ps lay b ∙ bin-there lay b hb) (ap length (short-bin hb))

  pub empty-short : is_empty (bins_over room ps lay) ≡ true
  empty-short = ap (λ (q : List (List L)). is_empty q) (bins-short room ps lay short) ∙ ap (λ n. eqb n 0) (held_in-nothing L lay)

-- A bin that is not there, and one that is.
err-none : (n : Bool) (u : ℕ) (f : RackFault) → count_by n u ≡ Err f → (n ≡ true) × (f ≡ NotThere)
err-none true u f e = (refl, cc)
err-none false u f e = let k : ◌≡◌ {A = ℕ} 0 1 = cc in absurd (omega arith)

ok-there : (n : Bool) (u v : ℕ) → count_by n u ≡ Ok v → (n ≡ false) × (v ≡ u)
ok-there true u v e = let k : ◌≡◌ {A = ℕ} 0 1 = cc in absurd (omega arith)
ok-there false u v e = (refl, cc)

pub count_none : (lay : List (List ℕ)) (b : ℕ) (f : RackFault) → Err f ≡ count_of lay b → (no_bin lay b ≡ true) × (f ≡ NotThere)
unfolding count_of
count_none lay b f e = err-none (no_bin lay b) (length (bin_of lay b)) f (sym e)

pub count-there : (lay : List (List ℕ)) (b u : ℕ) → Ok u ≡ count_of lay b → (b < length lay) × (u ≡ length (bin_of lay b))
unfolding count_of
count-there lay b u e = let p = ok-there (no_bin lay b) (length (bin_of lay b)) u (sym e) in (there-bin lay b p.0, p.1)

module _ {L : Type 0} (ps : List L) (lay : List (List ℕ)) (room b : ℕ) where
  pub put-none : (d t : ℕ) (x : L) → no_bin lay b ≡ true → put_of (bins_over room ps lay) d t b x ≡ (Err NotThere, bins_over room ps lay)
  put-none d t x e = put-at (bins_over room ps lay) b d t x true _ (same_none room ps lay b ∙ e) refl

  pub take_none : no_bin lay b ≡ true → take_of (bins_over room ps lay) b ≡ (Err NotThere, bins_over room ps lay)
  take_none e = take_at (bins_over room ps lay) b true _ (same_none room ps lay b ∙ e) refl

  pub bin-none : no_bin lay b ≡ true → count_of (bins_over room ps lay) b ≡ Err NotThere
  bin-none e = count_at (bins_over room ps lay) b true _ (same_none room ps lay b ∙ e) refl

-- A list that is long enough: the calls answer as those on the lay, with the loads in the place of place numbers.
module _ {L : Type 0} (ps : List L) (lay : List (List ℕ)) (room b : ℕ) (long : room ≤ length ps) (within : Within room lay) where
  long-bin : b < length lay → bin_of (bins_over room ps lay) b ≡ picked ps (bin_of lay b)
  long-bin hb = ap (λ (q : List (List L)). bin_of q b) (bins-long room ps lay long) ∙ bin-map (picked ps) lay b hb

  pub length-bin : b < length lay → length (bin_of (bins_over room ps lay) b) ≡ length (bin_of lay b)
  length-bin hb = ap length (long-bin hb) ∙ length-picked ps (bin_of lay b) (λ k m. let z = within b k hb m in omega arith)

  pub same-held : held_in (bins_over room ps lay) ≡ held_in lay
  same-held = ap held_in (bins-long room ps lay long) ∙ held_in-picked ps lay (λ c k l m. let z = within c k l m in omega arith)

  pub same_full : (d t : ℕ) → b < length lay → is_full (bins_over room ps lay) d (total_over room ps t) b ≡ is_full lay d t b
  same_full d t hb =
      ap (λ n. leb d n || leb (total_over room ps t) (held_in (bins_over room ps lay))) (length-bin hb)
      ∙ ap (λ n. leb d (length (bin_of lay b)) || leb n (held_in (bins_over room ps lay))) (total-long room ps t long)
      ∙ ap (λ n. leb d (length (bin_of lay b)) || leb t n) same-held

  pub same_count : b < length lay → count_of (bins_over room ps lay) b ≡ Ok (length (bin_of lay b))
  same_count hb = count_at (bins_over room ps lay) b false _ (same_none room ps lay b ∙ bin-there lay b hb) (length-bin hb)

  pub put-long : (d t j : ℕ) (x : L) (lay2 : List (List ℕ)) (room2 : ℕ) → room2 ≡ room → Given lay d t room b (Ok j) lay2
      → put_of (bins_over room ps lay) d (total_over room ps t) b x ≡ (Ok tt, bins_over room2 (set ps j x) lay2)
  put-long d t j x lay2 room2 e g =
      let a = put-accepted lay d t b j lay2 g.0 in
      let lj : j < length ps = omega (arith, g.2) in
      let h2 : room2 ≤ length (set ps j x) = omega (arith, length-set ps j x) in
      let B = bins_over room ps lay in
      let next : bins_over room2 (set ps j x) lay2 ≡ added B b x =
      bins-long room2 (set ps j x) lay2 h2 ∙ ap (map (picked (set ps j x))) a.next-is
      ∙ map-added ps lay b j x a.there lj g.1 ∙ ap (λ (q : List (List L)). added q b x) (sym (bins-long room ps lay long)) in
      put-at B b d (total_over room ps t) x false false (same_none room ps lay b ∙ bin-there lay b a.there) (same_full d t a.there ∙ a.room)
      ∙ ap (λ (q : List (List L)). (Ok tt, q)) (sym next)

  -- A refusal on the lay is the rack's.
  module _ (d t : ℕ) (x : L) (f : RackFault) (lay2 : List (List ℕ)) (room2 : ℕ) (e : room2 ≡ room) (g : Given lay d t room b (Err f) lay2) where
    refused-at : (n full : Bool) → no_bin lay b ≡ n → put_of lay d t b 0 ≡ put_by n full lay b 0
        → put_of (bins_over room ps lay) d (total_over room ps t) b x ≡ put_by n full (bins_over room ps lay) b x
        → put_of (bins_over room ps lay) d (total_over room ps t) b x ≡ (Err f, bins_over room2 ps lay2)
    refused-at n full p q r =
        let w = refused-by n full lay lay2 (bins_over room ps lay) b 0 x f (sym q ∙ g) in
        r ∙ w.0 ∙ ap (λ (z : List (List L)). (Err f, z)) (sym (bins-same ps ps lay lay2 room room2 refl w.1 e))

    pub put_refused : put_of (bins_over room ps lay) d (total_over room ps t) b x ≡ (Err f, bins_over room2 ps lay2)
    put_refused =
        ⊎_elim
        (λ p. refused-at true true p (put-at lay b d t 0 true (is_full lay d t b) p refl) (put-at (bins_over room ps lay) b d (total_over room ps t) x true _ (same_none room ps lay b ∙ p) refl))
        (λ p. refused-at false (is_full lay d t b) p (put-at lay b d t 0 false (is_full lay d t b) p refl)
        (put-at (bins_over room ps lay) b d (total_over room ps t) x false (is_full lay d t b) (same_none room ps lay b ∙ p) (same_full d t (there-bin lay b p))))
        (cases_Bool (no_bin lay b))

  -- What a take from the lay answered, and the rack's take.
  module _ (lay2 : List (List ℕ)) (room2 : ℕ) (e : room2 ≡ room) (g : lay2 ≡ (take_of lay b).1) where
    pub take-refused : (f : RackFault) → Err f ≡ (take_of lay b).0 → take_of (bins_over room ps lay) b ≡ (Err f, bins_over room2 ps lay2)
    take-refused f a =
        let w = took-err lay b f (sym a) in
        take_at (bins_over room ps lay) b true (bin_of (bins_over room ps lay) b) (same_none room ps lay b ∙ w.0) refl
        ∙ ap (λ (h : RackFault). (Err h, bins_over room ps lay)) (sym w.1)
        ∙ ap (λ (z : List (List L)). (Err f, z)) (sym (bins-same ps ps lay lay2 room room2 refl (g ∙ w.2) e))

    pub take-nothing : Ok None ≡ (take_of lay b).0 → take_of (bins_over room ps lay) b ≡ (Ok None, bins_over room2 ps lay2)
    take-nothing a =
        let w = took-none lay b (sym a) in
        take_at (bins_over room ps lay) b false [] (same_none room ps lay b ∙ w.0) (long-bin (there-bin lay b w.0) ∙ ap (picked ps) w.1)
        ∙ ap (λ (z : List (List L)). (Ok None, z)) (sym (bins-same ps ps lay lay2 room room2 refl (g ∙ w.2) e))

    pub take-oldest : (j : ℕ) (x : L) → Ok (Some j) ≡ (take_of lay b).0 → at ps j ≡ x ∷ [] → take_of (bins_over room ps lay) b ≡ (Ok (Some x), bins_over room2 ps lay2)
    take-oldest j x a r =
        let w = took-some lay b j (sym a) in
        let ys = w.0 in
        let B = bins_over room ps lay in
        let bin : bin_of B b ≡ x ∷ picked ps ys =
        long-bin (there-bin lay b w.1) ∙ ap (picked ps) w.2 ∙ ap (λ (q : List L). q ++ picked ps ys) r in
        let next : bins_over room2 ps lay2 ≡ set B b (picked ps ys) =
        bins-long room2 ps lay2 (omega arith) ∙ ap (map (picked ps)) (g ∙ w.3) ∙ map-set (picked ps) lay b ys
        ∙ ap (λ (q : List (List L)). set q b (picked ps ys)) (sym (bins-long room ps lay long)) in
        take_at B b false (x ∷ picked ps ys) (same_none room ps lay b ∙ w.1) bin ∙ ap (λ (z : List (List L)). (Ok (Some x), z)) (sym next)

  pub oldest-within : (j : ℕ) → Ok (Some j) ≡ (take_of lay b).0 → j < length ps
  oldest-within j a =
      let w = took-some lay b j (sym a) in
      let l : 0 < length (bin_of lay b) = omega (arith, ap length w.2) in
      let q : get_or (bin_of lay b) 0 0 ≡ j = ap (λ (t : List ℕ). get_or t 0 0) w.2 in
      omega (arith, within b 0 (there-bin lay b w.1) l)
