-- Cells: each bin a chain of places, and one more chain of the free ones. What moving a place from one to another keeps.
use Rattle.std.proofs.Common.{◌≡◌, ℕ, zero, suc, ◌+◌, ◌-◌, ◌<◌, ◌≤◌, false, cond, ◌||◌, eqb, leb, List, [], ◌∷◌, ◌++◌, length, get_or, drop, set, Some, None, Ok, sym, refl, ap, ◌∙◌, ⊎_elim, arith}
use Rattle.std.specs.List.{range_with_len}
use Rattle.std.proofs.lemmas.List.{length-set, get_or-set_same, get_or-set_other, length-append, get_or_push}
use Rattle.std.proofs.lemmas.List.FromFn.{length-range_with_len, get_or-range_with_len}
use Rattle.std.proofs.lemmas.Bool.{cases_eq, cases_lt, eq-eqb, ne_eqb, cond-true, cond-false}
use Rattle.racks.specs.Bins.{bin_of, held_in, empty_bins, is_full, added, take_of}
use Rattle.racks.specs.Places.{FreshIn, Within, Given, tabled}
use Rattle.racks.specs.Chains.{Moved, chain, chain_of, cells_lay, times, times_in, Once, Inside, Ends}
use Rattle.racks.proofs.Rules.{bin-there, put-at, take_at, held_in-set, held_in-append, held_in-empty}
use Rattle.racks.proofs.Tables.{length-tabled, tab-at, tab-more, tab-set, tab-set2, tab-empty}

-- How often a place stands in lists.
hit : (x j : ℕ) → x ≡ j → cond {A = ℕ} (eqb x j) 1 0 ≡ 1
hit x j e = cond-true (eqb x j) 1 0 (eq-eqb x j e)

miss : (x j : ℕ) → (x ≡ j → ⊥) → cond {A = ℕ} (eqb x j) 1 0 ≡ 0
miss x j e = cond-false (eqb x j) 1 0 (ne_eqb x j e)

times-append : (j : ℕ) (xs ys : List ℕ) → times j (xs ++ ys) ≡ times j xs + times j ys
times-append j [] ys = omega arith
times-append j (x ∷ xs) ys = let z = times-append j xs ys in omega arith

times-at : (j : ℕ) (xs : List ℕ) (k : ℕ) → k < length xs → get_or xs k 0 ≡ j → 1 ≤ times j xs
times-at j [] k h e = absurd (omega arith)
times-at j (x ∷ xs) zero h e = let z = hit x j e in omega arith
times-at j (x ∷ xs) (suc k) h e = let z = times-at j xs k (omega arith) e in omega arith

head-missed : (j x : ℕ) (xs : List ℕ) → times j (x ∷ xs) ≡ 0 → x ≡ j → ⊥
head-missed j x xs h e = omega (arith, hit x j e)

times_in-set : (j : ℕ) (bs : List (List ℕ)) (b : ℕ) (xs : List ℕ) → b < length bs → times_in j (set bs b xs) + times j (bin_of bs b) ≡ times_in j bs + times j xs
times_in-set j [] b xs h = absurd (omega arith)
times_in-set j (c ∷ bs) zero xs h = omega arith
times_in-set j (c ∷ bs) (suc b) xs h = let z = times_in-set j bs b xs (omega arith) in omega arith

-- Chains.
pub length-chain : (next : List ℕ) (h u : ℕ) → length (chain next h u) ≡ u
length-chain next h zero = refl
length-chain next h (suc u) = ap suc (length-chain next (get_or next h 0) u)

-- A place that a chain has not may name another.
chain-other : (next : List ℕ) (p v h u : ℕ) → times p (chain next h u) ≡ 0 → chain (set next p v) h u ≡ chain next h u
chain-other next p v h zero e = refl
chain-other next p v h (suc u) e =
    let ne = head-missed p h (chain next (get_or next h 0) u) e in
    let z : times p (chain next (get_or next h 0) u) ≡ 0 = omega arith in
    ap (λ (t : List ℕ). h ∷ t) (ap (λ k. chain (set next p v) k u) (get_or-set_other next p h v 0 ne) ∙ chain-other next p v (get_or next h 0) u z)

-- The last place of a chain names one more.
chain-push : (next : List ℕ) (p v h m : ℕ) → p < length next → times p (chain next h (suc m)) ≤ 1 → get_or (chain next h (suc m)) m 0 ≡ p
    → chain (set next p v) h (suc (suc m)) ≡ chain next h (suc m) ++ (v ∷ [])
chain-push next p v h zero l t e =
    ap (λ k. h ∷ (k ∷ [])) (ap (λ k. get_or (set next p v) k 0) e ∙ get_or-set_same next p v 0 l)
chain-push next p v h (suc m) l t e =
    let one = times-at p (chain next (get_or next h 0) (suc m)) m (omega (arith, length-chain next (get_or next h 0) (suc m))) e in
    let ne : h ≡ p → ⊥ = λ q. omega (arith, hit h p q, one, t) in
    let t2 : times p (chain next (get_or next h 0) (suc m)) ≤ 1 = omega (arith, t) in
    ap (λ (s : List ℕ). h ∷ s)
    (ap (λ k. chain (set next p v) k (suc (suc m))) (get_or-set_other next p h v 0 ne) ∙ chain-push next p v (get_or next h 0) m l t2 e)

chain-at : (next firsts counts : List ℕ) (b h u : ℕ) → get_or firsts b 0 ≡ h → get_or counts b 0 ≡ u → chain_of next firsts counts b ≡ chain next h u
chain-at next firsts counts b h u p q = ap (λ z. chain next z (get_or counts b 0)) p ∙ ap (λ z. chain next h z) q

-- One list of a lay beside the others.
module _ (n : ℕ) (f : ℕ → List ℕ) where
  there : (a : ℕ) → a < n → a < length (tabled n f)
  there a h = omega (arith, length-tabled n f)

  -- Where one list has a place that stands once, no other has it.
  only_one : (j a b : ℕ) → times_in j (tabled n f) ≤ 1 → a < n → b < n → (a ≡ b → ⊥) → 1 ≤ times j (f a) → times j (f b) ≡ 0
  only_one j a b o ha hb ne one =
      let T = tabled n f in
      let lb : b < length (set T a []) = omega (arith, length-tabled n f, length-set T a []) in
      let e1 = times_in-set j T a [] (there a ha) in
      let e2 = times_in-set j (set T a []) b [] lb in
      let q1 = ap (times j) (tab-at n f a ha) in
      let q2 = ap (times j) (get_or-set_other T a b [] [] (λ z. ne (sym z)) ∙ tab-at n f b hb) in
      omega (arith, e1, e2, q1, q2)

  one_list : (j a : ℕ) → a < n → times j (f a) ≤ times_in j (tabled n f)
  one_list j a ha = omega (arith, times_in-set j (tabled n f) a [] (there a ha), ap (times j) (tab-at n f a ha))

  pub two-held : (a b : ℕ) → a < n → b < n → (a ≡ b → ⊥) → length (f a) + length (f b) ≤ held_in (tabled n f)
  two-held a b ha hb ne =
      let T = tabled n f in
      let lb : b < length (set T a []) = omega (arith, length-tabled n f, length-set T a []) in
      omega (arith, held_in-set T a [] (there a ha), held_in-set (set T a []) b [] lb, ap length (tab-at n f a ha), ap length (get_or-set_other T a b [] [] (λ z. ne (sym z)) ∙ tab-at n f b hb))

  -- A place of a lay is below its room.
  place_inside : (room j a k : ℕ) → Inside room (tabled n f) → a < n → k < length (f a) → get_or (f a) k 0 ≡ j → j < room
  place_inside room j a k inside h l e =
      ⊎_elim (λ q. q) (λ q. absurd (omega (arith, times-at j (f a) k l e, one_list j a h, inside j q))) (cases_lt j room)

-- A move keeps the places, how often each stands, and the sum.
module _ (N : ℕ) (f g : ℕ → List ℕ) (from to j : ℕ) (hf : from < N) (ht : to < N) (ne : from ≡ to → ⊥) (mv : Moved N f g from to j) where
  moved-lay : tabled N g ≡ set (set (tabled N f) from (g from)) to (g to)
  moved-lay = tab-set2 N f g from to hf ht ne (λ a l x y. mv.others a l x y)

  moved-times : (k : ℕ) → times_in k (tabled N g) ≡ times_in k (tabled N f)
  moved-times k =
      let T = tabled N f in
      let lb : to < length (set T from (g from)) = omega (arith, length-tabled N f, length-set T from (g from)) in
      let q1 = ap (times k) (tab-at N f from hf ∙ mv.headed) in
      let q2 = ap (times k) (get_or-set_other T from to (g from) [] (λ z. ne (sym z)) ∙ tab-at N f to ht) in
      omega (
        arith,
        ap (times_in k) moved-lay,
        times_in-set k T from (g from) (there N f from hf),
        times_in-set k (set T from (g from)) to (g to) lb,
        q1,
        q2,
        ap (times k) mv.left,
        ap (times k) mv.joined,
        times-append k (f to) (j ∷ []),
      )

  pub moved-held : held_in (tabled N g) ≡ held_in (tabled N f)
  moved-held =
      let T = tabled N f in
      let lb : to < length (set T from (g from)) = omega (arith, length-tabled N f, length-set T from (g from)) in
      let q1 = ap length (tab-at N f from hf ∙ mv.headed) in
      let q2 = ap length (get_or-set_other T from to (g from) [] (λ z. ne (sym z)) ∙ tab-at N f to ht) in
      omega (
        arith,
        ap held_in moved-lay,
        held_in-set T from (g from) (there N f from hf),
        held_in-set (set T from (g from)) to (g to) lb,
        q1,
        q2,
        ap length mv.left,
        ap length mv.joined,
        length-append (f to) (j ∷ []),
      )

  pub moved-once : Once (tabled N f) → Once (tabled N g)
  moved-once o k = omega (arith, o k, moved-times k)

  pub moved_inside : (room : ℕ) → Inside room (tabled N f) → Inside room (tabled N g)
  moved_inside room i k l = omega (arith, i k l, moved-times k)

-- The counts of lists, one of which loses a place, and one of which gets one.
abbrev pub less : List ℕ → (list : ℕ) → List ℕ
less counts a = set counts a (get_or counts a 0 - 1)

abbrev pub more : List ℕ → (list : ℕ) → List ℕ
more counts a = set counts a (get_or counts a 0 + 1)

-- A well-kept store of cells, and two lists of it of which the first has a place to give.
pub record Shifting (N room : ℕ) (next firsts lasts counts : List ℕ) (from to : ℕ) : Type 0 where
  pub from-there : from < N
  pub to-there : to < N
  pub apart : from ≡ to → ⊥
  pub firsts-long : N ≤ length firsts
  pub lasts-long : N ≤ length lasts
  pub counts-long : N ≤ length counts
  pub next-long : room ≤ length next
  pub once : Once (cells_lay N next firsts counts)
  pub inside : Inside room (cells_lay N next firsts counts)
  pub ends : Ends N next firsts lasts counts
  pub some : 0 < get_or counts from 0

module _ {N room : ℕ} {next firsts lasts counts : List ℕ} {from to : ℕ} (k : Shifting N room next firsts lasts counts from to) where
  q-is : get_or counts from 0 ≡ suc (get_or counts from 0 - 1)
  q-is = omega (arith, k.some)

  from_is : chain_of next firsts counts from ≡ get_or firsts from 0 ∷ chain next (get_or next (get_or firsts from 0) 0) (get_or counts from 0 - 1)
  from_is = ap (λ z. chain next (get_or firsts from 0) z) q-is

  pub first-inside : get_or firsts from 0 < room
  first-inside =
      place_inside N (chain_of next firsts counts) room (get_or firsts from 0) from 0 k.inside k.from-there (omega (arith, ap length from_is)) (ap (λ (t : List ℕ). get_or t 0 0) from_is)

  count-from : get_or (more (less counts from) to) from 0 ≡ get_or counts from 0 - 1
  count-from =
      let h : from < length counts = omega (arith, k.from-there, k.counts-long) in
      get_or-set_other (less counts from) to from (get_or (less counts from) to 0 + 1) 0 k.apart ∙ get_or-set_same counts from (get_or counts from 0 - 1) 0 h

  count-to : get_or (more (less counts from) to) to 0 ≡ suc (get_or counts to 0)
  count-to =
      let h : to < length (less counts from) = omega (arith, k.to-there, k.counts-long, length-set counts from (get_or counts from 0 - 1)) in
      get_or-set_same (less counts from) to (get_or (less counts from) to 0 + 1) 0 h
      ∙ omega (arith, get_or-set_other counts from to (get_or counts from 0 - 1) 0 (λ z. k.apart (sym z)))

  count-other : (a : ℕ) → (a ≡ from → ⊥) → (a ≡ to → ⊥) → get_or (more (less counts from) to) a 0 ≡ get_or counts a 0
  count-other a x y = get_or-set_other (less counts from) to a (get_or (less counts from) to 0 + 1) 0 y ∙ get_or-set_other counts from a (get_or counts from 0 - 1) 0 x

  -- The place that moved is the last of its new list; the other lists' last places stay.
  moved_ends : (next2 firsts2 : List ℕ) (j : ℕ) → Moved N (chain_of next firsts counts) (chain_of next2 firsts2 (more (less counts from) to)) from to j
      → Ends N next2 firsts2 (set lasts to j) (more (less counts from) to)
  moved_ends next2 firsts2 j mv b hb pos =
      let counts2 = more (less counts from) to in
      ⊎_elim
      (λ e.
      let z1 : get_or counts2 b 0 - 1 ≡ get_or counts to 0 = omega (arith, count-to, ap (λ i. get_or counts2 i 0) e) in
      let ll : to < length lasts = omega (arith, k.to-there, k.lasts-long) in
      ap (λ i. get_or (set lasts to j) i 0) e ∙ get_or-set_same lasts to j 0 ll
      ∙ sym (ap (λ i. get_or (chain_of next2 firsts2 counts2 b) i 0) z1
      ∙ ap (λ i. get_or (chain_of next2 firsts2 counts2 i) (get_or counts to 0) 0) e
      ∙ ap (λ (t : List ℕ). get_or t (get_or counts to 0) 0) mv.joined
      ∙ get_or_push (chain_of next firsts counts to) j 0 (get_or counts to 0) (length-chain next (get_or firsts to 0) (get_or counts to 0))))
      (λ y. ⊎_elim
      (λ e.
      let ub : get_or counts2 b 0 + 1 ≡ get_or counts b 0 = omega (arith, count-from, k.some, ap (λ i. get_or counts2 i 0) e, ap (λ i. get_or counts i 0) e) in
      let z2 : get_or counts b 0 - 1 ≡ suc (get_or counts2 b 0 - 1) = omega (arith, pos) in
      get_or-set_other lasts to b j 0 y ∙ k.ends b hb (omega arith)
      ∙ ap (λ i. get_or (chain_of next firsts counts b) i 0) z2 ∙ sym (drop-one (chain_of next firsts counts b) (get_or counts2 b 0 - 1))
      ∙ ap (λ (t : List ℕ). get_or t (get_or counts2 b 0 - 1) 0) (ap (λ i. drop 1 (chain_of next firsts counts i)) e ∙ sym mv.left ∙ ap (chain_of next2 firsts2 counts2) (sym e)))
      (λ x.
      let ub = count-other b x y in
      let z2 : get_or counts b 0 - 1 ≡ get_or counts2 b 0 - 1 = omega arith in
      get_or-set_other lasts to b j 0 y ∙ k.ends b hb (omega arith) ∙ ap (λ i. get_or (chain_of next firsts counts b) i 0) z2
      ∙ ap (λ (t : List ℕ). get_or t (get_or counts2 b 0 - 1) 0) (sym (mv.others b hb x y)))
      (cases_eq b from))
      (cases_eq b to)
    where
      drop-one : (xs : List ℕ) (i : ℕ) → get_or (drop 1 xs) i 0 ≡ get_or xs (suc i) 0
      drop-one [] i = refl
      drop-one (x ∷ xs) i = refl

  -- Onto an empty list.
  module _ (none : get_or counts to 0 ≡ 0) where
    pub moved_none : Moved N (chain_of next firsts counts)
        (chain_of next (set (set firsts from (get_or next (get_or firsts from 0) 0)) to (get_or firsts from 0)) (more (less counts from) to)) from to (get_or firsts from 0)
    moved_none =
        let j = get_or firsts from 0 in
        let v = get_or next j 0 in
        let firsts2 = set (set firsts from v) to j in
        let counts2 = more (less counts from) to in
        let lf : from < length firsts = omega (arith, k.from-there, k.firsts-long) in
        let lt : to < length (set firsts from v) = omega (arith, k.to-there, k.firsts-long, length-set firsts from v) in
        let e1 : get_or firsts2 from 0 ≡ v = get_or-set_other (set firsts from v) to from j 0 k.apart ∙ get_or-set_same firsts from v 0 lf in
        let e2 : get_or firsts2 to 0 ≡ j = get_or-set_same (set firsts from v) to j 0 lt in
        let d : drop 1 (chain_of next firsts counts from) ≡ chain next v (get_or counts from 0 - 1) = ap (λ (t : List ℕ). drop 1 t) from_is in
        record {
          headed = from_is ∙ ap (λ (t : List ℕ). j ∷ t) (sym d);
          left = chain-at next firsts2 counts2 from v (get_or counts from 0 - 1) e1 count-from ∙ sym d;
          joined = chain-at next firsts2 counts2 to j 1 e2 (count-to ∙ ap suc none) ∙ ap (λ (t : List ℕ). t ++ (j ∷ [])) (sym (ap (λ z. chain next (get_or firsts to 0) z) none));
          others = λ a l x y. chain-at next firsts2 counts2 a (get_or firsts a 0) (get_or counts a 0) (get_or-set_other (set firsts from v) to a j 0 y ∙ get_or-set_other firsts from a v 0 x) (count-other a x y);
        }

    pub none-ends : Ends N next (set (set firsts from (get_or next (get_or firsts from 0) 0)) to (get_or firsts from 0)) (set lasts to (get_or firsts from 0)) (more (less counts from) to)
    none-ends = moved_ends next (set (set firsts from (get_or next (get_or firsts from 0) 0)) to (get_or firsts from 0)) (get_or firsts from 0) moved_none

  -- Onto a list that has places: its last one names the place.
  module _ (has : get_or counts to 0 ≡ suc (get_or counts to 0 - 1)) where
    last-is : get_or lasts to 0 ≡ get_or (chain_of next firsts counts to) (get_or counts to 0 - 1) 0
    last-is = k.ends to k.to-there (omega arith)

    last-there : get_or counts to 0 - 1 < length (chain_of next firsts counts to)
    last-there = omega (arith, length-chain next (get_or firsts to 0) (get_or counts to 0))

    pub last-inside : get_or lasts to 0 < room
    last-inside = place_inside N (chain_of next firsts counts) room (get_or lasts to 0) to (get_or counts to 0 - 1) k.inside k.to-there last-there (sym last-is)

    gone : (a : ℕ) → a < N → (a ≡ to → ⊥) → times (get_or lasts to 0) (chain_of next firsts counts a) ≡ 0
    gone a l y =
        only_one N (chain_of next firsts counts) (get_or lasts to 0) to a (k.once (get_or lasts to 0)) k.to-there l (λ z. y (sym z))
        (times-at (get_or lasts to 0) (chain_of next firsts counts to) (get_or counts to 0 - 1) last-there (sym last-is))

    pub moved_more : Moved N (chain_of next firsts counts)
        (chain_of (set next (get_or lasts to 0) (get_or firsts from 0)) (set firsts from (get_or next (get_or firsts from 0) 0)) (more (less counts from) to)) from to (get_or firsts from 0)
    moved_more =
        let j = get_or firsts from 0 in
        let p = get_or lasts to 0 in
        let v = get_or next j 0 in
        let q = get_or counts from 0 - 1 in
        let m = get_or counts to 0 - 1 in
        let next2 = set next p j in
        let firsts2 = set firsts from v in
        let counts2 = more (less counts from) to in
        let lf : from < length firsts = omega (arith, k.from-there, k.firsts-long) in
        let lp : p < length next = omega (arith, last-inside, k.next-long) in
        let e1 : get_or firsts2 from 0 ≡ v = get_or-set_same firsts from v 0 lf in
        let e2 : get_or firsts2 to 0 ≡ get_or firsts to 0 = get_or-set_other firsts from to v 0 (λ z. k.apart (sym z)) in
        let d : drop 1 (chain_of next firsts counts from) ≡ chain next v q = ap (λ (t : List ℕ). drop 1 t) from_is in
        let g0 : times p (chain next v q) ≡ 0 = omega (arith, gone from k.from-there k.apart, ap (times p) from_is) in
        let t1 : chain_of next firsts counts to ≡ chain next (get_or firsts to 0) (suc m) = ap (λ z. chain next (get_or firsts to 0) z) has in
        let o1 : times p (chain next (get_or firsts to 0) (suc m)) ≤ 1 = omega (arith, k.once p, one_list N (chain_of next firsts counts) p to k.to-there, ap (times p) t1) in
        record {
          headed = from_is ∙ ap (λ (t : List ℕ). j ∷ t) (sym d);
          left = chain-at next2 firsts2 counts2 from v q e1 count-from ∙ chain-other next p j v q g0 ∙ sym d;
          joined = chain-at next2 firsts2 counts2 to (get_or firsts to 0) (suc (suc m)) e2 (count-to ∙ ap suc has)
              ∙ chain-push next p j (get_or firsts to 0) m lp o1 (sym (last-is ∙ ap (λ (t : List ℕ). get_or t m 0) t1))
              ∙ ap (λ (t : List ℕ). t ++ (j ∷ [])) (sym t1);
          others = λ a l x y. chain-at next2 firsts2 counts2 a (get_or firsts a 0) (get_or counts a 0) (get_or-set_other firsts from a v 0 x) (count-other a x y)
              ∙ chain-other next p j (get_or firsts a 0) (get_or counts a 0) (gone a l y);
        }

    pub more-ends : Ends N (set next (get_or lasts to 0) (get_or firsts from 0)) (set firsts from (get_or next (get_or firsts from 0) 0)) (set lasts to (get_or firsts from 0)) (more (less counts from) to)
    more-ends = moved_ends (set next (get_or lasts to 0) (get_or firsts from 0)) (set firsts from (get_or next (get_or firsts from 0) 0)) (get_or firsts from 0) moved_more

-- What a store of cells keeps when a place has gone from one list to another.
pub record Settled (N room : ℕ) (f : ℕ → List ℕ) (next firsts lasts counts : List ℕ) (from to j : ℕ) : Type 0 where
  pub moved : Moved N f (chain_of next firsts counts) from to j
  pub once : Once (cells_lay N next firsts counts)
  pub inside : Inside room (cells_lay N next firsts counts)
  pub ends : Ends N next firsts lasts counts
  pub held : held_in (cells_lay N next firsts counts) ≡ held_in (tabled N f)

module _ {N room : ℕ} {next firsts lasts counts : List ℕ} {from to : ℕ} (k : Shifting N room next firsts lasts counts from to) where
  settled : (next2 firsts2 lasts2 counts2 : List ℕ) (j : ℕ) → Moved N (chain_of next firsts counts) (chain_of next2 firsts2 counts2) from to j → Ends N next2 firsts2 lasts2 counts2
      → Settled N room (chain_of next firsts counts) next2 firsts2 lasts2 counts2 from to j
  settled next2 firsts2 lasts2 counts2 j mv ends = record {
    moved = mv;
    once = moved-once N (chain_of next firsts counts) (chain_of next2 firsts2 counts2) from to j k.from-there k.to-there k.apart mv k.once;
    inside = moved_inside N (chain_of next firsts counts) (chain_of next2 firsts2 counts2) from to j k.from-there k.to-there k.apart mv room k.inside;
    ends = ends;
    held = moved-held N (chain_of next firsts counts) (chain_of next2 firsts2 counts2) from to j k.from-there k.to-there k.apart mv;
  }

  -- The place j that moves is the first of its list.
  module _ (j : ℕ) (firsts2 lasts2 counts2 : List ℕ) (ej : j ≡ get_or firsts from 0) (el : lasts2 ≡ set lasts to j) (ec : counts2 ≡ more (less counts from) to) where
    pub settled-none : get_or counts to 0 ≡ 0 → firsts2 ≡ set (set firsts from (get_or next j 0)) to j
        → Settled N room (chain_of next firsts counts) next firsts2 lasts2 counts2 from to j
    settled-none none ef = rw (ef, el, ec, ej) (settled next _ _ _ (get_or firsts from 0) (moved_none k none) (none-ends k none))

    pub settled-more : get_or counts to 0 ≡ suc (get_or counts to 0 - 1) → firsts2 ≡ set firsts from (get_or next j 0)
        → Settled N room (chain_of next firsts counts) (set next (get_or lasts to 0) j) firsts2 lasts2 counts2 from to j
    settled-more has ef = rw (ef, el, ec, ej) (settled (set next (get_or lasts to 0) (get_or firsts from 0)) _ _ _ (get_or firsts from 0) (moved_more k has) (more-ends k has))

-- The bins' lists, the free one left out.
module _ (n : ℕ) (f : ℕ → List ℕ) where
  pub held-split : held_in (tabled (n + 1) f) ≡ held_in (tabled n f) + length (f n)
  held-split = ap held_in (tab-more n f) ∙ held_in-append (tabled n f) (f n ∷ []) ∙ omega arith

  pub lay-within : (room : ℕ) → Inside room (tabled (n + 1) f) → Within room (tabled n f)
  lay-within room inside b i h l =
      let hb : b < n = omega (arith, length-tabled n f) in
      let e = tab-at n f b hb in
      place_inside (n + 1) f room (get_or (bin_of (tabled n f) b) i 0) b i inside (omega arith) (omega (arith, ap length e)) (sym (ap (λ (t : List ℕ). get_or t i 0) e))

  -- The first free place is in no bin, and below room.
  pub free-fresh : (j : ℕ) → Once (tabled (n + 1) f) → f n ≡ j ∷ drop 1 (f n) → FreshIn j (tabled n f)
  free-fresh j once e b i h l r =
      let hb : b < n = omega (arith, length-tabled n f) in
      let q = tab-at n f b hb in
      let one = times-at j (f b) i (omega (arith, ap length q)) (ap (λ (t : List ℕ). get_or t i 0) (sym q) ∙ r) in
      let two = times-at j (f n) 0 (omega (arith, ap length e)) (ap (λ (t : List ℕ). get_or t 0 0) e) in
      omega (arith, one, only_one (n + 1) f j n b (once j) (omega arith) (omega arith) (λ z. omega arith) two)

  pub free-inside : (room j : ℕ) → Inside room (tabled (n + 1) f) → f n ≡ j ∷ drop 1 (f n) → j < room
  free-inside room j inside e = place_inside (n + 1) f room j n 0 inside (omega arith) (omega (arith, ap length e)) (ap (λ (t : List ℕ). get_or t 0 0) e)

  pub lay-added : (g : ℕ → List ℕ) (b j : ℕ) → b < n → Moved (n + 1) f g n b j → tabled n g ≡ added (tabled n f) b j
  lay-added g b j h mv =
      tab-set n f g b _ h (λ a l x. mv.others a (omega arith) (λ z. omega arith) x) (mv.joined ∙ ap (λ (t : List ℕ). t ++ (j ∷ [])) (sym (tab-at n f b h)))

  pub lay-left : (g : ℕ → List ℕ) (b j : ℕ) → b < n → Moved (n + 1) f g b n j → tabled n g ≡ set (tabled n f) b (drop 1 (f b))
  lay-left g b j h mv = tab-set n f g b _ h (λ a l x. mv.others a (omega arith) x (λ z. omega arith)) mv.left

  pub lay-there : (b : ℕ) → b < n → b < length (tabled n f)
  lay-there b h = there n f b h

-- The calls on the lay of the cells.
module _ (n : ℕ) (next firsts counts : List ℕ) where
  pub length-bin : (b : ℕ) → b < n → length (bin_of (cells_lay n next firsts counts) b) ≡ get_or counts b 0
  length-bin b h = ap length (tab-at n (chain_of next firsts counts) b h) ∙ length-chain next (get_or firsts b 0) (get_or counts b 0)

  -- The places in use and the free ones are all places.
  pub held-free : held_in (cells_lay (n + 1) next firsts counts) ≡ held_in (cells_lay n next firsts counts) + get_or counts n 0
  held-free = omega (arith, held-split n (chain_of next firsts counts), length-chain next (get_or firsts n 0) (get_or counts n 0))

  pub cell-none : (b : ℕ) → b < n → get_or counts b 0 ≡ 0 → take_of (cells_lay n next firsts counts) b ≡ (Ok None, cells_lay n next firsts counts)
  cell-none b h e =
      take_at (cells_lay n next firsts counts) b false [] (bin-there (cells_lay n next firsts counts) b (lay-there n (chain_of next firsts counts) b h))
      (tab-at n (chain_of next firsts counts) b h ∙ ap (λ z. chain next (get_or firsts b 0) z) e)

  pub cells-full : (d t b : ℕ) → b < n → is_full (cells_lay n next firsts counts) d t b ≡ (leb d (get_or counts b 0) || leb t (held_in (cells_lay n next firsts counts)))
  cells-full d t b h = ap (λ u. leb d u || leb t (held_in (cells_lay n next firsts counts))) (length-bin b h)

-- A place that has moved from the free list to a bin was given to it; one that has moved back was taken from it.
pub cells-given : (n d t room b j : ℕ) (f g : ℕ → List ℕ) → b < n → Once (tabled (n + 1) f) → Inside room (tabled (n + 1) f) → is_full (tabled n f) d t b ≡ false
    → Moved (n + 1) f g n b j → Given (tabled n f) d t room b (Ok j) (tabled n g)
cells-given n d t room b j f g h once inside free mv = (
  put-at (tabled n f) b d t j false false (bin-there (tabled n f) b (lay-there n f b h)) free ∙ ap (λ (w : List (List ℕ)). (Ok tt, w)) (sym (lay-added n f g b j h mv)),
  free-fresh n f j once mv.headed,
  free-inside n f room j inside mv.headed,
)

pub cells-freed : (n b j : ℕ) (f g : ℕ → List ℕ) → b < n → Moved (n + 1) f g b n j → take_of (tabled n f) b ≡ (Ok (Some j), tabled n g)
cells-freed n b j f g h mv =
    take_at (tabled n f) b false (j ∷ drop 1 (f b)) (bin-there (tabled n f) b (lay-there n f b h)) (tab-at n f b h ∙ mv.headed)
    ∙ ap (λ (w : List (List ℕ)). (Ok (Some j), w)) (sym (lay-left n f g b j h mv))

-- A new store: each place names the next, and all are free.
chain-counts : (next : List ℕ) (most h u : ℕ) → ((k : ℕ) → k < most → get_or next k 0 ≡ k + 1) → h + u ≤ most → chain next h u ≡ range_with_len h u
chain-counts next most h zero nx l = refl
chain-counts next most h (suc u) nx l =
    ap (λ (t : List ℕ). h ∷ t) (ap (λ z. chain next z u) (nx h (omega arith)) ∙ chain-counts next most (h + 1) u nx (omega arith))

times-low : (j a n : ℕ) → j < a → times j (range_with_len a n) ≡ 0
times-low j a zero h = refl
times-low j a (suc n) h = let z = times-low j (a + 1) n (omega arith) in let y = miss a j (λ e. omega arith) in omega arith

times-high : (j a n : ℕ) → a + n ≤ j → times j (range_with_len a n) ≡ 0
times-high j a zero h = refl
times-high j a (suc n) h = let z = times-high j (a + 1) n (omega arith) in let y = miss a j (λ e. omega arith) in omega arith

times-one : (j a n : ℕ) → times j (range_with_len a n) ≤ 1
times-one j a zero = omega arith
times-one j a (suc n) =
    ⊎_elim (λ e. let z = times-low j (a + 1) n (omega arith) in let y = hit a j e in omega arith)
    (λ e. let z = times-one j (a + 1) n in let y = miss a j e in omega arith) (cases_eq a j)

times_in-append : (j : ℕ) (xs ys : List (List ℕ)) → times_in j (xs ++ ys) ≡ times_in j xs + times_in j ys
times_in-append j [] ys = omega arith
times_in-append j (x ∷ xs) ys = let z = times_in-append j xs ys in omega arith

times_in-empty : (j n : ℕ) → times_in j (empty_bins n) ≡ 0
times_in-empty j zero = refl
times_in-empty j (suc n) = let z = times_in-empty j n in omega arith

module _ (n most : ℕ) (next firsts lasts counts : List ℕ) (un : get_or counts n 0 ≡ most) (uo : (a : ℕ) → (a ≡ n → ⊥) → get_or counts a 0 ≡ 0)
    (fn : get_or firsts n 0 ≡ 0) (ln : get_or lasts n 0 ≡ most - 1) (nx : (k : ℕ) → k < most → get_or next k 0 ≡ k + 1) where
  new-free : chain_of next firsts counts n ≡ range_with_len 0 most
  new-free = chain-at next firsts counts n 0 most fn un ∙ chain-counts next most 0 most nx (omega arith)

  pub new-lay : cells_lay n next firsts counts ≡ empty_bins n
  new-lay = tab-empty n (chain_of next firsts counts) (λ a l. ap (λ z. chain next (get_or firsts a 0) z) (uo a (λ e. omega arith)))

  new-times : (j : ℕ) → times_in j (cells_lay (n + 1) next firsts counts) ≡ times j (range_with_len 0 most)
  new-times j =
      let F = chain_of next firsts counts in
      let a = ap (times_in j) (tab-more n F) in
      let b = times_in-append j (tabled n F) (F n ∷ []) in
      let c = ap (times_in j) new-lay in
      omega (arith, a, b, c, times_in-empty j n, ap (times j) new-free)

  pub new-once : Once (cells_lay (n + 1) next firsts counts)
  new-once j = omega (arith, new-times j, times-one j 0 most)

  pub new-inside : Inside most (cells_lay (n + 1) next firsts counts)
  new-inside j l = omega (arith, new-times j, times-high j 0 most (omega arith))

  pub new-held : held_in (cells_lay (n + 1) next firsts counts) ≡ most
  new-held =
      omega (arith, held-split n (chain_of next firsts counts), ap held_in new-lay, held_in-empty ℕ n, ap length new-free, length-range_with_len 0 most)

  pub new-ends : Ends (n + 1) next firsts lasts counts
  new-ends b h pos =
      ⊎_elim
      (λ e.
      let ub : get_or counts b 0 ≡ most = ap (λ z. get_or counts z 0) e ∙ un in
      let z : get_or counts b 0 - 1 ≡ most - 1 = omega arith in
      let y : 0 + (most - 1) ≡ most - 1 = omega arith in
      ap (λ z. get_or lasts z 0) e ∙ ln ∙ sym (ap (λ k. get_or (chain_of next firsts counts b) k 0) z ∙ ap (λ k. get_or (chain_of next firsts counts k) (most - 1) 0) e
      ∙ ap (λ (t : List ℕ). get_or t (most - 1) 0) new-free ∙ get_or-range_with_len 0 most (most - 1) 0 (omega arith) ∙ y))
      (λ e. absurd (omega (arith, uo b e, pos)))
      (cases_eq b n)
