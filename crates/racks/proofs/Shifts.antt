-- A well-kept store of cells moves a place: two chains are read, changed and written back.
use Rattle.std.proofs.Common.{◌≡◌, ℕ, suc, ◌+◌, ◌-◌, ◌<◌, ◌≤◌, List, map, length, get_or, set, sym, ap, ◌∙◌, arith}
use Rattle.std.proofs.lemmas.List.{length-map, map-set, set-get_or, get_or-set_other}
use Rattle.std.proofs.Math.ListN.{get_or-map}
use Rattle.racks.specs.declared.cells.CellSlots.{CellSlots}
use Rattle.racks.specs.declared.chains.Chain.{Chain}
use Rattle.racks.specs.Chains.{firsts_of, lasts_of, counts_of, chain_of}
use Rattle.racks.proofs.Chained.{Shifting, Settled, less, more, first-inside, last-inside, settled-none, settled-more, length-chain, two-held}

-- What stands past the end of a list of chains, for reads that never go there.
abbrev pub nil : Chain
nil = record { first = 0; last = 0; count = 0 }

-- The chains that are read: one that gives its first place and one that takes it.
module _ (s : CellSlots) (from to : ℕ) (long : length s.chains ≡ 33) (hf : from ≤ s.numbers.bins) (ht : to ≤ s.numbers.bins) (apart : from ≡ to → ⊥)
    (some : 0 < get_or (counts_of s.chains) from 0) where
  k : Shifting (s.numbers.bins + 1) s.numbers.total s.next.now (firsts_of s.chains) (lasts_of s.chains) (counts_of s.chains) from to
  k = record {
    from-there = omega arith;
    to-there = omega arith;
    apart = apart;
    firsts-long = omega (arith, s.few_bins, length-map s.chains (λ c. c.first));
    lasts-long = omega (arith, s.few_bins, length-map s.chains (λ c. c.last));
    counts-long = omega (arith, s.few_bins, length-map s.chains (λ c. c.count));
    next-long = s.next_long;
    once = s.once;
    inside = s.inside;
    ends = s.ends;
    some = some;
  }

  pub first-there : get_or (firsts_of s.chains) from 0 < length s.next.now
  first-there = omega (arith, first-inside k, s.next_long)

  pub last-there : get_or (counts_of s.chains) to 0 ≡ suc (get_or (counts_of s.chains) to 0 - 1) → get_or (lasts_of s.chains) to 0 < length s.next.now
  last-there has = omega (arith, last-inside k has, s.next_long)

  -- The chain that takes a place does not have every place yet.
  pub few : (a : Chain) → (get_or (set s.chains from a) to nil).count < 1048576
  few a =
      let F = firsts_of s.chains in
      let C = counts_of s.chains in
      omega (
        arith,
        two-held (s.numbers.bins + 1) (chain_of s.next.now F C) from to k.from-there k.to-there apart,
        s.sum,
        s.low_total,
        some,
        length-chain s.next.now (get_or F from 0) (get_or C from 0),
        length-chain s.next.now (get_or F to 0) (get_or C to 0),
        ap (λ (c : Chain). c.count) (get_or-set_other s.chains from to a nil (λ z. apart (sym z))),
        get_or-map (λ c. c.count) s.chains to nil,
      )

  -- The chains a and b that are written in their place, once j has moved.
  module _ (j : ℕ) (a b : Chain) (ej : j ≡ get_or (firsts_of s.chains) from 0)
      (af : a.first ≡ get_or s.next.now j 0) (al : a.last ≡ (get_or s.chains from nil).last) (ac : a.count ≡ (get_or s.chains from nil).count - 1)
      (bl : b.last ≡ j) (bc : b.count ≡ (get_or (set s.chains from a) to nil).count + 1) where
    abbrev pub written : List Chain
    written = set (set s.chains from a) to b

    both : (f : Chain → ℕ) → map f written ≡ set (set (map f s.chains) from (f a)) to (f b)
    both f = map-set f (set s.chains from a) to b ∙ ap (λ z. set z to (f b)) (map-set f s.chains from a)

    -- What is read of the chain to when the other one is written.
    still : (f : Chain → ℕ) → f (get_or (set s.chains from a) to nil) ≡ get_or (map f s.chains) to (f nil)
    still f = ap f (get_or-set_other s.chains from to a nil (λ z. apart (sym z))) ∙ sym (get_or-map f s.chains to nil)

    lasts-are : lasts_of written ≡ set (lasts_of s.chains) to j
    lasts-are = both (λ c. c.last) ∙ ap (λ z. set (set (lasts_of s.chains) from z) to b.last) (al ∙ sym (get_or-map (λ c. c.last) s.chains from nil))
        ∙ ap (λ z. set z to b.last) (set-get_or (lasts_of s.chains) from 0) ∙ ap (λ z. set (lasts_of s.chains) to z) bl

    counts-are : counts_of written ≡ more (less (counts_of s.chains) from) to
    counts-are = both (λ c. c.count) ∙ ap (λ z. set (set (counts_of s.chains) from z) to b.count) (ac ∙ ap (λ z. z - 1) (sym (get_or-map (λ c. c.count) s.chains from nil)))
        ∙ ap (λ z. set (less (counts_of s.chains) from) to z)
        (bc ∙ ap (λ z. z + 1) (still (λ c. c.count) ∙ sym (get_or-set_other (counts_of s.chains) from to (get_or (counts_of s.chains) from 0 - 1) 0 (λ z. apart (sym z)))))

    firsts-are : firsts_of written ≡ set (set (firsts_of s.chains) from (get_or s.next.now j 0)) to b.first
    firsts-are = both (λ c. c.first) ∙ ap (λ z. set (set (firsts_of s.chains) from z) to b.first) af

    pub settled-first : get_or (counts_of s.chains) to 0 ≡ 0 → b.first ≡ j
        → Settled (s.numbers.bins + 1) s.numbers.total (chain_of s.next.now (firsts_of s.chains) (counts_of s.chains)) s.next.now (firsts_of written) (lasts_of written) (counts_of written) from to j
    settled-first none bf =
        settled-none k j (firsts_of written) (lasts_of written) (counts_of written) ej lasts-are counts-are none
        (firsts-are ∙ ap (λ z. set (set (firsts_of s.chains) from (get_or s.next.now j 0)) to z) bf)

    pub settled-last : get_or (counts_of s.chains) to 0 ≡ suc (get_or (counts_of s.chains) to 0 - 1) → b.first ≡ (get_or (set s.chains from a) to nil).first → (p : ℕ) → p ≡ get_or (lasts_of s.chains) to 0
        → Settled (s.numbers.bins + 1) s.numbers.total (chain_of s.next.now (firsts_of s.chains) (counts_of s.chains)) (set s.next.now p j) (firsts_of written) (lasts_of written) (counts_of written) from to j
    settled-last has bf p e =
        let F = firsts_of s.chains in
        let v = get_or s.next.now j 0 in
        let stays : set (set F from v) to b.first ≡ set F from v =
        ap (λ z. set (set F from v) to z) (bf ∙ still (λ c. c.first) ∙ sym (get_or-set_other F from to v 0 (λ z. apart (sym z)))) ∙ set-get_or (set F from v) to 0 in
        rw e (settled-more k j (firsts_of written) (lasts_of written) (counts_of written) ej lasts-are counts-are has (firsts-are ∙ stays))
