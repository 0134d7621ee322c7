-- Every frame of a stream that keeps its contract passes every placer that keeps the duties.
use Rattle.std.proofs.Common.{◌≡◌, ℕ, ◌+◌, ◌<◌, ◌≤◌, eqb, ◌⊎◌, List, [], ◌∷◌, map, Ok, Result, sym, refl, ap, ◌∙◌, subst, ap₂, inl, inr, arith}
use Rattle.std.specs.List.{AllByRecursion as All}
use Rattle.std.proofs.ByRecursion.{All-weaker}
use Rattle.std.proofs.lemmas.Bool.{eq-eqb, ne_eqb, cond-true, cond-false, cases_eq}
use Rattle.placers.specs.declared.faults.PlacerFault.{PlacerFault}
use Rattle.placers.specs.declared.terms.Terms.{Terms}
use Rattle.placers.specs.declared.terms.Ask.{Ask}
use Rattle.placers.specs.Terms.{shift_in, LegalTerms}
use Rattle.placers.specs.Placers.{answer_of, next_of, Rules, octets_in, Asked, Led, renewed, placed, Due, Accepted, Duties}
use Rattle.placers.specs.Sequences.{Each, octets_of, Kept, NotBefore, Onward, Contract, record_after, answers, Rising, Near, Passes}
use Rattle.placers.specs.Keeping.Rooms.{in-same, in-other}
use Rattle.placers.specs.Keeping.Inputs.{inside_one, inputs-onward, not-before}

-- One frame more, in the cycle that is asked for and in another.
more_same : (a : Ask) (rest : List Ask) (p : ℕ) (qs : List ℕ) (q : ℕ) → p ≡ q → octets_of (a ∷ rest) (p ∷ qs) q ≡ a.octets + octets_of rest qs q
unfolding octets_of
more_same a rest p qs q e = ap (λ (x : ℕ). x + octets_of rest qs q) (cond-true (eqb p q) a.octets 0 (eq-eqb p q e))

more-other : (a : Ask) (rest : List Ask) (p : ℕ) (qs : List ℕ) (q : ℕ) → (p ≡ q → ⊥) → octets_of (a ∷ rest) (p ∷ qs) q ≡ octets_of rest qs q
unfolding octets_of
more-other a rest p qs q e = let k = cond-false (eqb p q) a.octets 0 (ne_eqb p q e) in omega arith

more-least : (a : Ask) (rest : List Ask) (p : ℕ) (qs : List ℕ) (q : ℕ) → octets_of rest qs q ≤ octets_of (a ∷ rest) (p ∷ qs) q
unfolding octets_of
more-least a rest p qs q = omega arith

abbrev stamp_of : List Ask → ℕ
stamp_of [] = 0
stamp_of (a ∷ rest) = a.stamp

abbrev clock_of : List Ask → ℕ
clock_of [] = 0
clock_of (a ∷ rest) = a.clock

-- The input cycle is not before the last one.
abbrev From : List ℕ → ℕ → Type 0
From [] j = Unit {0}
From (i ∷ rest) j = i ≤ j

module _ {Record : Type 0} (m : Rules Record) (duties : Duties m) (t : Terms) (legal : LegalTerms t) (quota : ℕ) where
  record Fitted (frames : List Ask) (inputs : List ℕ) (r : Record) (j : ℕ) : Type 0 where
    pub i : ℕ
    pub u : ℕ
    pub fits : m.fits t r i u
    pub up : i ≤ j
    pub sent : octets_in i u j ≤ octets_of frames inputs j

  record Reached (frames : List Ask) (inputs : List ℕ) : Type 0 where
    pub r : Record
    pub is-r : record_after m t frames ≡ r
    pub led : Led m t quota r (stamp_of frames) (clock_of frames)
    pub fitted : (j : ℕ) → From inputs j → Fitted frames inputs r j
    pub cycles : List ℕ
    pub accepted : answers m t frames ≡ map (λ (q : ℕ). Ok q) cycles
    pub near : Each (Near (shift_in t)) cycles inputs
    pub rising : Rising cycles
    pub below : All (λ p. p ≤ m.last r) cycles
    pub most : (q : ℕ) → octets_of frames cycles q ≤ quota
    pub here : octets_of frames cycles (m.last r) ≤ m.octets r
    pub beyond : (q : ℕ) → m.last r < q → octets_of frames cycles q ≡ 0

  none : Reached [] []
  unfolding record_after answers octets_of Each Rising
  none = record {
    r = m.fresh t;
    is-r = refl;
    led = renewed;
    fitted = λ j _. record { i = j; u = 0; fits = duties.begins t j legal; up = omega arith; sent = let k = in-same j 0 j refl in omega arith };
    cycles = [];
    accepted = refl;
    near = tt;
    rising = tt;
    below = tt;
    most = λ q. omega arith;
    here = omega arith;
    beyond = λ q _. refl;
  }

  module _ (a : Ask) (frames : List Ask) (j : ℕ) (inputs : List ℕ) (reached : Reached frames inputs) (kept : Kept t quota a j)
      (after : NotBefore a frames) (from : From inputs j) (within : octets_of (a ∷ frames) (j ∷ inputs) j ≤ quota) where
    brought : a.octets + octets_of frames inputs j ≤ quota
    brought = let e = more_same a frames j inputs j refl in omega (arith, within)

    since : (xs : List Ask) → NotBefore a xs → (stamp_of xs ≤ a.stamp) × (clock_of xs ≤ a.clock)
    since [] h = (omega arith, omega arith)
    since (x ∷ xs) h = h

    asked : Asked t quota (stamp_of frames) (clock_of frames) a
    asked = record {
      booked = kept.booked;
      since = (since frames after).0;
      onward = (since frames after).1;
      handed = kept.handed;
      soon = kept.soon;
      timely = kept.timely;
      shortest = kept.shortest;
      longest = kept.longest;
      share = omega (arith, brought);
    }

    f : Fitted frames inputs reached.r j
    f = reached.fitted j from

    taken : Accepted (m.rule t reached.r a) (j + shift_in t) (λ next. m.fits t next j (octets_in f.i f.u j + a.octets))
    taken = duties.accepts t quota (stamp_of frames) (clock_of frames) reached.r a f.i f.u j legal reached.led asked f.fits f.up kept.inside
        (omega (arith, f.sent, brought))

    due : Due m t reached.r a taken.cycle taken.next
    due = duties.due t quota (stamp_of frames) (clock_of frames) reached.r a taken.cycle taken.next legal reached.led asked taken.is

    -- What the cycle had before is what the record counts.
    had : octets_of frames reached.cycles taken.cycle ≤ octets_in (m.last reached.r) (m.octets reached.r) taken.cycle
    had = go (cases_eq (m.last reached.r) taken.cycle)
      where
        go : (m.last reached.r ≡ taken.cycle) ⊎ (m.last reached.r ≡ taken.cycle → ⊥)
            → octets_of frames reached.cycles taken.cycle ≤ octets_in (m.last reached.r) (m.octets reached.r) taken.cycle
        go (inl e) =
            let k = in-same (m.last reached.r) (m.octets reached.r) taken.cycle e in
            let h : octets_of frames reached.cycles taken.cycle ≤ m.octets reached.r = rw (sym e) reached.here in
            omega arith
        go (inr e) =
            let k = in-other (m.last reached.r) (m.octets reached.r) taken.cycle e in
            let l : m.last reached.r < taken.cycle = omega (arith, due.order, e) in
            let h = reached.beyond taken.cycle l in
            omega arith

    now-in : octets_of (a ∷ frames) (taken.cycle ∷ reached.cycles) taken.cycle ≤ m.octets taken.next
    now-in = let e = more_same a frames taken.cycle reached.cycles taken.cycle refl in omega (arith, had, due.counted)

    fitted-more : (i : ℕ) → j ≤ i → Fitted (a ∷ frames) (j ∷ inputs) taken.next i
    fitted-more i h = record { i = j; u = octets_in f.i f.u j + a.octets; fits = taken.again; up = h; sent = go (cases_eq j i) }
      where
        go : (j ≡ i) ⊎ (j ≡ i → ⊥) → octets_in j (octets_in f.i f.u j + a.octets) i ≤ octets_of (a ∷ frames) (j ∷ inputs) i
        go (inl e) =
            let k = in-same j (octets_in f.i f.u j + a.octets) i e in
            let s = more_same a frames j inputs i e in
            let o : octets_of frames inputs j ≡ octets_of frames inputs i = ap (octets_of frames inputs) e in
            omega (arith, f.sent)
        go (inr e) = let k = in-other j (octets_in f.i f.u j + a.octets) i e in omega arith

    most-more : (q : ℕ) → octets_of (a ∷ frames) (taken.cycle ∷ reached.cycles) q ≤ quota
    most-more q = go (cases_eq taken.cycle q)
      where
        go : (taken.cycle ≡ q) ⊎ (taken.cycle ≡ q → ⊥) → octets_of (a ∷ frames) (taken.cycle ∷ reached.cycles) q ≤ quota
        go (inl e) = let h : octets_of (a ∷ frames) (taken.cycle ∷ reached.cycles) taken.cycle ≤ quota = omega (arith, now-in, due.within, kept.booked) in subst (λ (x : ℕ). octets_of (a ∷ frames) (taken.cycle ∷ reached.cycles) x ≤ quota) e h
        go (inr e) = let k = more-other a frames taken.cycle reached.cycles q e in omega (arith, reached.most q)

    one_more : Reached (a ∷ frames) (j ∷ inputs)
    unfolding record_after answers Each Rising
    one_more = record {
      r = taken.next;
      is-r = ap (λ (x : Record). next_of x (m.rule t x a)) reached.is-r ∙ ap (next_of reached.r) taken.is;
      led = placed reached.r taken.next (stamp_of frames) (clock_of frames) taken.cycle a reached.led asked taken.is;
      fitted = fitted-more;
      cycles = taken.cycle ∷ reached.cycles;
      accepted = ap₂ (λ (x : Result ℕ PlacerFault) (xs : List (Result ℕ PlacerFault)). x ∷ xs)
          (ap (λ (x : Record). answer_of (m.rule t x a)) reached.is-r ∙ ap answer_of taken.is) reached.accepted;
      near = (record { later = omega (arith, due.later, not-before t pos j a.stamp a.octets a.clock kept.inside kept.handed); early = taken.early }, reached.near);
      rising = (All-weaker (λ p. p ≤ m.last reached.r) (λ p. p ≤ taken.cycle) (λ p h. omega (arith, h, due.order)) reached.cycles reached.below, reached.rising);
      below = (omega (arith, due.noted), All-weaker (λ p. p ≤ m.last reached.r) (λ p. p ≤ m.last taken.next) (λ p h. omega (arith, h, due.order, due.noted)) reached.cycles reached.below);
      most = most-more;
      here = rw due.noted now-in;
      beyond = λ q h. more-other a frames taken.cycle reached.cycles q (λ e. omega (arith, h, e, due.noted))
          ∙ reached.beyond q (omega (arith, h, due.noted, due.order));
    }
      where
        pos : 0 < t.cycle
        pos = omega (arith, legal.least)

  -- Stamps that do not go back have input cycles that do not.
  from-inputs : (a : Ask) (frames : List Ask) (j : ℕ) (inputs : List ℕ) → Each (Kept t quota) (a ∷ frames) (j ∷ inputs) → NotBefore a frames → From inputs j
  unfolding Each
  from-inputs a [] j [] each after = tt
  from-inputs a [] j (i ∷ inputs) each after = absurd each.1
  from-inputs a (b ∷ frames) j [] each after = tt
  from-inputs a (b ∷ frames) j (i ∷ inputs) each after =
      let pos : 0 < t.cycle = omega (arith, legal.least) in
      let x : Kept t quota a j = each.0 in
      let y : Kept t quota b i = each.1.0 in
      let p = inside_one t pos j a.stamp a.octets (omega (arith, x.shortest)) x.inside in
      let q = inside_one t pos i b.stamp b.octets (omega (arith, y.shortest)) y.inside in
      omega (arith, inputs-onward t pos b.stamp a.stamp after.0)

  reaches : (frames : List Ask) (inputs : List ℕ) → Contract t quota frames inputs → Reached frames inputs
  unfolding Each Onward
  reaches [] [] c = none
  reaches [] (i ∷ inputs) c = absurd c.each
  reaches (a ∷ frames) [] c = absurd c.each
  reaches (a ∷ frames) (j ∷ inputs) c =
      one_more a frames j inputs
      (reaches frames inputs (record { each = c.each.1; onward = c.onward.1; most = λ i. omega (arith, c.most i, more-least a frames j inputs i) }))
      c.each.0 c.onward.0 (from-inputs a frames j inputs c.each c.onward.0) (c.most j)

pub passes : {Record : Type 0} (m : Rules Record) → Duties m → (t : Terms) → LegalTerms t → Passes m t (shift_in t)
passes m duties t legal quota frames inputs c =
    let x = reaches m duties t legal quota frames inputs c in
    record { cycles = x.cycles; accepted = x.accepted; near = x.near; rising = x.rising; most = x.most }
