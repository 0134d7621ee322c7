-- The placer by count keeps the duties.
use Rattle.std.specs.Prelude.{◌≡◌, ℕ, ◌+◌, ◌<◌, ◌≤◌, false, ◌⊎◌, Err, ◌≢◌, nat_le, nat_lt, refl}
use Rattle.std.proofs.Common.{ap, ◌∙◌, inl, inr, arith}
use Rattle.std.proofs.lemmas.Bool.{ltb-true, ltb-false, leb-true, leb-false, lt-ltb, le-leb, and_parts, and_from, cond-true, cond_both, cases_eq}
use Rattle.book.specs.Ticks.{last_tick}
use Rattle.placers.specs.declared.faults.PlacerFault.TheVariants.{NoRoom}
use Rattle.placers.specs.declared.terms.Terms.{Terms}
use Rattle.placers.specs.declared.terms.Ask.{Ask}
use Rattle.placers.specs.declared.table.Latest.{Latest}
use Rattle.placers.specs.Terms.{Inside, current, shift_in, LegalTerms}
use Rattle.placers.specs.Placers.{given, octets_in, Asked, Due, Accepted, Duties}
use Rattle.placers.specs.Latest.{held_in, has_room, added, placing_to, Fits}
use Rattle.placers.specs.Counted.{first_after, earliest, Earliest, counted_cycle, in_reach, counted, count_rules, FindsEarliest}
use Rattle.placers.specs.Keeping.Rooms.{in-other, passed, failed, added-refused, added-given, given-added, more, due-by, sent-in, fits_more}
use Rattle.placers.specs.Keeping.Inputs.{not-before, before-shift}

module _ (r : Latest) (k w quota : ℕ) (share : w ≤ quota) where
  record First (first : ℕ) : Type 0 where
    pub later : k < first
    pub order : r.cycle ≤ first
    pub least : (p : ℕ) → k < p → r.cycle ≤ p → first ≤ p

  first-after : First (first_after r k)
  first-after = cond_both (nat_lt k r.cycle) r.cycle (k + 1) First
      (λ e. record { later = ltb-true k r.cycle e; order = omega arith; least = λ p x y. y })
      (λ e. let l = ltb-false k r.cycle e in record { later = omega arith; order = omega arith; least = λ p x y. omega arith })

  -- Past the stream's last cycle there is room.
  room-past : (q : ℕ) → r.cycle < q → held_in r q + w ≤ quota
  room-past q h = let e = in-other r.cycle r.octets q (λ z. omega arith) in omega arith

  from_first : (first : ℕ) → First first → Earliest r k w quota (earliest r first w quota)
  from_first first f = cond_both (has_room r first w quota) first (first + 1) (Earliest r k w quota)
      (λ e. record {
        later = f.later;
        order = f.order;
        room = leb-true (held_in r first + w) quota e;
        least = λ p h. f.least p h.0 h.1;
      })
      (λ e. record {
        later = omega (arith, f.later);
        order = omega (arith, f.order);
        room = room-past (first + 1) (omega (arith, f.order));
        least = λ p h. above e p h (cases_eq first p);
      })
    where
      above : has_room r first w quota ≡ false → (p : ℕ) → (k < p) × (r.cycle ≤ p) × (held_in r p + w ≤ quota) → (first ≡ p) ⊎ (first ≢ p) → first + 1 ≤ p
      above e p h (inl z) =
          let full = leb-false (held_in r first + w) quota e in
          let s : held_in r first ≡ held_in r p = ap (held_in r) z in
          absurd (omega (arith, h.2))
      above e p h (inr z) = let l = f.least p h.0 h.1 in omega arith

  pub is-earliest : Earliest r k w quota (earliest r (first_after r k) w quota)
  is-earliest = from_first (first_after r k) first-after

module _ (t : Terms) (quota stamp clock : ℕ) (r : Latest) (a : Ask) (legal : LegalTerms t) (asked : Asked t quota stamp clock a) where
  count-early : Earliest r (current t a.clock) a.octets a.quota (counted_cycle t r a)
  count-early = is-earliest r (current t a.clock) a.octets a.quota (omega (arith, asked.share, asked.booked))

  count-due : (q : ℕ) (next : Latest) → placing_to (counted t r a) ≡ given q next → Due count_rules t r a q next
  count-due q next e =
      let p = passed (in_reach t a.clock (counted_cycle t r a)) (added r (counted_cycle t r a) a.octets a.quota) NoRoom q next e in
      let d = added-given r (counted_cycle t r a) a.octets a.quota q next p.1 in
      let b = and_parts (nat_le a.clock last_tick) (nat_lt (counted_cycle t r a) (current t a.clock + t.bins)) p.0 in
      due-by r (counted_cycle t r a) a.octets a.quota counted t a q next refl refl d count-early.later
      (ltb-true (counted_cycle t r a) (current t a.clock + t.bins) b.1) count-early.order

  count-accepts : (i u j : ℕ) → Fits t r i u → i ≤ j → Inside t j a.stamp a.octets → octets_in i u j + a.octets ≤ quota
      → Accepted (placing_to (counted t r a)) (j + shift_in t) (λ next. Fits t next j (octets_in i u j + a.octets))
  count-accepts i u j fits up inside most =
      let pos : 0 < t.cycle = omega (arith, legal.least) in
      let low = not-before t pos j a.stamp a.octets a.clock inside asked.handed in
      let high = before-shift t pos j a.stamp a.octets a.clock inside (omega (arith, asked.shortest)) asked.soon in
      let s = sent-in t r i u j fits up in
      -- the cycle one shift after the input cycle has room, so the earliest is not after it
      let h : counted_cycle t r a ≤ j + shift_in t = count-early.least (j + shift_in t) (high, omega (arith, fits.order), omega (arith, s, most, asked.booked)) in
      record {
        cycle = counted_cycle t r a;
        next = more r (counted_cycle t r a) a.octets 0;
        is = ap placing_to (cond-true (in_reach t a.clock (counted_cycle t r a)) (added r (counted_cycle t r a) a.octets a.quota) (Err NoRoom)
            (and_from (nat_le a.clock last_tick) (nat_lt (counted_cycle t r a) (current t a.clock + t.bins)) (le-leb a.clock last_tick asked.timely)
            (lt-ltb (counted_cycle t r a) (current t a.clock + t.bins) (omega (arith, h, low, legal.served)))))
            ∙ given-added r (counted_cycle t r a) a.octets a.quota count-early.room;
        early = h;
        again = fits_more t r i u j fits up (counted_cycle t r a) a.octets h;
      }

pub count-duties : Duties count_rules
count-duties = record {
  refusals = λ t r a f. failed (in_reach t a.clock (counted_cycle t r a)) (added r (counted_cycle t r a) a.octets a.quota) NoRoom f (inr refl)
      (added-refused r (counted_cycle t r a) a.octets a.quota f);
  due = λ t quota stamp clock r a q next legal led asked e. count-due t quota stamp clock r a legal asked q next e;
  begins = λ t i legal. record { order = omega arith; room = λ e. omega arith };
  accepts = λ t quota stamp clock r a i u j legal led asked fits up inside most. count-accepts t quota stamp clock r a legal asked i u j fits up inside most;
}

pub finds-earliest : (t : Terms) → FindsEarliest t
finds-earliest t r a h = is-earliest r (current t a.clock) a.octets a.quota h
