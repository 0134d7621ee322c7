-- The placer by time keeps the duties.
use Rattle.std.specs.Prelude.{◌≡◌, ℕ, ◌+◌, ◌<◌, ◌≤◌, true, Err, refl}
use Rattle.std.proofs.Common.{ap, ◌∙◌, inl, arith}
use Rattle.std.proofs.lemmas.Bool.{cond-true}
use Rattle.placers.specs.declared.faults.PlacerFault.TheVariants.{NotInside}
use Rattle.placers.specs.declared.terms.Terms.{Terms}
use Rattle.placers.specs.declared.terms.Ask.{Ask}
use Rattle.placers.specs.declared.table.Latest.{Latest}
use Rattle.placers.specs.Terms.{input_cycle, Inside, is_inside, shift_in, LegalTerms}
use Rattle.placers.specs.Placers.{given, octets_in, Asked, Led, renewed, placed, Due, Accepted, Duties}
use Rattle.placers.specs.Latest.{held_in, added, placing_to, Fits}
use Rattle.placers.specs.Timed.{timed_cycle, timed, time_rules, TellsInput}
use Rattle.placers.specs.Keeping.Rooms.{passed, failed, added-refused, Added, added-given, given-added, more, due-by, sent-in, fits_more}
use Rattle.placers.specs.Keeping.Inputs.{inside-own, inside_one, is-inside, inputs-onward, not-before, before-shift}

module _ (t : Terms) (r : Latest) (a : Ask) where
  pub record Timed (q : ℕ) (next : Latest) : Type 0 where
    pub inside : is_inside t a.stamp a.octets ≡ true
    pub is-added : Added r (timed_cycle t a.stamp) a.octets a.quota q next

  timed-given : (q : ℕ) (next : Latest) → placing_to (timed t r a) ≡ given q next → Timed q next
  timed-given q next e =
      let p = passed (is_inside t a.stamp a.octets) (added r (timed_cycle t a.stamp) a.octets a.quota) NotInside q next e in
      record { inside = p.0; is-added = added-given r (timed_cycle t a.stamp) a.octets a.quota q next p.1 }

-- The last cycle given is that of the last stamp accepted, or earlier.
led-last : (t : Terms) (quota : ℕ) (r : Latest) (stamp clock : ℕ) → Led time_rules t quota r stamp clock → r.cycle ≤ timed_cycle t stamp
led-last t quota r stamp clock renewed = omega arith
led-last t quota r stamp clock (placed b next s k q a l asked e) =
    let d = timed-given t b a q next e in
    let n : r.cycle ≡ timed_cycle t a.stamp = ap (λ (x : Latest). x.cycle) d.is-added.is-next in
    omega arith

module _ (t : Terms) (quota stamp clock : ℕ) (r : Latest) (a : Ask) (legal : LegalTerms t) (led : Led time_rules t quota r stamp clock) (asked : Asked t quota stamp clock a) where
  pos : 0 < t.cycle
  pos = omega (arith, legal.least)

  time-due : (q : ℕ) (next : Latest) → placing_to (timed t r a) ≡ given q next → Due time_rules t r a q next
  time-due q next e =
      let d = timed-given t r a q next e in
      let i = inside-own t a.stamp a.octets d.inside in
      let low = not-before t pos (input_cycle t a.stamp) a.stamp a.octets a.clock i asked.handed in
      let high = before-shift t pos (input_cycle t a.stamp) a.stamp a.octets a.clock i (omega (arith, asked.shortest)) asked.soon in
      let up = inputs-onward t pos stamp a.stamp asked.since in
      let l = led-last t quota r stamp clock led in
      due-by r (timed_cycle t a.stamp) a.octets a.quota timed t a q next refl refl d.is-added high (omega (arith, low, legal.served)) (omega (arith, l, up))

  time-accepts : (i u j : ℕ) → Fits t r i u → i ≤ j → Inside t j a.stamp a.octets → octets_in i u j + a.octets ≤ quota
      → Accepted (placing_to (timed t r a)) (j + shift_in t) (λ next. Fits t next j (octets_in i u j + a.octets))
  time-accepts i u j fits up inside most =
      let one = inside_one t pos j a.stamp a.octets (omega (arith, asked.shortest)) inside in
      let s = sent-in t r i u j fits up in
      let e : held_in r (timed_cycle t a.stamp) ≡ held_in r (j + shift_in t) = ap (λ (x : ℕ). held_in r (x + shift_in t)) one in
      let h : timed_cycle t a.stamp ≤ j + shift_in t = omega (arith, one) in
      record {
        cycle = timed_cycle t a.stamp;
        next = more r (timed_cycle t a.stamp) a.octets 0;
        is = ap placing_to (cond-true (is_inside t a.stamp a.octets) (added r (timed_cycle t a.stamp) a.octets a.quota) (Err NotInside)
            (is-inside t pos j a.stamp a.octets (omega (arith, asked.shortest)) (omega (arith, asked.handed, asked.timely)) inside))
            ∙ given-added r (timed_cycle t a.stamp) a.octets a.quota (omega (arith, s, e, most, asked.booked));
        early = h;
        again = fits_more t r i u j fits up (timed_cycle t a.stamp) a.octets h;
      }

pub time-duties : Duties time_rules
time-duties = record {
  refusals = λ t r a f. failed (is_inside t a.stamp a.octets) (added r (timed_cycle t a.stamp) a.octets a.quota) NotInside f (inl refl)
      (added-refused r (timed_cycle t a.stamp) a.octets a.quota f);
  due = λ t quota stamp clock r a q next legal led asked e. time-due t quota stamp clock r a legal led asked q next e;
  begins = λ t i legal. record { order = omega arith; room = λ e. omega arith };
  accepts = λ t quota stamp clock r a i u j legal led asked fits up inside most. time-accepts t quota stamp clock r a legal led asked i u j fits up inside most;
}

pub tells-input : (t : Terms) → TellsInput t
tells-input t = record {
  right = inside-own t;
  found = λ i stamp w z l h. let pos : 0 < t.cycle = omega (arith, h.from, h.to) in (is-inside t pos i stamp w z l h, inside_one t pos i stamp w z h);
}
