-- What both placers owe by the record that they share.
use Rattle.std.specs.Prelude.{◌≡◌, ℕ, ◌+◌, ◌<◌, ◌≤◌, Bool, true, false, cond, ◌⊎◌, Ok, Err, Result, ◌==◌, ◌≢◌, refl}
use Rattle.std.proofs.Common.{sym, ap, subst, ◌∙◌, inl, inr, arith}
use Rattle.std.proofs.lemmas.Bool.{leb-true, le-leb, eq-eqb, ne_eqb, cond-true, cond-false, cases_eq}
use Rattle.placers.specs.declared.faults.PlacerFault.{PlacerFault}
use Rattle.placers.specs.declared.faults.PlacerFault.TheVariants.{NoRoom}
use Rattle.placers.specs.declared.terms.Terms.{Terms}
use Rattle.placers.specs.declared.terms.Ask.{Ask}
use Rattle.placers.specs.declared.table.Latest.{Latest}
use Rattle.placers.specs.Terms.{current, shift_in}
use Rattle.placers.specs.Placers.{given, refused, octets_in, Due, Refusal}
use Rattle.placers.specs.Latest.{held_in, has_room, added, placing_to, Fits, rules_by}

pub in-same : (last octets q : ℕ) → last ≡ q → octets_in last octets q ≡ octets
in-same last octets q e = cond-true (last == q) octets 0 (eq-eqb last q e)

pub in-other : (last octets q : ℕ) → (last ≢ q) → octets_in last octets q ≡ 0
in-other last octets q e = cond-false (last == q) octets 0 (ne_eqb last q e)

-- A check that was passed.
pub passed : (b : Bool) (x : Result Latest PlacerFault) (f : PlacerFault) (c : ℕ) (next : Latest)
    → placing_to (cond b x (Err f)) ≡ given c next → (b ≡ true) × (placing_to x ≡ given c next)
passed true x f c next e = (refl, e)
passed false x f c next e = let k : ◌≡◌ {A = ℕ} 0 1 = cc in absurd (omega arith)

-- A refusal is that of a check, or one after it.
pub failed : (b : Bool) (x : Result Latest PlacerFault) (g f : PlacerFault) → Refusal g
    → (placing_to x ≡ refused f → Refusal f) → placing_to (cond b x (Err g)) ≡ refused f → Refusal f
failed true x g f n after e = after e
failed false x g f n after e = let k : g ≡ f = cc in subst Refusal k n

module _ (r : Latest) (q w quota : ℕ) where
  abbrev pub more : Latest
  more = record { cycle = q; octets = held_in r q + w }

  pub record Added (c : ℕ) (next : Latest) : Type 0 where
    pub room : held_in r q + w ≤ quota
    pub is-cycle : c ≡ q
    pub is-next : next ≡ more

  pub added-given : (c : ℕ) (next : Latest) → placing_to (added r q w quota) ≡ given c next → Added c next
  added-given c next e =
      let p = passed (has_room r q w quota) (Ok more) NoRoom c next e in
      let z : given q more ≡ given c next = p.1 in
      record { room = leb-true (held_in r q + w) quota p.0; is-cycle = cc; is-next = cc }

  pub added-refused : (f : PlacerFault) → placing_to (added r q w quota) ≡ refused f → Refusal f
  added-refused f = failed (has_room r q w quota) (Ok more) NoRoom f (inr refl) (λ e. let k : ◌≡◌ {A = ℕ} 0 1 = cc in absurd (omega arith))

  pub given-added : held_in r q + w ≤ quota → placing_to (added r q w quota) ≡ given q more
  given-added h = ap placing_to (cond-true (has_room r q w quota) (Ok more) (Err NoRoom) (le-leb (held_in r q + w) quota h))

  pub due-by : (f : Terms → Latest → Ask → Result Latest PlacerFault) (t : Terms) (a : Ask) (c : ℕ) (next : Latest) → a.octets ≡ w → a.quota ≡ quota
      → Added c next → current t a.clock < q → q < current t a.clock + t.bins → r.cycle ≤ q → Due (rules_by f) t r a c next
  due-by f t a c next v s d later reach order =
      let n : next.octets ≡ held_in r q + w = ap (λ (x : Latest). x.octets) d.is-next in
      let e : held_in r q ≡ held_in r c = ap (held_in r) (sym d.is-cycle) in
      record {
        later = omega (arith, d.is-cycle);
        reach = omega (arith, d.is-cycle);
        order = omega (arith, d.is-cycle);
        noted = ap (λ (x : Latest). x.cycle) d.is-next ∙ sym d.is-cycle;
        counted = n ∙ omega (arith, e);
        within = omega (arith, n, d.room);
      }

module _ (t : Terms) (r : Latest) (i u j : ℕ) (fits : Fits t r i u) (up : i ≤ j) where
  -- What the record has in the last cycle that a frame of input cycle j may get was sent in j.
  pub sent-in : held_in r (j + shift_in t) ≤ octets_in i u j
  sent-in = go (cases_eq r.cycle (j + shift_in t))
    where
      go : (r.cycle ≡ j + shift_in t) ⊎ (r.cycle ≢ j + shift_in t) → held_in r (j + shift_in t) ≤ octets_in i u j
      go (inr e) = let k = in-other r.cycle r.octets (j + shift_in t) e in omega arith
      go (inl e) =
          let s : i ≡ j = omega (arith, fits.order) in
          let o : r.cycle ≡ i + shift_in t = omega arith in
          let k = in-same r.cycle r.octets (j + shift_in t) e in
          let l = in-same i u j s in
          let m = fits.room o in
          omega arith

  -- So the next record fits too, whichever cycle up to that one the frame got.
  pub fits_more : (q w : ℕ) → q ≤ j + shift_in t → Fits t (more r q w 0) j (octets_in i u j + w)
  fits_more q w h = record { order = h; room = λ e. let k : held_in r q ≡ held_in r (j + shift_in t) = ap (held_in r) e in omega (arith, sent-in) }
