-- What the placer's records say of what was given: a stream has nothing in a cycle after its last one, and there no more than its record counts.
-- So a frame that the placer accepts stays within the quota.
use Rattle.std.proofs.Common.{◌≡◌, ℕ, suc, ◌+◌, ◌/◌, ◌<◌, ◌≤◌, eqb, leb, ◌⊎◌, List, [], ◌∷◌, ◌++◌, sym, refl, ap, ◌∙◌, subst, subst₂, inl, inr, arith}
use native.Mathlib.Decide.{ℕ_discrete}
use Rattle.std.proofs.lemmas.Bool.{eq-eqb, ne_eqb, cond-true, cond-false, cond_both, cases_order}
use Rattle.book.specs.declared.rows.Booking.{Booking}
use Rattle.book.specs.declared.rows.Row.{Row}
use Rattle.book.specs.declared.rows.Row.TheVariants.{Free, Held, Live, Leaving}
use Rattle.book.specs.Told.{SetNumbers, Legal, class_count, cycle_of}
use Rattle.book.specs.Rows.{settled}
use Rattle.placers.specs.declared.terms.Ask.{Ask}
use Rattle.placers.specs.Terms.{terms_of}
use Rattle.placers.specs.Placers.{Rules, Asked, Led, placed, Due, replaced, given}
use Rattle.schedule.specs.Bins.{current_of}
use Rattle.schedule.specs.Wires.{Loads, wire_octets}
use Rattle.schedule.specs.Histories.{octets_for}
use Rattle.schedule.proofs.Cycles.{times_in, nested, rolls}
use Rattle.schedule.proofs.Octets.{for-push}
use Rattle.schedule.proofs.Rings.{Else, replaced-same, replaced-other}
use Rattle.schedule.proofs.Sound.{at_each}
use Rattle.schedule.proofs.Allowances.{Fair}

-- What holds of each stream holds after its record and its stamp were replaced.
pub replaced-each : {X Y : Type 0} (Q : ℕ → X → Y → Type 0) (f : ℕ → X) (g : ℕ → Y) (i : ℕ) (x : X) (y : Y) → Q i x y
    → ((j : ℕ) → (i ≡ j → ⊥) → Q j (f j) (g j)) → (j : ℕ) → Q j (replaced f i x j) (replaced g i y j)
replaced-each Q f g i x y a b j = go (ℕ_discrete i j)
  where
    go : Dec (i ≡ j) → Q j (replaced f i x j) (replaced g i y j)
    go (yes e) = subst (λ k. Q k (replaced f i x k) (replaced g i y k)) e (subst₂ (Q i) (sym (replaced-same f i x)) (sym (replaced-same g i y)) a)
    go (no e) = subst₂ (Q j) (sym (replaced-other f i j x e)) (sym (replaced-other g i j y e)) (b j e)

module _ {L Record : Type 0} (loads : Loads L) (m : Rules Record) (s : SetNumbers) where
  -- The record r and the last stamp of stream i with booking k at tick t: calls led to them, and they tell what was given.
  pub record Recorded (t : ℕ) (G : ℕ → ℕ → List L) (i : ℕ) (r : Record) (stamp : ℕ) (k : Booking) : Type 0 where
    pub clock : ℕ
    pub led : Led m (terms_of s k.class k.input) k.quota r stamp clock
    pub onward : clock ≤ t
    pub past : (q : ℕ) → current_of s t k.class ≤ q → m.last r < q → octets_for loads i (G k.class q) ≡ 0
    pub here : current_of s t k.class ≤ m.last r → octets_for loads i (G k.class (m.last r)) ≤ m.octets r

  -- Only a live row has a record that counts.
  abbrev pub RecordedRow : (t : ℕ) (G : ℕ → ℕ → List L) (i : ℕ) (r : Record) (stamp : ℕ) → Row → Type 0
  RecordedRow t G i r stamp Free = Unit {0}
  RecordedRow t G i r stamp (Held k) = Unit {0}
  RecordedRow t G i r stamp (Live k) = Recorded t G i r stamp k
  RecordedRow t G i r stamp (Leaving k u) = Unit {0}

  module _ (t : ℕ) (G : ℕ → ℕ → List L) where
    pub record-later : Legal s → (i : ℕ) (r : Record) (stamp : ℕ) (row : Row) → Fair s row → RecordedRow t G i r stamp row → RecordedRow (suc t) G i r stamp row
    record-later legal i r stamp Free l h = h
    record-later legal i r stamp (Held k) l h = h
    record-later legal i r stamp (Live k) l h =
        let e = rolls (cycle_of s) (times_in s) (class_count s) (nested s legal) t k.class l.class in
        record {
          clock = h.clock;
          led = h.led;
          onward = omega (arith, h.onward);
          past = λ q n z. h.past q (omega (arith, e)) z;
          here = λ n. h.here (omega (arith, e));
        }
    record-later legal i r stamp (Leaving k u) l h = h

    pub record-settled : (i : ℕ) (r : Record) (stamp : ℕ) (row : Row) → RecordedRow t G i r stamp row → RecordedRow t G i r stamp (settled s t row)
    record-settled i r stamp Free h = h
    record-settled i r stamp (Held k) h = h
    record-settled i r stamp (Live k) h = h
    record-settled i r stamp (Leaving k u) h = cond_both (leb u (current_of s t k.class)) Free (Leaving k u) (RecordedRow t G i r stamp) (λ e. tt) (λ e. tt)

    -- A frame a with booking k got cycle q and the record next.
    module _ (i : ℕ) (r next : Record) (stamp q : ℕ) (k : Booking) (a : Ask) (now : a.clock ≡ t) (h : Recorded t G i r stamp k)
        (due : Due m (terms_of s k.class k.input) r a q next) where
      pub record-fits : octets_for loads i (G k.class q) + a.octets ≤ m.octets next
      record-fits = go (cases_order (m.last r) q)
        where
          low : current_of s t k.class ≤ q
          low = omega (arith, due.later, ap (λ z. z / cycle_of s k.class) now)

          go : (m.last r ≡ q) ⊎ ((m.last r < q) ⊎ (q < m.last r)) → octets_for loads i (G k.class q) + a.octets ≤ m.octets next
          go (inl e) = omega (
            arith,
            subst (λ z. octets_for loads i (G k.class z) ≤ m.octets r) e (h.here (omega (arith, low))),
            due.counted,
            cond-true (eqb (m.last r) q) (m.octets r) 0 (eq-eqb (m.last r) q e),
          )
          go (inr (inl e)) = omega (arith, h.past q low e, due.counted, cond-false (eqb (m.last r) q) (m.octets r) 0 (ne_eqb (m.last r) q (λ z. omega arith)))
          go (inr (inr e)) = absurd (omega (arith, due.order))

    -- The stream's own record after the frame.
    pub record-put : (x : L) (r next : Record) (stamp q : ℕ) (k : Booking) (a : Ask) (G' : ℕ → ℕ → List L) → a.clock ≡ t → a.octets ≡ wire_octets loads x
        → (h : Recorded t G (loads.stream_of x) r stamp k)
        → Asked (terms_of s k.class k.input) k.quota stamp h.clock a → m.rule (terms_of s k.class k.input) r a ≡ given q next
        → Due m (terms_of s k.class k.input) r a q next
        → G' k.class q ≡ G k.class q ++ (x ∷ []) → Else k.class q G G'
        → Recorded t G' (loads.stream_of x) next a.stamp k
    record-put x r next stamp q k a G' now w h asked ruled due more others = record {
      clock = a.clock;
      led = placed r next stamp h.clock q a h.led asked ruled;
      onward = omega (arith, now);
      past = λ z n l. ap (octets_for loads (loads.stream_of x)) (sym (others k.class z (λ e. omega (arith, due.noted, e.1))))
          ∙ h.past z n (omega (arith, due.noted, due.order));
      here = λ n. subst (λ z. octets_for loads (loads.stream_of x) (G' k.class z) ≤ m.octets next) (sym due.noted)
          (omega (
            arith,
            record-fits (loads.stream_of x) r next stamp q k a now h due,
            w,
            ap (octets_for loads (loads.stream_of x)) more,
            for-push loads (loads.stream_of x) (G k.class q) x,
            cond-true (eqb (loads.stream_of x) (loads.stream_of x)) (wire_octets loads x) 0 (eq-eqb (loads.stream_of x) (loads.stream_of x) refl),
          ));
    }

    -- Another stream's frame.
    pub record-beside : (x : L) (c q i : ℕ) (r : Record) (stamp : ℕ) (row : Row) (G' : ℕ → ℕ → List L) → (loads.stream_of x ≡ i → ⊥)
        → G' c q ≡ G c q ++ (x ∷ []) → Else c q G G' → RecordedRow t G i r stamp row → RecordedRow t G' i r stamp row
    record-beside x c q i r stamp Free G' ne more others h = h
    record-beside x c q i r stamp (Held k) G' ne more others h = h
    record-beside x c q i r stamp (Leaving k u) G' ne more others h = h
    record-beside x c q i r stamp (Live k) G' ne more others h = record {
      clock = h.clock;
      led = h.led;
      onward = h.onward;
      past = λ z n l. same k.class z ∙ h.past z n l;
      here = λ n. omega (arith, same k.class (m.last r), h.here n);
    }
      where
        same : (d z : ℕ) → octets_for loads i (G' d z) ≡ octets_for loads i (G d z)
        same = at_each (λ d z. octets_for loads i (G' d z) ≡ octets_for loads i (G d z)) c q
            (omega (arith, ap (octets_for loads i) more, for-push loads i (G c q) x, cond-false (eqb (loads.stream_of x) i) (wire_octets loads x) 0 (ne_eqb (loads.stream_of x) i ne)))
            (λ d z e. ap (octets_for loads i) (sym (others d z e)))
