-- A leg follows those before it where none of them hinders it.
use Rattle.std.proofs.Common.{◌≡◌, ℕ, ◌<◌, Bool, true, false, not, ◌&&◌, ◌==◌, length, List, MatchBool, HoldsAt, sym, ◌∙◌, zero-le}
use Rattle.std.specs.List.{AllWithin}
use Rattle.std.proofs.lemmas.Bool.{eq-eqb, eqb-true, and_parts, and_from, not-true, not_from_false, false_from_ne_true}
use Rattle.line.specs.declared.legs.Leg.{Leg}
use Rattle.line.specs.declared.banks.Bank.{Ghosts}
use Rattle.line.specs.Paths.{leg_at, differ, class_on, Follows}

module _ {B : Type 0} (g : Ghosts B) (bank : B) (before : List Leg) (l : Leg) where
  abbrev pub free : Leg → Bool
  free o = not (o.number == l.number) && not (differ (class_on g bank o) (class_on g bank l))

  apart : (o : Leg) → free o ≡ true → o.number ≡ l.number → ⊥
  apart o e z = let y : true ≡ false = sym (eq-eqb o.number l.number z) ∙ not-true _ (and_parts (not (o.number == l.number)) _ e).0 in cc

  hinders : (o : Leg) → free o ≡ false → (o.number ≡ l.number → ⊥) → differ (class_on g bank o) (class_on g bank l) ≡ false → ⊥
  hinders o e a d =
      let y : true ≡ false = sym (and_from _ _ (not_from_false _ (false_from_ne_true _ (λ t. a (eqb-true o.number l.number t)))) (not_from_false _ d)) ∙ e in
      cc

  pub follows-cases : (r : Bool) → l.number < g.size
      → MatchBool r (AllWithin (λ o. free o ≡ true) before 0 (length before)) ((k : ℕ) × (k < length before) × HoldsAt (λ o. free o ≡ false) before k)
      → MatchBool r (Follows g bank before l) (Follows g bank before l → ⊥)
  follows-cases true t h = record {
    there = t;
    apart = λ i b. apart (leg_at before i) (h i _ zero-le b);
    alike = λ i b. not-true _ (and_parts (not ((leg_at before i).number == l.number)) _ (h i _ zero-le b)).1;
  }
  follows-cases false t h = λ f. hinders (leg_at before h.0) (h.2 _) (f.apart h.0 h.1) (f.alike h.0 h.1)
