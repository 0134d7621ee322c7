-- Legal settings give legal terms.
use Rattle.std.proofs.Common.{◌≡◌, ℕ, ◌%◌, ◌<◌, Bool, true, false, cond, ltb, List, length, get_or, Some, None, refl, mod-lt, arith}
use Rattle.std.proofs.lemmas.Bool.{ltb-true}
use Rattle.book.specs.declared.setup.Class.{Class}
use Rattle.book.specs.Told.{SetNumbers, Legal, no_class, class_count, input_count, cycle_of}
use Rattle.book.specs.Sets.{placed, class_at, phase_at}
use Rattle.book.proofs.Within.{nope}
use Rattle.placers.specs.Terms.{LegalTerms, terms_of}

pub legal-terms : (s : SetNumbers) → Legal s → (c i : ℕ) → c < class_count s → i < input_count s → LegalTerms (terms_of s c i)
legal-terms s legal c i hc hi =
    let pos : 0 < cycle_of s c = omega (arith, legal.least c hc) in
    record {
      least = legal.least c hc;
      most = legal.most c hc;
      phased = mod-lt (get_or s.phases i 0) pos;
      delays = legal.delays;
      eight_bins = legal.eight_bins c hc;
      served = legal.served c i hc hi;
    }

-- What was found at a place is there.
there : {X : Type 0} (xs : List X) (i : ℕ) (d x : X) → Some x ≡ placed xs i d → (i < length xs) × (x ≡ get_or xs i d)
there xs i d x e = go (ltb i (length xs)) refl e
  where
    go : (b : Bool) → ltb i (length xs) ≡ b → Some x ≡ cond b (Some (get_or xs i d)) None → (i < length xs) × (x ≡ get_or xs i d)
    go true t z = (ltb-true i (length xs) t, cc)
    go false t z = nope (cc)

pub found-legal : (s : SetNumbers) → Legal s → (c i : ℕ) (k : Class) (p : ℕ) → Some k ≡ class_at s c → Some p ≡ phase_at s i
    → LegalTerms (record { cycle = k.cycle; phase = p % k.cycle; delay = s.delay; bins = k.bins })
found-legal s legal c i k p is-class is-phase =
    let (c-there, is-k) = there s.classes c no_class k is-class in
    let (i-there, is-p) = there s.phases i 0 p is-phase in
    rw (is-k, is-p) (legal-terms s legal c i c-there i-there)
