-- What stands at a place of a list that is not there.
use Rattle.std.proofs.Common.{◌≡◌, ℕ, Bool, true, false, cond, ltb, List, length, get_or, Some, None, refl}
use Rattle.book.specs.Sets.{placed}
use Rattle.std.proofs.lemmas.List.{get_or_past}
use Rattle.std.proofs.lemmas.Bool.{ltb-false}

pub placed-none : {X : Type 0} (xs : List X) (i : ℕ) (d : X) → None ≡ placed xs i d → get_or xs i d ≡ d
placed-none {X} xs i d e = get_or_past xs i d (ltb-false i (length xs) (go (ltb i (length xs)) e))
  where
    go : (b : Bool) → None ≡ cond b (Some (get_or xs i d)) None → b ≡ false
    go true h = cc
    go false h = refl
