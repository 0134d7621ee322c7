-- The sums of the rows and the classes, one more at a time, as the loops go.
use Rattle.std.proofs.Common.{◌≡◌, ℕ, zero, suc, ◌+◌, ◌<◌, List, [], ◌∷◌, length, get_or, take, Some, None, Err, Option, refl, le_of_suc-le-suc, not-suc-le-zero, arith}
use Rattle.book.specs.declared.faults.BookFault.{BookFault}
use Rattle.book.specs.Faults.{unless}
use Rattle.book.specs.Told.{SetNumbers}
use Rattle.book.specs.Sums.{over_at, over_below}
use Rattle.book.proofs.Within.{nope, over-stays}
use Rattle.book.specs.declared.rows.Row.{Row}
use Rattle.book.specs.Rows.{octets, booked}

pub booked-more : (c : ℕ) (rs : List Row) (i : ℕ) (d : Row) → i < length rs → booked c (take (suc i) rs) ≡ booked c (take i rs) + octets c (get_or rs i d)
unfolding booked
booked-more c [] i d h = absurd (not-suc-le-zero h)
booked-more c (r ∷ rs) zero d h = omega arith
booked-more c (r ∷ rs) (suc i) d h = let e = booked-more c rs i d (le_of_suc-le-suc h) in omega arith

-- The first class that fails is told, whatever the later ones say.
pub check-fails : (s : SetNumbers) (rs : List Row) (c n : ℕ) (f : BookFault) → over_below s rs c ≡ None → c < n
    → Err f ≡ unless (over_at s rs c) → Err f ≡ unless (over_below s rs n)
check-fails s rs c n f before l e = go (over_at s rs c) refl e
  where
    go : (o : Option BookFault) → over_at s rs c ≡ o → Err f ≡ unless o → Err f ≡ unless (over_below s rs n)
    go (Some g) p h = rw (over-stays s rs c n g before p l) h
    go None p h = nope (cc)
