-- Refusal 8 of a hold names the lowest class that the hold would take past its cycle.
use Rattle.std.proofs.Common.{◌≡◌, ℕ, ◌-◌, Bool, true, false, not, List, [], ◌∷◌, set, Some, None, Err, Option, sym, subst, arith}
use Rattle.book.specs.declared.faults.BookFault.{BookFault}
use Rattle.book.specs.declared.faults.BookFault.TheVariants.{NotThere, BadLengths, WrongState, Over}
use Rattle.book.specs.declared.rows.Booking.{Booking}
use Rattle.book.specs.declared.rows.Row.{Row}
use Rattle.book.specs.declared.rows.Row.TheVariants.{Held}
use Rattle.book.specs.Faults.{first_hit, check, or_else}
use Rattle.book.specs.Told.{SetNumbers, class_count, cycle_of}
use Rattle.book.specs.Rows.{is_free, fits, holding}
use Rattle.book.specs.Sums.{demand, over_fault, LowestOver}
use Rattle.book.specs.Books.{BookState, row_of, lacks, judged, note_of, changed, hold_fault, hold_of}
use Rattle.book.proofs.Within.{nope, Lowest, over-found}

lowest-over : (s : SetNumbers) (rows : List Row) (c ticks : ℕ) → over_fault s rows ≡ Some (Over c ticks) → LowestOver s rows c ticks
lowest-over s rows c ticks e = go (over-found s rows (class_count s) (Over c ticks) e)
  where
    go : Lowest s rows (class_count s) (Over c ticks) → LowestOver s rows c ticks
    go l =
        let named : Over c ticks ≡ Over l.class (demand s rows l.class - cycle_of s l.class) = l.named in
        let k : c ≡ l.class = cc in
        let t : ticks ≡ demand s rows l.class - cycle_of s l.class = cc in
        subst (λ (x : ℕ). LowestOver s rows x ticks) (sym k) (record {
          there = l.there;
          some = omega (arith, l.over);
          over = omega (arith, l.over);
          lower = l.lower;
        })

-- The checks before the sums give other faults.
past-checks : (absent unfit taken : Bool) (o : Option BookFault) (c ticks : ℕ)
    → or_else (first_hit (check absent NotThere ∷ check unfit BadLengths ∷ check taken WrongState ∷ [])) o ≡ Some (Over c ticks) → o ≡ Some (Over c ticks)
past-checks true unfit taken o c ticks e = nope (cc)
past-checks false true taken o c ticks e = nope (cc)
past-checks false false true o c ticks e = nope (cc)
past-checks false false false o c ticks e = e

judged-fault : (b : BookState) (x : ℕ) (k : Booking) (o : Option BookFault) (f : BookFault)
    → (judged o (note_of b x) (changed b x (holding k)) b).0 ≡ Err f → o ≡ Some f
judged-fault b x k (Some g) f e = cc
judged-fault b x k None f e = nope (cc)

pub hold-lowest : (b : BookState) (x : ℕ) (k : Booking) (c ticks : ℕ) → (hold_of b x k).0 ≡ Err (Over c ticks)
    → LowestOver b.settings (set b.rows x (Held k)) c ticks
unfolding hold_of hold_fault
hold-lowest b x k c ticks e =
    lowest-over b.settings (set b.rows x (Held k)) c ticks
    (past-checks (lacks b x k) (not (fits k)) (not (is_free (row_of b x))) (over_fault b.settings (set b.rows x (Held k))) c ticks
    (judged-fault b x k (hold_fault b x k) (Over c ticks) e))
