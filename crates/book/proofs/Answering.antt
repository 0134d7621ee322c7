-- What each call answers and leaves, from its tests: one lemma for each way.
use Rattle.std.proofs.Common.{◌≡◌, ℕ, ◌≤◌, Bool, true, false, ◌||◌, ltb, [], ◌∷◌, refl, ap}
use Rattle.std.proofs.lemmas.Bool.{or_parts, ltb-false}
use Rattle.book.specs.declared.faults.BookFault.TheVariants.{BadUntil}
use Rattle.book.specs.declared.rows.Booking.{Booking}
use Rattle.book.specs.declared.rows.Row.{Row}
use Rattle.book.specs.declared.rows.Row.TheVariants.{Free, Held, Live, Leaving}
use Rattle.book.specs.declared.ledger.Note.{Note}
use Rattle.book.specs.Faults.{first_hit, check}
use Rattle.book.specs.Ticks.{last_tick}
use Rattle.book.specs.Rows.{is_free, holding, confirmed, dropped}
use Rattle.book.specs.Books.{BookState, lacks, no_stream, no_input, no_class_at, judged, held_by, spent_by, confirm_of, drop_of, advanced, advance_of}

-- A free row becomes held.
pub free-holding : (k : Booking) (r : Row) → is_free r ≡ true → holding k r ≡ Held k
free-holding k Free e = refl
free-holding k (Held a) e = cc
free-holding k (Live a) e = cc
free-holding k (Leaving a q) e = cc

-- The row of a hold is there.
pub lacks-not : (b : BookState) (s : ℕ) (k : Booking) → lacks b s k ≡ false → s ≤ 127
lacks-not b s k h = ltb-false 127 s (or_parts (no_stream s) (no_input b k.input || no_class_at b k.class) h).0

pub confirm-at : (b : BookState) (n : Note) (x : Bool) → held_by b n ≡ x → confirm_of b n ≡ spent_by x confirmed b n
unfolding confirm_of
confirm-at b n x p = ap (λ (y : Bool). spent_by y confirmed b n) p

pub drop_at : (b : BookState) (n : Note) (x : Bool) → held_by b n ≡ x → drop_of b n ≡ spent_by x dropped b n
unfolding drop_of
drop_at b n x p = ap (λ (y : Bool). spent_by y dropped b n) p

pub advance-at : (b : BookState) (t : ℕ) (x : Bool) → (ltb t b.clock || ltb last_tick t) ≡ x → advance_of b t ≡ judged (first_hit (check x BadUntil ∷ [])) tt (advanced b t) b
unfolding advance_of
advance-at b t x p = ap (λ (y : Bool). judged (first_hit (check y BadUntil ∷ [])) tt (advanced b t) b) p
