-- What a call makes of a book: refused, it leaves it as it was; accepted, it changes one row or moves the clock.
use Rattle.std.proofs.Common.{◌≡◌, ℕ, ◌<◌, ◌≤◌, Bool, true, false, cond, not, ◌||◌, ltb, [], ◌∷◌, set, is_some, is_ok, Some, None, Option, refl, ap, ◌∙◌, arith}
use Rattle.std.proofs.lemmas.Bool.{ltb-true, ltb-false, or_parts, not-false}
use Rattle.book.specs.declared.faults.BookFault.{BookFault}
use Rattle.book.specs.declared.faults.BookFault.TheVariants.{NotThere, BadLengths, WrongState, BadUntil}
use Rattle.book.specs.declared.rows.Booking.{Booking}
use Rattle.book.specs.declared.rows.Row.{Row}
use Rattle.book.specs.declared.rows.Row.TheVariants.{Free, Held, Live, Leaving}
use Rattle.book.specs.declared.ledger.Note.{Note}
use Rattle.book.specs.Faults.{first_hit, check, or_else}
use Rattle.book.specs.Ticks.{last_tick}
use Rattle.book.specs.Told.{SetNumbers, class_count}
use Rattle.book.specs.Rows.{is_free, fits, octets, holding, confirmed, dropped, released, releasing}
use Rattle.book.specs.Sums.{over_fault}
use Rattle.book.specs.Books.{BookState, row_of, changed, lacks, no_stream, no_input, no_class_at, judged, hold_fault, note_of, hold_of, held_by, spent_by, confirm_of, drop_of, released_by, release_of, advanced, advance_of}
use Rattle.book.specs.Sequences.{Call, Hold, Confirm, DropHold, Release, Advance, next_of, accepted_of}
use Rattle.book.proofs.Answering.{free-holding}
use Rattle.book.proofs.Within.{nope, from-none, confirmed-books, dropped-books, released-books}

-- The class of a row's booking is there.
abbrev pub Classed : ℕ → Row → Type 0
Classed n Free = Unit {0}
Classed n (Held b) = b.class < n
Classed n (Live b) = b.class < n
Classed n (Leaving b q) = b.class < n

-- What confirm, drop and release do to a row: it books no more, its class stays there, and it stays if it is free or leaving.
pub record Turn (g : Row → Row) : Type 0 where
  pub less : (c : ℕ) (r : Row) → octets c (g r) ≤ octets c r
  pub classed : (n : ℕ) (r : Row) → Classed n r → Classed n (g r)
  pub free : g Free ≡ Free
  pub leaving : (b : Booking) (q : ℕ) → g (Leaving b q) ≡ Leaving b q

pub confirmed-turn : Turn confirmed
confirmed-turn = record { less = confirmed-books; classed = λ n r h. classed n r h; free = refl; leaving = λ b q. refl }
  where
    classed : (n : ℕ) (r : Row) → Classed n r → Classed n (confirmed r)
    classed n Free h = h
    classed n (Held b) h = h
    classed n (Live b) h = h
    classed n (Leaving b q) h = h

pub dropped-turn : Turn dropped
dropped-turn = record { less = dropped-books; classed = λ n r h. classed n r h; free = refl; leaving = λ b q. refl }
  where
    classed : (n : ℕ) (r : Row) → Classed n r → Classed n (dropped r)
    classed n Free h = h
    classed n (Held b) h = tt
    classed n (Live b) h = h
    classed n (Leaving b q) h = h

pub released-turn : (s : SetNumbers) (t : ℕ) → Turn (released s t)
released-turn s t = record { less = released-books s t; classed = λ n r h. classed n r h; free = refl; leaving = λ b q. refl }
  where
    classed : (n : ℕ) (r : Row) → Classed n r → Classed n (released s t r)
    classed n Free h = h
    classed n (Held b) h = h
    classed n (Live b) h = h
    classed n (Leaving b q) h = h

-- The next book of a call, in each of the ways in which a call can go.
pub data Moves (b : BookState) : Call → BookState → Type 0 where
  refused : {c : Call} → accepted_of b c ≡ false → Moves b c b
  held : (x : ℕ) (k : Booking) → accepted_of b (Hold x k) ≡ true → k.class < class_count b.settings
      → is_some (over_fault b.settings (changed b x (holding k)).rows) ≡ false
      → Moves b (Hold x k) (changed b x (holding k))
  turned : {c : Call} (x : ℕ) (g : Row → Row) → accepted_of b c ≡ true → Turn g → Moves b c (changed b x g)
  moved : (t : ℕ) → accepted_of b (Advance t) ≡ true → b.clock ≤ t → Moves b (Advance t) (advanced b t)

-- An accepted hold has passed its checks.
pub hold-passed : (absent unfit taken : Bool) (o : Option BookFault)
    → or_else (first_hit (check absent NotThere ∷ check unfit BadLengths ∷ check taken WrongState ∷ [])) o ≡ None
    → (absent ≡ false) × (taken ≡ false) × (o ≡ None)
hold-passed true unfit taken o e = nope (cc)
hold-passed false true taken o e = nope (cc)
hold-passed false false true o e = nope (cc)
hold-passed false false false o e = (refl, refl, e)

hold-facts : (b : BookState) (x : ℕ) (k : Booking) → hold_fault b x k ≡ None
    → (k.class < class_count b.settings) × (is_some (over_fault b.settings (changed b x (holding k)).rows) ≡ false)
unfolding hold_fault
hold-facts b x k e =
    let over : Option BookFault = over_fault b.settings (set b.rows x (Held k)) in
    let no_port : Bool = no_input b k.input || no_class_at b k.class in
    let p = hold-passed (lacks b x k) (not (fits k)) (not (is_free (row_of b x))) over e in
    let there = (or_parts (no_input b k.input) (no_class_at b k.class) (or_parts (no_stream x) no_port p.0).1).1 in
    let row = free-holding k (row_of b x) (not-false (is_free (row_of b x)) p.1) in (
      ltb-true k.class (class_count b.settings) (not-false (ltb k.class (class_count b.settings)) there),
      ap (λ (r : Row). is_some (over_fault b.settings (set b.rows x r))) row ∙ from-none over p.2,
    )

hold-moves : (b : BookState) (x : ℕ) (k : Booking) (o : Option BookFault) → hold_fault b x k ≡ o
    → Moves b (Hold x k) (judged o (note_of b x) (changed b x (holding k)) b).1
unfolding hold_of
hold-moves b x k (Some f) e = refused (rw e refl)
hold-moves b x k None e = let h = hold-facts b x k e in held x k (rw e refl) h.0 h.1

confirm-moves : (b : BookState) (n : Note) (x : Bool) → held_by b n ≡ x → Moves b (Confirm n) (spent_by x confirmed b n).1
unfolding confirm_of
confirm-moves b n true e = turned n.stream confirmed (ap (λ x. is_ok (spent_by x confirmed b n).0) e) confirmed-turn
confirm-moves b n false e = refused (ap (λ x. is_ok (spent_by x confirmed b n).0) e)

drop-moves : (b : BookState) (n : Note) (x : Bool) → held_by b n ≡ x → Moves b (DropHold n) (spent_by x dropped b n).1
unfolding drop_of
drop-moves b n true e = turned n.stream dropped (ap (λ x. is_ok (spent_by x dropped b n).0) e) dropped-turn
drop-moves b n false e = refused (ap (λ x. is_ok (spent_by x dropped b n).0) e)

release-moves : (b : BookState) (s : ℕ) (x : Bool) (o : Option ℕ) → no_stream s ≡ x
    → releasing b.settings b.clock (row_of b s) ≡ o → Moves b (Release s) (released_by x o b s).1
unfolding release_of
release-moves b s true o e d = refused (rw e refl)
release-moves b s false None e d = refused (rw (e, d) refl)
release-moves b s false (Some q) e d =
    turned s (released b.settings b.clock) (rw (e, d) refl) (released-turn b.settings b.clock)

advance-moves : (b : BookState) (t : ℕ) (x : Bool) → (ltb t b.clock || ltb last_tick t) ≡ x
    → Moves b (Advance t) (judged (cond x (Some BadUntil) None) (tt {0}) (advanced b t) b).1
unfolding advance_of
advance-moves b t true e = refused (rw e refl)
advance-moves b t false e = moved t (rw e refl) (ltb-false t b.clock (or_parts _ _ e).0)

pub moves : (b : BookState) (c : Call) → Moves b c (next_of b c)
unfolding hold_of confirm_of drop_of release_of advance_of
moves b (Hold x k) = hold-moves b x k (hold_fault b x k) refl
moves b (Confirm n) = confirm-moves b n (held_by b n) refl
moves b (DropHold n) = drop-moves b n (held_by b n) refl
moves b (Release s) = release-moves b s (no_stream s) (releasing b.settings b.clock (row_of b s)) refl refl
moves b (Advance t) = advance-moves b t (ltb t b.clock || ltb last_tick t) refl

-- Refused, unchanged.
pub refused-same : {b b' : BookState} {c : Call} → Moves b c b' → accepted_of b c ≡ false → b' ≡ b
refused-same (refused r) e = refl
refused-same (held x k a l w) e = nope (cc)
refused-same (turned x g a u) e = nope (cc)
refused-same (moved t a l) e = nope (cc)

-- The settings stay, and the clock never goes back.
pub same-settings : {b b' : BookState} {c : Call} → Moves b c b' → b'.settings ≡ b.settings
same-settings (refused r) = refl
same-settings (held x k a l w) = refl
same-settings (turned x g a t) = refl
same-settings (moved t a l) = refl

pub clock-on : {b b' : BookState} {c : Call} → Moves b c b' → b.clock ≤ b'.clock
clock-on (refused r) = omega arith
clock-on (held x k a l w) = omega arith
clock-on (turned x g a t) = omega arith
clock-on (moved t a l) = l
