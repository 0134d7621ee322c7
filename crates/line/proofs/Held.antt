-- One module of a path: refused, a hold leaves it as it was; taken, its confirm makes the row live, and its drop gives the module back as it was.
use Rattle.std.proofs.Common.{◌≡◌, ℕ, ◌<◌, ◌≤◌, Bool, true, not, eqb, ◌⊎◌, List, length, get_or, set, Ok, Err, sym, ap, ◌∙◌, subst, inl, inr}
use Rattle.std.proofs.lemmas.List.{set-set, set-get_or, get_or-set_same, set_past}
use Rattle.std.proofs.lemmas.Bool.{and_parts, cases_lt}
use Rattle.book.specs.declared.faults.BookFault.{BookFault}
use Rattle.book.specs.declared.rows.Booking.{Booking}
use Rattle.book.specs.declared.rows.Row.{Row}
use Rattle.book.specs.declared.rows.Row.TheVariants.{Free, Held, Live}
use Rattle.book.specs.declared.ledger.Note.{Note}
use Rattle.book.specs.Rows.{is_held, confirmed, dropped}
use Rattle.book.specs.Books.{BookState, row_of, with_rows, no_stream, note_of, held_by, spent_by, hold_of, confirm_of, drop_of}
use Rattle.book.proofs.Within.{nope}
use Rattle.book.proofs.Notes.{Taken, hold-taken-says, hold-refused-says}
use Rattle.placers.specs.Placers.{Rules}
use Rattle.schedule.specs.Wires.{Loads}
use Rattle.schedule.specs.Modules.{State, with_book, renewed_at, confirming, dropping}
use Rattle.schedule.specs.Modules as modules
use Rattle.schedule.specs.Histories.{Hold, Confirm, DropHold, next_of}

-- Where a row that was written reads as held, it is the one that was written: the place is there.
written : (rows : List Row) (s : ℕ) (k : Booking) → get_or rows s Free ≡ Free → is_held (get_or (set rows s (Held k)) s Free) ≡ true → get_or (set rows s (Held k)) s Free ≡ Held k
written rows s k was h = go (cases_lt s (length rows))
  where
    go : (s < length rows) ⊎ (length rows ≤ s) → get_or (set rows s (Held k)) s Free ≡ Held k
    go (inl l) = get_or-set_same rows s (Held k) Free l
    go (inr l) =
        let e : get_or (set rows s (Held k)) s Free ≡ Free = ap (λ (rs : List Row). get_or rs s Free) (set_past rows s (Held k) l) ∙ was in
        nope (cc)

module _ {L Record : Type 0} (loads : Loads L) (m : Rules Record) (a : State L Record) (s : ℕ) (k : Booking) where
  pub hold-refused : (g : BookFault) → (hold_of a.book s k).0 ≡ Err g → next_of loads m a (Hold s k) ≡ a
  unfolding modules.holding
  hold-refused g e = ap (with_book loads m a) (hold-refused-says a.book s k g e)

  module _ (n : Note) (taken : (hold_of a.book s k).0 ≡ Ok n) (good : held_by (next_of loads m a (Hold s k)).book n ≡ true) where
    says : Taken a.book s k n
    says = hold-taken-says a.book s k n taken

    note-is : n ≡ note_of a.book s
    note-is = says.note

    held-state : next_of loads m a (Hold s k) ≡ with_book loads m a (with_rows a.book (set a.book.rows s (Held k)))
    unfolding modules.holding
    held-state = ap (with_book loads m a) says.next

    -- The row is held with the booking, since the note is good.
    row_is : get_or (set a.book.rows s (Held k)) s Free ≡ Held k
    unfolding modules.holding
    row_is =
        let b : BookState = with_rows a.book (set a.book.rows s (Held k)) in
        let h : held_by b (note_of a.book s) ≡ true = subst (λ (x : Note). held_by b x ≡ true) note-is (subst (λ (z : BookState). held_by z n ≡ true) says.next good) in
        let p = and_parts (eqb a.book.settings.number a.book.settings.number) _ h in
        let q = and_parts (not (no_stream s)) (is_held (row_of b s)) p.1 in
        written a.book.rows s k says.was q.1

    pub drop-back : next_of loads m (next_of loads m a (Hold s k)) (DropHold n) ≡ a
    unfolding dropping drop_of
    drop-back =
        let b : BookState = with_rows a.book (set a.book.rows s (Held k)) in
        let good' : held_by b n ≡ true = subst (λ (z : BookState). held_by z n ≡ true) (ap (λ (z : State L Record). z.book) held-state) good in
        ap (λ (z : State L Record). next_of loads m z (DropHold n)) held-state
        ∙ ap (λ (x : Bool). with_book loads m a (spent_by x dropped b n).1) good'
        ∙ ap (λ (x : Note). with_book loads m a (with_rows a.book (set (set a.book.rows s (Held k)) x.stream (dropped (get_or (set a.book.rows s (Held k)) x.stream Free))))) note-is
        ∙ ap (λ (r : Row). with_book loads m a (with_rows a.book (set (set a.book.rows s (Held k)) s (dropped r)))) row_is
        ∙ ap (λ (rs : List Row). with_book loads m a (with_rows a.book rs)) (set-set a.book.rows s (Held k) Free ∙ ap (λ (r : Row). set a.book.rows s r) (sym says.was) ∙ set-get_or a.book.rows s Free)

    pub row-live : row_of (next_of loads m (next_of loads m a (Hold s k)) (Confirm n)).book s ≡ Live k
    unfolding confirming confirm_of
    row-live =
        let b : BookState = with_rows a.book (set a.book.rows s (Held k)) in
        let good' : held_by b n ≡ true = subst (λ (z : BookState). held_by z n ≡ true) (ap (λ (z : State L Record). z.book) held-state) good in
        ap (λ (z : State L Record). row_of (confirm_of z.book n).1 s) held-state
        ∙ ap (λ (x : Bool). row_of (spent_by x confirmed b n).1 s) good'
        ∙ ap (λ (x : Note). get_or (set (set a.book.rows s (Held k)) x.stream (confirmed (get_or (set a.book.rows s (Held k)) x.stream Free))) s Free) note-is
        ∙ ap (λ (r : Row). get_or (set (set a.book.rows s (Held k)) s (confirmed r)) s Free) row_is
        ∙ ap (λ (rs : List Row). get_or rs s Free) (set-set a.book.rows s (Held k) (Live k))
        ∙ get_or-set_same a.book.rows s (Live k) Free there
      where
        there : s < length a.book.rows
        there = elim (cases_lt s (length a.book.rows)) [
          | inl l ↦ l
          | inr l ↦ let e : get_or (set a.book.rows s (Held k)) s Free ≡ Free = ap (λ (rs : List Row). get_or rs s Free) (set_past a.book.rows s (Held k) l) ∙ says.was in let f = row_is in nope (cc)
        ]
