-- A confirm by the state of the row: what the port does in each case goes by the rules.
use Rattle.std.proofs.Common.{◌≡◌, ℕ, Bool, true, false, cond, not, ◌&&◌, eqb, ltb, Some, None, Ok, Err, Result, sym, refl, ap, ◌∙◌}
use Rattle.std.proofs.lemmas.Bool.{and_right, cond-true, cond-false}
use Rattle.book.specs.declared.faults.BookFault.{BookFault}
use Rattle.book.specs.declared.rows.Booking.{Booking}
use Rattle.book.specs.declared.rows.Row.{Row}
use Rattle.book.specs.declared.rows.Row.TheVariants.{Free, Held, Live, Leaving}
use Rattle.book.specs.declared.ledger.Note.{Note}
use Rattle.book.specs.Rows.{is_held, held_in, confirmed}
use Rattle.book.specs.Books.{BookState, row_of, no_stream, held_by, spent_by, confirm_of}
use Rattle.racks.specs.Bins.{bin_of}
use Rattle.placers.specs.declared.terms.Terms.{Terms}
use Rattle.placers.specs.Placers.{Rules, replaced, renewing}
use Rattle.placers.specs.Terms.{terms_of}
use Rattle.schedule.specs.Wires.{Loads}
use Rattle.schedule.specs.Modules.{State, with_book, renewed, renewed_at, confirming}
use Rattle.schedule.specs.Histories.{Confirm, spent}
use Rattle.port.specs.Rowed.{held_booking}
use Rattle.port.specs.Standing.{Parts, state_in, Follows}
use Rattle.port.proofs.Following.{parts, follows-standing, follows, booked}

abbrev Spent : Type 0
Spent = Result (Unit {0}) (BookFault × Note)

-- Whether a row is held, by its booking.
held_none : (none : Bool) (r : Row) → None ≡ cond none None (held_in r) → (not none && is_held r) ≡ false
held_none true r e = refl
held_none false Free e = refl
held_none false (Held k) e = cc
held_none false (Live k) e = refl
held_none false (Leaving k q) e = refl

held-some : (none : Bool) (r : Row) (k : Booking) → Some k ≡ cond none None (held_in r) → (none ≡ false) × (r ≡ Held k)
held-some true r k e = (cc, cc)
held-some false Free k e = (cc, cc)
held-some false (Held j) k e = (refl, cc)
held-some false (Live j) k e = (cc, cc)
held-some false (Leaving j q) k e = (cc, cc)

-- Whether the book took the note, by its answer.
spent-err : (x : Bool) (b : BookState) (n : Note) (f : BookFault × Note) → Err f ≡ (spent_by x confirmed b n).0 → x ≡ false
spent-err true b n f e = cc
spent-err false b n f e = refl

spent-ok : (x : Bool) (b : BookState) (n : Note) → Ok tt ≡ (spent_by x confirmed b n).0 → x ≡ true
spent-ok true b n e = refl
spent-ok false b n e = cc

module _ {L Record : Type 0} (loads : Loads L) (m : Rules Record) (p : Parts L Record) (n : Note) (b : BookState) (r : Spent)
    (answers : r ≡ (confirm_of p.book n).0) (next : b ≡ (confirm_of p.book n).1) where
  -- The book refuses, and then nothing else changes.
  refused-follows : held_by p.book n ≡ false → Follows loads m (Confirm n) p (booked loads m p b) (spent r)
  unfolding confirming
  refused-follows e = follows loads m (Confirm n) p (booked loads m p b) (spent r) (record { bins = refl; depth = refl; total = refl }) (record {
    next = ap (λ (c : BookState). with_book loads m (state_in p) c) next
        ∙ ap (λ (a : State L Record). with_book loads m a (confirm_of p.book n).1) (sym (cond-false (held_by p.book n) _ (state_in p) e));
    answers = ap (λ (w : Spent). spent w) answers;
  })

  pub confirm-unheld : None ≡ held_booking p.book n.stream → Follows loads m (Confirm n) p (booked loads m p b) (spent r)
  confirm-unheld e = refused-follows (and_right (eqb n.number p.book.settings.number) _ (held_none (no_stream n.stream) (row_of p.book n.stream) e))

  pub confirm-refused : (f : BookFault × Note) → r ≡ Err f → Follows loads m (Confirm n) p (booked loads m p b) (spent r)
  unfolding confirm_of
  confirm-refused f e = refused-follows (spent-err (held_by p.book n) p.book n f (sym e ∙ answers))

  same-state : (b b' : BookState) (rs rs' : ℕ → Record) (ss ss' : ℕ → ℕ) → b ≡ b' → rs ≡ rs' → ss ≡ ss'
      → ◌≡◌ {A = State L Record} (record { book = b; records = rs; stamps = ss; wire = p.wire; bins = bin_of p.bins })
      (record { book = b'; records = rs'; stamps = ss'; wire = p.wire; bins = bin_of p.bins })
  same-state b b' rs rs' ss ss' e f g = cc

  -- The book takes the note, and the stream's record and stamp are new.
  module _ (records : ℕ → Record) (stamps : ℕ → ℕ) (k : Booking) where
    abbrev pub renewed_parts : Parts L Record
    renewed_parts = parts b records stamps p.wire p.bins p.depth p.total

    confirm-by : r ≡ Ok tt → Some k ≡ held_booking p.book n.stream
        → records ≡ renewing m (terms_of p.book.settings k.class k.input) p.records n.stream
        → stamps ≡ cond (ltb 127 n.stream) p.stamps (replaced p.stamps n.stream 0)
        → Follows loads m (Confirm n) p renewed_parts (spent r)
    unfolding confirming confirm_of
    confirm-by ok is rs ss = follows-standing loads m (Confirm n) p renewed_parts (spent r) (record { bins = refl; depth = refl; total = refl })
        (λ s begun h so.
        let held = held-some (no_stream n.stream) (row_of p.book n.stream) k is in
        let took = spent-ok (held_by p.book n) p.book n (sym ok ∙ answers) in
        let records_is : records ≡ replaced p.records n.stream (m.fresh (terms_of p.book.settings k.class k.input)) =
        rs ∙ cond-false (ltb 127 n.stream) p.records _ held.0 in
        let stamps-is = ss ∙ cond-false (ltb 127 n.stream) p.stamps _ held.0 in
        let a : State L Record = state_in p in
        let due : cond (held_by p.book n) (renewed_at loads m a n.stream (row_of p.book n.stream)) a ≡ renewed loads m a n.stream k =
        cond-true (held_by p.book n) _ a took ∙ ap (λ (w : Row). renewed_at loads m a n.stream w) held.1 in
        record {
          next = same-state b (confirm_of p.book n).1 records _ stamps _ next records_is stamps-is
              ∙ sym (ap (λ (w : State L Record). with_book loads m w (confirm_of p.book n).1) due);
          answers = ap (λ (w : Spent). spent w) answers;
        })

    -- The same with the stream and the terms as the code has them.
    pub confirm-taken : (x : ℕ) (t : Terms) → x ≡ n.stream → t ≡ terms_of p.book.settings k.class k.input → r ≡ Ok tt
        → Some k ≡ held_booking p.book x → records ≡ renewing m t p.records x
        → stamps ≡ cond (ltb 127 x) p.stamps (replaced p.stamps x 0) → Follows loads m (Confirm n) p renewed_parts (spent r)
    confirm-taken x t xs ts ok is rs ss = confirm-by ok (is ∙ ap (held_booking p.book) xs)
        (rs ∙ ap (λ (u : Terms). renewing m u p.records x) ts ∙ ap (renewing m (terms_of p.book.settings k.class k.input) p.records) xs)
        (ss ∙ ap (λ (y : ℕ). cond (ltb 127 y) p.stamps (replaced p.stamps y 0)) xs)
