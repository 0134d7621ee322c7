-- A booking call to the eyes of a stream: its own changes two modules alike that are the same to it, if both accept the call
-- or neither does; one of another stream changes nothing.
use Rattle.std.proofs.Common.{◌≡◌, ℕ, Bool, true, false, cond, eqb, set, is_ok, Some, None, Option, sym, refl, ap, ◌∙◌, subst, subst₂}
use Rattle.std.proofs.lemmas.Bool.{eqb-true, eqb-false, cond-false, cond_both}
use Rattle.book.specs.declared.rows.Booking.{Booking}
use Rattle.book.specs.declared.rows.Row.{Row}
use Rattle.book.specs.declared.rows.Row.TheVariants.{Free, Held, Live, Leaving}
use Rattle.book.specs.Rows as rows
use Rattle.book.specs.Rows.{confirmed, dropped, released}
use Rattle.book.specs.Books as book
use Rattle.book.specs.Books.{row_of, with_rows, changed, no_stream, note_of, hold_fault, hold_of, held_by, spent_by, confirm_of, drop_of, released_by, release_of}
use Rattle.book.proofs.Within.{nope}
use Rattle.placers.specs.Terms.{terms_of}
use Rattle.placers.specs.Placers.{Rules}
use Rattle.schedule.specs.Wires.{Loads}
use Rattle.schedule.specs.Modules.{State, with_book, renewed, renewed_at, terms_for, holding, confirming, dropping, releasing}
use Rattle.schedule.specs.Histories.{Call, Hold, Confirm, DropHold, Release, Frame, Filler, Run, answer_to, next_of}
use Rattle.schedule.specs.Streams.{is_booking, is_accepted, concerns}
use Rattle.schedule.proofs.Views.{Same, same-on, same_self, row-own, row_other}

module _ {L Record : Type 0} (loads : Loads L) (m : Rules Record) where
  -- A confirm where the row is known.
  abbrev confirmed_at : State L Record → (stream : ℕ) → Row → State L Record
  confirmed_at a x r = with_book loads m (renewed_at loads m a x r) (with_rows a.book (set a.book.rows x (confirmed r)))

  -- What an accepted booking call leads to.
  abbrev accepted : State L Record → Call L → State L Record
  accepted a (Hold x k) = with_book loads m a (changed a.book x (rows.holding k))
  accepted a (Confirm n) = confirmed_at a n.stream (row_of a.book n.stream)
  accepted a (DropHold n) = with_book loads m a (changed a.book n.stream dropped)
  accepted a (Release x) = with_book loads m a (changed a.book x (released a.book.settings a.book.clock))
  accepted a (Frame input stamp x) = a
  accepted a (Filler n) = a
  accepted a (Run until places) = a

  -- A booking call leads there or changes nothing.
  booked : (a : State L Record) (c : Call L) → is_booking c ≡ true
      → next_of loads m a c ≡ cond (is_accepted (answer_to loads m a c)) (accepted a c) a
  unfolding holding confirming dropping releasing hold_of confirm_of drop_of release_of
  booked a (Hold x k) e = elim (hold_fault a.book x k) as (λ o.
      let p = book.judged o (note_of a.book x) (changed a.book x (rows.holding k)) a.book in
      with_book loads m a p.1 ≡ cond (is_ok p.0) (accepted a (Hold x k)) a) [ Some f ↦ refl | None ↦ refl ]
  booked a (Confirm n) e = elim (held_by a.book n) as (λ t.
      let p = spent_by t confirmed a.book n in
      with_book loads m (cond t (renewed_at loads m a n.stream (row_of a.book n.stream)) a) p.1
      ≡ cond (is_ok p.0) (accepted a (Confirm n)) a) [ true ↦ refl | false ↦ refl ]
  booked a (DropHold n) e = elim (held_by a.book n) as (λ t.
      let p = spent_by t dropped a.book n in
      with_book loads m a p.1 ≡ cond (is_ok p.0) (accepted a (DropHold n)) a) [ true ↦ refl | false ↦ refl ]
  booked a (Release x) e = go (no_stream x) (rows.releasing a.book.settings a.book.clock (row_of a.book x))
    where
      go : (t : Bool) (o : Option ℕ) → with_book loads m a (released_by t o a.book x).1
          ≡ cond (is_ok (released_by t o a.book x).0) (accepted a (Release x)) a
      go true o = refl
      go false (Some q) = refl
      go false None = refl
  booked a (Frame input stamp x) e = nope (cc)
  booked a (Filler n) e = nope (cc)
  booked a (Run until places) e = nope (cc)

  module _ (S : ℕ) where
    -- A record made new, of any stream, and of another than S.
    renewed-both : (a b : State L Record) (x : ℕ) (k : Booking) → Same S a b → Same S (renewed loads m a x k) (renewed loads m b x k)
    renewed-both a b x k same = record {
      settings = same.settings;
      clock = same.clock;
      streams = same.streams;
      row = same.row;
      noted = λ i. cond (eqb x S) (m.fresh (terms_of (same.settings i) k.class k.input)) (same.noted i);
      stamp = λ i. cond (eqb x S) 0 (same.stamp i);
    }

    renewed-other : (a : State L Record) (x : ℕ) (k : Booking) → eqb x S ≡ false → Same S a (renewed loads m a x k)
    renewed-other a x k other = record {
      settings = refl;
      clock = refl;
      streams = refl;
      row = refl;
      noted = sym (cond-false (eqb x S) (m.fresh (terms_for loads m a k)) (a.records S) other);
      stamp = sym (cond-false (eqb x S) 0 (a.stamps S) other);
    }

    confirmed-own : (a b : State L Record) (x : ℕ) (r : Row) → x ≡ S → Same S a b → Same S (confirmed_at a x r) (confirmed_at b x r)
    confirmed-own a b x Free own same = row-own loads m S a b x Free Free own refl same
    confirmed-own a b x (Held k) own same =
        row-own loads m S (renewed loads m a x k) (renewed loads m b x k) x (Live k) (Live k) own refl (renewed-both a b x k same)
    confirmed-own a b x (Live k) own same = row-own loads m S a b x (Live k) (Live k) own refl same
    confirmed-own a b x (Leaving k q) own same = row-own loads m S a b x (Leaving k q) (Leaving k q) own refl same

    confirmed-other : (a : State L Record) (x : ℕ) (r : Row) → eqb x S ≡ false → Same S a (confirmed_at a x r)
    confirmed-other a x Free other = row_other loads m S a x Free (eqb-false x S other)
    confirmed-other a x (Held k) other =
        same-on (renewed-other a x k other) (row_other loads m S (renewed loads m a x k) x (Live k) (eqb-false x S other))
    confirmed-other a x (Live k) other = row_other loads m S a x (Live k) (eqb-false x S other)
    confirmed-other a x (Leaving k q) other = row_other loads m S a x (Leaving k q) (eqb-false x S other)

    module _ (a b : State L Record) (same : Same S a b) where
      row_at : (x : ℕ) → x ≡ S → row_of a.book x ≡ row_of b.book x
      row_at x own = cc

      -- The row of S changed by the same function in both.
      changed-own : (x : ℕ) (f g : Row → Row) → eqb x S ≡ true → f ≡ g
          → Same S (with_book loads m a (changed a.book x f)) (with_book loads m b (changed b.book x g))
      changed-own x f g own e =
          let named = eqb-true x S own in
          row-own loads m S a b x (f (row_of a.book x)) (g (row_of b.book x)) named (λ i. e i (row_at x named i)) same

      accepted-own : (c : Call L) → concerns loads S c ≡ true → Same S (accepted a c) (accepted b c)
      accepted-own (Hold x k) own = changed-own x (rows.holding k) (rows.holding k) own refl
      accepted-own (Confirm n) own =
          let named = eqb-true n.stream S own in
          rw (← row_at n.stream named) (confirmed-own a b n.stream (row_of a.book n.stream) named same)
      accepted-own (DropHold n) own = changed-own n.stream dropped dropped own refl
      accepted-own (Release x) own = changed-own x _ _ own (λ i. released (same.settings i) (same.clock i))
      accepted-own (Frame input stamp x) own = same
      accepted-own (Filler n) own = same
      accepted-own (Run until places) own = same

      pub booking-own : (c : Call L) → is_booking c ≡ true → concerns loads S c ≡ true
          → is_accepted (answer_to loads m a c) ≡ is_accepted (answer_to loads m b c) → Same S (next_of loads m a c) (next_of loads m b c)
      booking-own c is own verdict = subst₂ (Same S) (sym (booked a c is))
          (ap (λ t. cond t (accepted b c) b) verdict ∙ sym (booked b c is)) (go (is_accepted (answer_to loads m a c)))
        where
          go : (t : Bool) → Same S (cond t (accepted a c) a) (cond t (accepted b c) b)
          go true = accepted-own c own
          go false = same

    module _ (a : State L Record) where
      changed-other : (x : ℕ) (f : Row → Row) → eqb x S ≡ false → Same S a (with_book loads m a (changed a.book x f))
      changed-other x f other = row_other loads m S a x (f (row_of a.book x)) (eqb-false x S other)

      accepted-other : (c : Call L) → concerns loads S c ≡ false → Same S a (accepted a c)
      accepted-other (Hold x k) other = changed-other x (rows.holding k) other
      accepted-other (Confirm n) other = confirmed-other a n.stream (row_of a.book n.stream) other
      accepted-other (DropHold n) other = changed-other n.stream dropped other
      accepted-other (Release x) other = changed-other x (released a.book.settings a.book.clock) other
      accepted-other (Frame input stamp x) other = same_self S a
      accepted-other (Filler n) other = same_self S a
      accepted-other (Run until places) other = same_self S a

      pub booking-other : (c : Call L) → is_booking c ≡ true → concerns loads S c ≡ false → Same S a (next_of loads m a c)
      booking-other c is other = subst (Same S a) (sym (booked a c is))
          (cond_both (is_accepted (answer_to loads m a c)) (accepted a c) a (Same S a) (λ t. accepted-other c other) (λ t. same_self S a))
