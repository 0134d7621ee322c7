-- Any call to the eyes of a stream: one that concerns it does the same to two modules that are the same to it, and any other
-- leaves a module the same to it and brings it no load.
use Rattle.std.proofs.Common.{◌≡◌, ℕ, true, false, eqb, [], ◌∷◌, Ok, Err, Result, refl, ap}
use Rattle.std.proofs.lemmas.Bool.{eqb-true, cond-false, cond_both}
use Rattle.book.specs.declared.rows.Row.{Row}
use Rattle.book.specs.declared.rows.Row.TheVariants.{Free, Held, Live, Leaving}
use Rattle.book.specs.Books.{row_of}
use Rattle.book.proofs.Within.{nope}
use Rattle.placers.specs.Placers.{Rules}
use Rattle.schedule.specs.declared.faults.PortFault.{PortFault}
use Rattle.schedule.specs.Wires.{Loads}
use Rattle.schedule.specs.Modules.{State, framing}
use Rattle.schedule.specs.Histories.{Call, Hold, Confirm, DropHold, Release, Frame, Filler, Run, of_class, given_by, answer_to, next_of, given_in}
use Rattle.schedule.specs.Streams.{is_booking, is_accepted, to_frame, concerns, own_of}
use Rattle.schedule.proofs.Views.{Same}
use Rattle.schedule.proofs.ViewsBooked.{booking-own, booking-other}
use Rattle.schedule.proofs.ViewsFramed.{Agree, agree-framed, same-run, same-framed, same-filled}

module _ {L Record : Type 0} (loads : Loads L) (m : Rules Record) (S : ℕ) where
  module _ (a b : State L Record) (same : Same S a b) where
    framed-own : (input stamp : ℕ) (x : L) → eqb (loads.stream_of x) S ≡ true
        → Agree loads m S (framing loads m a input stamp x) (framing loads m b input stamp x)
    framed-own input stamp x own = agree-framed loads m S a b same input stamp x (eqb-true (loads.stream_of x) S own)

    pub next-own : (c : Call L) → concerns loads S c ≡ true
        → (is_booking c ≡ true → is_accepted (answer_to loads m a c) ≡ is_accepted (answer_to loads m b c))
        → Same S (next_of loads m a c) (next_of loads m b c)
    next-own (Hold x k) own verdict = booking-own loads m S a b same (Hold x k) refl own (verdict refl)
    next-own (Confirm n) own verdict = booking-own loads m S a b same (Confirm n) refl own (verdict refl)
    next-own (DropHold n) own verdict = booking-own loads m S a b same (DropHold n) refl own (verdict refl)
    next-own (Release x) own verdict = booking-own loads m S a b same (Release x) refl own (verdict refl)
    next-own (Frame input stamp x) own verdict = (framed-own input stamp x own).next
    next-own (Filler n) own verdict = nope (cc)
    next-own (Run until places) own verdict = same-run loads m S a b same until places

    pub answer-own : (c : Call L) → concerns loads S c ≡ true → to_frame (answer_to loads m a c) ≡ to_frame (answer_to loads m b c)
    answer-own (Hold x k) own = refl
    answer-own (Confirm n) own = refl
    answer-own (DropHold n) own = refl
    answer-own (Release x) own = refl
    answer-own (Frame input stamp x) own = ap (λ (r : Result ℕ PortFault). r ∷ []) (framed-own input stamp x own).answer
    answer-own (Filler n) own = refl
    answer-own (Run until places) own = refl

    pub given-own : (call : Call L) (c q : ℕ) → concerns loads S call ≡ true → given_in loads m a call c q ≡ given_in loads m b call c q
    given-own (Hold x k) c q own = refl
    given-own (Confirm n) c q own = refl
    given-own (DropHold n) c q own = refl
    given-own (Release x) c q own = refl
    given-own (Frame input stamp x) c q own =
        let named = eqb-true (loads.stream_of x) S own in
        let row : row_of a.book (loads.stream_of x) ≡ row_of b.book (loads.stream_of x) = cc in
        λ i. given_by ((framed-own input stamp x own).answer i) (row i) x c q
    given-own (Filler n) c q own = refl
    given-own (Run until places) c q own = refl

  module _ (a : State L Record) where
    pub next-other : (c : Call L) → concerns loads S c ≡ false → Same S a (next_of loads m a c)
    next-other (Hold x k) other = booking-other loads m S a (Hold x k) refl other
    next-other (Confirm n) other = booking-other loads m S a (Confirm n) refl other
    next-other (DropHold n) other = booking-other loads m S a (DropHold n) refl other
    next-other (Release x) other = booking-other loads m S a (Release x) refl other
    next-other (Frame input stamp x) other = same-framed loads m S a input stamp x other
    next-other (Filler n) other = same-filled loads m S a n
    next-other (Run until places) other = nope (cc)

    pub given-other : (call : Call L) (c q : ℕ) → concerns loads S call ≡ false → own_of loads S (given_in loads m a call c q) ≡ []
    given-other (Hold x k) c q other = refl
    given-other (Confirm n) c q other = refl
    given-other (DropHold n) c q other = refl
    given-other (Release x) c q other = refl
    given-other (Frame input stamp x) c q other = go (framing loads m a input stamp x).0 (row_of a.book (loads.stream_of x))
      where
        load : own_of loads S (x ∷ []) ≡ []
        load = cond-false (eqb (loads.stream_of x) S) (x ∷ []) [] other

        in_class : (r : Row) → own_of loads S (of_class r c (x ∷ [])) ≡ []
        in_class Free = refl
        in_class (Held k) = refl
        in_class (Live k) = cond_both (eqb k.class c) (x ∷ []) [] (λ xs. own_of loads S xs ≡ []) (λ t. load) (λ t. refl)
        in_class (Leaving k u) = refl

        go : (answer : Result ℕ PortFault) (r : Row) → own_of loads S (given_by answer r x c q) ≡ []
        go (Ok p) r = cond_both (eqb p q) (of_class r c (x ∷ [])) [] (λ xs. own_of loads S xs ≡ []) (λ t. in_class r) (λ t. refl)
        go (Err f) r = refl
    given-other (Filler n) c q other = refl
    given-other (Run until places) c q other = refl
