-- A frame by its tests: what the port does in each case goes by the rules.
use Rattle.std.proofs.Common.{◌≡◌, ℕ, Bool, true, false, cond, not, eqb, ltb, [], ◌∷◌, Some, None, Ok, Err, Option, Result, sym, refl, ap, ◌∙◌}
use Rattle.std.specs.Option.{ok_or}
use Rattle.std.proofs.lemmas.Bool.{or_parts, cond-true, cond-false}
use Rattle.book.specs.declared.rows.Booking.{Booking}
use Rattle.book.specs.declared.rows.Row.{Row}
use Rattle.book.specs.declared.rows.Row.TheVariants.{Free, Held, Live, Leaving}
use Rattle.book.specs.Ticks.{inside}
use Rattle.book.specs.Rows.{live_in}
use Rattle.book.specs.Books.{row_of, no_stream, no_input}
use Rattle.placers.specs.Placers.{Rules}
use Rattle.schedule.specs.declared.faults.PortFault.{PortFault}
use Rattle.schedule.specs.declared.faults.PortFault.TheVariants.{NotThere, NotLive, WrongInput, BadLength, BadStamp, StampBack}
use Rattle.schedule.specs.Faults.{first_hit, check}
use Rattle.schedule.specs.Wires.{Loads}
use Rattle.schedule.specs.Modules.{State, judged, booked_fault, good_stamp, not_there, placing, placed_by, framing_by, framing}
use Rattle.port.specs.Rowed.{live_booking}
use Rattle.port.specs.Admitted.{unless, admitted_by, admitted}

-- What is answered of a booking after its checks.
abbrev pub answered : Result (Unit {0}) PortFault → Booking → Result Booking PortFault
answered (Ok u) k = Ok k
answered (Err f) k = Err f

answered-unless : (o : Option PortFault) (r : Result (Unit {0}) PortFault) (k : Booking) → r ≡ unless o tt → answered r k ≡ unless o k
answered-unless (Some f) r k e = ap (λ (w : Result (Unit {0}) PortFault). answered w k) e
answered-unless None r k e = ap (λ (w : Result (Unit {0}) PortFault). answered w k) e

module _ {L Record : Type 0} (loads : Loads L) (m : Rules Record) (a : State L Record) (input stamp : ℕ) (x : L) where
  pub booked-at : (k : Booking) (same fits timely back : Bool) → eqb input k.input ≡ same → inside 64 k.longest (loads.length_of x) ≡ fits
      → good_stamp loads m a stamp ≡ timely → ltb stamp (a.stamps (loads.stream_of x)) ≡ back
      → unless (first_hit (check (not same) WrongInput ∷ check (not fits) BadLength ∷ check (not timely) BadStamp ∷ check back StampBack ∷ [])) (tt {0})
      ≡ unless (booked_fault loads m a k input stamp x) (tt {0})
  unfolding booked_fault
  booked-at k same fits timely back p q r t = rw (p, q, r, t) refl

  pub admitted-absent : not_there loads m a input x ≡ true → Err NotThere ≡ admitted loads m a input stamp x
  unfolding admitted
  admitted-absent e = sym (cond-true (not_there loads m a input x) _ _ e)

  unlive : (o : Option Booking) (f : PortFault) → Err f ≡ ok_or o NotLive → Err f ≡ admitted_by loads m a input stamp x o
  unlive None f e = e
  unlive (Some k) f e = cc

  live-by : (o : Option Booking) (k : Booking) → Ok k ≡ ok_or o NotLive → o ≡ Some k
  live-by None k e = cc
  live-by (Some j) k e = cc

  module _ (there : not_there loads m a input x ≡ false) (o : Option Booking) (is : o ≡ live_booking a.book (loads.stream_of x)) where
    admitted-at : admitted_by loads m a input stamp x o ≡ admitted loads m a input stamp x
    unfolding admitted
    admitted-at = ap (admitted_by loads m a input stamp x) is ∙ sym (cond-false (not_there loads m a input x) _ _ there)

    -- There is no live row.
    pub admitted-unlive : (f : PortFault) → Err f ≡ ok_or o NotLive → Err f ≡ admitted loads m a input stamp x
    admitted-unlive f e = unlive o f e ∙ admitted-at

    -- The booking's checks refuse the frame, or let it pass.
    pub admitted-checked : (k : Booking) (r : Result (Unit {0}) PortFault) → Ok k ≡ ok_or o NotLive
        → r ≡ unless (booked_fault loads m a k input stamp x) tt → answered r k ≡ admitted loads m a input stamp x
    admitted-checked k r e c =
        answered-unless (booked_fault loads m a k input stamp x) r k c
        ∙ ap (admitted_by loads m a input stamp x) (sym (live-by o k e)) ∙ admitted-at

  -- What is due of a frame, once it is known by which booking it goes.
  abbrev pub framed : Result Booking PortFault → Result ℕ PortFault × State L Record
  framed (Ok k) = placed_by loads m (placing loads m a k stamp x) a k.class stamp x
  framed (Err f) = (Err f, a)

  by-fault : (o : Option PortFault) (k : Booking) → judged o a (placed_by loads m (placing loads m a k stamp x) a k.class stamp x) ≡ framed (unless o k)
  by-fault (Some f) k = refl
  by-fault None k = refl

  by_row : (r : Row) → framing_by loads m r a input stamp x ≡ framed (admitted_by loads m a input stamp x (live_in r))
  unfolding framing_by
  by_row Free = refl
  by_row (Held k) = refl
  by_row (Live k) = by-fault (booked_fault loads m a k input stamp x) k
  by_row (Leaving k q) = refl

  -- The rules' frame is what is due of the one that was admitted.
  pub framing-admitted : framing loads m a input stamp x ≡ framed (admitted loads m a input stamp x)
  unfolding framing admitted
  framing-admitted = go (not_there loads m a input x) refl
    where
      go : (none : Bool) → not_there loads m a input x ≡ none
          → judged (first_hit (check none NotThere ∷ [])) a (framing_by loads m (row_of a.book (loads.stream_of x)) a input stamp x)
          ≡ framed (cond none (Err NotThere) (admitted_by loads m a input stamp x (live_booking a.book (loads.stream_of x))))
      go true e = refl
      go false e =
          let there = (or_parts (no_stream (loads.stream_of x)) (no_input a.book input) e).0 in
          by_row (row_of a.book (loads.stream_of x))
          ∙ ap (λ (o : Option Booking). framed (admitted_by loads m a input stamp x o)) (sym (cond-false (no_stream (loads.stream_of x)) None _ there))
