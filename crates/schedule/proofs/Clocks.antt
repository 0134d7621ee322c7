-- The settings of a module stay, and its clock never passes the last tick.
use Rattle.std.proofs.Common.{◌≡◌, ℕ, ◌≤◌, Bool, true, false, not, ltb, List, [], ◌∷◌, Some, None, Ok, Option, Result, refl, arith}
use Rattle.std.proofs.lemmas.Bool.{ltb-false, or_parts}
use Rattle.book.specs.declared.faults.BookFault.{BookFault}
use Rattle.book.specs.declared.rows.Booking.{Booking}
use Rattle.book.specs.declared.rows.Row.{Row}
use Rattle.book.specs.declared.rows.Row.TheVariants.{Free, Held, Live, Leaving}
use Rattle.book.specs.declared.ledger.Note.{Note}
use Rattle.book.specs.Ticks.{last_tick, inside}
use Rattle.book.specs.Told.{SetNumbers}
use Rattle.book.specs.Rows as rows
use Rattle.book.specs.Books as books
use Rattle.book.specs.Books.{BookState, row_of, no_stream, held_by, hold_fault, hold_of, confirm_of, drop_of, release_of}
use Rattle.placers.specs.Placers as placer
use Rattle.placers.specs.Placers.{Rules}
use Rattle.schedule.specs.declared.departures.Departure.{Departure}
use Rattle.schedule.specs.declared.faults.PortFault.{PortFault}
use Rattle.schedule.specs.declared.faults.PortFault.TheVariants.{NotThere, BadLength, WireTaken, BadUntil, ShortList}
use Rattle.schedule.specs.Faults.{check, first_hit}
use Rattle.schedule.specs.Wires.{Loads}
use Rattle.schedule.specs.Modules.{State, clock_of, judged, booked_fault, placing, placed_by, framing_by, framing, not_there, wire_taken, filled, filling, played, ran, bad_until, short_list, running, holding, confirming, dropping, releasing}
use Rattle.schedule.specs.Histories.{Call, Hold, Confirm, DropHold, Release, Frame, Filler, Run, next_of, after}

module _ {L Record : Type 0} (loads : Loads L) (m : Rules Record) (s : SetNumbers) where
  record Steady (b : BookState) : Type 0 where
    same : b.settings ≡ s
    timely : b.clock ≤ last_tick

  -- New rows leave both.
  rowed : (b : BookState) (rs : List Row) → Steady b → Steady (books.with_rows b rs)
  rowed b rs h = record { same = h.same; timely = h.timely }

  hold-steady : (b : BookState) (x : ℕ) (k : Booking) → Steady b → Steady (hold_of b x k).1
  unfolding hold_of
  hold-steady b x k h = go (hold_fault b x k)
    where
      go : (o : Option BookFault) → Steady (books.judged o (books.note_of b x) (books.changed b x (rows.holding k)) b).1
      go (Some f) = h
      go None = rowed b _ h

  spent-steady : (b : BookState) (n : Note) (f : Row → Row) (x : Bool) → Steady b → Steady (books.spent_by x f b n).1
  spent-steady b n f true h = rowed b _ h
  spent-steady b n f false h = h

  release-steady : (b : BookState) (x : ℕ) → Steady b → Steady (release_of b x).1
  unfolding release_of
  release-steady b x h = go (no_stream x) (rows.releasing b.settings b.clock (row_of b x))
    where
      go : (absent : Bool) (o : Option ℕ) → Steady (books.released_by absent o b x).1
      go true o = h
      go false None = h
      go false (Some q) = rowed b _ h

  frame-steady : (a : State L Record) (input stamp : ℕ) (x : L) → Steady a.book → Steady (framing loads m a input stamp x).1.book
  unfolding framing framing_by
  frame-steady a input stamp x h = go (not_there loads m a input x) (row_of a.book (loads.stream_of x))
    where
      live : (k : Booking) (o : Option PortFault) (p : placer.Placing Record) → Steady (judged o a (placed_by loads m p a k.class stamp x)).1.book
      live k (Some f) p = h
      live k None (placer.given q next) = h
      live k None (placer.refused f) = h

      go : (absent : Bool) (r : Row) → Steady (judged (first_hit (check absent NotThere ∷ [])) a (framing_by loads m r a input stamp x)).1.book
      go true r = h
      go false Free = h
      go false (Held k) = h
      go false (Live k) = live k (booked_fault loads m a k input stamp x) (placing loads m a k stamp x)
      go false (Leaving k u) = h

  fill-steady : (a : State L Record) (n : ℕ) → Steady a.book → Steady (filling loads m a n).1.book
  unfolding filling
  fill-steady a n h = go (not (inside 64 1522 n)) (wire_taken loads m a)
    where
      go : (x y : Bool) → Steady (judged {X = Unit {0}} (first_hit (check x BadLength ∷ check y WireTaken ∷ [])) a (Ok tt, filled loads m a n)).1.book
      go true y = h
      go false true = h
      go false false = h

  run-steady : (a : State L Record) (until places : ℕ) → Steady a.book → Steady (running loads m a until places).1.book
  unfolding running
  run-steady a until places h = go (bad_until loads m a until) refl (short_list loads m a until places)
    where
      due : Result (List (Departure L)) PortFault × State L Record
      due = (Ok (played loads m a until).sent, ran loads m a until (played loads m a until))

      go : (x : Bool) → bad_until loads m a until ≡ x → (y : Bool) → Steady (judged (first_hit (check x BadUntil ∷ check y ShortList ∷ [])) a due).1.book
      go true e y = h
      go false e true = h
      go false e false = record { same = h.same; timely = ltb-false last_tick until (or_parts (ltb until (clock_of loads m a)) (ltb last_tick until) e).1 }

  next-steady : (a : State L Record) (call : Call L) → Steady a.book → Steady (next_of loads m a call).book
  unfolding holding confirming dropping releasing confirm_of drop_of
  next-steady a (Hold x k) h = hold-steady a.book x k h
  next-steady a (Confirm n) h = spent-steady a.book n rows.confirmed (held_by a.book n) h
  next-steady a (DropHold n) h = spent-steady a.book n rows.dropped (held_by a.book n) h
  next-steady a (Release x) h = release-steady a.book x h
  next-steady a (Frame input stamp x) h = frame-steady a input stamp x h
  next-steady a (Filler n) h = fill-steady a n h
  next-steady a (Run until places) h = run-steady a until places h

  module _ (begun : ℕ → Record) where
    after-steady : (h : List (Call L)) → Steady (after loads m s begun h).book
    unfolding after
    after-steady [] = record { same = refl; timely = omega arith }
    after-steady (call ∷ h) = next-steady (after loads m s begun h) call (after-steady h)

    pub settings-kept : (h : List (Call L)) → (after loads m s begun h).book.settings ≡ s
    settings-kept h = (after-steady h).same

    pub clock-kept : (h : List (Call L)) → clock_of loads m (after loads m s begun h) ≤ last_tick
    clock-kept h = (after-steady h).timely
