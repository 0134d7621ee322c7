-- What holds in the state of a module after every history: the book is sound, and every load that waits
-- has at least the length of the shortest frame.
use Rattle.std.proofs.Common.{◌≡◌, ℕ, zero, suc, ◌-◌, ◌<◌, ◌≤◌, Bool, true, false, not, ◌&&◌, eqb, ltb, leb, List, [], ◌∷◌, ◌++◌, Some, None, Ok, Option, Result, sym, refl, ap, subst}
use Rattle.std.specs.List.{AllByRecursion as All}
use Rattle.std.proofs.lemmas.Bool.{leb-true, cond_both}
use Rattle.std.proofs.ByRecursion.{All-push}
use Rattle.book.specs.declared.rows.Booking.{Booking}
use Rattle.book.specs.declared.ledger.Note.{Note}
use Rattle.book.specs.declared.rows.Row.{Row}
use Rattle.book.specs.declared.rows.Row.TheVariants.{Free, Held, Live, Leaving}
use Rattle.book.specs.Told.{SetNumbers, class_count, Legal}
use Rattle.book.specs.Books.{BookState, row_of, held_by, advance_of}
use Rattle.book.specs.Sequences as book
use Rattle.book.proofs.Answering.{advance-at}
use Rattle.book.proofs.Steps.{moves}
use Rattle.book.proofs.Sound.{Sound, moves-sound, new-sound}
use Rattle.placers.specs.Placers as placer
use Rattle.placers.specs.Placers.{Rules, replaced}
use Rattle.schedule.specs.declared.faults.PortFault.{PortFault}
use Rattle.schedule.specs.declared.faults.PortFault.TheVariants.{NotThere, WrongInput, BadLength, BadStamp, StampBack, BadUntil, ShortList}
use Rattle.schedule.specs.Faults.{first_hit, check}
use Rattle.schedule.specs.Bins.{bin_of, current_of}
use Rattle.schedule.specs.Wires.{Loads, Sending, Next, none, some, lowest, current_bin, next_out, sending, tick, ticks}
use Rattle.schedule.specs.Modules.{State, judged, holding, confirming, renewed_at, dropping, releasing, framing, framing_by, booked_fault, good_stamp, placed_by, placing, not_there, filling, running, played, bad_until, short_list, sending_of, ran, clock_of}
use Rattle.schedule.specs.Histories.{Call, Hold, Confirm, DropHold, Release, Frame, Filler, Run, next_of, after}
use Rattle.schedule.proofs.Looks.{Looked, looked}
use Rattle.port.specs.Playing.{Long}

-- The class found has its list's first load.
pub lowest-some : {L : Type 0} (n : ℕ) (of : ℕ → List L) (c : ℕ) (x : L) (rest : List L) → lowest n of ≡ some c x rest → (c < n) × (of c ≡ x ∷ rest)
lowest-some n of c x rest e = let p = subst (Looked n of) e (looked n of) in (p.0, p.1)

-- Loads that wait stay long enough: a tick only takes loads out.
module _ {L : Type 0} (loads : Loads L) where
  -- A load of at least the shortest length.
  Shortest : L → Type 0
  Shortest x = 64 ≤ loads.length_of x

  pub rest-long : (bins : ℕ → List L) (b : ℕ) (x : L) (rest : List L) → bins b ≡ x ∷ rest → Long loads bins → Long loads (replaced bins b rest)
  unfolding Shortest
  rest-long bins b x rest e h k = cond_both (eqb b k) rest (bins k) (All Shortest) (λ z. (subst (All Shortest) e (h b)).1) (λ z. h k)

  module _ (s : SetNumbers) where
    sending-long : (g : Sending L) (f : Next L) → next_out loads s g.clock g.bins ≡ f → Long loads g.bins → Long loads (sending loads s g f).bins
    unfolding sending
    sending-long g none e h = h
    sending-long g (some c x rest) e h =
        rest-long g.bins (bin_of s c (current_of s g.clock c)) x rest (lowest-some (class_count s) (current_bin loads s g.clock g.bins) c x rest e).1 h

    tick-long : (g : Sending L) → Long loads g.bins → Long loads (tick loads s g).bins
    unfolding tick
    tick-long g h = cond_both (ltb g.clock g.wire) g (sending loads s g (next_out loads s g.clock g.bins)) (λ w. Long loads w.bins) (λ e. h)
        (λ e. sending-long g (next_out loads s g.clock g.bins) refl h)

    ticks-long : (n : ℕ) (g : Sending L) → Long loads g.bins → Long loads (ticks loads s n g).bins
    unfolding ticks
    ticks-long zero g h = h
    ticks-long (suc n) g h = tick-long (ticks loads s n g) (ticks-long n g h)

module _ {L Record : Type 0} (loads : Loads L) (m : Rules Record) where
  -- A part that the change leaves as it was, is as it was whether a fault was found or not.
  judged-same : {X Y S : Type 0} (f : S → Y) (o : Option PortFault) (old : S) (due : Result X PortFault × S) → f due.1 ≡ f old → f (judged o old due).1 ≡ f old
  judged-same f (Some g) old due e = refl
  judged-same f None old due e = e

  placed-book : (p : placer.Placing Record) (a : State L Record) (c stamp : ℕ) (x : L) → (placed_by loads m p a c stamp x).1.book ≡ a.book
  placed-book (placer.given q r) a c stamp x = refl
  placed-book (placer.refused f) a c stamp x = refl

  row-book : (r : Row) (a : State L Record) (input stamp : ℕ) (x : L) → (framing_by loads m r a input stamp x).1.book ≡ a.book
  unfolding framing_by
  row-book Free a input stamp x = refl
  row-book (Held k) a input stamp x = refl
  row-book (Live k) a input stamp x =
      judged-same (λ (b : State L Record). b.book) (booked_fault loads m a k input stamp x) a _ (placed-book (placing loads m a k stamp x) a k.class stamp x)
  row-book (Leaving k q) a input stamp x = refl

  frame-book : (a : State L Record) (input stamp : ℕ) (x : L) → (framing loads m a input stamp x).1.book ≡ a.book
  unfolding framing
  frame-book a input stamp x = judged-same (λ (b : State L Record). b.book) _ a _ (row-book (row_of a.book (loads.stream_of x)) a input stamp x)

  filler-book : (a : State L Record) (n : ℕ) → (filling loads m a n).1.book ≡ a.book
  unfolding filling
  filler-book a n = judged-same (λ (b : State L Record). b.book) _ a _ refl

  -- The book after a run is as it was, or as its own clock moved.
  run-book : (P : BookState → Type 0) (a : State L Record) (until places : ℕ) → P a.book → P (advance_of a.book until).1 → P (running loads m a until places).1.book
  unfolding running
  run-book P a until places same next = go (bad_until loads m a until) refl (short_list loads m a until places)
    where
      go : (bad : Bool) → bad_until loads m a until ≡ bad → (short : Bool)
          → P (judged (first_hit (check bad BadUntil ∷ check short ShortList ∷ [])) a (Ok (played loads m a until).sent, ran loads m a until (played loads m a until))).1.book
      go true e short = same
      go false e true = same
      go false e false = subst P (ap (λ w. w.1) (advance-at a.book until false e)) next

  -- What every call of a book keeps, every call of a module keeps of its book.
  next-book : (P : BookState → Type 0) → ((b : BookState) (c : book.Call) → P b → P (book.next_of b c)) → (a : State L Record) (call : Call L) → P a.book → P (next_of loads m a call).book
  unfolding holding confirming dropping releasing
  next-book P step a (Hold x k) h = step a.book (book.Hold x k) h
  next-book P step a (Confirm n) h = step a.book (book.Confirm n) h
  next-book P step a (DropHold n) h = step a.book (book.DropHold n) h
  next-book P step a (Release x) h = step a.book (book.Release x) h
  next-book P step a (Frame input stamp x) h = subst P (sym (frame-book a input stamp x)) h
  next-book P step a (Filler n) h = subst P (sym (filler-book a n)) h
  next-book P step a (Run until places) h = run-book P a until places h (step a.book (book.Advance until) h)

  module _ (s : SetNumbers) (begun : ℕ → Record) where
    pub after-sound : Legal s → (h : List (Call L)) → Sound (after loads m s begun h).book
    unfolding after
    after-sound legal [] = new-sound s legal
    after-sound legal (call ∷ h) =
        next-book Sound (λ b c e. moves-sound (moves b c) e) (after loads m s begun h) call (after-sound legal h)

  -- A frame that is accepted was checked.
  push-long : (bins : ℕ → List L) (b : ℕ) (x : L) → Long loads bins → 64 ≤ loads.length_of x → Long loads (replaced bins b (bins b ++ (x ∷ [])))
  unfolding Shortest
  push-long bins b x h l k = cond_both (eqb b k) (bins b ++ (x ∷ [])) (bins k) (All (Shortest loads)) (λ e. All-push (Shortest loads) (bins b) x (h b) l) (λ e. h k)

  placed-long : (p : placer.Placing Record) (a : State L Record) (c stamp : ℕ) (x : L) → Long loads a.bins → 64 ≤ loads.length_of x
      → Long loads (placed_by loads m p a c stamp x).1.bins
  placed-long (placer.given q r) a c stamp x h l = push-long a.bins (bin_of a.book.settings c q) x h l
  placed-long (placer.refused f) a c stamp x h l = h

  -- A booking's checks passed: the length is at least the shortest.
  passed_length : (wrong : Bool) (low high : Bool) (stamp back : Bool)
      → first_hit (check wrong WrongInput ∷ check (not (low && high)) BadLength ∷ check stamp BadStamp ∷ check back StampBack ∷ []) ≡ None → low ≡ true
  passed_length true low high stamp back e = cc
  passed_length false true high stamp back e = refl
  passed_length false false high stamp back e = cc

  booked-long : (a : State L Record) (k : Booking) (input stamp : ℕ) (x : L) → booked_fault loads m a k input stamp x ≡ None → leb 64 (loads.length_of x) ≡ true
  unfolding booked_fault
  booked-long a k input stamp x e = passed_length (not (eqb input k.input)) (leb 64 (loads.length_of x)) (leb (loads.length_of x) k.longest)
      (not (good_stamp loads m a stamp)) (ltb stamp (a.stamps (loads.stream_of x))) e

  row-long : (r : Row) (a : State L Record) (input stamp : ℕ) (x : L) → Long loads a.bins → Long loads (framing_by loads m r a input stamp x).1.bins
  unfolding framing_by
  row-long Free a input stamp x h = h
  row-long (Held k) a input stamp x h = h
  row-long (Live k) a input stamp x h = go (booked_fault loads m a k input stamp x) refl
    where
      go : (o : Option PortFault) → booked_fault loads m a k input stamp x ≡ o
          → Long loads (judged o a (placed_by loads m (placing loads m a k stamp x) a k.class stamp x)).1.bins
      go (Some f) e = h
      go None e = placed-long (placing loads m a k stamp x) a k.class stamp x h
          (leb-true 64 (loads.length_of x) (booked-long a k input stamp x e))
  row-long (Leaving k q) a input stamp x h = h

  frame-long : (a : State L Record) (input stamp : ℕ) (x : L) → Long loads a.bins → Long loads (framing loads m a input stamp x).1.bins
  unfolding framing
  frame-long a input stamp x h = go (first_hit (check (not_there loads m a input x) NotThere ∷ []))
    where
      go : (o : Option PortFault) → Long loads (judged o a (framing_by loads m (row_of a.book (loads.stream_of x)) a input stamp x)).1.bins
      go (Some f) = h
      go None = row-long (row_of a.book (loads.stream_of x)) a input stamp x h

  run_long : (a : State L Record) (until places : ℕ) → Long loads a.bins → Long loads (running loads m a until places).1.bins
  unfolding running
  run_long a until places h = go (first_hit (check (bad_until loads m a until) BadUntil ∷ check (short_list loads m a until places) ShortList ∷ []))
    where
      go : (o : Option PortFault) → Long loads (judged o a (Ok (played loads m a until).sent, ran loads m a until (played loads m a until))).1.bins
      go (Some f) = h
      go None = ticks-long loads a.book.settings (until - clock_of loads m a) (sending_of loads m a) h

  confirm-bins : (a : State L Record) (n : Note) → (confirming loads m a n).1.bins ≡ a.bins
  unfolding confirming
  confirm-bins a n = cond_both (held_by a.book n) (renewed_at loads m a n.stream (row_of a.book n.stream)) a (λ (w : State L Record). w.bins ≡ a.bins)
      (λ e. at (row_of a.book n.stream)) (λ e. refl)
    where
      at : (r : Row) → (renewed_at loads m a n.stream r).bins ≡ a.bins
      at Free = refl
      at (Held k) = refl
      at (Live k) = refl
      at (Leaving k q) = refl

  filler-bins : (a : State L Record) (n : ℕ) → (filling loads m a n).1.bins ≡ a.bins
  unfolding filling
  filler-bins a n = judged-same (λ (b : State L Record). b.bins) _ a _ refl

  next-long : (a : State L Record) (call : Call L) → Long loads a.bins → Long loads (next_of loads m a call).bins
  unfolding holding dropping releasing
  next-long a (Hold x k) h = h
  next-long a (Confirm n) h = subst (Long loads) (sym (confirm-bins a n)) h
  next-long a (DropHold n) h = h
  next-long a (Release x) h = h
  next-long a (Frame input stamp x) h = frame-long a input stamp x h
  next-long a (Filler n) h = subst (Long loads) (sym (filler-bins a n)) h
  next-long a (Run until places) h = run_long a until places h

  pub after-long : (s : SetNumbers) (begun : ℕ → Record) (h : List (Call L)) → Long loads (after loads m s begun h).bins
  unfolding after
  after-long s begun [] = λ b. tt
  after-long s begun (call ∷ h) = next-long (after loads m s begun h) call (after-long s begun h)
