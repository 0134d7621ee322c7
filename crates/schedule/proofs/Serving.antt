-- A module stays good over frames, fillers and runs.
use Rattle.std.proofs.Common.{◌≡◌, ℕ, zero, suc, ◌+◌, ◌-◌, ◌<◌, ◌≤◌, Bool, true, false, cond, not, eqb, ltb, leb, List, [], ◌∷◌, ◌++◌, length, Some, None, Ok, Option, Result, sym, refl, ap, ◌∙◌, subst, add-zero, add-suc, arith}
use mathlib.Core.Path.{fun_ext}
use native.Mathlib.Decide.{ℕ_discrete}
use lib.ListN.{get_or-map}
use Rattle.std.proofs.lemmas.List.{append-nil}
use Rattle.std.proofs.lemmas.Bool.{ltb-false, leb-true, eq-eqb, ne_eqb, and_parts, or_parts, not-false, cond-true, cond-false}
use Rattle.book.specs.declared.rows.Booking.{Booking}
use Rattle.book.specs.declared.rows.Row.{Row}
use Rattle.book.specs.declared.rows.Row.TheVariants.{Free, Held, Live, Leaving}
use Rattle.book.specs.Ticks.{inside, last_tick}
use Rattle.book.specs.Told.{SetNumbers, class_count}
use Rattle.book.specs.Rows.{booked, settled}
use Rattle.book.specs.Books.{row_of, no_stream, no_input}
use Rattle.book.proofs.Within.{nope}
use Rattle.placers.specs.declared.terms.Ask.{Ask}
use Rattle.placers.specs.Terms.{terms_of}
use Rattle.placers.specs.Placers as placer
use Rattle.placers.specs.Placers.{Rules, Duties, Asked, Due}
use Rattle.placers.proofs.Legality.{legal-terms}
use Rattle.schedule.specs.declared.departures.Departure.{Departure}
use Rattle.schedule.specs.declared.faults.PortFault.{PortFault}
use Rattle.schedule.specs.declared.faults.PortFault.TheVariants.{NotThere, WrongInput, BadLength, BadStamp, StampBack, WireTaken, BadUntil, ShortList}
use Rattle.schedule.specs.Faults.{check, first_hit}
use Rattle.schedule.specs.Bins.{bin_of, current_of, waiting_in}
use Rattle.schedule.specs.Wires.{Loads, wire_octets, Sending, Next, none, some, is_some, current_bin, next_out, sending, tick, ticks}
use Rattle.schedule.specs.Modules.{State, clock_of, judged, good_stamp, booked_fault, ask_of, placing, placed_by, framing_by, framing, not_there, wire_taken, filling, sending_of, played, ran, bad_until, short_list, running}
use Rattle.schedule.specs.Modules as modules
use Rattle.schedule.specs.Histories as histories
use Rattle.schedule.specs.Histories.{loads_in, of_class, given_by, octets_for}
use Rattle.schedule.proofs.Demands.{admitted}
use Rattle.schedule.proofs.Rings.{Else, In, waiting-in, ring-set}
use Rattle.schedule.proofs.Sound.{put, filled}
use Rattle.schedule.proofs.Allowances.{FairBooking, Fair, book-put, book-settled}
use Rattle.schedule.proofs.Records.{Recorded, RecordedRow, replaced-each, record-fits, record-put, record-beside, record-settled}
use Rattle.schedule.proofs.Looks.{Looked, looked}
use Rattle.schedule.proofs.Good.{Good, waits, booked-now, current-waits, spare-set, amid, good-ticks}

-- Where none of the checks of a booking was hit.
unhit : (input length stamp back : Bool)
    → first_hit (check input WrongInput ∷ check length BadLength ∷ check stamp BadStamp ∷ check back StampBack ∷ []) ≡ None
    → (length ≡ false) × (stamp ≡ false) × (back ≡ false)
unhit true length stamp back e = nope (cc)
unhit false true stamp back e = nope (cc)
unhit false false true back e = nope (cc)
unhit false false false true e = nope (cc)
unhit false false false false e = (refl, refl, refl)

module _ {L Record : Type 0} (loads : Loads L) (m : Rules Record) (duties : Duties m)
    (a : State L Record) (G : ℕ → ℕ → List L) (D : List (Departure L)) (good : Good loads m a G D) where
  s : SetNumbers
  s = a.book.settings

  t : ℕ
  t = clock_of loads m a

  -- Nothing more was given.
  pub good_none : Good loads m a (λ c q. G c q ++ []) D
  good_none = subst (λ g. Good loads m a g D) (fun_ext (λ c. fun_ext (λ q. sym (append-nil (G c q))))) good

  -- A frame that passed the checks of a booking.
  record Passed (k : Booking) (input stamp : ℕ) (x : L) : Type 0 where
    shortest : 64 ≤ loads.length_of x
    longest : loads.length_of x ≤ k.longest
    handed : stamp ≤ clock_of loads m a
    soon : clock_of loads m a ≤ stamp + a.book.settings.delay
    since : a.stamps (loads.stream_of x) ≤ stamp

  booked-passed : (k : Booking) (input stamp : ℕ) (x : L) → booked_fault loads m a k input stamp x ≡ None → Passed k input stamp x
  unfolding booked_fault
  booked-passed k input stamp x e =
      let p = unhit (not (eqb input k.input)) (not (inside 64 k.longest (loads.length_of x))) (not (good_stamp loads m a stamp)) (ltb stamp (a.stamps (loads.stream_of x))) e in
      let l = and_parts (leb 64 (loads.length_of x)) (leb (loads.length_of x) k.longest) (not-false (inside 64 k.longest (loads.length_of x)) p.0) in
      let h = and_parts (leb stamp (clock_of loads m a)) (leb (clock_of loads m a) (stamp + a.book.settings.delay)) (not-false (good_stamp loads m a stamp) p.1) in
      record {
        shortest = leb-true 64 (loads.length_of x) l.0;
        longest = leb-true (loads.length_of x) k.longest l.1;
        handed = leb-true stamp (clock_of loads m a) h.0;
        soon = leb-true (clock_of loads m a) (stamp + a.book.settings.delay) h.1;
        since = ltb-false stamp (a.stamps (loads.stream_of x)) p.2;
      }

  module _ (timely : clock_of loads m a ≤ last_tick) (input stamp : ℕ) (x : L) where
    i : ℕ
    i = loads.stream_of x

    -- What a frame adds to each cycle, given cycle p by a live row with booking k.
    more : (k : Booking) (p : ℕ) → ℕ → ℕ → List L
    more k p c q = G c q ++ given_by (Ok p) (Live k) x c q

    more-here : (k : Booking) (p : ℕ) → more k p k.class p ≡ G k.class p ++ (x ∷ [])
    unfolding more
    more-here k p = ap (λ z. G k.class p ++ z) (cond-true (eqb p p) (of_class (Live k) k.class (x ∷ [])) [] (eq-eqb p p refl)
        ∙ cond-true (eqb k.class k.class) (x ∷ []) [] (eq-eqb k.class k.class refl))

    more-there : (k : Booking) (p : ℕ) → Else k.class p G (more k p)
    unfolding more
    more-there k p c q h = sym (ap (λ z. G c q ++ z) (go (ℕ_discrete p q) (ℕ_discrete k.class c)) ∙ append-nil (G c q))
      where
        go : Dec (p ≡ q) → Dec (k.class ≡ c) → given_by (Ok p) (Live k) x c q ≡ []
        go (no e) f = cond-false (eqb p q) _ [] (ne_eqb p q e)
        go (yes e) (no f) = cond-true (eqb p q) _ [] (eq-eqb p q e) ∙ cond-false (eqb k.class c) (x ∷ []) [] (ne_eqb k.class c f)
        go (yes e) (yes f) = absurd (h (sym f, sym e))

    good-put : (k : Booking) (p : ℕ) (next : Record) → i ≤ 127 → row_of a.book i ≡ Live k → Passed k input stamp x
        → placing loads m a k stamp x ≡ placer.given p next → Good loads m (modules.put_into loads m a k.class p stamp x next) (more k p) D
    unfolding i s t
    good-put k p next there e passed ruled = record {
      legal = good.legal;
      sound = put loads s good.legal t a.wire G (λ c q. loads_in c q D) (waits loads m a) good.sound (λ f. booked f a.book.rows)
          (admitted s good.legal a.book.rows good.book.within) (booked-now loads m a G D good)
          k.class p x (more k p) (waiting_in s t (modules.put_into loads m a k.class p stamp x next).bins) fair.class due.later due.reach (asked.shortest, asked.longest)
          (more-here k p) (more-there k p)
          (ring.0 ∙ ap (λ z. z ++ (x ∷ [])) (sym (waiting-in s t a.bins k.class p inn))) ring.1;
      whole = good.whole;
      book = book-put loads s t a.book.rows G good.book p x k (more k p) l e (omega (arith, fits, due.within)) (more-here k p) (more-there k p);
      recorded = replaced-each (λ j r st. RecordedRow loads m s t (more k p) j r st (row_of a.book j)) a.records a.stamps i next stamp
          (subst (RecordedRow loads m s t (more k p) i next stamp) (sym e)
          (record-put loads m s t G x (a.records i) next (a.stamps i) p k ask (more k p) refl refl kept asked ruled due (more-here k p) (more-there k p)))
          (λ j ne. record-beside loads m s t G x k.class p j (a.records j) (a.stamps j) (row_of a.book j) (more k p) ne (more-here k p) (more-there k p) (good.recorded j));
      spare = spare-set loads m a G D good k.class p (a.bins (bin_of s k.class p) ++ (x ∷ [])) inn;
    }
      where
        ask : Ask
        ask = ask_of loads m a k stamp x

        l : i < length a.book.rows
        l = omega (arith, there, good.book.full)

        fair : FairBooking s k
        fair = subst (Fair s) e (good.book.fair i)

        kept : Recorded loads m s t G i (a.records i) (a.stamps i) k
        kept = subst (RecordedRow loads m s t G i (a.records i) (a.stamps i)) e (good.recorded i)

        asked : Asked (terms_of s k.class k.input) k.quota (a.stamps i) kept.clock ask
        asked = record {
          booked = refl;
          since = passed.since;
          onward = kept.onward;
          handed = passed.handed;
          soon = passed.soon;
          timely = timely;
          shortest = omega (arith, passed.shortest);
          longest = omega (arith, passed.longest, fair.longest);
          share = omega (arith, passed.longest, fair.quota);
        }

        due : Due m (terms_of s k.class k.input) (a.records i) ask p next
        due = duties.due (terms_of s k.class k.input) k.quota (a.stamps i) kept.clock (a.records i) ask p next
            (legal-terms s good.legal k.class k.input fair.class fair.input) kept.led asked ruled

        fits : octets_for loads i (G k.class p) + wire_octets loads x ≤ m.octets next
        fits = record-fits loads m s t G i (a.records i) next (a.stamps i) p k ask refl kept due

        inn : In s t k.class p
        inn = record { class = fair.class; low = omega (arith, due.later); high = due.reach }

        ring : (waiting_in s t (modules.put_into loads m a k.class p stamp x next).bins k.class p ≡ a.bins (bin_of s k.class p) ++ (x ∷ []))
            × Else k.class p (waits loads m a) (waiting_in s t (modules.put_into loads m a k.class p stamp x next).bins)
        ring = ring-set s t a.bins k.class p (a.bins (bin_of s k.class p) ++ (x ∷ [])) inn

    -- An answer and a state, as a frame leaves them.
    Framed : Row → Result ℕ PortFault × State L Record → Type 0
    Framed row r = Good loads m r.1 (λ c q. G c q ++ given_by r.0 row x c q) D

    good-live : (k : Booking) → i ≤ 127 → row_of a.book i ≡ Live k → Framed (Live k) (framing_by loads m (Live k) a input stamp x)
    unfolding framing_by Framed more i
    good-live k there e = go (booked_fault loads m a k input stamp x) refl (placing loads m a k stamp x) refl
      where
        go : (o : Option PortFault) → booked_fault loads m a k input stamp x ≡ o → (p : placer.Placing Record) → placing loads m a k stamp x ≡ p
            → Framed (Live k) (judged o a (placed_by loads m p a k.class stamp x))
        go (Some f) h p g = good_none
        go None h (placer.refused f) g = good_none
        go None h (placer.given p next) g = good-put k p next there e (booked-passed k input stamp x h) g

    pub good-frame : Good loads m (framing loads m a input stamp x).1 (λ c q. G c q ++ given_by (framing loads m a input stamp x).0 (row_of a.book (loads.stream_of x)) x c q) D
    unfolding framing framing_by Framed i
    good-frame = go (not_there loads m a input x) refl (row_of a.book i) refl
      where
        go : (h : Bool) → not_there loads m a input x ≡ h → (r : Row) → row_of a.book i ≡ r
            → Framed r (judged (first_hit (check h NotThere ∷ [])) a (framing_by loads m r a input stamp x))
        go true h r e = good_none
        go false h Free e = good_none
        go false h (Held k) e = good_none
        go false h (Leaving k u) e = good_none
        go false h (Live k) e = good-live k (ltb-false 127 i (or_parts (no_stream i) (no_input a.book input) h).0) e

  pub good-fill : (n : ℕ) → Good loads m (filling loads m a n).1 G D
  unfolding filling
  good-fill n = go (not (inside 64 1522 n)) refl (wire_taken loads m a) refl
    where
      quiet : (next : Next L) → next_out loads a.book.settings (clock_of loads m a) a.bins ≡ next → is_some next ≡ false
          → (f : ℕ) → f < class_count a.book.settings → waits loads m a f (current_of a.book.settings (clock_of loads m a) f) ≡ []
      quiet none e h f l = current-waits loads m a G D good f l
          ∙ subst (Looked (class_count a.book.settings) (current_bin loads a.book.settings (clock_of loads m a) a.bins)) e
          (looked (class_count a.book.settings) (current_bin loads a.book.settings (clock_of loads m a) a.bins)) f l
      quiet (some c x rest) e h f l = nope (cc)

      go : (x : Bool) → not (inside 64 1522 n) ≡ x → (y : Bool) → wire_taken loads m a ≡ y
          → Good loads m (judged {X = Unit {0}} (first_hit (check x BadLength ∷ check y WireTaken ∷ [])) a (Ok tt, modules.filled loads m a n)).1 G D
      go true e y f = good
      go false e true f = good
      go false e false f =
          let p = or_parts (ltb (clock_of loads m a) a.wire) (is_some (next_out loads a.book.settings (clock_of loads m a) a.bins)) f in
          let l = and_parts (leb 64 n) (leb n 1522) (not-false (inside 64 1522 n) e) in
          record {
            legal = good.legal;
            sound = filled loads a.book.settings good.legal (clock_of loads m a) a.wire G (λ c q. loads_in c q D) (waits loads m a) good.sound (λ f. booked f a.book.rows)
                (admitted a.book.settings good.legal a.book.rows good.book.within) (booked-now loads m a G D good)
                (n + 20) (omega (arith, leb-true n 1522 l.1)) (quiet (next_out loads a.book.settings (clock_of loads m a) a.bins) refl p.1);
            whole = good.whole;
            book = good.book;
            recorded = good.recorded;
            spare = good.spare;
          }

  -- Ticks move the clock, each by one.
  sending-clock : (g : Sending L) (n : Next L) → (sending loads a.book.settings g n).clock ≡ g.clock
  unfolding sending
  sending-clock g none = refl
  sending-clock g (some c x rest) = refl

  tick-clock : (g : Sending L) → (tick loads a.book.settings g).clock ≡ suc g.clock
  unfolding tick
  tick-clock g = go (ltb g.clock g.wire)
    where
      n : Next L
      n = next_out loads a.book.settings g.clock g.bins

      go : (b : Bool) → suc (cond b g (sending loads a.book.settings g n)).clock ≡ suc g.clock
      go true = refl
      go false = ap suc (sending-clock g n)

  ticks-clock : (j : ℕ) (g : Sending L) → (ticks loads a.book.settings j g).clock ≡ g.clock + j
  unfolding ticks
  ticks-clock zero g = sym (add-zero g.clock)
  ticks-clock (suc j) g = tick-clock (ticks loads a.book.settings j g) ∙ ap suc (ticks-clock j g) ∙ sym (add-suc g.clock j)

  good-ran : (until : ℕ) → clock_of loads m a ≤ until → Good loads m (ran loads m a until (played loads m a until)) G (D ++ (played loads m a until).sent)
  good-ran until h = record {
    legal = mid.legal;
    sound = mid.sound;
    whole = mid.whole;
    book = book-settled loads a.book.settings until a.book.rows G mid.book;
    recorded = λ i. subst (RecordedRow loads m a.book.settings until G i (a.records i) (a.stamps i)) (sym (get_or-map (settled a.book.settings until) a.book.rows i Free))
        (record-settled loads m a.book.settings until G i (a.records i) (a.stamps i) (row_of a.book i) (mid.recorded i));
    spare = mid.spare;
  }
    where
      g : Sending L
      g = played loads m a until

      end : g.clock ≡ until
      end = ticks-clock (until - clock_of loads m a) (sending_of loads m a) ∙ omega arith

      begun : Good loads m (amid loads m a (sending_of loads m a)) G (D ++ [])
      begun = subst (Good loads m (amid loads m a (sending_of loads m a)) G) (sym (append-nil D)) good

      mid : Good loads m (amid loads m a (record { clock = until; wire = g.wire; bins = g.bins; sent = g.sent })) G (D ++ g.sent)
      mid = subst (λ z. Good loads m (amid loads m a (record { clock = z; wire = g.wire; bins = g.bins; sent = g.sent })) G (D ++ g.sent)) end
          (good-ticks loads m a G D (until - clock_of loads m a) (sending_of loads m a) begun)

  pub good-run : (until places : ℕ) → Good loads m (running loads m a until places).1 G (D ++ histories.written_by (histories.ran (running loads m a until places).0))
  unfolding running
  good-run until places = go (bad_until loads m a until) refl (short_list loads m a until places)
    where
      due : Result (List (Departure L)) PortFault × State L Record
      due = (Ok (played loads m a until).sent, ran loads m a until (played loads m a until))

      stay : Good loads m a G (D ++ [])
      stay = subst (Good loads m a G) (sym (append-nil D)) good

      go : (x : Bool) → bad_until loads m a until ≡ x → (y : Bool)
          → Good loads m (judged (first_hit (check x BadUntil ∷ check y ShortList ∷ [])) a due).1 G
          (D ++ histories.written_by (histories.ran (judged (first_hit (check x BadUntil ∷ check y ShortList ∷ [])) a due).0))
      go true f y = stay
      go false f true = stay
      go false f false = good-ran until (ltb-false until (clock_of loads m a) (or_parts (ltb until (clock_of loads m a)) (ltb last_tick until) f).0)
