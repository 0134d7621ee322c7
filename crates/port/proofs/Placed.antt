-- A frame that was admitted: the placer's answer, the put, and the history after it.
use Rattle.std.proofs.Common.{◌≡◌, ℕ, ◌<◌, ◌≤◌, Bool, true, false, cond, eqb, ltb, List, [], ◌∷◌, ◌++◌, length, Some, None, Ok, Err, Option, Result, sym, refl, ap, ◌∙◌, subst, arith}
use Rattle.std.specs.Result.{is_ok}
use Rattle.std.proofs.lemmas.Bool.{eq-eqb, cond-true, cond-false}
use Rattle.racks.specs.declared.faults.RackFault.{RackFault}
use Rattle.racks.specs.Bins as rack
use Rattle.racks.specs.Bins.{added, put_of}
use Rattle.book.specs.declared.rows.Booking.{Booking}
use Rattle.book.specs.declared.rows.Row.{Row}
use Rattle.book.specs.declared.rows.Row.TheVariants.{Free, Held, Live, Leaving}
use Rattle.book.specs.Told.{SetNumbers, class_count, bins_of, Legal}
use Rattle.book.specs.Rows.{live_in}
use Rattle.book.specs.Books.{row_of, no_stream}
use Rattle.book.proofs.Steps.{Classed}
use Rattle.book.proofs.Sound.{Sound, all-at}
use Rattle.placers.specs.declared.faults.PlacerFault.{PlacerFault}
use Rattle.placers.specs.declared.terms.Terms.{Terms}
use Rattle.placers.specs.declared.terms.Ask.{Ask}
use Rattle.placers.specs.Terms.{terms_of}
use Rattle.placers.specs.Placers as placer
use Rattle.placers.specs.Placers.{Rules, replaced}
use Rattle.schedule.specs.declared.faults.PortFault.{PortFault}
use Rattle.schedule.specs.declared.faults.PortFault.TheVariants.{NotThere, Placing}
use Rattle.schedule.specs.Bins.{bin_of, loads_below}
use Rattle.schedule.specs.Wires.{Loads}
use Rattle.schedule.specs.Modules.{State, not_there, booked_fault, ask_of, placing, placed_by, put_into, framing}
use Rattle.schedule.specs.Histories.{Call, Frame, Answer, placed, after}
use Rattle.schedule.specs.Laws.{room_of, Laws, LawsOf}
use Rattle.port.specs.Rowed.{live_booking}
use Rattle.port.specs.Admitted.{unless, admitted_by, admitted}
use Rattle.port.specs.Standing.{Parts, state_in, Stands, Follows}
use Rattle.port.proofs.Invariants.{after-sound}
use Rattle.port.proofs.Following.{parts, Stays, follows-standing}
use Rattle.port.proofs.Frames.{framed, framing-admitted}
use Rattle.port.proofs.Rooms.{bin-within, set-replaced, put-fits}

-- The row of an admitted frame is live, by the booking that was found.
unless-ok : (o : Option PortFault) (j k : Booking) → Ok k ≡ unless o j → k ≡ j
unless-ok (Some f) j k e = cc
unless-ok None j k e = cc

live-some : (none : Bool) (r : Row) (k : Booking) → cond none None (live_in r) ≡ Some k → (none ≡ false) × (r ≡ Live k)
live-some true r k e = (cc, cc)
live-some false Free k e = (cc, cc)
live-some false (Held j) k e = (cc, cc)
live-some false (Live j) k e = (refl, cc)
live-some false (Leaving j q) k e = (cc, cc)

module _ {L Record : Type 0} (loads : Loads L) (m : Rules Record) (a : State L Record) (input stamp : ℕ) (x : L) where
  admitted-some : (o : Option Booking) (k : Booking) → Ok k ≡ admitted_by loads m a input stamp x o → o ≡ Some k
  admitted-some None k e = cc
  admitted-some (Some j) k e = ap (λ i. Some i) (sym (unless-ok (booked_fault loads m a j input stamp x) j k e))

  admitted-live : (k : Booking) → Ok k ≡ admitted loads m a input stamp x → (no_stream (loads.stream_of x) ≡ false) × (row_of a.book (loads.stream_of x) ≡ Live k)
  unfolding admitted
  admitted-live k e = go (not_there loads m a input x) e
    where
      o : Option Booking
      o = live_booking a.book (loads.stream_of x)

      go : (none : Bool) → Ok k ≡ cond none (Err NotThere) (admitted_by loads m a input stamp x o) → (no_stream (loads.stream_of x) ≡ false) × (row_of a.book (loads.stream_of x) ≡ Live k)
      go true w = (cc, cc)
      go false w = live-some (no_stream (loads.stream_of x)) (row_of a.book (loads.stream_of x)) k (admitted-some o k w)

-- What the placer makes of a frame, by its answer.
answered-err : {Record : Type 0} (pl : placer.Placing Record) (f : PlacerFault) → Err f ≡ placer.answer_of pl → pl ≡ placer.refused f
answered-err (placer.given q n) f e = cc
answered-err (placer.refused g) f e = cc

answered-ok : {Record : Type 0} (pl : placer.Placing Record) (q : ℕ) → Ok q ≡ placer.answer_of pl → (n : Record) × (pl ≡ placer.given q n)
answered-ok (placer.given j n) q e = let same : j ≡ q = cc in (n, ap (λ (i : ℕ). placer.given i n) same)
answered-ok (placer.refused g) q e = let z : ◌≡◌ {A = ℕ} 0 1 = cc in absurd (omega arith)

module _ {L Record : Type 0} (loads : Loads L) (m : Rules Record) (p : Parts L Record) (input stamp : ℕ) (x : L) where
  Step : Parts L Record → Result ℕ PortFault → Type 0
  Step q r = (s : SetNumbers) (begun : ℕ → Record) (h : List (Call L)) → Stands loads m s begun h p
      → (r, state_in q) ≡ framed loads m (state_in p) input stamp x (admitted loads m (state_in p) input stamp x)

  frame-by : (q : Parts L Record) (r : Result ℕ PortFault) → Stays p q → Step q r → Follows loads m (Frame input stamp x) p q (placed r)
  unfolding Step
  frame-by q r stay step = follows-standing loads m (Frame input stamp x) p q (placed r) stay (λ s begun h so.
      let w = step s begun h so ∙ sym (framing-admitted loads m (state_in p) input stamp x) in
      record { next = ap (λ v. v.1) w; answers = ap (λ v. placed v.0) w })

  -- Refused before the placer is asked.
  pub frame_refused : (f : PortFault) → (Err f ≡ admitted loads m (state_in p) input stamp x)
      → Follows loads m (Frame input stamp x) p p (placed (Err f))
  unfolding Step
  frame_refused f e = frame-by p (Err f) (record { bins = refl; depth = refl; total = refl })
      (λ s begun h so. ap (framed loads m (state_in p) input stamp x) e)

  module _ (k : Booking) (admits : Ok k ≡ admitted loads m (state_in p) input stamp x)
      (y : ℕ) (ys : y ≡ loads.stream_of x) (t : Terms) (ts : t ≡ terms_of p.book.settings k.class k.input)
      (ask : Ask) (asks : ask ≡ ask_of loads m (state_in p) k stamp x) (records : ℕ → Record) (r : Result ℕ PlacerFault)
      (answers : r ≡ placer.answer_of (placer.placing m t p.records y ask))
      (next : records ≡ placer.stored p.records y (placer.placing m t p.records y ask)) where
    -- The placer was asked what the rules ask it.
    asked : placer.placing m t p.records y ask ≡ placing loads m (state_in p) k stamp x
    asked =
        let there = (admitted-live loads m (state_in p) input stamp x k admits).0 in
        ap (λ (z : ℕ). placer.placing m t p.records z ask) ys
        ∙ cond-false (ltb 127 (loads.stream_of x)) _ _ there
        ∙ ap (λ (z : Terms). m.rule z (p.records (loads.stream_of x)) ask) ts
        ∙ ap (λ (z : Ask). m.rule (terms_of p.book.settings k.class k.input) (p.records (loads.stream_of x)) z) asks

    abbrev pub recorded : Parts L Record
    recorded = parts p.book records p.stamps p.wire p.bins p.depth p.total

    with_records : (ℕ → Record) → State L Record
    with_records rs = record { book = p.book; records = rs; stamps = p.stamps; wire = p.wire; bins = rack.bin_of p.bins }

    -- Refused by the placer.
    pub frame-unplaced : (f : PlacerFault) → r ≡ Err f → Follows loads m (Frame input stamp x) p recorded (placed (Err (Placing f)))
    unfolding Step with_records
    frame-unplaced f e = frame-by recorded (Err (Placing f)) (record { bins = refl; depth = refl; total = refl })
        (λ s begun h so.
        let is = answered-err (placer.placing m t p.records y ask) f (sym e ∙ answers) in
        let same : records ≡ p.records = next ∙ ap (placer.stored p.records y) is in
        let due = sym asked ∙ is in
        ap (λ (rs : ℕ → Record). (Err (Placing f), with_records rs)) same
        ∙ sym (ap (framed loads m (state_in p) input stamp x) (sym admits)
        ∙ ap (λ (w : placer.Placing Record). placed_by loads m w (state_in p) k.class stamp x) due))

    module _ (legal : Legal p.book.settings) (laws : (s : SetNumbers) → Legal s → LawsOf loads m s)
        (q : ℕ) (ok : r ≡ Ok q) (b : ℕ) (bs : 0 < bins_of p.book.settings k.class → b ≡ bin_of p.book.settings k.class q) where
      -- The rules put the load into this bin.
      record Put (s : SetNumbers) (begun : ℕ → Record) (h : List (Call L)) : Type 0 where
        pub new : Record
        pub recorded-so : records ≡ replaced p.records (loads.stream_of x) new
        pub due : framed loads m (state_in p) input stamp x (admitted loads m (state_in p) input stamp x) ≡ (Ok q, put_into loads m (state_in p) k.class q stamp x new)
        pub bin : b ≡ bin_of p.book.settings k.class q
        pub there : b < length p.bins
        pub goes : put_of p.bins p.depth p.total b x ≡ (Ok tt, added p.bins b x)

      putting : (s : SetNumbers) (begun : ℕ → Record) (h : List (Call L)) → Stands loads m s begun h p → Put s begun h
      unfolding after
      putting s begun h so = record { new = new; recorded-so = recorded-so; due = due; bin = bin; there = there; goes = goes }
        where
          legal-s : Legal s
          legal-s = subst Legal so.told legal

          live : row_of p.book (loads.stream_of x) ≡ Live k
          live = (admitted-live loads m (state_in p) input stamp x k admits).1

          is : (n : Record) × (placer.placing m t p.records y ask ≡ placer.given q n)
          is = answered-ok (placer.placing m t p.records y ask) q (sym ok ∙ answers)

          new : Record
          new = is.0

          recorded-so : records ≡ replaced p.records (loads.stream_of x) new
          recorded-so = next ∙ ap (placer.stored p.records y) is.1 ∙ ap (λ (z : ℕ). replaced p.records z new) ys

          due : framed loads m (state_in p) input stamp x (admitted loads m (state_in p) input stamp x) ≡ (Ok q, put_into loads m (state_in p) k.class q stamp x new)
          due = ap (framed loads m (state_in p) input stamp x) (sym admits)
              ∙ ap (λ (w : placer.Placing Record). placed_by loads m w (state_in p) k.class stamp x) (sym asked ∙ is.1)

          -- The class of the row is there, and so is its bin.
          classed : k.class < class_count p.book.settings
          classed =
              let book-is : p.book ≡ (after loads m s begun h).book = ap (λ (w : State L Record). w.book) so.state in
              let sound : Sound p.book = subst Sound (sym book-is) (after-sound loads m s begun legal-s h) in
              subst (Classed (class_count p.book.settings)) live (all-at (Classed (class_count p.book.settings)) tt p.book.rows sound.classed (loads.stream_of x))

          bin : b ≡ bin_of p.book.settings k.class q
          bin = let two = legal.two_bins k.class classed in bs (omega arith)

          there : b < length p.bins
          there =
              let within = bin-within p.book.settings legal k.class q classed in
              let room : (room_of p.book.settings).bins ≤ length p.bins = subst (λ (w : SetNumbers). (room_of w).bins ≤ length p.bins) (sym so.told) so.bins in
              omega (arith, within, room, bin)

          -- The laws after this frame.
          law : Laws loads m s begun (Frame input stamp x ∷ h)
          law = laws s legal-s begun (Frame input stamp x ∷ h)

          bins-after : (after loads m s begun (Frame input stamp x ∷ h)).bins ≡ replaced (rack.bin_of p.bins) b (rack.bin_of p.bins b ++ (x ∷ []))
          bins-after =
              ap (λ (w : State L Record). (framing loads m w input stamp x).1.bins) (sym so.state)
              ∙ ap (λ v. v.1.bins) (framing-admitted loads m (state_in p) input stamp x ∙ due)
              ∙ ap (λ (z : ℕ). replaced (rack.bin_of p.bins) z (rack.bin_of p.bins z ++ (x ∷ []))) (sym bin)

          goes : put_of p.bins p.depth p.total b x ≡ (Ok tt, added p.bins b x)
          goes =
              let ys = rack.bin_of p.bins b ++ (x ∷ []) in
              let here-is : (after loads m s begun (Frame input stamp x ∷ h)).bins b ≡ ys =
              ap (λ (f : ℕ → List L). f b) bins-after ∙ cond-true (eqb b b) ys (rack.bin_of p.bins b) (eq-eqb b b refl) in
              let all-is = ap (λ (f : ℕ → List L). loads_below f (length p.bins)) bins-after in
              put-fits p.bins p.depth p.total b x there
              (omega (arith, ap length here-is, law.depth b, so.depth)) (omega (arith, all-is, law.total (length p.bins), so.total))

      -- So the rack takes it.
      pub frame-full : (q' : Parts L Record) (o : Result (Unit {0}) RackFault) (z : Answer L) → o ≡ (put_of p.bins p.depth p.total b x).0 → false ≡ is_ok o
          → Follows loads m (Frame input stamp x) p q' z
      frame-full q' o z e full s begun h so =
          let w = putting s begun h so in
          let same = ap is_ok (e ∙ ap (λ v. v.0) w.goes) in
          let n : ◌≡◌ {A = ℕ} 0 1 = cc in absurd (omega arith)

      module _ (bins : List (List L)) (depth total : ℕ) (stamps : ℕ → ℕ) where
        abbrev pub placed_parts : Parts L Record
        placed_parts = parts p.book records stamps p.wire bins depth total

        pub frame-goes : bins ≡ (put_of p.bins p.depth p.total b x).1 → length bins ≡ length p.bins → depth ≡ p.depth → total ≡ p.total
            → stamps ≡ cond (ltb 127 y) p.stamps (replaced p.stamps y stamp)
            → Follows loads m (Frame input stamp x) p placed_parts (placed (Ok q))
        unfolding Step
        frame-goes bins-is len dep tot stamps-is = frame-by placed_parts (Ok q) (record { bins = len; depth = dep; total = tot })
            (λ s begun h so.
            let w = putting s begun h so in
            let there = (admitted-live loads m (state_in p) input stamp x k admits).0 in
            let stamps-so : stamps ≡ replaced p.stamps (loads.stream_of x) stamp =
            stamps-is ∙ ap (λ (z : ℕ). cond (ltb 127 z) p.stamps (replaced p.stamps z stamp)) ys ∙ cond-false (ltb 127 (loads.stream_of x)) _ _ there in
            let at = bin_of p.book.settings k.class q in
            let bins-so : rack.bin_of bins ≡ replaced (rack.bin_of p.bins) at (rack.bin_of p.bins at ++ (x ∷ [])) =
            ap rack.bin_of (bins-is ∙ ap (λ v. v.1) w.goes) ∙ set-replaced p.bins b _ w.there
            ∙ ap (λ (z : ℕ). replaced (rack.bin_of p.bins) z (rack.bin_of p.bins z ++ (x ∷ []))) w.bin in
            same-put w.recorded-so stamps-so bins-so ∙ sym w.due)
          where
            same-put : {rs rs' : ℕ → Record} {ss ss' : ℕ → ℕ} {bb bb' : ℕ → List L} → rs ≡ rs' → ss ≡ ss' → bb ≡ bb'
                → ◌≡◌ {A = Result ℕ PortFault × State L Record} (Ok q, record { book = p.book; records = rs; stamps = ss; wire = p.wire; bins = bb })
                (Ok q, record { book = p.book; records = rs'; stamps = ss'; wire = p.wire; bins = bb' })
            same-put e f g = cc
