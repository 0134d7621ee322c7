-- A run by its tests: what the port does in each case goes by the rules.
use Rattle.std.proofs.Common.{◌≡◌, ℕ, ◌+◌, ◌-◌, ◌/◌, ◌<◌, Bool, true, false, List, [], ◌∷◌, length, Ok, Err, Result, sym, refl, ap, ◌∙◌, subst, arith}
use Rattle.std.proofs.lemmas.Bool.{ltb-false}
use Rattle.book.specs.Told.{SetNumbers}
use Rattle.book.specs.Books.{BookState, advance_of, advanced}
use Rattle.book.proofs.Answering.{advance-at}
use Rattle.racks.specs.Bins.{bin_of}
use Rattle.placers.specs.Placers.{Rules}
use Rattle.schedule.specs.declared.departures.Departure.{Departure}
use Rattle.schedule.specs.declared.faults.PortFault.{PortFault}
use Rattle.schedule.specs.declared.faults.PortFault.TheVariants.{BadUntil, ShortList}
use Rattle.schedule.specs.Faults.{first_hit, check}
use Rattle.schedule.specs.Wires.{Loads, Sending, ticks}
use Rattle.schedule.specs.Modules as rules
use Rattle.schedule.specs.Modules.{State, judged, running, played, bad_until, short_list}
use Rattle.schedule.specs.Histories.{Call, Run, ran}
use Rattle.port.specs.Standing.{Parts, state_in, Stands, Follows}
use Rattle.port.specs.Playing.{Long, sending_at, Played}
use Rattle.port.proofs.Invariants.{after-long}
use Rattle.port.proofs.Following.{parts, Stays, follows-standing}

module _ {L Record : Type 0} (loads : Loads L) (m : Rules Record) (p : Parts L Record) (until places : ℕ) where
  a : State L Record
  a = state_in p

  Due : (bad short : Bool) → Result (List (Departure L)) PortFault × State L Record
  Due bad short = judged (first_hit (check bad BadUntil ∷ check short ShortList ∷ [])) a (Ok (played loads m a until).sent, rules.ran loads m a until (played loads m a until))

  running-at : (bad short : Bool) → bad_until loads m a until ≡ bad → short_list loads m a until places ≡ short → running loads m a until places ≡ Due bad short
  unfolding running Due
  running-at bad short e f = rw (e, f) refl

  run_by : (bad short : Bool) → bad_until loads m a until ≡ bad → short_list loads m a until places ≡ short
      → (q : Parts L Record) (r : Result (List (Departure L)) PortFault) → Stays p q
      → ((s : SetNumbers) (begun : ℕ → Record) (h : List (Call L)) → Stands loads m s begun h p → (r, state_in q) ≡ Due bad short)
      → Follows loads m (Run until places) p q (ran r)
  unfolding a
  run_by bad short e f q r stay step = follows-standing loads m (Run until places) p q (ran r) stay (λ s begun h so.
      let w = step s begun h so ∙ sym (running-at bad short e f) in
      record { next = ap (λ v. v.1) w; answers = ap (λ v. ran v.0) w })

  same : Stays p p
  same = record { bins = refl; depth = refl; total = refl }

  pub run-bad : bad_until loads m (state_in p) until ≡ true → Follows loads m (Run until places) p p (ran (Err BadUntil))
  unfolding a Due
  run-bad e = run_by true (short_list loads m a until places) e refl p (Err BadUntil) same (λ s begun h so. refl)

  pub run_short : bad_until loads m (state_in p) until ≡ false → short_list loads m (state_in p) until places ≡ true
      → Follows loads m (Run until places) p p (ran (Err ShortList))
  unfolding a Due
  run_short e f = run_by false true e f p (Err ShortList) same (λ s begun h so. refl)

  -- The ticks were played over the rack, and the book's clock moved.
  module _ (bad : bad_until loads m (state_in p) until ≡ false) (short : short_list loads m (state_in p) until places ≡ false)
      (book : BookState) (wire : ℕ) (bins : List (List L)) (depth total : ℕ) (sent : List (Departure L)) where
    abbrev pub ran_parts : Parts L Record
    ran_parts = parts book p.records p.stamps wire bins depth total

    pub run-goes : (clock : ℕ) (s : SetNumbers) → clock ≡ p.book.clock → s ≡ p.book.settings
        → (Long loads (bin_of p.bins) → (until - clock) / 84 < places → Played loads s until clock p.wire p.bins wire bins sent)
        → book ≡ (advance_of p.book until).1 → length bins ≡ length p.bins → depth ≡ p.depth → total ≡ p.total
        → Follows loads m (Run until places) p ran_parts (ran (Ok sent))
    unfolding a Due
    run-goes clock s now told plays moves len dep tot = run_by false false bad short ran_parts (Ok sent) (record { bins = len; depth = dep; total = tot })
        (λ z begun h so.
        let long : Long loads (bin_of p.bins) = subst (λ (w : State L Record). Long loads w.bins) (sym so.state) (after-long loads m z begun h) in
        let enough = ltb-false places ((until - p.book.clock) / 84 + 1) short in
        let fits : (until - clock) / 84 < places = subst (λ (t : ℕ). (until - t) / 84 < places) (sym now) (omega arith) in
        let book-is : book ≡ advanced p.book until = moves ∙ ap (λ v. v.1) (advance-at p.book until false bad) in
        let ends : played loads m (state_in p) until ≡ sending_at until wire (bin_of bins) sent =
        ap (λ (w : SetNumbers). ticks loads w (until - p.book.clock) (sending_at p.book.clock p.wire (bin_of p.bins) [])) (sym told)
        ∙ ap (λ (t : ℕ). ticks loads s (until - t) (sending_at t p.wire (bin_of p.bins) [])) (sym now) ∙ plays long fits in
        made book-is ∙ sym (ap (λ (g : Sending L). (Ok g.sent, rules.ran loads m (state_in p) until g)) ends))
      where
        made : book ≡ advanced p.book until
            → ◌≡◌ {A = Result (List (Departure L)) PortFault × State L Record} (Ok sent, state_in ran_parts) (Ok sent, rules.ran loads m (state_in p) until (sending_at until wire (bin_of bins) sent))
        made e = ap (λ (b : BookState). (Ok sent, record { book = b; records = p.records; stamps = p.stamps; wire = wire; bins = bin_of bins })) e
