-- One leg of a path and the rest: `old` before the leg's hold, `mid` after it, `far` after the rest of the path, `new` after the confirm or the drop.
use Rattle.std.proofs.Common.{◌≡◌, ℕ, zero, suc, ◌<◌, true, List, ◌∷◌, length, Ok, Err, is_ok, Result, MatchResult, IfOk, sym, ap, ◌∙◌, subst, inl, inr, arith}
use Rattle.std.proofs.lemmas.Bool.{cases_eq}
use Rattle.std.proofs.lemmas.Result.{IfOk-at_ok}
use Rattle.book.specs.declared.faults.BookFault.{BookFault}
use Rattle.book.specs.declared.rows.Booking.{Booking}
use Rattle.book.specs.declared.ledger.Note.{Note}
use Rattle.book.specs.Books.{row_of, note_of, held_by, hold_of}
use Rattle.book.proofs.Notes.{hold-taken-says}
use Rattle.schedule.specs.Histories.{Call, Hold, Confirm, DropHold}
use Rattle.line.specs.declared.legs.Leg.{Leg}
use Rattle.line.specs.declared.legs.Request.{Request}
use Rattle.line.specs.declared.faults.LegFault.{LegFault}
use Rattle.line.specs.declared.banks.Bank.{Ghosts}
use Rattle.line.specs.Banks.{History, and_then, called, Changed}
use Rattle.line.specs.Paths.{leg_at, booking_at, Sound, Unnamed, At, booked, confirmed_in, dropped_in, Untouched, LegBooked, Booked, RefusedAt}
use Rattle.line.proofs.Answered.{held-from}
use Rattle.line.proofs.Held.{hold-refused, drop-back, row-live}

-- What holds of one number and of all others holds of each.
each : (P : ℕ → Type 0) (k : ℕ) → P k → ((j : ℕ) → (j ≡ k → ⊥) → P j) → (j : ℕ) → P j
each P k h o j = elim (cases_eq j k) [ inl e ↦ subst P (sym e) h | inr e ↦ o j e ]

module _ {B : Type 0} (g : Ghosts B) where
  -- A call on a module takes one bank to the other.
  abbrev pub Goes : (k : ℕ) → Call (g.meanings k).Load → B → B → Type 0
  Goes k call a b = Changed g.meanings k call (g.stands a) (g.stands b) (g.states a) (g.states b)

  aside : {k : ℕ} {call : Call (g.meanings k).Load} {a b : B} → Goes k call a b → (j : ℕ) → (j ≡ k → ⊥) → Untouched g a b j
  aside c j d = record { same = c.others j d; stay = c.stay j d }

  through : {a b c : B} {k : ℕ} → Untouched g a b k → Untouched g b c k → Untouched g a c k
  through x y = record { same = y.same ∙ x.same; stay = λ h s. y.stay h (x.stay h s) }

  -- What was booked between two calls on other modules.
  between : (r : Request) (l : Leg) {old mid far new : B} → Untouched g old mid l.number → Untouched g far new l.number → LegBooked g mid far r l → LegBooked g old new r l
  between r l {new = new} a z b = record {
    took = subst (λ (x : At g.meanings l.number). (hold_of x.book r.stream (booking_at r l)).0 ≡ Ok (note_of x.book r.stream)) a.same b.took;
    on = λ h s. z.same ∙ b.on h (a.stay h s) ∙ ap (booked g.meanings l.number r.stream (booking_at r l)) a.same;
    live = λ h s. ap (λ (x : At g.meanings l.number). row_of x.book r.stream) z.same ∙ b.live h (a.stay h s);
    onward = λ h s. subst (λ (x : At g.meanings l.number). g.stands new l.number (confirmed_in g.meanings l.number r.stream (booking_at r l) x h)) a.same
        (z.stay _ (b.onward h (a.stay h s)));
  }

  module _ (r : Request) (leg : Leg) (rest : List Leg) (sound : Sound g.size (leg ∷ rest)) where
    -- The module of the leg, and what is booked there.
    abbrev number : ℕ
    number = leg.number

    abbrev booking : Booking
    booking = booking_at r leg

    -- The leg's module after a call.
    abbrev step : At g.meanings number → Call (g.meanings number).Load → At g.meanings number
    step a call = called g.meanings number a call

    pub sound-rest : Sound g.size rest
    sound-rest = record { there = λ i b. sound.there (suc i) (omega arith); apart = λ i j l b. sound.apart (suc i) (suc j) (omega arith) (omega arith) }

    -- No later leg names the leg's module.
    later : (i : ℕ) → i < length rest → (leg_at rest i).number ≡ number → ⊥
    later i b e = sound.apart 0 (suc i) (omega arith) (omega arith) (sym e)

    -- A module that no leg names is not this one's, and no later leg names it.
    beyond : (k : ℕ) → Unnamed (leg ∷ rest) k → (k ≡ number → ⊥) × Unnamed rest k
    beyond k o = (λ z. o 0 (omega arith) (sym z), λ i b z. o (suc i) (omega arith) z)

    -- The hold itself is refused.
    pub refused-here : (b : Booking) → b ≡ booking → (old new : B) (f : BookFault) → (hold_of (g.states old number).book r.stream b).0 ≡ Err f → Goes number (Hold r.stream b) old new
        → RefusedAt g old new r (leg ∷ rest) 0 f
    refused-here b i old new f a d =
        let c = subst (λ (x : Booking). Goes number (Hold r.stream x) old new) i d in
        let says : (hold_of (g.states old number).book r.stream booking).0 ≡ Err f = subst (λ (x : Booking). (hold_of (g.states old number).book r.stream x).0 ≡ Err f) i a in
        record {
          same = each (λ j. (h : History (g.meanings j)) → g.stands old j h → g.states new j ≡ g.states old j) number
              (λ h s. c.here.next h s ∙ hold-refused (g.meanings number).loads (g.meanings number).rules (g.states old number) r.stream booking f says) (λ j z h s. c.others j z);
          below = omega arith;
          says = says;
          undone = λ i b. absurd (omega arith);
          tried = c.here.onward;
          untried = untried;
          off = λ k o. aside c k (beyond k o).0;
        }
      where
        untried : (i : ℕ) → 0 < i → i < length (leg ∷ rest) → (h : History (g.meanings (leg_at (leg ∷ rest) i).number))
            → g.stands old (leg_at (leg ∷ rest) i).number h → g.stands new (leg_at (leg ∷ rest) i).number h
        untried zero l b = absurd (omega arith)
        untried (suc i) l b = d.stay (leg_at rest i).number (later i (omega arith))

    -- The hold was taken, and its note is good.
    pub record Took (old mid : B) (n : Note) : Type 0 where
      pub taken : (hold_of (g.states old number).book r.stream booking).0 ≡ Ok n
      pub call : Goes number (Hold r.stream booking) old mid
      pub good : held_by (g.states mid number).book n ≡ true

    -- From the booking that was made, the answer of the hold, and what became of that.
    pub taken-leg : (b : Booking) → b ≡ booking → (old mid : B) (w : Result Note BookFault) → w ≡ (hold_of (g.states old number).book r.stream b).0 → Goes number (Hold r.stream b) old mid
        → IfOk w (λ note. held_by (g.states mid number).book note ≡ true)
        → (P : BookFault → Type 0) (m : Result Note LegFault) → MatchResult w (λ x. m ≡ Ok x) P → is_ok m ≡ is_ok w → (n : Note) → m ≡ Ok n → Took old mid n
    taken-leg b i old mid w a c good P m cases same n was =
        let t = held-from P w m n cases same was in
        record {
          taken = subst (λ (x : Booking). (hold_of (g.states old number).book r.stream x).0 ≡ Ok n) i (sym a ∙ t);
          call = subst (λ (x : Booking). Goes number (Hold r.stream x) old mid) i c;
          good = IfOk-at_ok (λ note. held_by (g.states mid number).book note ≡ true) t good;
        }

    module _ (old mid far : B) (n : Note) (held : Took old mid n) where
      good-held : (h : History (g.meanings number)) → g.stands old number h → held_by (step (g.states old number) (Hold r.stream booking)).book n ≡ true
      good-held h s = subst (λ (z : At g.meanings number). held_by z.book n ≡ true) (held.call.here.next h s) held.good

      named : n ≡ note_of (g.states old number).book r.stream
      named = (hold-taken-says (g.states old number).book r.stream booking n held.taken).note

      -- The rest left the module as it was after the hold: its note is still good.
      module _ (kept : Untouched g mid far number) where
        still-good : held_by (g.states far number).book n ≡ true
        still-good = subst (λ (z : At g.meanings number). held_by z.book n ≡ true) (sym kept.same) held.good

        held-far : (h : History (g.meanings number)) → g.stands old number h → g.stands far number (and_then (g.meanings number) h (Hold r.stream booking))
        held-far h s = kept.stay (and_then (g.meanings number) h (Hold r.stream booking)) (held.call.here.onward h s)

        -- The module after a call with the note.
        spent : (call : Call (g.meanings number).Load) (new : B) → Goes number call far new → (h : History (g.meanings number)) → g.stands old number h
            → g.states new number ≡ step (step (g.states old number) (Hold r.stream booking)) call
        spent call new d h s = d.here.next (and_then (g.meanings number) h (Hold r.stream booking)) (held-far h s) ∙ ap (λ (z : At g.meanings number). step z call) (kept.same ∙ held.call.here.next h s)

        booked-here : (new : B) → Goes number (Confirm n) far new → LegBooked g old new r leg
        booked-here new d = record {
          took = held.taken ∙ ap (λ (x : Note). Ok x) named;
          on = λ h s. spent (Confirm n) new d h s ∙ ap (λ (x : Note). step (step (g.states old number) (Hold r.stream booking)) (Confirm x)) named;
          live = λ h s. ap (λ (z : At g.meanings number). row_of z.book r.stream) (spent (Confirm n) new d h s)
              ∙ row-live (g.meanings number).loads (g.meanings number).rules (g.states old number) r.stream booking n held.taken (good-held h s);
          onward = λ h s. subst (λ (x : Note). g.stands new number (and_then (g.meanings number) (and_then (g.meanings number) h (Hold r.stream booking)) (Confirm x))) named
              (d.here.onward (and_then (g.meanings number) h (Hold r.stream booking)) (held-far h s));
        }

      -- The rest was booked.
      module _ (done : Booked g mid far r rest) where
        kept-booked : Untouched g mid far number
        kept-booked = done.off number later

        pub good-booked : held_by (g.states far number).book n ≡ true
        good-booked = still-good kept-booked

        pub booked-leg : (new : B) → Goes number (Confirm n) far new → Booked g old new r (leg ∷ rest)
        booked-leg new d = record {
          legs_booked = booked-at;
          off = λ k o. let e = beyond k o in through (aside held.call k e.0) (through (done.off k e.1) (aside d k e.0));
        }
          where
            booked-at : (i : ℕ) → i < length (leg ∷ rest) → LegBooked g old new r (leg_at (leg ∷ rest) i)
            booked-at zero b = booked-here kept-booked new d
            booked-at (suc i) b =
                let l : i < length rest = omega arith in
                between r (leg_at rest i) (aside held.call (leg_at rest i).number (later i l)) (aside d (leg_at rest i).number (later i l)) (done.legs_booked i l)

      -- The rest was refused: the drop of the note gives every module back as it was.
      module _ (p : ℕ) (f : BookFault) (no : RefusedAt g mid far r rest p f) where
        kept-refused : Untouched g mid far number
        kept-refused = no.off number later

        pub good-refused : held_by (g.states far number).book n ≡ true
        good-refused = still-good kept-refused

        pub refused-later : (new : B) → Goes number (DropHold n) far new → RefusedAt g old new r (leg ∷ rest) (suc p) f
        refused-later new d = record {
          same = each (λ j. (h : History (g.meanings j)) → g.stands old j h → g.states new j ≡ g.states old j) number
              (λ h s. spent kept-refused (DropHold n) new d h s
              ∙ drop-back (g.meanings number).loads (g.meanings number).rules (g.states old number) r.stream booking n held.taken (good-held h s))
              (λ j e h s. d.others j e ∙ no.same j h (held.call.stay j e h s) ∙ held.call.others j e);
          below = omega (arith, no.below);
          says = subst (λ (z : At g.meanings (leg_at rest p).number). (hold_of z.book r.stream (booking_at r (leg_at rest p))).0 ≡ Err f) (held.call.others (leg_at rest p).number (later p no.below)) no.says;
          undone = undone;
          tried = λ h s. d.stay (leg_at rest p).number (later p no.below) _ (no.tried h (held.call.stay (leg_at rest p).number (later p no.below) h s));
          untried = untried;
          off = λ k o. let e = beyond k o in through (aside held.call k e.0) (through (no.off k e.1) (aside d k e.0));
        }
          where
            undone : (i : ℕ) → i < suc p → (h : History (g.meanings (leg_at (leg ∷ rest) i).number)) → g.stands old (leg_at (leg ∷ rest) i).number h
                → g.stands new (leg_at (leg ∷ rest) i).number
                (dropped_in g.meanings (leg_at (leg ∷ rest) i).number r.stream (booking_at r (leg_at (leg ∷ rest) i)) (g.states old (leg_at (leg ∷ rest) i).number) h)
            undone zero b h s = subst (λ (x : Note). g.stands new number (and_then (g.meanings number) (and_then (g.meanings number) h (Hold r.stream booking)) (DropHold x))) named
                (d.here.onward (and_then (g.meanings number) h (Hold r.stream booking)) (held-far kept-refused h s))
            undone (suc i) b h s =
                let l : i < p = omega arith in
                let m : i < length rest = omega (arith, no.below) in
                let k = leg_at rest i in
                subst (λ (z : At g.meanings k.number). g.stands new k.number (dropped_in g.meanings k.number r.stream (booking_at r k) z h)) (held.call.others k.number (later i m))
                (d.stay k.number (later i m) _ (no.undone i l h (held.call.stay k.number (later i m) h s)))

            untried : (i : ℕ) → suc p < i → i < length (leg ∷ rest) → (h : History (g.meanings (leg_at (leg ∷ rest) i).number))
                → g.stands old (leg_at (leg ∷ rest) i).number h → g.stands new (leg_at (leg ∷ rest) i).number h
            untried zero l b h s = absurd (omega arith)
            untried (suc i) l b h s =
                let q : p < i = omega arith in
                let m : i < length rest = omega arith in
                let k = leg_at rest i in
                d.stay k.number (later i m) h (no.untried i q m h (held.call.stay k.number (later i m) h s))
