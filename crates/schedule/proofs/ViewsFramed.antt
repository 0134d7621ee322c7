-- Frames, fillers and runs to the eyes of a stream: its own frame is answered the same by two modules that are the same to it,
-- and leaves them the same; a frame of another stream and a filler change nothing; a run moves both alike.
use Rattle.std.proofs.Common.{◌≡◌, ℕ, false, cond, eqb, [], ◌∷◌, Some, None, Option, Result, sym, refl, ap, ◌∙◌, subst}
use lib.ListN.{get_or-map}
use Rattle.std.proofs.lemmas.List.{length-map}
use Rattle.std.proofs.lemmas.Bool.{cond-false}
use Rattle.book.specs.declared.rows.Row.{Row}
use Rattle.book.specs.declared.rows.Row.TheVariants.{Free, Held, Live, Leaving}
use Rattle.book.specs.Rows.{settled}
use Rattle.book.specs.Books.{row_of}
use Rattle.placers.specs.Placers as placer
use Rattle.placers.specs.Placers.{Rules}
use Rattle.schedule.specs.declared.faults.PortFault.{PortFault}
use Rattle.schedule.specs.declared.faults.PortFault.TheVariants.{NotThere}
use Rattle.schedule.specs.Faults.{first_hit, check}
use Rattle.schedule.specs.Wires.{Loads}
use Rattle.schedule.specs.Modules.{State, judged, booked_fault, placing, placed_by, framing_by, not_there, framing, filling, running}
use Rattle.schedule.proofs.Views.{Same, same_self, judged-both, judged-other}

module _ {L Record : Type 0} (loads : Loads L) (m : Rules Record) (S : ℕ) where
  -- Two outcomes of a frame with the same answer, that leave modules that are the same to S.
  pub record Agree (p q : Result ℕ PortFault × State L Record) : Type 0 where
    pub answer : p.0 ≡ q.0
    pub next : Same S p.1 q.1

  module _ (a b : State L Record) (same : Same S a b) where
    agree-judged : (o o' : Option PortFault) (p q : Result ℕ PortFault × State L Record)
        → o ≡ o' → Agree p q → Agree (judged o a p) (judged o' b q)
    agree-judged o o' p q e due = subst (λ (f : Option PortFault). Agree (judged o a p) (judged f b q)) e (go o)
      where
        go : (o : Option PortFault) → Agree (judged o a p) (judged o b q)
        go (Some f) = record { answer = refl; next = same }
        go None = due

    module _ (input stamp : ℕ) (x : L) (own : loads.stream_of x ≡ S) where
      agree-placed : (c : ℕ) (p q : placer.Placing Record) → p ≡ q
          → Agree (placed_by loads m p a c stamp x) (placed_by loads m q b c stamp x)
      agree-placed c p q e =
          subst (λ (z : placer.Placing Record). Agree (placed_by loads m p a c stamp x) (placed_by loads m z b c stamp x)) e (go p)
        where
          go : (p : placer.Placing Record) → Agree (placed_by loads m p a c stamp x) (placed_by loads m p b c stamp x)
          go (placer.given q next) = record {
            answer = refl;
            next = record {
              settings = same.settings;
              clock = same.clock;
              streams = same.streams;
              row = same.row;
              noted = ap (λ (r : Record). cond (eqb (loads.stream_of x) S) next r) same.noted;
              stamp = ap (λ (t : ℕ). cond (eqb (loads.stream_of x) S) stamp t) same.stamp;
            };
          }
          go (placer.refused f) = record { answer = refl; next = same }

      agree-booked : (r : Row) → Agree (framing_by loads m r a input stamp x) (framing_by loads m r b input stamp x)
      unfolding framing_by booked_fault
      agree-booked Free = record { answer = refl; next = same }
      agree-booked (Held k) = record { answer = refl; next = same }
      agree-booked (Live k) = agree-judged (booked_fault loads m a k input stamp x) (booked_fault loads m b k input stamp x) _ _ (cc)
          (agree-placed k.class (placing loads m a k stamp x) (placing loads m b k stamp x) (cc))
      agree-booked (Leaving k q) = record { answer = refl; next = same }

      pub agree-framed : Agree (framing loads m a input stamp x) (framing loads m b input stamp x)
      unfolding framing
      agree-framed =
          let row : row_of a.book (loads.stream_of x) ≡ row_of b.book (loads.stream_of x) = cc in
          agree-judged (first_hit (check (not_there loads m a input x) NotThere ∷ []))
          (first_hit (check (not_there loads m b input x) NotThere ∷ [])) _ _ (cc)
          (rw (← row) (agree-booked (row_of a.book (loads.stream_of x))))

    pub same-run : (until places : ℕ) → Same S (running loads m a until places).1 (running loads m b until places).1
    unfolding running
    same-run until places = judged-both _ _ _ _ (cc) same (record {
      settings = same.settings;
      clock = refl;
      streams = length-map a.book.rows (settled a.book.settings until) ∙ same.streams
          ∙ sym (length-map b.book.rows (settled b.book.settings until));
      row = get_or-map (settled a.book.settings until) a.book.rows S Free
          ∙ (λ i. settled (same.settings i) until (same.row i))
          ∙ sym (get_or-map (settled b.book.settings until) b.book.rows S Free);
      noted = same.noted;
      stamp = same.stamp;
    })

  module _ (a : State L Record) where
    pub same-framed : (input stamp : ℕ) (x : L) → eqb (loads.stream_of x) S ≡ false → Same S a (framing loads m a input stamp x).1
    unfolding framing framing_by
    same-framed input stamp x other = judged-other _ _ (go (row_of a.book (loads.stream_of x)))
      where
        put : (c : ℕ) (p : placer.Placing Record) → Same S a (placed_by loads m p a c stamp x).1
        put c (placer.given q next) = record {
          settings = refl;
          clock = refl;
          streams = refl;
          row = refl;
          noted = sym (cond-false (eqb (loads.stream_of x) S) next (a.records S) other);
          stamp = sym (cond-false (eqb (loads.stream_of x) S) stamp (a.stamps S) other);
        }
        put c (placer.refused f) = same_self S a

        go : (r : Row) → Same S a (framing_by loads m r a input stamp x).1
        go Free = same_self S a
        go (Held k) = same_self S a
        go (Live k) = judged-other _ _ (put k.class (placing loads m a k stamp x))
        go (Leaving k q) = same_self S a

    pub same-filled : (n : ℕ) → Same S a (filling loads m a n).1
    unfolding filling
    same-filled n =
        judged-other _ _ (record { settings = refl; clock = refl; streams = refl; row = refl; noted = refl; stamp = refl })
