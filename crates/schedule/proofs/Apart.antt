-- The stream's own view: over two histories with the same runs and the same calls of a stream, its booking calls accepted in both
-- or in neither, the stream sees the same.
use Rattle.std.proofs.Common.{◌≡◌, ℕ, Bool, true, false, cond, eqb, List, [], ◌∷◌, ◌++◌, Result, sym, refl, ap, ◌∙◌}
use Rattle.std.proofs.lemmas.List.{append-nil}
use Rattle.std.proofs.lemmas.List.Elements.{filter-append}
use Rattle.std.proofs.lemmas.Bool.{cond-false, and_left, and_from}
use Rattle.book.specs.Told.{SetNumbers}
use Rattle.book.proofs.Within.{nope}
use Rattle.placers.specs.Placers.{Rules}
use Rattle.schedule.specs.declared.faults.PortFault.{PortFault}
use Rattle.schedule.specs.Wires.{Loads}
use Rattle.schedule.specs.Modules.{State}
use Rattle.schedule.specs.Histories.{Call, given_in, after, answer, given}
use Rattle.schedule.specs.Streams.{is_booking, is_accepted, concerns, books, own_of, verdicts, answers, given_to, Twins, Apart}
use Rattle.schedule.proofs.Sieves.{sieved}
use Rattle.schedule.proofs.Views.{Same, same_back, same-on, same_self}
use Rattle.schedule.proofs.ViewsCalled.{next-own, answer-own, given-own, next-other, given-other}

-- Two lists that both have one more element or neither has.
one_more : (t v w : Bool) (vs ws : List Bool) → cond t (v ∷ vs) vs ≡ cond t (w ∷ ws) ws → (vs ≡ ws) × (t ≡ true → v ≡ w)
one_more true v w vs ws e = (cc, λ is. cc)
one_more false v w vs ws e = (e, λ is. nope (cc))

module _ {L Record : Type 0} (loads : Loads L) (m : Rules Record) (s : SetNumbers) (begun : ℕ → Record) (S : ℕ) where
  abbrev now : List (Call L) → State L Record
  now h = after loads m s begun h

  abbrev is_yes : List (Call L) → Call L → Bool
  is_yes h c = is_accepted (answer loads m s begun h c)

  abbrev said : List (Call L) → List Bool
  said h = verdicts loads m s begun S h

  abbrev own : List (Call L) → (c q : ℕ) → List L
  own h c q = given_to loads m s begun S h c q

  -- Two histories that S did not tell apart so far.
  record Together (h k : List (Call L)) : Type 0 where
    state : Same S (now h) (now k)
    answered : answers loads m s begun S h ≡ answers loads m s begun S k
    loaded : (c q : ℕ) → own h c q ≡ own k c q

  none : Together [] []
  none = record { state = same_self S (now []); answered = refl; loaded = λ c q. refl }

  flip : (h k : List (Call L)) → Together h k → Together k h
  flip h k t = record { state = same_back t.state; answered = sym t.answered; loaded = λ c q. sym (t.loaded c q) }

  -- What a call brings S in a cycle stands behind what S had there.
  own-more : (call : Call L) (h : List (Call L)) (c q : ℕ)
      → own (call ∷ h) c q ≡ own h c q ++ own_of loads S (given_in loads m (now h) call c q)
  unfolding given
  own-more call h c q =
      filter-append (λ x. eqb (loads.stream_of x) S) (given loads m s begun h c q) (given_in loads m (now h) call c q)

  skip : (call : Call L) (h k : List (Call L)) → concerns loads S call ≡ false → Together h k → Together (call ∷ h) k
  unfolding after answers
  skip call h k other t = record {
    state = same-on (same_back (next-other loads m S (now h) call other)) t.state;
    answered = ap (λ (xs : List (Result ℕ PortFault)). xs ++ answers loads m s begun S h)
        (cond-false (concerns loads S call) _ [] other) ∙ t.answered;
    loaded = λ c q. own-more call h c q ∙ ap (λ (xs : List L). own h c q ++ xs) (given-other loads m S (now h) call c q other)
        ∙ append-nil (own h c q) ∙ t.loaded c q;
  }

  both : (call : Call L) (h k : List (Call L)) → concerns loads S call ≡ true → (is_booking call ≡ true → is_yes h call ≡ is_yes k call)
      → Together h k → Together (call ∷ h) (call ∷ k)
  unfolding after answers
  both call h k mine verdict t = record {
    state = next-own loads m S (now h) (now k) t.state call mine verdict;
    answered = λ i. cond (concerns loads S call) (answer-own loads m S (now h) (now k) t.state call mine i) [] ++ t.answered i;
    loaded = λ c q. own-more call h c q
        ∙ (λ i. t.loaded c q i ++ own_of loads S (given-own loads m S (now h) (now k) t.state call c q mine i))
        ∙ sym (own-more call k c q);
  }

  -- What a call adds to the book's yes and no to S.
  said-other : (call : Call L) (h : List (Call L)) → concerns loads S call ≡ false → said (call ∷ h) ≡ said h
  unfolding verdicts
  said-other call h other = cond-false (books loads S call) _ _ (and_left (concerns loads S call) (is_booking call) other)

  said-own : (call : Call L) (h k : List (Call L)) → concerns loads S call ≡ true → said (call ∷ h) ≡ said (call ∷ k)
      → (said h ≡ said k) × (is_booking call ≡ true → is_yes h call ≡ is_yes k call)
  unfolding verdicts
  said-own call h k mine e =
      let p = one_more (books loads S call) _ _ _ _ e in
      (p.0, λ is. p.1 (and_from (concerns loads S call) (is_booking call) mine is))

  together : (h k : List (Call L)) → Twins loads m s begun S h k → Together h k
  together h k twins = sieved (concerns loads S) (λ h k. said h ≡ said k → Together h k)
      (λ e. none)
      (λ h k t e. flip h k (t (sym e)))
      (λ call h k other t e. skip call h k other (t (sym (said-other call h other) ∙ e)))
      (λ call h k mine t e. let p = said-own call h k mine e in both call h k mine p.1 (t p.0))
      h k twins.calls twins.accepted

pub apart : {L Record : Type 0} (loads : Loads L) (m : Rules Record) (s : SetNumbers) → Apart loads m s
apart loads m s begun S h k twins =
    let t = together loads m s begun S h k twins in
    record {
      clocks = t.state.clock;
      rows = t.state.row;
      records = t.state.noted;
      stamps = t.state.stamp;
      answered = t.answered;
      given = t.loaded;
    }
