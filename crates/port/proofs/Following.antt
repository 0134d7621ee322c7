-- From what a call does to the parts of a port to what it does to the history after which the port stands.
use Rattle.std.proofs.Common.{◌≡◌, ℕ, List, ◌∷◌, length, Result, refl, ap, ◌∙◌, arith}
use Rattle.book.specs.Told.{SetNumbers}
use Rattle.book.specs.declared.faults.BookFault.{BookFault}
use Rattle.book.specs.declared.rows.Booking.{Booking}
use Rattle.book.specs.declared.ledger.Note.{Note}
use Rattle.book.specs.Books.{BookState, hold_of, drop_of, release_of}
use Rattle.placers.specs.Placers.{Rules}
use Rattle.schedule.specs.Wires.{Loads}
use Rattle.schedule.specs.Modules.{State, with_book, holding, dropping, releasing}
use Rattle.schedule.specs.Histories.{Call, Hold, DropHold, Release, Answer, held, spent, released, next_of, answer_to, after}
use Rattle.schedule.proofs.Clocks.{settings-kept}
use Rattle.port.specs.Standing.{Parts, state_in, Stands, Follows}

-- Parts, in their order.
abbrev pub parts : {L Record : Type 0} → BookState → (records : ℕ → Record) → (stamps : ℕ → ℕ) → (wire : ℕ)
    → (bins : List (List L)) → (depth total : ℕ) → Parts L Record
parts b rs ss w bs d t = record { book = b; records = rs; stamps = ss; wire = w; bins = bs; depth = d; total = t }

-- The rack keeps its room.
pub record Stays {L Record : Type 0} (p q : Parts L Record) : Type 0 where
  pub bins : length q.bins ≡ length p.bins
  pub depth : q.depth ≡ p.depth
  pub total : q.total ≡ p.total

-- One call by the rules of a module's state.
pub record Steps {L Record : Type 0} (loads : Loads L) (m : Rules Record) (call : Call L) (p q : Parts L Record) (r : Answer L) : Type 0 where
  pub next : state_in q ≡ next_of loads m (state_in p) call
  pub answers : r ≡ answer_to loads m (state_in p) call

module _ {L Record : Type 0} (loads : Loads L) (m : Rules Record) (call : Call L) (p q : Parts L Record) (r : Answer L) (stay : Stays p q) where
  -- The step may take for granted that the port stands after some history.
  pub follows-standing : ((s : SetNumbers) (begun : ℕ → Record) (h : List (Call L)) → Stands loads m s begun h p → Steps loads m call p q r)
      → Follows loads m call p q r
  unfolding after
  follows-standing step s begun h so =
      let w = step s begun h so in
      let state = w.next ∙ ap (λ (a : State L Record). next_of loads m a call) so.state in record {
        stands = record {
          told = ap (λ (a : State L Record). a.book.settings) state ∙ settings-kept loads m s begun (call ∷ h);
          state = state;
          bins = omega (arith, so.bins, stay.bins);
          depth = omega (arith, so.depth, stay.depth);
          total = omega (arith, so.total, stay.total);
        };
        answered = w.answers ∙ ap (λ (a : State L Record). answer_to loads m a call) so.state;
      }

  pub follows : Steps loads m call p q r → Follows loads m call p q r
  follows w = follows-standing (λ s begun h so. w)

-- A call that is the book's alone.
module _ {L Record : Type 0} (loads : Loads L) (m : Rules Record) (p : Parts L Record) (b : BookState) where
  abbrev pub booked : Parts L Record
  booked = parts b p.records p.stamps p.wire p.bins p.depth p.total

  book-follows : (call : Call L) (r : Answer L) → Steps loads m call p booked r → Follows loads m call p booked r
  book-follows call r w = follows loads m call p booked r (record { bins = refl; depth = refl; total = refl }) w

  pub hold-follows : (x : ℕ) (k : Booking) (r : Result Note BookFault) → r ≡ (hold_of p.book x k).0 → b ≡ (hold_of p.book x k).1
      → Follows loads m (Hold x k) p booked (held r)
  unfolding holding
  hold-follows x k r a n = book-follows (Hold x k) (held r) (record {
    next = ap (λ (c : BookState). with_book loads m (state_in p) c) n;
    answers = ap (λ (w : Result Note BookFault). held w) a;
  })

  pub drop-follows : (n : Note) (r : Result (Unit {0}) (BookFault × Note)) → r ≡ (drop_of p.book n).0 → b ≡ (drop_of p.book n).1
      → Follows loads m (DropHold n) p booked (spent r)
  unfolding dropping
  drop-follows n r a e = book-follows (DropHold n) (spent r) (record {
    next = ap (λ (c : BookState). with_book loads m (state_in p) c) e;
    answers = ap (λ (w : Result (Unit {0}) (BookFault × Note)). spent w) a;
  })

  pub release-follows : (x : ℕ) (r : Result ℕ BookFault) → r ≡ (release_of p.book x).0 → b ≡ (release_of p.book x).1
      → Follows loads m (Release x) p booked (released r)
  unfolding releasing
  release-follows x r a n = book-follows (Release x) (released r) (record {
    next = ap (λ (c : BookState). with_book loads m (state_in p) c) n;
    answers = ap (λ (w : Result ℕ BookFault). released w) a;
  })
