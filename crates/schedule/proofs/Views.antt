-- When two modules are the same to a stream, and what keeps them so.
use Rattle.std.proofs.Common.{◌≡◌, ℕ, zero, suc, List, [], ◌∷◌, length, get_or, set, Some, None, Option, Result, sym, refl, ap, ◌∙◌, subst, arith}
use Rattle.std.proofs.lemmas.List.{length-set, get_or-set_other}
use Rattle.book.specs.declared.rows.Row.{Row}
use Rattle.book.specs.declared.rows.Row.TheVariants.{Free}
use Rattle.book.specs.Books.{row_of, with_rows}
use Rattle.placers.specs.Placers.{Rules}
use Rattle.schedule.specs.declared.faults.PortFault.{PortFault}
use Rattle.schedule.specs.Wires.{Loads}
use Rattle.schedule.specs.Modules.{State, judged, with_book}

-- The same settings, clock and number of rows, and the same row, record and stamp of stream S.
pub record Same {L Record : Type 0} (S : ℕ) (a b : State L Record) : Type 0 where
  pub settings : a.book.settings ≡ b.book.settings
  pub clock : a.book.clock ≡ b.book.clock
  pub streams : length a.book.rows ≡ length b.book.rows
  pub row : row_of a.book S ≡ row_of b.book S
  pub noted : a.records S ≡ b.records S
  pub stamp : a.stamps S ≡ b.stamps S

pub same_self : {L Record : Type 0} (S : ℕ) (a : State L Record) → Same S a a
same_self S a = record { settings = refl; clock = refl; streams = refl; row = refl; noted = refl; stamp = refl }

module _ {L Record : Type 0} {S : ℕ} {a b : State L Record} where
  pub same_back : Same S a b → Same S b a
  same_back e = record {
    settings = sym e.settings;
    clock = sym e.clock;
    streams = sym e.streams;
    row = sym e.row;
    noted = sym e.noted;
    stamp = sym e.stamp;
  }

  pub same-on : {c : State L Record} → Same S a b → Same S b c → Same S a c
  same-on e d = record {
    settings = e.settings ∙ d.settings;
    clock = e.clock ∙ d.clock;
    streams = e.streams ∙ d.streams;
    row = e.row ∙ d.row;
    noted = e.noted ∙ d.noted;
    stamp = e.stamp ∙ d.stamp;
  }

module _ {L Record X : Type 0} {S : ℕ} {a : State L Record} where
  -- Where the same fault or none was found, a call leaves two modules the same if what is due does.
  pub judged-both : {b : State L Record} (o o' : Option PortFault) (p q : Result X PortFault × State L Record)
      → o ≡ o' → Same S a b → Same S p.1 q.1 → Same S (judged o a p).1 (judged o' b q).1
  judged-both {b} o o' p q e old due = subst (λ (f : Option PortFault). Same S (judged o a p).1 (judged f b q).1) e (go o)
    where
      go : (o : Option PortFault) → Same S (judged o a p).1 (judged o b q).1
      go (Some f) = old
      go None = due

  -- A call leaves a module as it was to S if what is due does.
  pub judged-other : (o : Option PortFault) (p : Result X PortFault × State L Record) → Same S a p.1 → Same S a (judged o a p).1
  judged-other (Some f) p due = same_self S a
  judged-other None p due = due

-- One row set to the same in two lists that are as long.
set_same : (xs ys : List Row) (i : ℕ) (r : Row) → length xs ≡ length ys → get_or (set xs i r) i Free ≡ get_or (set ys i r) i Free
set_same [] [] i r e = refl
set_same [] (y ∷ ys) i r e = let w : ⊥ = omega arith in absurd w
set_same (x ∷ xs) [] i r e = let w : ⊥ = omega arith in absurd w
set_same (x ∷ xs) (y ∷ ys) zero r e = refl
set_same (x ∷ xs) (y ∷ ys) (suc i) r e = set_same xs ys i r (omega arith)

module _ {L Record : Type 0} (loads : Loads L) (m : Rules Record) (S : ℕ) where
  -- A module with one row set.
  abbrev with_row : State L Record → (stream : ℕ) → Row → State L Record
  with_row a x r = with_book loads m a (with_rows a.book (set a.book.rows x r))

  pub row-own : (a b : State L Record) (x : ℕ) (r r' : Row) → x ≡ S → r ≡ r' → Same S a b → Same S (with_row a x r) (with_row b x r')
  row-own a b x r r' own e same = record {
    settings = same.settings;
    clock = same.clock;
    streams = length-set a.book.rows x r ∙ same.streams ∙ sym (length-set b.book.rows x r');
    row = subst (λ z. get_or (set a.book.rows x r) z Free ≡ get_or (set b.book.rows x r') z Free) own
        (set_same a.book.rows b.book.rows x r same.streams ∙ ap (λ (z : Row). get_or (set b.book.rows x z) x Free) e);
    noted = same.noted;
    stamp = same.stamp;
  }

  pub row_other : (a : State L Record) (x : ℕ) (r : Row) → (x ≡ S → ⊥) → Same S a (with_row a x r)
  row_other a x r other = record {
    settings = refl;
    clock = refl;
    streams = sym (length-set a.book.rows x r);
    row = sym (get_or-set_other a.book.rows x S r Free (λ e. other (sym e)));
    noted = refl;
    stamp = refl;
  }
