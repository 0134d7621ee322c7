-- A module ahead of a bank: a call on number 0 is the module's, and one on a later number the bank's, with one less.
use Rattle.std.proofs.Common.{◌≡◌, ℕ, zero, suc, ◌-◌, sym, refl, ap, ◌∙◌, subst, arith}
use Rattle.book.specs.Books.{BookState}
use Rattle.schedule.specs.Modules.{State}
use Rattle.schedule.specs.Histories.{Call}
use Rattle.line.specs.Banks.{Meaning, States, History, Standing, ahead, state_ahead, stand_ahead, Takes, Changed}

-- What holds of number 0 holds of a number that is 0, and what holds of the number after one less holds of a number that is not.
at_first : (P : ℕ → Type 0) (n : ℕ) → n ≡ 0 → P 0 → P n
at_first P n e h = subst P (sym e) h

at-later : (P : ℕ → Type 0) (n : ℕ) → (n ≡ 0 → ⊥) → P (suc (n - 1)) → P n
at-later P n e h = let k : suc (n - 1) ≡ n = omega arith in subst P k h

module _ (m : Meaning) (f : ℕ → Meaning) where
  module _ (call : (L : Type 0) → Call L) where
    changed-zero : (a b : State m.Load m.Record) (rest : States f) (A B : History m → Type 0) (S : Standing f)
        → Takes m (call m.Load) A B a b → Changed (ahead m f) 0 (call m.Load) (stand_ahead m f A S) (stand_ahead m f B S) (state_ahead m f a rest) (state_ahead m f b rest)
    changed-zero a b rest A B S c = record { here = c; others = λ j d. others j d; stay = λ j d. stay j d }
      where
        others : (j : ℕ) → (j ≡ 0 → ⊥) → state_ahead m f b rest j ≡ state_ahead m f a rest j
        others zero d = absurd (d refl)
        others (suc j) d = refl

        stay : (j : ℕ) → (j ≡ 0 → ⊥) → (h : History (ahead m f j)) → stand_ahead m f A S j h → stand_ahead m f B S j h
        stay zero d h w = absurd (d refl)
        stay (suc j) d h w = w

    changed-suc : (k : ℕ) (a : State m.Load m.Record) (old new : States f) (A : History m → Type 0) (S S' : Standing f) → Changed f k (call (f k).Load) S S' old new
        → Changed (ahead m f) (suc k) (call (f k).Load) (stand_ahead m f A S) (stand_ahead m f A S') (state_ahead m f a old) (state_ahead m f a new)
    changed-suc k a old new A S S' c = record { here = c.here; others = λ j d. others j d; stay = λ j d. stay j d }
      where
        others : (j : ℕ) → (j ≡ suc k → ⊥) → state_ahead m f a new j ≡ state_ahead m f a old j
        others zero d = refl
        others (suc j) d = c.others j (λ e. d (ap suc e))

        stay : (j : ℕ) → (j ≡ suc k → ⊥) → (h : History (ahead m f j)) → stand_ahead m f A S j h → stand_ahead m f A S' j h
        stay zero d h w = w
        stay (suc j) d h w = c.stay j (λ e. d (ap suc e)) h w

  -- A call on the first module: the other modules are as they were.
  module _ (n : ℕ) (e : n ≡ 0) (a : State m.Load m.Record) (rest : States f) where
    pub book-first : (state_ahead m f a rest n).book ≡ a.book
    book-first = at_first (λ k. (state_ahead m f a rest k).book ≡ a.book) n e refl

    pub answer-first : {X : Type 0} (rule : BookState → X) (r : X) → r ≡ rule a.book → r ≡ rule (state_ahead m f a rest n).book
    answer-first rule r h = h ∙ sym (ap rule book-first)

    pub changed-first : (call : (L : Type 0) → Call L) (b : State m.Load m.Record) (A B : History m → Type 0) (S : Standing f)
        → Takes m (call m.Load) A B a b → Changed (ahead m f) n (call (ahead m f n).Load) (stand_ahead m f A S) (stand_ahead m f B S) (state_ahead m f a rest) (state_ahead m f b rest)
    changed-first call b A B S c = at_first (λ k. Changed (ahead m f) k (call (ahead m f k).Load) (stand_ahead m f A S) (stand_ahead m f B S) (state_ahead m f a rest) (state_ahead m f b rest)) n e (changed-zero call a b rest A B S c)

  -- A call on a later one: it is the bank's, with one less, and the first module is as it was.
  module _ (n : ℕ) (e : n ≡ 0 → ⊥) (a : State m.Load m.Record) (old : States f) where
    pub book-later : (state_ahead m f a old n).book ≡ (old (n - 1)).book
    book-later = at-later (λ k. (state_ahead m f a old k).book ≡ (old (k - 1)).book) n e (let z : suc (n - 1) - 1 ≡ n - 1 = omega arith in ap (λ k. (old k).book) (sym z))

    pub answer-later : {X : Type 0} (rule : BookState → X) (r : X) → r ≡ rule (old (n - 1)).book → r ≡ rule (state_ahead m f a old n).book
    answer-later rule r h = h ∙ sym (ap rule book-later)

    pub changed-later : (call : (L : Type 0) → Call L) (new : States f) (A : History m → Type 0) (S S' : Standing f) → Changed f (n - 1) (call (f (n - 1)).Load) S S' old new
        → Changed (ahead m f) n (call (ahead m f n).Load) (stand_ahead m f A S) (stand_ahead m f A S') (state_ahead m f a old) (state_ahead m f a new)
    changed-later call new A S S' c = at-later (λ k. Changed (ahead m f) k (call (ahead m f k).Load) (stand_ahead m f A S) (stand_ahead m f A S') (state_ahead m f a old) (state_ahead m f a new)) n e (changed-suc call (n - 1) a old new A S S' c)
