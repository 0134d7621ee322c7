-- Bins before a class, loads in a bin, and the lowest class whose current bin holds a load: step by step over the classes.
use Rattle.std.proofs.Common.{◌≡◌, ℕ, zero, suc, ◌+◌, ◌<◌, ◌≤◌, Bool, true, false, ◌||◌, List, [], ◌∷◌, length, Some, None, Option, Ok, Err, Result, sym, refl, ap, ◌∙◌, subst, inl, inr, add-one, arith}
use Rattle.std.specs.Option as option
use Rattle.std.specs.Result.{result_unwrap_or}
use Rattle.std.proofs.lemmas.List.{get_or_past}
use Rattle.std.proofs.lemmas.Bool.{cases_lt, ltb-false, not-true, le-ltb}
use Rattle.racks.specs.declared.faults.RackFault.{RackFault}
use Rattle.racks.specs.Bins.{bin_of, no_bin, count_by, count_of}
use Rattle.book.specs.Told.{SetNumbers, class_count, bins_of}
use Rattle.schedule.specs.Bins as rules
use Rattle.schedule.specs.Bins.{bins_before}
use Rattle.schedule.specs.Wires.{Loads, Next, none, some, is_some, oldest, or_else, lowest, current_bin, next_out}
use Rattle.port.specs.declared.wires.Turn.{Turn}
use Rattle.port.specs.Turns.{First, Waits, is_busy}

pub before-none : (s : SetNumbers) → bins_before s 0 ≡ 0
unfolding bins_before
before-none s = refl

pub before_more : (s : SetNumbers) (c : ℕ) → bins_before s (c + 1) ≡ bins_before s c + bins_of s c
unfolding bins_before
before_more s c = rw add-one refl

-- A bin that is not there holds no load.
module _ {L : Type 0} (bs : List (List L)) (b : ℕ) where
  ok-by : (n : Bool) (k u : ℕ) → Ok u ≡ count_by n k → u ≡ k
  ok-by true k u e = cc
  ok-by false k u e = cc

  err-by : (n : Bool) (k : ℕ) (f : RackFault) → Err f ≡ count_by n k → n ≡ true
  err-by true k f e = refl
  err-by false k f e = cc

  pub counted : (r : Result ℕ RackFault) → r ≡ count_of bs b → result_unwrap_or r 0 ≡ length (bin_of bs b)
  unfolding count_of
  counted (Ok u) e = ok-by (no_bin bs b) (length (bin_of bs b)) u e
  counted (Err f) e = sym (ap length (get_or_past bs b [] (ltb-false b (length bs) (not-true _ (err-by (no_bin bs b) (length (bin_of bs b)) f e)))))

-- The lowest class so far, and one class more.
module _ {L : Type 0} (of : ℕ → List L) where
  pub lowest_start : lowest 0 of ≡ none
  unfolding lowest
  lowest_start = refl

  none_of : (c : ℕ) (xs : List L) → length xs ≡ 0 → oldest c xs ≡ none
  unfolding oldest
  none_of c [] e = refl
  none_of c (x ∷ xs) e = absurd (omega arith)

  pub lowest-more : (n : ℕ) → lowest n of ≡ none → length (of n) ≡ 0 → lowest (n + 1) of ≡ none
  unfolding lowest
  lowest-more n e l = rw (add-one, e) (none_of n (of n) l)

  -- A class found among the first classes is found among more of them.
  pub lowest-stays : (n k : ℕ) (c : ℕ) (x : L) (rest : List L) → n ≤ k → lowest n of ≡ some c x rest → lowest k of ≡ some c x rest
  unfolding lowest
  lowest-stays n zero c x rest l e = let same : n ≡ 0 = omega arith in subst (λ (j : ℕ). lowest j of ≡ some c x rest) same e
  lowest-stays n (suc k) c x rest l e = elim (cases_lt k n) [
    | inl h ↦ let same : n ≡ suc k = omega arith in subst (λ (j : ℕ). lowest j of ≡ some c x rest) same e
    | inr h ↦ ap (λ (f : Next L). or_else f (oldest k (of k))) (lowest-stays n k c x rest h e)
  ]

  pub lowest-here : (n k : ℕ) (x : L) (rest : List L) → n < k → lowest n of ≡ none → of n ≡ x ∷ rest → lowest k of ≡ some n x rest
  unfolding lowest oldest
  lowest-here n k x rest l e o = lowest-stays (suc n) k n x rest l (rw (e, o) refl)

-- The turn's class sends the first load of its bin.
pub record Front {L : Type 0} (xs : List L) : Type 0 where
  pub load : L
  pub rest : List L
  pub is : xs ≡ load ∷ rest

pub front : {L : Type 0} (xs : List L) → 0 < length xs → Front xs
front [] l = absurd (omega arith)
front (x ∷ xs) l = record { load = x; rest = xs; is = refl }

module _ {L : Type 0} (loads : Loads L) (s : SetNumbers) (tick : ℕ) (bins : ℕ → List L) (t : Turn) (first : First loads s tick bins t) where
  pub turn-bin : t.bin ≡ rules.bin_of s t.class (rules.current_of s tick t.class)
  turn-bin = ap (λ (u : Turn). u.bin) first.is

  pub turn-next : (x : L) (rest : List L) → bins t.bin ≡ x ∷ rest → next_out loads s tick bins ≡ some t.class x rest
  turn-next x rest e =
      lowest-here (current_bin loads s tick bins) t.class (class_count s) x rest first.there first.lower (ap bins (sym turn-bin) ∙ e)

  pub turn-some : is_some (next_out loads s tick bins) ≡ true
  turn-some = let f = front (bins t.bin) first.holds in ap is_some (turn-next f.load f.rest f.is)

-- Whether a port is busy, by the turn that was found where its wire is free.
module _ {L : Type 0} (loads : Loads L) (bins : ℕ → List L) (s : SetNumbers) (tick : ℕ) where
  waits-some : (o : Option Turn) → Waits loads s tick bins o → option.is_some o ≡ is_some (next_out loads s tick bins)
  waits-some None e = sym (ap is_some e)
  waits-some (Some t) first = sym (turn-some loads s tick bins t first)

  pub busy-by : (s' : SetNumbers) (tick' wire : ℕ) (o : Option Turn) → s ≡ s' → tick ≡ tick' → Waits loads s tick bins o → wire ≤ tick
      → option.is_some o ≡ is_busy loads s' tick' bins wire
  busy-by s' tick' wire o e f h l =
      waits-some o h ∙ ap (λ b. b || is_some (next_out loads s tick bins)) (sym (le-ltb tick wire l))
      ∙ ap (λ z. is_busy loads z tick bins wire) e ∙ ap (λ t. is_busy loads s' t bins wire) f
