-- All that holds of a module after a history, and that every tick keeps it.
use Rattle.std.proofs.Common.{◌≡◌, ℕ, zero, suc, ◌<◌, ◌≤◌, Bool, true, false, cond, eqb, ltb, ◌⊎◌, List, [], ◌∷◌, ◌++◌, sym, refl, ap, ◌∙◌, subst, inl, inr, div-mul-le_self, arith}
use mathlib.Core.Path.{fun_ext}
use Rattle.std.specs.List.{AllByRecursion as All}
use Rattle.std.proofs.lemmas.List.{append-nil, append_assoc}
use Rattle.std.proofs.ByRecursion.{All-push}
use Rattle.std.proofs.lemmas.Bool.{ltb-true, ltb-false, eq-eqb, eqb-true, and_from, and_left, and_right}
use Rattle.book.specs.Told.{SetNumbers, Legal, class_count, cycle_of}
use Rattle.book.specs.Rows.{booked}
use Rattle.book.specs.Books.{row_of}
use Rattle.placers.specs.Placers.{Rules, replaced}
use Rattle.schedule.specs.declared.departures.Departure.{Departure}
use Rattle.schedule.specs.Bins.{bins_before, bin_of, current_of, waiting_in}
use Rattle.schedule.specs.Wires.{Loads, Sending, Next, none, some, current_bin, next_out, departure, sending, moved, tick, ticks}
use Rattle.schedule.specs.Modules.{State, clock_of}
use Rattle.schedule.specs.Histories.{is_in, loads_in, octets_of}
use Rattle.schedule.specs.Laws.{Whole}
use Rattle.schedule.proofs.Cycles.{times_in}
use Rattle.schedule.proofs.Busy.{Admitted}
use Rattle.schedule.proofs.Demands.{admitted}
use Rattle.schedule.proofs.Rings.{Else, In, bin_small, waiting-in, ring-set, ring-step, replaced-other}
use Rattle.schedule.proofs.Sound.{Sound, advanced, fit, ends, sent}
use Rattle.schedule.proofs.Allowances.{Booked, in-book, book-later}
use Rattle.schedule.proofs.Records.{RecordedRow, record-later}
use Rattle.schedule.proofs.Looks.{Looked, looked}

-- The loads of departures, one more at the end.
loads-push : {L : Type 0} (c q : ℕ) (ds : List (Departure L)) (d : Departure L)
    → loads_in c q (ds ++ (d ∷ [])) ≡ loads_in c q ds ++ cond (is_in c q d) (d.load ∷ []) []
unfolding loads_in
loads-push c q [] d = refl
loads-push {L} c q (e ∷ ds) d = go (is_in c q e) (cond (is_in c q d) (d.load ∷ []) []) (loads-push c q ds d)
  where
    go : (b : Bool) (own : List L) → loads_in c q (ds ++ (d ∷ [])) ≡ loads_in c q ds ++ own
        → cond b (e.load ∷ loads_in c q (ds ++ (d ∷ []))) (loads_in c q (ds ++ (d ∷ []))) ≡ cond b (e.load ∷ loads_in c q ds) (loads_in c q ds) ++ own
    go true own h = ap (λ z. e.load ∷ z) h
    go false own h = h

loads-here : {L : Type 0} (ds : List (Departure L)) (d : Departure L) → loads_in d.class d.cycle (ds ++ (d ∷ [])) ≡ loads_in d.class d.cycle ds ++ (d.load ∷ [])
loads-here ds d = loads-push d.class d.cycle ds d
    ∙ ap (λ b. loads_in d.class d.cycle ds ++ cond b (d.load ∷ []) []) (and_from (eqb d.class d.class) (eqb d.cycle d.cycle) (eq-eqb d.class d.class refl) (eq-eqb d.cycle d.cycle refl))

loads-there : {L : Type 0} (ds : List (Departure L)) (d : Departure L) → Else d.class d.cycle (λ c q. loads_in c q ds) (λ c q. loads_in c q (ds ++ (d ∷ [])))
loads-there ds d c q h = sym (loads-push c q ds d ∙ ap (λ b. loads_in c q ds ++ cond b (d.load ∷ []) []) (not_in (eqb d.class c) (eqb d.cycle q) refl refl) ∙ append-nil (loads_in c q ds))
  where
    not_in : (x y : Bool) → eqb d.class c ≡ x → eqb d.cycle q ≡ y → is_in c q d ≡ false
    not_in false y e f = and_left (eqb d.class c) (eqb d.cycle q) e
    not_in true false e f = and_right (eqb d.class c) (eqb d.cycle q) f
    not_in true true e f = absurd (h (sym (eqb-true d.class c e), sym (eqb-true d.cycle q f)))

module _ {L Record : Type 0} (loads : Loads L) (m : Rules Record) where
  abbrev pub waits : State L Record → (c q : ℕ) → List L
  waits a = waiting_in a.book.settings (clock_of loads m a) a.bins

  -- G was given to each cycle of each class, and D has left.
  pub record Good (a : State L Record) (G : ℕ → ℕ → List L) (D : List (Departure L)) : Type 0 where
    pub legal : Legal a.book.settings
    pub sound : Sound loads a.book.settings (clock_of loads m a) a.wire G (λ c q. loads_in c q D) (waits a)
    pub whole : All (Whole loads a.book.settings) D
    pub book : Booked loads a.book.settings (clock_of loads m a) a.book.rows G
    pub recorded : (i : ℕ) → RecordedRow loads m a.book.settings (clock_of loads m a) G i (a.records i) (a.stamps i) (row_of a.book i)
    pub spare : (b : ℕ) → bins_before a.book.settings (class_count a.book.settings) ≤ b → a.bins b ≡ []

  module _ (a : State L Record) (G : ℕ → ℕ → List L) (D : List (Departure L)) (good : Good a G D) where
    pub booked-now : (f : ℕ) → f < class_count a.book.settings → octets_of loads (G f (current_of a.book.settings (clock_of loads m a) f)) ≤ booked f a.book.rows
    booked-now f l = in-book loads a.book.settings (clock_of loads m a) a.book.rows G good.book f (current_of a.book.settings (clock_of loads m a) f) l (omega arith)

    current-in : (c : ℕ) → c < class_count a.book.settings → In a.book.settings (clock_of loads m a) c (current_of a.book.settings (clock_of loads m a) c)
    current-in c l = record { class = l; low = omega arith; high = omega (arith, good.legal.two_bins c l) }

    pub current-waits : (c : ℕ) → c < class_count a.book.settings
        → waits a c (current_of a.book.settings (clock_of loads m a) c) ≡ current_bin loads a.book.settings (clock_of loads m a) a.bins c
    current-waits c l = waiting-in a.book.settings (clock_of loads m a) a.bins c (current_of a.book.settings (clock_of loads m a) c) (current-in c l)

    -- A bin past the last class stays empty when one in reach is written.
    pub spare-set : (c q : ℕ) (v : List L) → In a.book.settings (clock_of loads m a) c q → (b : ℕ) → bins_before a.book.settings (class_count a.book.settings) ≤ b
        → replaced a.bins (bin_of a.book.settings c q) v b ≡ []
    spare-set c q v i b h = replaced-other a.bins (bin_of a.book.settings c q) b v (λ e. omega (arith, bin_small a.book.settings (clock_of loads m a) c q i)) ∙ good.spare b h

  -- The module in the middle of a run.
  abbrev pub amid : State L Record → Sending L → State L Record
  amid a g = record {
    book = record { settings = a.book.settings; clock = g.clock; rows = a.book.rows };
    records = a.records;
    stamps = a.stamps;
    wire = g.wire;
    bins = g.bins;
  }

  module _ (a : State L Record) (G : ℕ → ℕ → List L) (D : List (Departure L)) where
    s : SetNumbers
    s = a.book.settings

    GoodAmid : Sending L → Type 0
    GoodAmid g = Good (amid a g) G (D ++ g.sent)

    -- Before the clock moves on, the wire is taken or nothing waits.
    Works : Sending L → Type 0
    Works g = ((f : ℕ) → f < class_count a.book.settings → waits (amid a g) f (current_of a.book.settings g.clock f) ≡ []) ⊎ (g.clock < g.wire)

    good-moved : (g : Sending L) → GoodAmid g → Works g → GoodAmid (moved loads s g)
    unfolding GoodAmid Works s
    good-moved g good works = record {
      legal = good.legal;
      sound = subst (Sound loads s (suc g.clock) g.wire G (λ c q. loads_in c q (D ++ g.sent))) (sym shifted) on;
      whole = good.whole;
      book = book-later loads s g.clock a.book.rows G good.book good.legal;
      recorded = λ i. record-later loads m s g.clock G good.legal i (a.records i) (a.stamps i) (row_of a.book i) (good.book.fair i) (good.recorded i);
      spare = good.spare;
    }
      where
        on : Sound loads s (suc g.clock) g.wire G (λ c q. loads_in c q (D ++ g.sent)) (waits (amid a g))
        on = advanced loads s good.legal g.clock g.wire G (λ c q. loads_in c q (D ++ g.sent)) (waits (amid a g)) good.sound (λ f. booked f a.book.rows)
            (admitted s good.legal a.book.rows good.book.within) (booked-now (amid a g) G (D ++ g.sent) good) works

        shifted : waiting_in s (suc g.clock) g.bins ≡ waits (amid a g)
        shifted = fun_ext (λ c. fun_ext (λ q. ring-step s g.clock g.bins good.legal (λ c l v. on.emptied c (current_of s g.clock c) l (omega (arith, v.0))) c q))

    good-sending : (g : Sending L) → GoodAmid g → g.wire ≤ g.clock → (n : Next L) → Looked (class_count s) (current_bin loads s g.clock g.bins) n
        → GoodAmid (sending loads s g n) × Works (sending loads s g n)
    unfolding sending GoodAmid Works s
    good-sending g good free none k = (good, inl (λ f l. current-waits (amid a g) G (D ++ g.sent) good f l ∙ k f l))
    good-sending g good free (some c x rest) k = (
      record {
        legal = good.legal;
        sound = sent loads s good.legal g.clock g.wire G (λ c q. loads_in c q (D ++ g.sent)) (waits (amid a g)) good.sound A adm bnow c x rest l first
            (λ c q. loads_in c q (D ++ (g.sent ++ (d ∷ [])))) (waiting_in s g.clock (replaced g.bins (bin_of s c now) rest))
            (λ f i. current-waits (amid a g) G (D ++ g.sent) good f (omega arith) ∙ k.2 f i)
            (ap (loads_in c now) whole-list ∙ loads-here (D ++ g.sent) d)
            (λ e r h. loads-there (D ++ g.sent) d e r h ∙ ap (loads_in e r) (sym whole-list))
            ring.0 ring.1;
        whole = subst (All (Whole loads s)) (sym whole-list) (All-push (Whole loads s) (D ++ g.sent) d good.whole
            (record { class = l; from = div-mul-le_self g.clock (cycle_of s c); to = ends loads s good.legal g.clock g.wire G (λ c q. loads_in c q (D ++ g.sent)) (waits (amid a g)) good.sound A adm bnow c x rest l first }));
        book = good.book;
        recorded = good.recorded;
        spare = spare-set (amid a g) G (D ++ g.sent) good c now rest inn;
      },
      inr (omega (arith, fit loads s good.legal g.clock g.wire G (λ c q. loads_in c q (D ++ g.sent)) (waits (amid a g)) good.sound A adm bnow c x rest l first)),
    )
      where
        l : c < class_count s
        l = k.0

        now : ℕ
        now = current_of s g.clock c

        d : Departure L
        d = departure loads s g.clock c x

        inn : In s g.clock c now
        inn = current-in (amid a g) G (D ++ g.sent) good c l

        first : waits (amid a g) c now ≡ x ∷ rest
        first = current-waits (amid a g) G (D ++ g.sent) good c l ∙ k.1

        ring : (waiting_in s g.clock (replaced g.bins (bin_of s c now) rest) c now ≡ rest) × Else c now (waits (amid a g)) (waiting_in s g.clock (replaced g.bins (bin_of s c now) rest))
        ring = ring-set s g.clock g.bins c now rest inn

        whole-list : D ++ (g.sent ++ (d ∷ [])) ≡ (D ++ g.sent) ++ (d ∷ [])
        whole-list = sym (append_assoc D g.sent (d ∷ []))

        A : ℕ → ℕ
        A f = booked f a.book.rows

        adm : Admitted (cycle_of s) (times_in s) (class_count s) s.dead_time A
        adm = admitted s good.legal a.book.rows good.book.within

        bnow : (f : ℕ) → f < class_count s → octets_of loads (G f (current_of s g.clock f)) ≤ A f
        bnow = booked-now (amid a g) G (D ++ g.sent) good

    good-tick : (g : Sending L) → GoodAmid g → GoodAmid (tick loads s g)
    unfolding tick Works
    good-tick g good = go (ltb g.clock g.wire) refl
      where
        n : Next L
        n = next_out loads s g.clock g.bins

        go : (b : Bool) → ltb g.clock g.wire ≡ b → GoodAmid (moved loads s (cond b g (sending loads s g n)))
        go true e = good-moved g good (inr (ltb-true g.clock g.wire e))
        go false e =
            let k = good-sending g good (ltb-false g.clock g.wire e) n (looked (class_count s) (current_bin loads s g.clock g.bins)) in
            good-moved (sending loads s g n) k.0 k.1

    pub good-ticks : (j : ℕ) (g : Sending L) → Good (amid a g) G (D ++ g.sent) → Good (amid a (ticks loads a.book.settings j g)) G (D ++ (ticks loads a.book.settings j g).sent)
    unfolding ticks GoodAmid s
    good-ticks zero g good = good
    good-ticks (suc j) g good = good-tick (ticks loads a.book.settings j g) (good-ticks j g good)
