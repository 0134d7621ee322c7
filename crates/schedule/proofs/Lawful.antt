-- The laws of a module: what holds of it after every history, and what follows.
use Rattle.std.proofs.Common.{◌≡◌, ℕ, zero, suc, ◌*◌, ◌/◌, ◌<◌, ◌≤◌, List, [], ◌∷◌, ◌++◌, length, get_or, replicate, sym, refl, ap, ◌∙◌, subst, le-div_iff_mul-le, arith}
use native.Mathlib.Decide.{dec_lt}
use Rattle.std.specs.List.{AllByRecursion as All}
use Rattle.std.proofs.lemmas.List.{append-nil, length-replicate}
use Rattle.std.proofs.lemmas.Bool.{cond_both}
use Rattle.book.specs.declared.rows.Row.TheVariants.{Free}
use Rattle.book.specs.Ticks.{last_tick}
use Rattle.book.specs.Told.{SetNumbers, Legal, class_count, cycle_of}
use Rattle.book.specs.Rows.{booked}
use Rattle.book.specs.Books.{row_of}
use Rattle.book.proofs.Within.{over-new}
use Rattle.placers.specs.Placers.{Rules, Duties}
use Rattle.schedule.specs.declared.departures.Departure.{Departure}
use Rattle.schedule.specs.Bins.{current_of, in_reach, waiting_in, loads_below, most_loads}
use Rattle.schedule.specs.Wires.{Loads}
use Rattle.schedule.specs.Modules.{State, new_module, clock_of}
use Rattle.schedule.specs.Histories.{Call, Hold, Confirm, DropHold, Release, Frame, Filler, Run, answer_to, next_of, given_in, written_by, loads_in, octets_of, octets_for, after, written, given}
use Rattle.schedule.specs.Laws.{allowed, room_of, Whole, Laws, LawsOf}
use Rattle.schedule.proofs.Cycles.{times_in, nested}
use Rattle.schedule.proofs.Enough.{per_cycle}
use Rattle.schedule.proofs.Octets.{octets-append, octets-count}
use Rattle.schedule.proofs.Demands.{admitted}
use Rattle.schedule.proofs.Allowances.{Fair, in-book}
use Rattle.schedule.proofs.Records.{RecordedRow}
use Rattle.schedule.proofs.Good.{Good, waits}
use Rattle.schedule.proofs.Booking.{good-hold, good-confirm, good-drop, good-release}
use Rattle.schedule.proofs.Serving.{good_none, good-frame, good-fill, good-run}
use Rattle.schedule.proofs.Clocks.{clock-kept, settings-kept}
use Rattle.schedule.proofs.Capacity.{one-bin, all-bins}

free-row : (n i : ℕ) → get_or (replicate n Free) i Free ≡ Free
free-row zero i = refl
free-row (suc n) zero = refl
free-row (suc n) (suc i) = free-row n i

per-has : (A m : ℕ → ℕ) (c : ℕ) → A c ≤ per_cycle A m c
unfolding per_cycle
per-has A m zero = omega arith
per-has A m (suc c) = omega arith

module _ {L Record : Type 0} (loads : Loads L) (m : Rules Record) (duties : Duties m) (s : SetNumbers) (legal : Legal s) (begun : ℕ → Record) where
  none-waits : (c q : ℕ) → waiting_in {L = L} s 0 (λ b. []) c q ≡ []
  unfolding waiting_in
  none-waits c q = cond_both (in_reach s 0 c q) [] [] (λ x. x ≡ []) (λ e. refl) (λ e. refl)

  good_new : Good loads m (new_module s begun) (λ c q. []) []
  unfolding octets_of octets_for loads_in
  good_new = record {
    legal = legal;
    sound = record {
      kept = λ c q. sym (none-waits c q);
      future = λ c q l h. refl;
      emptied = λ c q l h. none-waits c q;
      far = λ c q l h. refl;
      sized = λ c q. subst (All _) (sym (none-waits c q)) tt;
      busy = λ c l h. absurd (omega (arith, ap (octets_of loads) (none-waits c (0 / cycle_of s c))));
      short = omega arith;
    };
    whole = tt;
    book = record {
      full = length-replicate 128 Free;
      streams = λ c q. tt;
      shares = λ i c q l h. omega arith;
      fair = λ i. subst (Fair s) (sym (free-row 128 i)) tt;
      within = over-new s legal;
    };
    recorded = λ i. subst (RecordedRow loads m s 0 (λ c q. []) i (begun i) 0) (sym (free-row 128 i)) tt;
    spare = λ b h. refl;
  }

  -- A call that writes nothing, and one that gives nothing.
  unwritten : (a : State L Record) (G : ℕ → ℕ → List L) (D : List (Departure L)) → Good loads m a G D → Good loads m a G (D ++ [])
  unwritten a G D good = subst (Good loads m a G) (sym (append-nil D)) good

  quiet : (a : State L Record) (G : ℕ → ℕ → List L) (D : List (Departure L)) → Good loads m a G D → Good loads m a (λ c q. G c q ++ []) (D ++ [])
  quiet a G D good = unwritten a (λ c q. G c q ++ []) D (good_none loads m duties a G D good)

  good-next : (a : State L Record) (G : ℕ → ℕ → List L) (D : List (Departure L)) → Good loads m a G D → clock_of loads m a ≤ last_tick → (call : Call L)
      → Good loads m (next_of loads m a call) (λ c q. G c q ++ given_in loads m a call c q) (D ++ written_by (answer_to loads m a call))
  good-next a G D good timely (Hold x k) = quiet _ G D (good-hold loads m duties a G D good x k)
  good-next a G D good timely (Confirm n) = quiet _ G D (good-confirm loads m duties a G D good n)
  good-next a G D good timely (DropHold n) = quiet _ G D (good-drop loads m duties a G D good n)
  good-next a G D good timely (Release x) = quiet _ G D (good-release loads m duties a G D good x)
  good-next a G D good timely (Frame input stamp x) = unwritten _ _ D (good-frame loads m duties a G D good timely input stamp x)
  good-next a G D good timely (Filler n) = quiet _ G D (good-fill loads m duties a G D good n)
  good-next a G D good timely (Run until places) =
      let D' : List (Departure L) = D ++ written_by (answer_to loads m a (Run until places)) in
      good_none loads m duties (next_of loads m a (Run until places)) G D' (good-run loads m duties a G D good until places)

  good-after : (h : List (Call L)) → Good loads m (after loads m s begun h) (given loads m s begun h) (written loads m s begun h)
  unfolding after given written
  good-after [] = good_new
  good-after (call ∷ h) = good-next (after loads m s begun h) (given loads m s begun h) (written loads m s begun h) (good-after h) (clock-kept loads m s begun h) call

  -- The laws of a module that is good, by its own settings.
  module _ (a : State L Record) (G : ℕ → ℕ → List L) (D : List (Departure L)) (good : Good loads m a G D) where
    good-emptied : (c q : ℕ) → c < class_count a.book.settings → suc q * cycle_of a.book.settings c ≤ clock_of loads m a → loads_in c q D ≡ G c q
    good-emptied c q l h =
        let e = good.sound.emptied c q l ((le-div_iff_mul-le ((nested a.book.settings good.legal).ticks c l)).1 h) in
        sym (good.sound.kept c q ∙ ap (λ z. loads_in c q D ++ z) e ∙ append-nil (loads_in c q D))

    good-room : (c q : ℕ) → c < class_count a.book.settings → length (waits loads m a c q) ≤ most_loads a.book.settings c
    good-room c q l = (le-div_iff_mul-le {k = 84} (omega arith)).1 (fits (dec_lt q (clock_of loads m a / cycle_of a.book.settings c)))
      where
        fits : Dec (q < clock_of loads m a / cycle_of a.book.settings c) → length (waits loads m a c q) * 84 ≤ cycle_of a.book.settings c
        fits (yes d) = omega (arith, ap length (good.sound.emptied c q l d))
        fits (no d) =
            let A : ℕ → ℕ = λ f. booked f a.book.rows in
            omega (
              arith,
              in-book loads a.book.settings (clock_of loads m a) a.book.rows G good.book c q l (omega arith),
              octets-count loads (waits loads m a c q) (good.sound.sized c q),
              ap (octets_of loads) (good.sound.kept c q),
              octets-append loads (loads_in c q D) (waits loads m a c q),
              admitted a.book.settings good.legal a.book.rows good.book.within c l,
              per-has A (times_in a.book.settings) c,
            )

  -- The settings that a module has are those that it was set with.
  laws-after : (h : List (Call L)) → Laws loads m s begun h
  laws-after h = record {
    kept = subst (λ z. (c q : ℕ) → G c q ≡ loads_in c q D ++ waiting_in z t a.bins c q) same good.sound.kept;
    within_quota = subst (λ z. (i c q : ℕ) → c < class_count z → current_of z t c ≤ q → octets_for loads i (G c q) ≤ allowed c q (row_of a.book i)) same good.book.shares;
    whole = subst (λ z. All (Whole loads z) D) same good.whole;
    emptied = subst (λ z. (c q : ℕ) → c < class_count z → suc q * cycle_of z c ≤ t → loads_in c q D ≡ G c q) same (good-emptied a G D good);
    room = subst (λ z. (c q : ℕ) → c < class_count z → length (waiting_in z t a.bins c q) ≤ most_loads z c) same room;
    depth = subst (λ z. (b : ℕ) → length (a.bins b) ≤ (room_of z).depth) same (one-bin a.book.settings good.legal t a.bins room good.spare);
    total = subst (λ z. (n : ℕ) → loads_below a.bins n ≤ (room_of z).total) same (all-bins a.book.settings good.legal t a.bins room good.spare);
  }
    where
      a : State L Record
      a = after loads m s begun h

      t : ℕ
      t = clock_of loads m a

      G : ℕ → ℕ → List L
      G = given loads m s begun h

      D : List (Departure L)
      D = written loads m s begun h

      same : a.book.settings ≡ s
      same = settings-kept loads m s begun h

      good : Good loads m a G D
      good = good-after h

      room : (c q : ℕ) → c < class_count a.book.settings → length (waits loads m a c q) ≤ most_loads a.book.settings c
      room = good-room a G D good

pub laws : {L Record : Type 0} (loads : Loads L) (m : Rules Record) → Duties m → (s : SetNumbers) → Legal s → LawsOf loads m s
laws loads m duties s legal begun h = laws-after loads m duties s legal begun h
