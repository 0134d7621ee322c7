-- A module stays good over hold, confirm, drop and release.
use Rattle.std.proofs.Common.{◌≡◌, ℕ, ◌+◌, ◌<◌, ◌≤◌, Bool, true, false, cond, not, ◌||◌, eqb, ltb, leb, List, [], ◌∷◌, length, get_or, set, is_some, Some, None, Option, sym, refl, subst, arith}
use Rattle.std.proofs.lemmas.List.{get_or-set_same, get_or-set_other}
use Rattle.std.proofs.lemmas.Bool.{ltb-true, ltb-false, leb-true, and_parts, or_parts, not-true, not-false}
use Rattle.book.specs.declared.faults.BookFault.{BookFault}
use Rattle.book.specs.declared.faults.BookFault.TheVariants.{NotThere, BadLengths, WrongState}
use Rattle.book.specs.declared.rows.Booking.{Booking}
use Rattle.book.specs.declared.rows.Row.{Row}
use Rattle.book.specs.declared.rows.Row.TheVariants.{Free, Held, Live, Leaving}
use Rattle.book.specs.declared.ledger.Note.{Note}
use Rattle.book.specs.Faults.{first_hit, check, or_else}
use Rattle.book.specs.Ticks.{inside}
use Rattle.book.specs.Told.{SetNumbers, class_count, input_count}
use Rattle.book.specs.Rows.{is_free, is_held, fits, confirmed, dropped, leaves_at}
use Rattle.book.specs.Rows as rows
use Rattle.book.specs.Sums.{over_fault}
use Rattle.book.specs.Books.{BookState, row_of, with_rows, changed, lacks, no_stream, no_input, no_class_at, judged, hold_fault, hold_of, note_of, held_by, spent_by, confirm_of, drop_of, released_by, release_of}
use Rattle.book.proofs.Within.{nope, from-none, over-confirmed, over-dropped, over-released}
use Rattle.placers.specs.Placers.{Rules, Duties, renewed}
use Rattle.placers.specs.Terms.{terms_of}
use Rattle.schedule.specs.declared.departures.Departure.{Departure}
use Rattle.schedule.specs.Bins.{current_of}
use Rattle.schedule.specs.Wires.{Loads}
use Rattle.schedule.specs.Histories.{octets_for}
use Rattle.schedule.specs.Laws.{allowed}
use Rattle.schedule.specs.Modules.{State, clock_of, with_book, renewed_at, holding, confirming, dropping, releasing}
use Rattle.schedule.proofs.Allowances.{Booked, FairBooking, Fair, set-each, book-held, book-confirmed, book-dropped, book-released}
use Rattle.schedule.proofs.Records.{RecordedRow, replaced-each}
use Rattle.schedule.proofs.Good.{Good}

-- A hold that found no fault has passed every check.
hold-checks : (absent unfit taken : Bool) (o : Option BookFault)
    → or_else (first_hit (check absent NotThere ∷ check unfit BadLengths ∷ check taken WrongState ∷ [])) o ≡ None
    → (absent ≡ false) × (unfit ≡ false) × (taken ≡ false) × (o ≡ None)
hold-checks true unfit taken o e = nope (cc)
hold-checks false true taken o e = nope (cc)
hold-checks false false true o e = nope (cc)
hold-checks false false false o e = (refl, refl, refl, e)

free-is : (r : Row) → is_free r ≡ true → r ≡ Free
free-is Free e = refl
free-is (Held k) e = nope (cc)
free-is (Live k) e = nope (cc)
free-is (Leaving k u) e = nope (cc)

record HoldPassed (b : BookState) (x : ℕ) (k : Booking) : Type 0 where
  there : x ≤ 127
  fair : FairBooking b.settings k
  free : row_of b x ≡ Free
  within : is_some (over_fault b.settings (set b.rows x (Held k))) ≡ false

hold-passed : (b : BookState) (x : ℕ) (k : Booking) → hold_fault b x k ≡ None → HoldPassed b x k
unfolding hold_fault
hold-passed b x k e =
    let over : Option BookFault = over_fault b.settings (set b.rows x (Held k)) in
    let p = hold-checks (lacks b x k) (not (fits k)) (not (is_free (row_of b x))) over e in
    let q = or_parts (no_stream x) (no_input b k.input || no_class_at b k.class) p.0 in
    let r = or_parts (no_input b k.input) (no_class_at b k.class) q.1 in
    let f = and_parts (inside 64 1522 k.longest) (leb (k.longest + 20) k.quota) (not-false (fits k) p.1) in
    let g = and_parts (leb 64 k.longest) (leb k.longest 1522) f.0 in
    record {
      there = ltb-false 127 x q.0;
      fair = record {
        class = ltb-true k.class (class_count b.settings) (not-false (ltb k.class (class_count b.settings)) r.1);
        input = ltb-true k.input (input_count b.settings) (not-false (ltb k.input (input_count b.settings)) r.0);
        longest = leb-true k.longest 1522 g.1;
        quota = leb-true (k.longest + 20) k.quota f.1;
      };
      free = free-is (row_of b x) (not-false (is_free (row_of b x)) p.2);
      within = from-none over p.3;
    }

module _ {L Record : Type 0} (loads : Loads L) (m : Rules Record) (duties : Duties m)
    (a : State L Record) (G : ℕ → ℕ → List L) (D : List (Departure L)) (good : Good loads m a G D) where
  -- The rows change, and nothing else.
  rebooked : (rows' : List Row) → Booked loads a.book.settings (clock_of loads m a) rows' G
      → ((i : ℕ) → RecordedRow loads m a.book.settings (clock_of loads m a) G i (a.records i) (a.stamps i) (get_or rows' i Free))
      → Good loads m (with_book loads m a (with_rows a.book rows')) G D
  rebooked rows' b r = record { legal = good.legal; sound = good.sound; whole = good.whole; book = b; recorded = r; spare = good.spare }

  -- A row that is there changes to one that has no record that counts.
  row-changed : (x : ℕ) (r : Row) → x < length a.book.rows → ((i : ℕ) (z : Record) (stamp : ℕ) → RecordedRow loads m a.book.settings (clock_of loads m a) G i z stamp r)
      → Booked loads a.book.settings (clock_of loads m a) (set a.book.rows x r) G → Good loads m (with_book loads m a (with_rows a.book (set a.book.rows x r))) G D
  row-changed x r l k b = rebooked (set a.book.rows x r) b
      (set-each (λ i row. RecordedRow loads m a.book.settings (clock_of loads m a) G i (a.records i) (a.stamps i) row) a.book.rows x r l (k x (a.records x) (a.stamps x)) good.recorded)

  pub good-hold : (x : ℕ) (k : Booking) → Good loads m (holding loads m a x k).1 G D
  unfolding holding hold_of
  good-hold x k = go (hold_fault a.book x k) refl
    where
      go : (o : Option BookFault) → hold_fault a.book x k ≡ o → Good loads m (with_book loads m a (judged o (note_of a.book x) (changed a.book x (rows.holding k)) a.book).1) G D
      go (Some f) e = good
      go None e =
          let p = hold-passed a.book x k e in
          let l : x < length a.book.rows = omega (arith, p.there, good.book.full) in
          subst (λ r. Good loads m (with_book loads m a (with_rows a.book (set a.book.rows x (rows.holding k r)))) G D) (sym p.free)
          (row-changed x (Held k) l (λ i z stamp. tt) (book-held loads a.book.settings (clock_of loads m a) a.book.rows G good.book x k l p.free p.fair p.within))

  -- A note that is good names a held row.
  held-row : (n : Note) → held_by a.book n ≡ true → (n.stream < length a.book.rows) × (is_held (row_of a.book n.stream) ≡ true)
  held-row n e =
      let p = and_parts (eqb n.number a.book.settings.number) _ e in
      let q = and_parts (not (no_stream n.stream)) (is_held (row_of a.book n.stream)) p.1 in
      (omega (arith, ltb-false 127 n.stream (not-true (no_stream n.stream) q.0), good.book.full), q.1)

  pub good-confirm : (n : Note) → Good loads m (confirming loads m a n).1 G D
  unfolding confirming confirm_of
  good-confirm n = go (held_by a.book n) refl (row_of a.book n.stream) refl
    where
      x : ℕ
      x = n.stream

      s : SetNumbers
      s = a.book.settings

      t : ℕ
      t = clock_of loads m a

      taken : (k : Booking) → x < length a.book.rows → row_of a.book x ≡ Held k
          → Good loads m (with_book loads m (renewed_at loads m a x (Held k)) (with_rows a.book (set a.book.rows x (Live k)))) G D
      taken k l f =
          let fair : FairBooking s k = subst (Fair s) f (good.book.fair x) in
          let none : (q : ℕ) → current_of s t k.class ≤ q → octets_for loads x (G k.class q) ≤ 0 =
          λ q h. subst (λ r. octets_for loads x (G k.class q) ≤ allowed k.class q r) f (good.book.shares x k.class q fair.class h) in
          let w = subst (λ r. is_some (over_fault s (set a.book.rows x (confirmed r))) ≡ false) f (over-confirmed s a.book.rows x good.book.within) in
          record {
            legal = good.legal;
            sound = good.sound;
            whole = good.whole;
            book = book-confirmed loads s t a.book.rows G good.book x k l f w;
            recorded = replaced-each (λ j r stamp. RecordedRow loads m s t G j r stamp (get_or (set a.book.rows x (Live k)) j Free)) a.records a.stamps x (m.fresh (terms_of s k.class k.input)) 0
                (subst (RecordedRow loads m s t G x (m.fresh (terms_of s k.class k.input)) 0) (sym (get_or-set_same a.book.rows x (Live k) Free l)) (record {
                  clock = 0;
                  led = renewed;
                  onward = omega arith;
                  past = λ q h z. omega (arith, none q h);
                  here = λ h. omega (arith, none (m.last (m.fresh (terms_of s k.class k.input))) h);
                }))
                (λ j ne. subst (RecordedRow loads m s t G j (a.records j) (a.stamps j)) (sym (get_or-set_other a.book.rows x j (Live k) Free (λ z. ne (sym z)))) (good.recorded j));
            spare = good.spare;
          }

      go : (h : Bool) → held_by a.book n ≡ h → (r : Row) → row_of a.book x ≡ r
          → Good loads m (with_book loads m (cond h (renewed_at loads m a x r) a) (spent_by h confirmed a.book n).1) G D
      go false e r f = good
      go true e Free f = let k = (held-row n e).1 in nope (cc)
      go true e (Live k) f = let k = (held-row n e).1 in nope (cc)
      go true e (Leaving k u) f = let k = (held-row n e).1 in nope (cc)
      go true e (Held k) f = subst (λ r. Good loads m (with_book loads m (renewed_at loads m a x (Held k)) (with_rows a.book (set a.book.rows x (confirmed r)))) G D) (sym f) (taken k (held-row n e).0 f)

  pub good-drop : (n : Note) → Good loads m (dropping loads m a n).1 G D
  unfolding dropping drop_of
  good-drop n = go (held_by a.book n) refl (row_of a.book n.stream) refl
    where
      x : ℕ
      x = n.stream

      go : (h : Bool) → held_by a.book n ≡ h → (r : Row) → row_of a.book x ≡ r → Good loads m (with_book loads m a (spent_by h dropped a.book n).1) G D
      go false e r f = good
      go true e Free f = let k = (held-row n e).1 in nope (cc)
      go true e (Live k) f = let k = (held-row n e).1 in nope (cc)
      go true e (Leaving k u) f = let k = (held-row n e).1 in nope (cc)
      go true e (Held k) f =
          let l = (held-row n e).0 in
          let w = subst (λ r. is_some (over_fault a.book.settings (set a.book.rows x (dropped r))) ≡ false) f (over-dropped a.book.settings a.book.rows x good.book.within) in
          subst (λ r. Good loads m (with_book loads m a (with_rows a.book (set a.book.rows x (dropped r)))) G D) (sym f)
          (row-changed x Free l (λ i z stamp. tt) (book-dropped loads a.book.settings (clock_of loads m a) a.book.rows G good.book x k l f w))

  pub good-release : (x : ℕ) → Good loads m (releasing loads m a x).1 G D
  unfolding releasing release_of
  good-release x = go (no_stream x) refl (row_of a.book x) refl
    where
      s : SetNumbers
      s = a.book.settings

      t : ℕ
      t = clock_of loads m a

      go : (h : Bool) → no_stream x ≡ h → (r : Row) → row_of a.book x ≡ r → Good loads m (with_book loads m a (released_by h (rows.releasing s t r) a.book x).1) G D
      go true e r f = good
      go false e Free f = good
      go false e (Held k) f = good
      go false e (Leaving k u) f = good
      go false e (Live k) f =
          let l : x < length a.book.rows = omega (arith, ltb-false 127 x e, good.book.full) in
          let w = subst (λ r. is_some (over_fault s (set a.book.rows x (rows.released s t r))) ≡ false) f (over-released s t a.book.rows x good.book.within) in
          subst (λ r. Good loads m (with_book loads m a (with_rows a.book (set a.book.rows x (rows.released s t r)))) G D) (sym f)
          (row-changed x (Leaving k (leaves_at s t k)) l (λ i z stamp. tt) (book-released loads s t a.book.rows G good.book x k l f good.sound.far w))
