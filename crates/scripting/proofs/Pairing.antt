-- Lemmas on the notes in hand beside the book that gave them.
use Rattle.std.proofs.Common.{◌≡◌, ℕ, zero, suc, ◌<◌, ◌≤◌, Bool, true, false, cond, List, [], ◌∷◌, ◌++◌, length, get_or, set, Some, None, Ok, Option, Result, sym, refl, ap, ◌∙◌, subst, ⊎_elim, arith, length-set}
use lib.ListN.{get_or-map}
use Rattle.std.proofs.lemmas.List.{get_or-set_same, get_or-set_other, get_or_past, length-map}
use Rattle.std.proofs.lemmas.Bool.{cases_eq, cases_lt, ltb-false}
use Rattle.book.specs.declared.faults.BookFault.{BookFault}
use Rattle.book.specs.declared.ledger.Note.{Note}
use Rattle.book.specs.declared.rows.Booking.{Booking}
use Rattle.book.specs.declared.rows.Row.{Row}
use Rattle.book.specs.declared.rows.Row.TheVariants.{Free, Held, Live, Leaving}
use Rattle.book.specs.Told.{SetNumbers}
use Rattle.book.specs.Rows.{is_free, is_held, holding, confirmed, dropped, released, releasing, settled}
use Rattle.book.specs.Books.{BookState, row_of, note_of, with_rows, changed, no_stream, judged, hold_of, held_by, spent_by, confirm_of, drop_of, released_by, release_of, advanced, advance_of}
use Rattle.book.proofs.Notes.{hold-taken-says, note-good}
use Rattle.scripting.specs.Notes.{note_by, note_in, note_at}

abbrev pub Matching : BookState → List (Option Note) → Type 0
Matching b ns = (s : ℕ) → s < 128 → get_or ns s None ≡ note_in b s

pub matching-of : (o : Option BookState) (b : BookState) (ns : List (Option Note)) → o ≡ Some b → ((s : ℕ) → s < 128 → get_or ns s None ≡ note_at o s) → Matching b ns
matching-of o b ns e m s h = m s h ∙ ap (λ x. note_at x s) e

row_same : (b : BookState) (s : ℕ) (f : Row → Row) → length b.rows ≡ 128 → s < 128 → row_of (changed b s f) s ≡ f (row_of b s)
row_same b s f e h = let l : s < length b.rows = omega arith in get_or-set_same b.rows s (f (row_of b s)) Free l

row_other : (b : BookState) (s k : ℕ) (f : Row → Row) → (k ≡ s → ⊥) → row_of (changed b s f) k ≡ row_of b k
row_other b s k f ne = get_or-set_other b.rows s k (f (row_of b s)) Free ne

-- The row of one stream changes, and its place with it.
pub matching-changed : (b : BookState) (ns : List (Option Note)) (s : ℕ) (f : Row → Row) (x : Option Note) → length b.rows ≡ 128 → length ns ≡ 128
    → s < 128 → x ≡ note_by (is_held (f (row_of b s))) (note_of b s) → Matching b ns → Matching (changed b s f) (set ns s x)
matching-changed b ns s f x e l h p m k hk =
    let ls : s < length ns = omega arith in
    let P : ℕ → Type 0 = λ j. get_or (set ns s x) j None ≡ note_in (changed b s f) j in
    ⊎_elim
    (λ (eq : k ≡ s).
    subst P (sym eq) (get_or-set_same ns s x None ls ∙ p ∙ sym (ap (λ r. note_by (is_held r) (note_of b s)) (row_same b s f e h))))
    (λ (ne : k ≡ s → ⊥).
    get_or-set_other ns s k x None ne ∙ m k hk ∙ sym (ap (λ r. note_by (is_held r) (note_of b k)) (row_other b s k f ne)))
    (cases_eq k s)

-- The row of one stream changes, and is held as before.
pub note-kept : (b : BookState) (s : ℕ) (f : Row → Row) → length b.rows ≡ 128 → s < 128 → is_held (f (row_of b s)) ≡ is_held (row_of b s) → (k : ℕ)
    → note_in (changed b s f) k ≡ note_in b k
note-kept b s f e h p k =
    let P : ℕ → Type 0 = λ j. note_in (changed b s f) j ≡ note_in b j in
    ⊎_elim (λ (eq : k ≡ s). subst P (sym eq) (ap (λ t. note_by t (note_of b s)) (ap is_held (row_same b s f e h) ∙ p)))
    (λ (ne : k ≡ s → ⊥). ap (λ r. note_by (is_held r) (note_of b k)) (row_other b s k f ne)) (cases_eq k s)

-- Past the last stream there is no note.
pub matching-all : (b : BookState) (ns : List (Option Note)) → length b.rows ≡ 128 → length ns ≡ 128 → Matching b ns → (s : ℕ) → get_or ns s None ≡ note_in b s
matching-all b ns e l m s =
    ⊎_elim (λ (h : s < 128). m s h)
    (λ (h : 128 ≤ s).
    let g : length ns ≤ s = omega arith in
    let r : length b.rows ≤ s = omega arith in
    get_or_past ns s None g ∙ sym (ap (λ r. note_by (is_held r) (note_of b s)) (get_or_past b.rows s Free r)))
    (cases_lt s 128)

note_by-some : (t : Bool) (n m : Note) → note_by t n ≡ Some m → (t ≡ true) × (n ≡ m)
note_by-some true n m e = (refl, cc)
note_by-some false n m e = let z : ◌≡◌ {A = ℕ} 0 1 = cc in absurd (omega arith)

free-unheld : (r : Row) → is_free r ≡ true → is_held r ≡ false
free-unheld Free e = refl
free-unheld (Held b) e = let z : ◌≡◌ {A = ℕ} 0 1 = cc in absurd (omega arith)
free-unheld (Live b) e = refl
free-unheld (Leaving b q) e = refl

free-holds : (r : Row) (k : Booking) → is_free r ≡ true → is_held (holding k r) ≡ true
free-holds Free k e = refl
free-holds (Held b) k e = refl
free-holds (Live b) k e = let z : ◌≡◌ {A = ℕ} 0 1 = cc in absurd (omega arith)
free-holds (Leaving b q) k e = let z : ◌≡◌ {A = ℕ} 0 1 = cc in absurd (omega arith)

-- A hold that is taken.
pub record Taken (b : BookState) (s : ℕ) (k : Booking) (n : Note) : Type 0 where
  pub stream : s < 128
  pub free : is_free (row_of b s) ≡ true
  pub note : note_of b s ≡ n
  pub next : (hold_of b s k).1 ≡ changed b s (holding k)

pub hold-taken : (b : BookState) (s : ℕ) (k : Booking) (n : Note) → (hold_of b s k).0 ≡ Ok n → Taken b s k n
hold-taken b s k n e =
    let t = hold-taken-says b s k n e in
    record {
      stream = omega (arith, t.there);
      free = ap is_free t.was;
      note = sym t.note;
      next = t.next ∙ ap (λ (r : Row). with_rows b (set b.rows s (holding k r))) (sym t.was);
    }

-- A note in hand is the one of a held row of the book, so the book takes it.
stream-there : (b : BookState) (s : ℕ) (n : Note) → length b.rows ≡ 128 → note_in b s ≡ Some n → s < 128
stream-there b s n e p =
    ⊎_elim (λ (h : s < 128). h)
    (λ (h : 128 ≤ s).
    let r : length b.rows ≤ s = omega arith in
    let q = ap (λ x. note_by (is_held x) (note_of b s)) (get_or_past b.rows s Free r) in
    let z : ◌≡◌ {A = ℕ} 0 1 = cc in
    omega arith)
    (cases_lt s 128)

pub record Spent (b : BookState) (s : ℕ) (f : Row → Row) (n : Note) (r : Result (Unit {0}) (BookFault × Note) × BookState) : Type 0 where
  pub stream : s < 128
  pub answer : r.0 ≡ Ok tt
  pub next : r.1 ≡ changed b s f

spent-by : (b : BookState) (s : ℕ) (f : Row → Row) (n : Note) → length b.rows ≡ 128 → note_in b s ≡ Some n → Spent b s f n (spent_by (held_by b n) f b n)
spent-by b s f n e p =
    let h = stream-there b s n e p in
    let l : s ≤ 127 = omega arith in
    let q = note_by-some (is_held (row_of b s)) (note_of b s) n p in
    let P : Note → Type 0 = λ m. Spent b s f m (spent_by (held_by b m) f b m) in
    let Q : Bool → Type 0 = λ t. Spent b s f (note_of b s) (spent_by t f b (note_of b s)) in
    subst P q.1 (subst Q (sym (note-good b s l q.0)) (record { stream = h; answer = refl; next = refl }))

pub confirm-spent : (b : BookState) (s : ℕ) (n : Note) → length b.rows ≡ 128 → note_in b s ≡ Some n → Spent b s confirmed n (confirm_of b n)
unfolding confirm_of
confirm-spent b s n e p = spent-by b s confirmed n e p

pub drop-spent : (b : BookState) (s : ℕ) (n : Note) → length b.rows ≡ 128 → note_in b s ≡ Some n → Spent b s dropped n (drop_of b n)
unfolding drop_of
drop-spent b s n e p = spent-by b s dropped n e p

pub confirmed-unheld : (r : Row) → is_held (confirmed r) ≡ false
confirmed-unheld Free = refl
confirmed-unheld (Held b) = refl
confirmed-unheld (Live b) = refl
confirmed-unheld (Leaving b q) = refl

pub dropped-unheld : (r : Row) → is_held (dropped r) ≡ false
dropped-unheld Free = refl
dropped-unheld (Held b) = refl
dropped-unheld (Live b) = refl
dropped-unheld (Leaving b q) = refl

pub unheld-none : (t : Bool) (n : Note) → t ≡ false → None ≡ note_by t n
unheld-none t n e = ap (λ x. note_by x n) (sym e)

-- Taken holds, spent notes, releases and steps of the clock keep notes and rows paired.
pub held-matching : (b : BookState) (ns : List (Option Note)) (s : ℕ) (k : Booking) (n : Note) → length b.rows ≡ 128 → length ns ≡ 128 → Matching b ns
    → (hold_of b s k).0 ≡ Ok n → Matching (hold_of b s k).1 (set ns s (Some n))
held-matching b ns s k n e l m t =
    let h = hold-taken b s k n t in
    let P : BookState → Type 0 = λ x. Matching x (set ns s (Some n)) in
    subst P (sym h.next)
    (matching-changed b ns s (holding k) (Some n) e l h.stream
    (ap Some (sym h.note) ∙ ap (λ t. note_by t (note_of b s)) (sym (free-holds (row_of b s) k h.free))) m)

pub hold-place : (b : BookState) (ns : List (Option Note)) (s : ℕ) (k : Booking) (n : Note) → Matching b ns → (hold_of b s k).0 ≡ Ok n → get_or ns s None ≡ None
hold-place b ns s k n m t =
    let h = hold-taken b s k n t in
    m s h.stream ∙ sym (unheld-none (is_held (row_of b s)) (note_of b s) (free-unheld (row_of b s) h.free))

pub spent-matching : (b : BookState) (ns : List (Option Note)) (s : ℕ) (f : Row → Row) (n : Note) (r : Result (Unit {0}) (BookFault × Note) × BookState)
    → length b.rows ≡ 128 → length ns ≡ 128 → Matching b ns → is_held (f (row_of b s)) ≡ false → Spent b s f n r → Matching r.1 (set ns s None)
spent-matching b ns s f n r e l m u h =
    let P : BookState → Type 0 = λ x. Matching x (set ns s None) in
    subst P (sym h.next) (matching-changed b ns s f None e l h.stream (unheld-none _ (note_of b s) u) m)

released-held : (t : SetNumbers) (c : ℕ) (r : Row) → is_held (released t c r) ≡ is_held r
released-held t c Free = refl
released-held t c (Held b) = refl
released-held t c (Live b) = refl
released-held t c (Leaving b q) = refl

release-by : (g : Bool) (o : Option ℕ) (b : BookState) (s : ℕ) → length b.rows ≡ 128 → (g ≡ false → s < 128) → (k : ℕ) → note_in (released_by g o b s).1 k ≡ note_in b k
release-by true o b s e h k = refl
release-by false None b s e h k = refl
release-by false (Some q) b s e h k =
    note-kept b s (released b.settings b.clock) e (h refl) (released-held b.settings b.clock (row_of b s)) k

pub release-kept : (b : BookState) (s : ℕ) → length b.rows ≡ 128 → (k : ℕ) → note_in (release_of b s).1 k ≡ note_in b k
unfolding release_of
release-kept b s e k =
    release-by (no_stream s) (releasing b.settings b.clock (row_of b s)) b s e (λ g. let l = ltb-false 127 s g in omega arith) k

settled-by : (t : Bool) (b : Booking) (q : ℕ) → is_held (cond t Free (Leaving b q)) ≡ false
settled-by true b q = refl
settled-by false b q = refl

settled-held : (t : SetNumbers) (c : ℕ) (r : Row) → is_held (settled t c r) ≡ is_held r
settled-held t c Free = refl
settled-held t c (Held b) = refl
settled-held t c (Live b) = refl
settled-held t c (Leaving b q) = settled-by _ b q

advance-by : (o : Option BookFault) (b : BookState) (t : ℕ) (k : ℕ) → note_in (judged o (tt {0}) (advanced b t) b).1 k ≡ note_in b k
advance-by (Some f) b t k = refl
advance-by None b t k =
    ap (λ x. note_by x (note_of b k)) (ap is_held (get_or-map (settled b.settings t) b.rows k Free) ∙ settled-held b.settings t (row_of b k))

pub advance-kept : (b : BookState) (t k : ℕ) → note_in (advance_of b t).1 k ≡ note_in b k
unfolding advance_of
advance-kept b t k = advance-by _ b t k

pub matching-kept : (b next : BookState) (ns : List (Option Note)) → ((k : ℕ) → note_in next k ≡ note_in b k) → Matching b ns → Matching next ns
matching-kept b next ns e m s h = m s h ∙ sym (e s)

pub note-spent : (b : BookState) (s : ℕ) (f : Row → Row) → length b.rows ≡ 128 → s < 128 → is_held (f (row_of b s)) ≡ false → note_in (changed b s f) s ≡ None
note-spent b s f e h u = ap (λ t. note_by t (note_of b s)) (ap is_held (row_same b s f e h) ∙ u)

pub note-other : (b : BookState) (s k : ℕ) (f : Row → Row) → (k ≡ s → ⊥) → note_in (changed b s f) k ≡ note_in b k
note-other b s k f ne = ap (λ r. note_by (is_held r) (note_of b k)) (row_other b s k f ne)

-- One more empty place.
pub push-none : (ns : List (Option Note)) (s : ℕ) → get_or (ns ++ None ∷ []) s None ≡ get_or ns s None
push-none [] zero = refl
push-none [] (suc s) = refl
push-none (x ∷ ns) zero = refl
push-none (x ∷ ns) (suc s) = push-none ns s

-- The notes fit the book that is set.
pub record Fitting (o : Option BookState) (ns : List (Option Note)) : Type 0 where
  pub full : (b : BookState) → o ≡ Some b → length b.rows ≡ 128
  pub paired : (s : ℕ) → s < 128 → get_or ns s None ≡ note_at o s

pub fits : (b : BookState) (ns : List (Option Note)) → length b.rows ≡ 128 → Matching b ns → Fitting (Some b) ns
fits b ns e m = record {
  full = λ x p. let q : b ≡ x = cc in ap (λ y. length y.rows) (sym q) ∙ e;
  paired = m;
}

pub fits-at : (o : Option BookState) (b next : BookState) (ns more : List (Option Note)) → Fitting (Some b) ns → next ≡ b → more ≡ ns → Fitting (Some next) more
fits-at o b next ns more f e g =
    let P : BookState → Type 0 = λ x. Fitting (Some x) more in
    let Q : List (Option Note) → Type 0 = λ x. Fitting (Some b) x in
    subst P (sym e) (subst Q (sym g) f)

-- A call that leaves the rows as many and the same of them held.
pub kept-fits : (o : Option BookState) (b next after : BookState) (ns : List (Option Note)) → Fitting o ns → o ≡ Some b → next ≡ after
    → length after.rows ≡ length b.rows → ((k : ℕ) → note_in after k ≡ note_in b k) → Fitting (Some next) ns
kept-fits o b next after ns f e p l k =
    let m : Matching b ns = matching-of o b ns e f.paired in
    fits-at o after next ns ns (fits after ns (l ∙ f.full b e) (matching-kept b after ns k m)) p refl

pub held-fits : (o : Option BookState) (b next : BookState) (ns more : List (Option Note)) (s : ℕ) (k : Booking) (n : Note) → Fitting o ns
    → length ns ≡ 128 → o ≡ Some b → Ok n ≡ (hold_of b s k).0 → next ≡ (hold_of b s k).1 → more ≡ set ns s (Some n) → Fitting (Some next) more
held-fits o b next ns more s k n f l e t p q =
    let r : length b.rows ≡ 128 = f.full b e in
    let m : Matching b ns = matching-of o b ns e f.paired in
    let h = hold-taken b s k n (sym t) in
    let u : length (hold_of b s k).1.rows ≡ 128 = ap (λ x. length x.rows) h.next ∙ length-set b.rows s (holding k (row_of b s)) ∙ r in
    fits-at o (hold_of b s k).1 next (set ns s (Some n)) more (fits (hold_of b s k).1 (set ns s (Some n)) u (held-matching b ns s k n r l m (sym t))) p q

pub place-free : (o : Option BookState) (b : BookState) (ns : List (Option Note)) (s : ℕ) (k : Booking) (n : Note) → Fitting o ns
    → o ≡ Some b → Ok n ≡ (hold_of b s k).0 → (s < 128) × (get_or ns s None ≡ None)
place-free o b ns s k n f e t =
    let h = hold-taken b s k n (sym t) in
    (h.stream, hold-place b ns s k n (matching-of o b ns e f.paired) (sym t))

-- What is in a place is the note in hand.
pub in-place : (o : Option BookState) (b : BookState) (ns : List (Option Note)) (s : ℕ) (x : Option Note) → Fitting o ns → length ns ≡ 128 → o ≡ Some b
    → x ≡ get_or ns s None → x ≡ note_in b s
in-place o b ns s x f l e p = p ∙ matching-all b ns (f.full b e) l (matching-of o b ns e f.paired) s

pub spent-fits : (o : Option BookState) (b next : BookState) (ns more : List (Option Note)) (s : ℕ) (g : Row → Row) (n : Note)
    (r : Result (Unit {0}) (BookFault × Note) × BookState) → Fitting o ns → length ns ≡ 128 → o ≡ Some b → is_held (g (row_of b s)) ≡ false
    → Spent b s g n r → next ≡ r.1 → more ≡ set ns s None → Fitting (Some next) more
spent-fits o b next ns more s g n r f l e u h p q =
    let d : length b.rows ≡ 128 = f.full b e in
    let m : Matching b ns = matching-of o b ns e f.paired in
    let t : length r.1.rows ≡ 128 = ap (λ x. length x.rows) h.next ∙ length-set b.rows s (g (row_of b s)) ∙ d in
    fits-at o r.1 next (set ns s None) more (fits r.1 (set ns s None) t (spent-matching b ns s g n r d l m u h)) p q

released-length : (g : Bool) (o : Option ℕ) (b : BookState) (s : ℕ) → length (released_by g o b s).1.rows ≡ length b.rows
released-length true o b s = refl
released-length false None b s = refl
released-length false (Some q) b s = length-set b.rows s (released b.settings b.clock (row_of b s))

pub release-length : (b : BookState) (s : ℕ) → length (release_of b s).1.rows ≡ length b.rows
unfolding release_of
release-length b s = released-length (no_stream s) _ b s

advanced-length : (o : Option BookFault) (b : BookState) (t : ℕ) → length (judged o (tt {0}) (advanced b t) b).1.rows ≡ length b.rows
advanced-length (Some f) b t = refl
advanced-length None b t = length-map b.rows (settled b.settings t)

pub advance-length : (b : BookState) (t : ℕ) → length (advance_of b t).1.rows ≡ length b.rows
unfolding advance_of
advance-length b t = advanced-length _ b t
