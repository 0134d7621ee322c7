-- The octets of lists of loads, in all and by stream: one load more at the end, and the streams' octets together.
use Rattle.std.proofs.Common.{◌≡◌, ℕ, zero, suc, ◌+◌, ◌*◌, ◌<◌, ◌≤◌, cond, eqb, List, [], ◌∷◌, ◌++◌, length, get_or, sym, refl, ap, arith}
use mathlib.Core.Path.{fun_ext}
use lib.Dec.{eqb-zero-suc, eqb-suc-zero, eqb-suc-suc}
use Rattle.std.specs.List.{AllByRecursion as All}
use Rattle.book.specs.declared.rows.Row.{Row}
use Rattle.book.specs.declared.rows.Row.TheVariants.{Free}
use Rattle.book.specs.Rows.{octets, booked}
use Rattle.schedule.specs.Wires.{Loads, wire_octets}
use Rattle.schedule.specs.Histories.{octets_of, octets_for}

-- A load has the length of a frame, with its 20 octets more on the wire.
abbrev pub Sized : {L : Type 0} → Loads L → L → Type 0
Sized loads x = (84 ≤ wire_octets loads x) × (wire_octets loads x ≤ 1542)

module _ {L : Type 0} (loads : Loads L) where
  pub octets-append : (xs ys : List L) → octets_of loads (xs ++ ys) ≡ octets_of loads xs + octets_of loads ys
  unfolding octets_of
  octets-append [] ys = omega arith
  octets-append (x ∷ xs) ys = omega (arith, octets-append xs ys)

  pub octets-none : (xs : List L) → All (Sized loads) xs → octets_of loads xs ≡ 0 → xs ≡ []
  unfolding octets_of
  octets-none [] s e = refl
  octets-none (x ∷ xs) s e = absurd (omega arith)

  pub octets-count : (xs : List L) → All (Sized loads) xs → length xs * 84 ≤ octets_of loads xs
  unfolding octets_of
  octets-count [] a = omega arith
  octets-count (x ∷ xs) a = omega (arith, octets-count xs a.1, a.0)

  pub for-push : (i : ℕ) (xs : List L) (x : L)
      → octets_for loads i (xs ++ (x ∷ [])) ≡ octets_for loads i xs + cond (eqb (loads.stream_of x) i) (wire_octets loads x) 0
  unfolding octets_for
  for-push i [] x = omega arith
  for-push i (y ∷ xs) x = omega (arith, for-push i xs x)

-- The sum of f 0 to f (n - 1).
unfoldable total : ℕ → (ℕ → ℕ) → ℕ
total zero f = 0
total (suc n) f = f 0 + total n (λ i. f (suc i))

total-add : (n : ℕ) (f g : ℕ → ℕ) → total n (λ i. f i + g i) ≡ total n f + total n g
unfolding total
total-add zero f g = refl
total-add (suc n) f g = omega (arith, total-add n (λ i. f (suc i)) (λ i. g (suc i)))

total-zero : (n : ℕ) (f : ℕ → ℕ) → ((i : ℕ) → f i ≡ 0) → total n f ≡ 0
unfolding total
total-zero zero f h = refl
total-zero (suc n) f h = omega (arith, h 0, total-zero n (λ i. f (suc i)) (λ i. h (suc i)))

total-one : (n a v : ℕ) → a < n → total n (λ i. cond (eqb a i) v 0) ≡ v
unfolding total
total-one zero a v h = absurd (omega arith)
total-one (suc n) zero v h = omega (arith, total-zero n (λ i. cond (eqb 0 (suc i)) v 0) (λ i. ap (λ b. cond b v 0) (eqb-zero-suc i)))
total-one (suc n) (suc a) v h =
    let e : cond (eqb (suc a) 0) v 0 ≡ 0 = ap (λ b. cond b v 0) (eqb-suc-zero a) in
    let k : total n (λ i. cond (eqb (suc a) (suc i)) v 0) ≡ total n (λ i. cond (eqb a i) v 0) =
    ap (total n) (fun_ext (λ i. ap (λ b. cond b v 0) (eqb-suc-suc a i))) in
    omega (arith, e, k, total-one n a v (omega arith))

by-streams : {L : Type 0} (loads : Loads L) (n : ℕ) (xs : List L) → All (λ x. loads.stream_of x < n) xs
    → octets_of loads xs ≡ total n (λ i. octets_for loads i xs)
unfolding octets_of octets_for
by-streams loads n [] a = sym (total-zero n (λ i. 0) (λ i. refl))
by-streams loads n (x ∷ xs) a = omega (
  arith,
  by-streams loads n xs a.1,
  total-add n (λ i. cond (eqb (loads.stream_of x) i) (wire_octets loads x) 0) (λ i. octets_for loads i xs),
  total-one n (loads.stream_of x) (wire_octets loads x) a.0,
)

total-booked : (c : ℕ) (rows : List Row) (f : ℕ → ℕ) → ((i : ℕ) → f i ≤ octets c (get_or rows i Free)) → total (length rows) f ≤ booked c rows
unfolding total booked
total-booked c [] f h = omega arith
total-booked c (r ∷ rows) f h = omega (arith, h 0, total-booked c rows (λ i. f (suc i)) (λ i. h (suc i)))

-- If no stream has more than its row books, all have no more than the class has booked.
pub all-booked : {L : Type 0} (loads : Loads L) (c : ℕ) (rows : List Row) (xs : List L) → All (λ x. loads.stream_of x < length rows) xs
    → ((i : ℕ) → octets_for loads i xs ≤ octets c (get_or rows i Free)) → octets_of loads xs ≤ booked c rows
all-booked loads c rows xs a h =
    omega (arith, by-streams loads (length rows) xs a, total-booked c rows (λ i. octets_for loads i xs) h)
