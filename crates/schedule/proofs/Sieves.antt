-- An induction over two lists of which a test keeps the same: what it does not keep stands anywhere in either list.
use Rattle.std.proofs.Common.{◌≡◌, Bool, true, false, cond, List, [], ◌∷◌, filter, refl}
use Rattle.book.proofs.Within.{nope}

module _ {X : Type 0} (test : X → Bool) (R : List X → List X → Type 0)
    (none : R [] []) (flip : (xs ys : List X) → R xs ys → R ys xs)
    (skip : (x : X) (xs ys : List X) → test x ≡ false → R xs ys → R (x ∷ xs) ys)
    (both : (x : X) (xs ys : List X) → test x ≡ true → R xs ys → R (x ∷ xs) (x ∷ ys)) where
  skip-right : (y : X) (xs ys : List X) → test y ≡ false → R xs ys → R xs (y ∷ ys)
  skip-right y xs ys e r = flip (y ∷ ys) xs (skip y ys xs e (flip xs ys r))

  -- The first list has nothing left that the test keeps.
  to_none : (ys : List X) → [] ≡ filter test ys → R [] ys
  to_none [] e = none
  to_none (y ∷ ys) e = go (test y) refl e (to_none ys)
    where
      go : (t : Bool) → test y ≡ t → [] ≡ cond t (y ∷ filter test ys) (filter test ys)
          → ([] ≡ filter test ys → R [] ys) → R [] (y ∷ ys)
      go true t e rest = nope (cc)
      go false t e rest = skip-right y [] ys t (rest e)

  -- The first list begins with one that the test keeps: the second has it behind some that the test does not keep.
  to-first : (x : X) (xs : List X) → test x ≡ true → ((ys : List X) → filter test xs ≡ filter test ys → R xs ys)
      → (ys : List X) → x ∷ filter test xs ≡ filter test ys → R (x ∷ xs) ys
  to-first x xs kept behind [] e = nope (cc)
  to-first x xs kept behind (y ∷ ys) e = go (test y) refl e (to-first x xs kept behind ys)
    where
      go : (t : Bool) → test y ≡ t → x ∷ filter test xs ≡ cond t (y ∷ filter test ys) (filter test ys)
          → (x ∷ filter test xs ≡ filter test ys → R (x ∷ xs) ys) → R (x ∷ xs) (y ∷ ys)
      go true t e rest =
          let first : x ≡ y = cc in
          let more : filter test xs ≡ filter test ys = cc in
          rw (← first) (both x xs ys kept (behind ys more))
      go false t e rest = skip-right y (x ∷ xs) ys t (rest e)

  pub sieved : (xs ys : List X) → filter test xs ≡ filter test ys → R xs ys
  sieved [] ys e = to_none ys e
  sieved (x ∷ xs) ys e = go (test x) refl e (sieved xs)
    where
      go : (t : Bool) → test x ≡ t → cond t (x ∷ filter test xs) (filter test xs) ≡ filter test ys
          → ((ys : List X) → filter test xs ≡ filter test ys → R xs ys) → R (x ∷ xs) ys
      go true t e behind = to-first x xs t behind ys e
      go false t e behind = skip x xs ys t (behind ys e)
