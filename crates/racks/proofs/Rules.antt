-- What each call on bins answers and leaves, from its tests; and the number of loads in bins that change.
use Rattle.std.proofs.Common.{◌≡◌, ℕ, zero, suc, ◌+◌, ◌<◌, ◌≤◌, Bool, true, false, not, ltb, List, [], ◌∷◌, ◌++◌, length, set, Some, None, Ok, Err, Option, Result, sym, refl, ap, ◌∙◌, arith}
use Rattle.std.proofs.lemmas.List.{length-set, length_push}
use Rattle.std.proofs.lemmas.Bool.{lt-ltb, le-ltb, ltb-true, not-false}
use Rattle.racks.specs.declared.faults.RackFault.{RackFault}
use Rattle.racks.specs.declared.faults.RackFault.TheVariants.{NotThere, Full}
use Rattle.racks.specs.Bins.{bin_of, held_in, empty_bins, no_bin, is_full, added, put_by, put_of, take_by, take_of, count_by, count_of}

module _ {L : Type 0} (bs : List (List L)) (b : ℕ) where
  pub bin-there : b < length bs → no_bin bs b ≡ false
  bin-there h = ap not (lt-ltb b (length bs) h)

  pub bin-missing : length bs ≤ b → no_bin bs b ≡ true
  bin-missing h = ap not (le-ltb b (length bs) h)

  pub there-bin : no_bin bs b ≡ false → b < length bs
  there-bin e = ltb-true b (length bs) (not-false (ltb b (length bs)) e)

  pub put-at : (d t : ℕ) (x : L) (n f : Bool) → no_bin bs b ≡ n → is_full bs d t b ≡ f → put_of bs d t b x ≡ put_by n f bs b x
  unfolding put_of
  put-at d t x n f p q = ap (λ (y : Bool). put_by y (is_full bs d t b) bs b x) p ∙ ap (λ (y : Bool). put_by n y bs b x) q

  pub take_at : (n : Bool) (xs : List L) → no_bin bs b ≡ n → bin_of bs b ≡ xs → take_of bs b ≡ take_by n xs bs b
  unfolding take_of
  take_at n xs p q = ap (λ (y : Bool). take_by y (bin_of bs b) bs b) p ∙ ap (λ (y : List L). take_by n y bs b) q

  pub count_at : (n : Bool) (u : ℕ) → no_bin bs b ≡ n → length (bin_of bs b) ≡ u → count_of bs b ≡ count_by n u
  unfolding count_of
  count_at n u p q = ap (λ (y : Bool). count_by y (length (bin_of bs b))) p ∙ ap (λ y. count_by n y) q

-- A bin that is not there: every call is refused, and nothing changes.
module _ {L : Type 0} (bs : List (List L)) (b : ℕ) (h : length bs ≤ b) where
  pub put-missing : (d t : ℕ) (x : L) → put_of bs d t b x ≡ (Err NotThere, bs)
  put-missing d t x = put-at bs b d t x true (is_full bs d t b) (bin-missing bs b h) refl

  pub take-missing : take_of bs b ≡ (Err NotThere, bs)
  take-missing = take_at bs b true (bin_of bs b) (bin-missing bs b h) refl

  pub count-missing : count_of bs b ≡ Err NotThere
  count-missing = count_at bs b true (length (bin_of bs b)) (bin-missing bs b h) refl

pub put_full : {L : Type 0} (bs : List (List L)) (b : ℕ) → b < length bs → (d t : ℕ) (x : L) → is_full bs d t b ≡ true → put_of bs d t b x ≡ (Err Full, bs)
put_full bs b h d t x f = put-at bs b d t x false true (bin-there bs b h) f

pub count-is : {L : Type 0} (bs : List (List L)) (b : ℕ) → b < length bs → count_of bs b ≡ Ok (length (bin_of bs b))
count-is bs b h = count_at bs b false (length (bin_of bs b)) (bin-there bs b h) refl

-- The number of bins stays.
length-put_by : {L : Type 0} (n f : Bool) (bs : List (List L)) (b : ℕ) (x : L) → length (put_by n f bs b x).1 ≡ length bs
length-put_by true f bs b x = refl
length-put_by false true bs b x = refl
length-put_by false false bs b x = length-set bs b (bin_of bs b ++ (x ∷ []))

pub length-put : {L : Type 0} (bs : List (List L)) (d t b : ℕ) (x : L) → length (put_of bs d t b x).1 ≡ length bs
unfolding put_of
length-put bs d t b x = length-put_by (no_bin bs b) (is_full bs d t b) bs b x

length-take_by : {L : Type 0} (n : Bool) (xs : List L) (bs : List (List L)) (b : ℕ) → length (take_by n xs bs b).1 ≡ length bs
length-take_by true xs bs b = refl
length-take_by false [] bs b = refl
length-take_by false (x ∷ xs) bs b = length-set bs b xs

pub length-take : {L : Type 0} (bs : List (List L)) (b : ℕ) → length (take_of bs b).1 ≡ length bs
unfolding take_of
length-take bs b = length-take_by (no_bin bs b) (bin_of bs b) bs b

pub put_count : {L : Type 0} (bs next : List (List L)) (d t b : ℕ) (x : L) (r : Result (Unit {0}) RackFault) → put_of bs d t b x ≡ (r, next) → length next ≡ length bs
put_count bs next d t b x r e = ap length (sym (ap (λ w. w.1) e)) ∙ length-put bs d t b x

pub take_count : {L : Type 0} (bs next : List (List L)) (b : ℕ) (r : Result (Option L) RackFault) → take_of bs b ≡ (r, next) → length next ≡ length bs
take_count bs next b r e = ap length (sym (ap (λ w. w.1) e)) ∙ length-take bs b

-- A put that is accepted: the bin was there, and was not full.
pub record Accepted {L : Type 0} (bs : List (List L)) (d t b : ℕ) (x : L) (next : List (List L)) : Type 0 where
  pub there : b < length bs
  pub room : is_full bs d t b ≡ false
  pub next-is : next ≡ added bs b x

ok-by : {L : Type 0} (n f : Bool) (bs : List (List L)) (b : ℕ) (x : L) (next : List (List L)) → put_by n f bs b x ≡ (Ok tt, next)
    → (n ≡ false) × (f ≡ false) × (next ≡ added bs b x)
ok-by true f bs b x next e = let q = ap (λ w. w.0) e in let k : ◌≡◌ {A = ℕ} 0 1 = cc in absurd (omega arith)
ok-by false true bs b x next e = let q = ap (λ w. w.0) e in let k : ◌≡◌ {A = ℕ} 0 1 = cc in absurd (omega arith)
ok-by false false bs b x next e = (refl, refl, sym (ap (λ w. w.1) e))

pub put-accepted : {L : Type 0} (bs : List (List L)) (d t b : ℕ) (x : L) (next : List (List L)) → put_of bs d t b x ≡ (Ok tt, next) → Accepted bs d t b x next
unfolding put_of
put-accepted bs d t b x next e =
    let p = ok-by (no_bin bs b) (is_full bs d t b) bs b x next e in
    record { there = there-bin bs b p.0; room = p.1; next-is = p.2 }

-- A put that is refused: any put into that bin is, in bins that give the same tests.
pub refused-by : {L M : Type 0} (n f : Bool) (bs next : List (List L)) (other : List (List M)) (b : ℕ) (x : L) (y : M) (g : RackFault)
    → put_by n f bs b x ≡ (Err g, next) → (put_by n f other b y ≡ (Err g, other)) × (next ≡ bs)
refused-by true f bs next other b x y g e = let q = ap (λ w. w.0) e in (ap (λ (r : Result (Unit {0}) RackFault). (r, other)) q, sym (ap (λ w. w.1) e))
refused-by false true bs next other b x y g e = let q = ap (λ w. w.0) e in (ap (λ (r : Result (Unit {0}) RackFault). (r, other)) q, sym (ap (λ w. w.1) e))
refused-by false false bs next other b x y g e = let q = ap (λ w. w.0) e in let k : ◌≡◌ {A = ℕ} 0 1 = cc in absurd (omega arith)

-- What a take's answer says of the bin, and of the bins after it.
some-by : {L : Type 0} (n : Bool) (xs : List L) (bs : List (List L)) (b : ℕ) (x : L) → (take_by n xs bs b).0 ≡ Ok (Some x)
    → (ys : List L) × (n ≡ false) × (xs ≡ x ∷ ys) × ((take_by n xs bs b).1 ≡ set bs b ys)
some-by true xs bs b x e = let k : ◌≡◌ {A = ℕ} 0 1 = cc in absurd (omega arith)
some-by false [] bs b x e = let k : ◌≡◌ {A = ℕ} 0 1 = cc in absurd (omega arith)
some-by false (y ∷ ys) bs b x e = let q : y ≡ x = cc in (ys, refl, ap (λ z. z ∷ ys) q, refl)

none-by : {L : Type 0} (n : Bool) (xs : List L) (bs : List (List L)) (b : ℕ) → (take_by n xs bs b).0 ≡ Ok None
    → (n ≡ false) × (xs ≡ []) × ((take_by n xs bs b).1 ≡ bs)
none-by true xs bs b e = let k : ◌≡◌ {A = ℕ} 0 1 = cc in absurd (omega arith)
none-by false [] bs b e = (refl, refl, refl)
none-by false (y ∷ ys) bs b e = let k : ◌≡◌ {A = ℕ} 0 1 = cc in absurd (omega arith)

err-by : {L : Type 0} (n : Bool) (xs : List L) (bs : List (List L)) (b : ℕ) (f : RackFault) → (take_by n xs bs b).0 ≡ Err f
    → (n ≡ true) × (f ≡ NotThere) × ((take_by n xs bs b).1 ≡ bs)
err-by true xs bs b f e = (refl, cc, refl)
err-by false [] bs b f e = let k : ◌≡◌ {A = ℕ} 0 1 = cc in absurd (omega arith)
err-by false (y ∷ ys) bs b f e = let k : ◌≡◌ {A = ℕ} 0 1 = cc in absurd (omega arith)

module _ {L : Type 0} (bs : List (List L)) (b : ℕ) where
  pub took-some : (x : L) → (take_of bs b).0 ≡ Ok (Some x) → (ys : List L) × (no_bin bs b ≡ false) × (bin_of bs b ≡ x ∷ ys) × ((take_of bs b).1 ≡ set bs b ys)
  unfolding take_of
  took-some x e = some-by (no_bin bs b) (bin_of bs b) bs b x e

  pub took-none : (take_of bs b).0 ≡ Ok None → (no_bin bs b ≡ false) × (bin_of bs b ≡ []) × ((take_of bs b).1 ≡ bs)
  unfolding take_of
  took-none e = none-by (no_bin bs b) (bin_of bs b) bs b e

  pub took-err : (f : RackFault) → (take_of bs b).0 ≡ Err f → (no_bin bs b ≡ true) × (f ≡ NotThere) × ((take_of bs b).1 ≡ bs)
  unfolding take_of
  took-err f e = err-by (no_bin bs b) (bin_of bs b) bs b f e

-- Loads in all bins.
pub held_in-set : {L : Type 0} (bs : List (List L)) (b : ℕ) (xs : List L) → b < length bs → held_in (set bs b xs) + length (bin_of bs b) ≡ held_in bs + length xs
held_in-set [] b xs h = absurd (omega arith)
held_in-set (c ∷ bs) zero xs h = omega arith
held_in-set (c ∷ bs) (suc b) xs h = let z = held_in-set bs b xs (omega arith) in omega arith

pub held_in-added : {L : Type 0} (bs : List (List L)) (b : ℕ) (x : L) → b < length bs → held_in (added bs b x) ≡ held_in bs + 1
held_in-added bs b x h = omega (arith, held_in-set bs b (bin_of bs b ++ (x ∷ [])) h, length_push (bin_of bs b) x)

pub held_in-append : {L : Type 0} (xs ys : List (List L)) → held_in (xs ++ ys) ≡ held_in xs + held_in ys
held_in-append [] ys = omega arith
held_in-append (x ∷ xs) ys = let z = held_in-append xs ys in omega arith

pub held_in-empty : (L : Type 0) (n : ℕ) → held_in {L = L} (empty_bins n) ≡ 0
held_in-empty L zero = refl
held_in-empty L (suc n) = let z = held_in-empty L n in omega arith

-- Where no bin holds a load, each is empty.
pub bin-of-none : {L : Type 0} (bs : List (List L)) (b : ℕ) → held_in bs ≡ 0 → bin_of bs b ≡ []
bin-of-none [] b h = refl
bin-of-none ([] ∷ bs) zero h = refl
bin-of-none ((x ∷ xs) ∷ bs) zero h = absurd (omega arith)
bin-of-none (c ∷ bs) (suc b) h = bin-of-none bs b (omega arith)
