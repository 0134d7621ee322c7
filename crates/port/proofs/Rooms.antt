-- A rack with the room that the settings need takes every load that the rules put.
use Rattle.std.proofs.Common.{◌≡◌, ℕ, zero, suc, ◌+◌, ◌<◌, ◌≤◌, false, eqb, ◌⊎◌, List, [], ◌∷◌, ◌++◌, length, set, Ok, sym, refl, ap, ◌∙◌, subst, inl, inr, mod-lt, arith}
use mathlib.Core.Path.{fun_ext}
use Rattle.std.proofs.lemmas.List.{get_or-set_same, get_or-set_other, length_push, length-set}
use Rattle.std.proofs.lemmas.Bool.{cases_lt, cases_eq, eq-eqb, ne_eqb, cond-true, cond-false, or_from, lt-leb}
use Rattle.racks.specs.Bins as rack
use Rattle.racks.specs.Bins.{held_in, added, put_of}
use Rattle.racks.proofs.Rules.{put-at, bin-there, held_in-added}
use Rattle.book.specs.Told.{SetNumbers, class_count, bins_of, Legal}
use Rattle.placers.specs.Placers.{replaced}
use Rattle.schedule.specs.Bins.{bins_before, bin_of, loads_below}

-- The bins of a class stand before those of all classes after it.
before-all : (s : SetNumbers) (n c : ℕ) → c < n → bins_before s c + bins_of s c ≤ bins_before s n
unfolding bins_before
before-all s zero c l = absurd (omega arith)
before-all s (suc n) c l = elim (cases_lt c n) [
  | inl h ↦ let z = before-all s n c h in omega arith
  | inr h ↦ let e : c ≡ n = omega arith in subst (λ (k : ℕ). bins_before s k + bins_of s k ≤ bins_before s n + bins_of s n) (sym e) (omega arith)
]

pub bin-within : (s : SetNumbers) → Legal s → (c q : ℕ) → c < class_count s → bin_of s c q < bins_before s (class_count s)
bin-within s legal c q l =
    let two = legal.two_bins c l in
    let some : 0 < bins_of s c = omega arith in
    omega (arith, mod-lt q some, before-all s (class_count s) c l)

-- The bins of a rack as a function of the bin, with one of them changed.
pub set-replaced : {L : Type 0} (bs : List (List L)) (b : ℕ) (ys : List L) → b < length bs → rack.bin_of (set bs b ys) ≡ replaced (rack.bin_of bs) b ys
set-replaced {L} bs b ys l = fun_ext (λ k. go k (cases_eq k b))
  where
    go : (k : ℕ) → (k ≡ b) ⊎ (k ≡ b → ⊥) → rack.bin_of (set bs b ys) k ≡ replaced (rack.bin_of bs) b ys k
    go k c = elim c [
      | inl e ↦ subst (λ (j : ℕ). rack.bin_of (set bs b ys) j ≡ replaced (rack.bin_of bs) b ys j) (sym e)
          (get_or-set_same bs b ys [] l ∙ sym (cond-true (eqb b b) ys (rack.bin_of bs b) (eq-eqb b b refl)))
      | inr n ↦ get_or-set_other bs b k ys [] n ∙ sym (cond-false (eqb b k) ys (rack.bin_of bs k) (ne_eqb b k (λ e. n (sym e))))
    ]

-- The loads in the bins below a number, of bins that are a list.
below-front : {L : Type 0} (b : List L) (bs : List (List L)) (n : ℕ) → loads_below (rack.bin_of (b ∷ bs)) (suc n) ≡ length b + loads_below (rack.bin_of bs) n
unfolding loads_below
below-front b bs zero = omega arith
below-front b bs (suc n) = let z = below-front b bs n in omega arith

pub below-held : {L : Type 0} (bs : List (List L)) → loads_below (rack.bin_of bs) (length bs) ≡ held_in bs
unfolding loads_below
below-held [] = refl
below-held (b ∷ bs) = below-front b bs (length bs) ∙ ap (λ (n : ℕ). length b + n) (below-held bs)

-- Bins within the depth and the total after a put had room for it.
pub put-fits : {L : Type 0} (bs : List (List L)) (d t b : ℕ) (x : L) → b < length bs
    → length (rack.bin_of bs b ++ (x ∷ [])) ≤ d → loads_below (replaced (rack.bin_of bs) b (rack.bin_of bs b ++ (x ∷ []))) (length bs) ≤ t
    → put_of bs d t b x ≡ (Ok tt, added bs b x)
put-fits bs d t b x l deep all =
    let ys = rack.bin_of bs b ++ (x ∷ []) in
    let push = length_push (rack.bin_of bs b) x in
    let held : loads_below (rack.bin_of (set bs b ys)) (length bs) ≡ held_in (set bs b ys) =
    subst (λ (n : ℕ). loads_below (rack.bin_of (set bs b ys)) n ≡ held_in (set bs b ys)) (length-set bs b ys) (below-held (set bs b ys)) in
    let same = ap (λ (f : ℕ → List _). loads_below f (length bs)) (set-replaced bs b ys l) in
    let more = held_in-added bs b x l in
    let room : held_in bs < t = omega arith in
    let space : length (rack.bin_of bs b) < d = omega arith in
    put-at bs b d t x false false (bin-there bs b l) (or_from _ _ (lt-leb d (length (rack.bin_of bs b)) space) (lt-leb t (held_in bs) room))
