-- First in, first out: over every sequence of calls, what was taken from a bin and what is in it are what was in it and what was put into it.
use Rattle.std.proofs.Common.{◌≡◌, ℕ, ◌+◌, ◌<◌, ◌≤◌, Bool, true, false, cond, ◌&&◌, eqb, List, [], ◌∷◌, ◌++◌, length, get_or, drop, set, is_ok, sym, refl, ap, ◌∙◌, ⊎_elim}
use Rattle.std.proofs.lemmas.List.{append-nil, append_assoc, get_or-set_same, get_or-set_other, drop_more, drop_all}
use Rattle.std.proofs.lemmas.Bool.{cases_eq, eq-eqb, ne_eqb, eqb-true}
use Rattle.racks.specs.declared.calls.RackCall.{RackCall}
use Rattle.racks.specs.declared.calls.RackCall.TheVariants.{Put, Take, Count}
use Rattle.racks.specs.Bins.{bin_of, held_in, is_empty, no_bin, is_full, added, put_by, put_of, take_by, take_of}
use Rattle.racks.specs.Sequences.{next_of, added_by, answered, taken_by, after, put_into, taken_from}
use Rattle.racks.proofs.Rules.{there-bin, bin-of-none}

-- What a put adds to a bin, by its tests.
adds : {L : Type 0} (a b : ℕ) (x : L) → a ≡ b → cond (eqb a b && true) (x ∷ []) [] ≡ x ∷ []
adds a b x e = rw (eq-eqb a b e)

adds-refused : {L : Type 0} (t : Bool) (x : L) → cond (t && false) (x ∷ []) [] ≡ []
adds-refused true x = refl
adds-refused false x = refl

adds-other : {L : Type 0} (a b : ℕ) (ok : Bool) (x : L) → (a ≡ b → ⊥) → cond (eqb a b && ok) (x ∷ []) [] ≡ []
adds-other a b ok x e = rw (ne_eqb a b e)

same-either : {L : Type 0} (t : Bool) (xs : List L) → cond t xs xs ≡ xs
same-either true xs = refl
same-either false xs = refl

-- One put: the bin afterwards is the bin before, with what was added to it.
put_step : {L : Type 0} (n f : Bool) (bs : List (List L)) (b a : ℕ) (x : L) → no_bin bs b ≡ n
    → bin_of (put_by n f bs b x).1 a ≡ bin_of bs a ++ cond (eqb a b && is_ok (put_by n f bs b x).0) (x ∷ []) []
put_step true f bs b a x p = sym (ap (λ (z : List _). bin_of bs a ++ z) (adds-refused (eqb a b) x) ∙ append-nil (bin_of bs a))
put_step false true bs b a x p = sym (ap (λ (z : List _). bin_of bs a ++ z) (adds-refused (eqb a b) x) ∙ append-nil (bin_of bs a))
put_step false false bs b a x p =
    ⊎_elim
    (λ e. ap (λ (i : ℕ). bin_of (added bs b x) i) e ∙ get_or-set_same bs b (bin_of bs b ++ (x ∷ [])) [] (there-bin bs b p)
    ∙ ap (λ (i : ℕ). bin_of bs i ++ (x ∷ [])) (sym e) ∙ ap (λ (z : List _). bin_of bs a ++ z) (sym (adds a b x e)))
    (λ e. get_or-set_other bs b a (bin_of bs b ++ (x ∷ [])) [] e
    ∙ sym (ap (λ (z : List _). bin_of bs a ++ z) (adds-other a b true x e) ∙ append-nil (bin_of bs a)))
    (cases_eq a b)

-- One take: what it took, followed by the bin afterwards, is the bin before.
take_step : {L : Type 0} (n : Bool) (xs : List L) (bs : List (List L)) (b a : ℕ) → no_bin bs b ≡ n → bin_of bs b ≡ xs
    → cond (eqb a b) (answered (take_by n xs bs b).0) [] ++ bin_of (take_by n xs bs b).1 a ≡ bin_of bs a
take_step true xs bs b a p e = ap (λ (z : List _). z ++ bin_of bs a) (same-either (eqb a b) [])
take_step false [] bs b a p e = ap (λ (z : List _). z ++ bin_of bs a) (same-either (eqb a b) [])
take_step false (x ∷ xs) bs b a p e =
    ⊎_elim
    (λ i. ap (λ (t : Bool). cond t (x ∷ []) [] ++ bin_of (set bs b xs) a) (eq-eqb a b i)
    ∙ ap (λ (z : List _). x ∷ z) (ap (λ (j : ℕ). bin_of (set bs b xs) j) i ∙ get_or-set_same bs b xs [] (there-bin bs b p))
    ∙ sym e ∙ ap (λ (j : ℕ). bin_of bs j) (sym i))
    (λ i. ap (λ (t : Bool). cond t (x ∷ []) [] ++ bin_of (set bs b xs) a) (ne_eqb a b i) ∙ get_or-set_other bs b a xs [] i)
    (cases_eq a b)

-- One call.
step-order : {L : Type 0} (d t : ℕ) (bs : List (List L)) (a : ℕ) (c : RackCall L)
    → taken_by bs a c ++ bin_of (next_of d t bs c) a ≡ bin_of bs a ++ added_by d t bs a c
unfolding put_of take_of
step-order d t bs a (Put b x) = put_step (no_bin bs b) (is_full bs d t b) bs b a x refl
step-order d t bs a (Take b) = take_step (no_bin bs b) (bin_of bs b) bs b a refl refl ∙ sym (append-nil (bin_of bs a))
step-order d t bs a (Count b) = sym (append-nil (bin_of bs a))

-- Every sequence of calls, from any bins.
pub all-order : {L : Type 0} (d t : ℕ) (bs : List (List L)) (a : ℕ) (cs : List (RackCall L))
    → taken_from d t bs a cs ++ bin_of (after d t bs cs) a ≡ bin_of bs a ++ put_into d t bs a cs
unfolding after put_into taken_from
all-order d t bs a [] = sym (append-nil (bin_of bs a))
all-order d t bs a (c ∷ cs) =
    let next = next_of d t bs c in
    append_assoc (taken_by bs a c) (taken_from d t next a cs) (bin_of (after d t next cs) a)
    ∙ ap (λ (z : List _). taken_by bs a c ++ z) (all-order d t next a cs)
    ∙ sym (append_assoc (taken_by bs a c) (bin_of next a) (put_into d t next a cs))
    ∙ ap (λ (z : List _). z ++ put_into d t next a cs) (step-order d t bs a c)
    ∙ append_assoc (bin_of bs a) (added_by d t bs a c) (put_into d t next a cs)

-- From an empty rack: what was in the bin is nothing.
pub first-in-first-out : {L : Type 0} (d t : ℕ) (bs : List (List L)) (a : ℕ) (cs : List (RackCall L)) → is_empty bs ≡ true
    → taken_from d t bs a cs ++ bin_of (after d t bs cs) a ≡ put_into d t bs a cs
first-in-first-out d t bs a cs e =
    all-order d t bs a cs ∙ ap (λ (z : List _). z ++ put_into d t bs a cs) (bin-of-none bs a (eqb-true (held_in bs) 0 e))

-- The calls from i on lead to the same bins, once the i-th of them is made.
after-cons : {L : Type 0} (d t : ℕ) (bs : List (List L)) (c : RackCall L) (cs : List (RackCall L)) → after d t bs (c ∷ cs) ≡ after d t (next_of d t bs c) cs
unfolding after
after-cons d t bs c cs = refl

pub one_on : {L : Type 0} (d t d2 t2 : ℕ) (bs next last : List (List L)) (cs : List (RackCall L)) (i : ℕ) (c : RackCall L)
    → i < length cs → c ≡ get_or cs i c → d2 ≡ d → t2 ≡ t → next ≡ next_of d2 t2 bs c → after d t bs (drop i cs) ≡ last → after d t next (drop (i + 1) cs) ≡ last
one_on d t d2 t2 bs next last cs i c h e p q n all =
    let rest = drop (i + 1) cs in
    ap (λ (z : List (List _)). after d t z rest) (n ∙ ap (λ (z : ℕ). next_of z t2 bs c) p ∙ ap (λ (z : ℕ). next_of d z bs c) q)
    ∙ sym (after-cons d t bs c rest)
    ∙ ap (λ (z : RackCall _). after d t bs (z ∷ rest)) e
    ∙ ap (λ (z : List (RackCall _)). after d t bs z) (sym (drop_more cs i c h))
    ∙ all

pub all_made : {L : Type 0} (d t : ℕ) (bs : List (List L)) (cs : List (RackCall L)) (i : ℕ) → length cs ≤ i → after d t bs (drop i cs) ≡ bs
unfolding after
all_made d t bs cs i h = ap (λ (z : List (RackCall _)). after d t bs z) (drop_all i cs h)
