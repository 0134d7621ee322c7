-- Lemmas on the words of a line and on numerals.
use Rattle.std.proofs.Common.{◌≡◌, ℕ, suc, ◌+◌, ◌-◌, ◌*◌, ◌<◌, ◌≤◌, Bool, true, false, cond, not, ◌&&◌, eqb, List, [], ◌∷◌, length, get_or, take, drop, Some, None, Ok, Option, sym, refl, ap, ◌∙◌, arith}
use Rattle.std.proofs.lemmas.List.{at_drop_more, at_drop_all}
use Rattle.std.proofs.lemmas.Bool.{cond-true, cond-false, lt-leb, le-leb, true≢false}
use Rattle.std.specs.List.{prefix_len}
use Rattle.std.specs.Bool.{then_some}
use Rattle.std.specs.Option.{option_map}
use Rattle.scripting.specs.Words.{is_gap, past_gaps, until_gap, from_gap, first_word, after_word}
use Rattle.scripting.specs.Readings.{is_empty, reading, onward, ended, last_in, says_nothing, understood, line_of}
use Rattle.scripting.specs.Numerals.{is_digit, all_digits, decimal, digits_after, numeral}

one-more : (n : ℕ) → 1 + n ≡ suc n
one-more n = omega arith

gap-by : (t : Bool) (b : ℕ) (bs : List ℕ) → drop (prefix_len is_gap bs) bs ≡ past_gaps bs
    → drop (cond t (1 + prefix_len is_gap bs) 0) (b ∷ bs) ≡ cond t (past_gaps bs) (b ∷ bs)
gap-by true b bs e = ap (λ k. drop k (b ∷ bs)) (one-more (prefix_len is_gap bs)) ∙ e
gap-by false b bs e = refl

-- What is left after the gap that a line begins with.
pub gap-drop : (bs : List ℕ) → drop (prefix_len is_gap bs) bs ≡ past_gaps bs
unfolding past_gaps
gap-drop [] = refl
gap-drop (b ∷ bs) = gap-by (is_gap b) b bs (gap-drop bs)

abbrev in_word : ℕ → Bool
in_word b = not (is_gap b)

word-by : (t : Bool) (b : ℕ) (bs : List ℕ) → take (prefix_len in_word bs) bs ≡ until_gap bs
    → take (cond (not t) (1 + prefix_len in_word bs) 0) (b ∷ bs) ≡ cond t [] (b ∷ until_gap bs)
word-by true b bs e = refl
word-by false b bs e = ap (λ k. take k (b ∷ bs)) (one-more (prefix_len in_word bs)) ∙ ap (λ xs. b ∷ xs) e

-- The word up to the next gap, and what follows it.
pub word-take : (bs : List ℕ) → take (prefix_len in_word bs) bs ≡ until_gap bs
unfolding until_gap
word-take [] = refl
word-take (b ∷ bs) = word-by (is_gap b) b bs (word-take bs)

rest-by : (t : Bool) (b : ℕ) (bs : List ℕ) → drop (prefix_len in_word bs) bs ≡ from_gap bs
    → drop (cond (not t) (1 + prefix_len in_word bs) 0) (b ∷ bs) ≡ cond t (b ∷ bs) (from_gap bs)
rest-by true b bs e = refl
rest-by false b bs e = ap (λ k. drop k (b ∷ bs)) (one-more (prefix_len in_word bs)) ∙ e

pub word-drop : (bs : List ℕ) → drop (prefix_len in_word bs) bs ≡ from_gap bs
unfolding from_gap
word-drop [] = refl
word-drop (b ∷ bs) = rest-by (is_gap b) b bs (word-drop bs)

pub digit-more : (most n : ℕ) (bs : List ℕ) (i : ℕ) → i < length bs → is_digit (get_or bs i 0) ≡ true
    → digits_after most (n * 10 + (get_or bs i 0 - 48)) (drop (i + 1) bs) ≡ digits_after most n (drop i bs)
unfolding digits_after all_digits decimal
digit-more most n bs i h d = sym (at_drop_more (digits_after most n) bs i 0 h ∙ rw d)

pub digit-stop : (most n : ℕ) (bs : List ℕ) (i : ℕ) → i < length bs → is_digit (get_or bs i 0) ≡ false → None ≡ digits_after most n (drop i bs)
unfolding digits_after all_digits decimal
digit-stop most n bs i h d = sym (at_drop_more (digits_after most n) bs i 0 h ∙ rw d)

pub digit-end : (most n : ℕ) (bs : List ℕ) (i : ℕ) → length bs ≤ i → n ≤ most → Some n ≡ digits_after most n (drop i bs)
unfolding digits_after all_digits decimal
digit-end most n bs i h l = sym (at_drop_all (digits_after most n) bs i h ∙ cond-true _ _ _ (le-leb n most l))

decimal-grows : (n : ℕ) (bs : List ℕ) → n ≤ decimal n bs
unfolding decimal
decimal-grows n [] = omega arith
decimal-grows n (b ∷ bs) = omega (arith, decimal-grows (n * 10 + (b - 48)) bs)

over : (t : Bool) (x : Option ℕ) (u : Bool) → u ≡ false → None ≡ cond (t && u) x None
over true x u e = rw e
over false x u e = refl

pub digits-over : (most n : ℕ) (bs : List ℕ) → most < n → None ≡ digits_after most n bs
unfolding digits_after
digits-over most n bs h =
    let g = decimal-grows n bs in
    let l : most < decimal n bs = omega arith in
    over (all_digits bs) _ _ (lt-leb (decimal n bs) most l)

-- A word that is not empty is read as its digits.
pub worded : (most : ℕ) (bs : List ℕ) → eqb (length bs) 0 ≡ false → digits_after most 0 bs ≡ numeral most bs
worded most [] h = absurd (true≢false h)
worded most (b ∷ bs) h = refl

-- A test that is met, and one that is not.
pub hit : {A : Type 0} (t : Bool) (x y o : A) → true ≡ t → o ≡ x → o ≡ cond t x y
hit t x y o e f = f ∙ sym (cond-true t x y (sym e))

pub miss : {A : Type 0} (t : Bool) (x y o : A) → false ≡ t → o ≡ y → o ≡ cond t x y
miss t x y o e f = f ∙ sym (cond-false t x y (sym e))

-- A reading that stops at a word that says nothing of use, and one that goes on past one.
pub stopped : {X C : Type 0} (read : List ℕ → Option X) (bs : List ℕ) (more : X → List ℕ → Option C) → None ≡ read (first_word bs)
    → None ≡ reading read bs more
unfolding reading
stopped read bs more e = ap (λ o. onward o (λ x. more x (after_word bs))) e

pub went_on : {X C : Type 0} (read : List ℕ → Option X) (bs : List ℕ) (more : X → List ℕ → Option C) (x : X) (rest : List ℕ) → Some x ≡ read (first_word bs)
    → rest ≡ after_word bs → more x rest ≡ reading read bs more
unfolding reading
went_on read bs more x rest e f = ap (more x) f ∙ ap (λ o. onward o (λ x. more x (after_word bs))) e

-- A command made of the last word.
by-cases : {X C : Type 0} (f : X → C) (x : X) (t : Bool) → option_map f (cond t (Some x) None) ≡ cond t (Some (f x)) None
by-cases f x true = refl
by-cases f x false = refl

made-ended : {X C : Type 0} (f : X → C) (bs : List ℕ) (x : X) → option_map f (ended bs x) ≡ ended bs (f x)
unfolding ended
made-ended f bs x = by-cases f x (is_empty (first_word bs))

made-by : {X C : Type 0} (command : X → C) (o : Option X) (bs : List ℕ)
    → option_map command (onward o (λ x. ended bs x)) ≡ onward o (λ x. ended bs (command x))
made-by command None bs = refl
made-by command (Some x) bs = made-ended command bs x

pub made : {X C : Type 0} (read : List ℕ → Option X) (command : X → C) (bs : List ℕ)
    → option_map command (last_in read bs) ≡ reading read bs (λ x r. ended r (command x))
unfolding last_in reading
made read command bs = made-by command (read (first_word bs)) (after_word bs)

-- A line by its first word and what follows it.
pub silent : {C : Type 0} (command_in : List ℕ → List ℕ → Option C) (line from w : List ℕ) → from ≡ line → w ≡ first_word from → true ≡ says_nothing w
    → Ok None ≡ line_of command_in line
unfolding line_of
silent command_in line from w e f s = sym (cond-true _ _ _ (sym (s ∙ ap says_nothing (f ∙ ap first_word e))))

pub spoken : {C : Type 0} (command_in : List ℕ → List ℕ → Option C) (line from w rest : List ℕ) (o : Option C) → from ≡ line → w ≡ first_word from
    → rest ≡ after_word from → false ≡ says_nothing w → o ≡ command_in w rest → understood record {} o ≡ line_of command_in line
unfolding line_of
spoken command_in line from w rest o e f g s h =
    ap (understood record {}) (h ∙ ap (λ x. command_in x rest) (f ∙ ap first_word e) ∙ ap (command_in (first_word line)) (g ∙ ap after_word e))
    ∙ sym (cond-false _ _ _ (sym (s ∙ ap says_nothing (f ∙ ap first_word e))))

pub then-some : {A : Type 0} (t : Bool) (x : A) → then_some t x ≡ cond t (Some x) None
then-some true x = refl
then-some false x = refl
