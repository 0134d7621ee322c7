-- A line read word by word.
use Rattle.std.specs.Prelude.{ℕ, Bool, true, false, cond, List, [], ◌∷◌, Some, None, Ok, Err, Option, Result, ◌==◌}
use Rattle.scripting.specs.declared.script.NotUnderstood.{NotUnderstood}
use Rattle.scripting.specs.Words.{first_word, after_word}
use Rattle.scripting.specs.Numerals.{numeral}

-- The largest number of each width.
abbrev pub u8 : ℕ
u8 = 255

abbrev pub u16 : ℕ
u16 = 65535

abbrev pub u32 : ℕ
u32 = 4294967295

abbrev pub u64 : ℕ
u64 = 18446744073709551615

abbrev pub onward : {X C : Type 0} → Option X → (X → Option C) → Option C
onward None more = None
onward (Some x) more = more x

-- The next word is read, and with what it says and what follows it the reading goes on.
unfoldable pub reading : {X C : Type 0} → (List ℕ → Option X) → List ℕ → (X → List ℕ → Option C) → Option C
reading read bs more = onward (read (first_word bs)) (λ x. more x (after_word bs))

-- The next word is a number.
abbrev pub number : {C : Type 0} → (most : ℕ) → List ℕ → (ℕ → List ℕ → Option C) → Option C
number most = reading (numeral most)

abbrev pub is_empty : List ℕ → Bool
is_empty [] = true
is_empty (b ∷ bs) = false

-- No word is left.
unfoldable pub ended : {C : Type 0} → List ℕ → C → Option C
ended bs command = cond (is_empty (first_word bs)) (Some command) None

-- The next word is read, and no word is left after it.
unfoldable pub last_in : {X : Type 0} → (List ℕ → Option X) → List ℕ → Option X
last_in read bs = reading read bs (λ x r. ended r x)

-- A command with one number.
unfoldable pub one_in : {C : Type 0} → (most : ℕ) → (ℕ → C) → List ℕ → Option C
one_in most command bs = number most bs (λ n r. ended r (command n))

abbrev pub understood : {C : Type 0} → NotUnderstood → Option C → Result (Option C) NotUnderstood
understood e (Some command) = Ok (Some command)
understood e None = Err e

-- A line without a word, and one whose first word begins with #, says nothing.
abbrev pub says_nothing : (word : List ℕ) → Bool
says_nothing [] = true
says_nothing (b ∷ bs) = b == 35

-- What a line says, where a first word and what follows it say what a command is.
unfoldable pub line_of : {C : Type 0} → (List ℕ → List ℕ → Option C) → List ℕ → Result (Option C) NotUnderstood
line_of command_in bs = cond (says_nothing (first_word bs)) (Ok None) (understood record {} (command_in (first_word bs) (after_word bs)))
