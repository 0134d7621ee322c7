-- The words of a line: runs of bytes between gaps of spaces and tabs.
use Rattle.std.specs.Prelude.{ℕ, Bool, cond, ◌||◌, List, [], ◌∷◌, ◌==◌}

-- A space or a tab.
abbrev pub is_gap : ℕ → Bool
is_gap b = b == 32 || b == 9

unfoldable pub past_gaps : List ℕ → List ℕ
past_gaps [] = []
past_gaps (b ∷ bs) = cond (is_gap b) (past_gaps bs) (b ∷ bs)

-- The bytes up to the next gap, and what follows them.
unfoldable pub until_gap : List ℕ → List ℕ
until_gap [] = []
until_gap (b ∷ bs) = cond (is_gap b) [] (b ∷ until_gap bs)

unfoldable pub from_gap : List ℕ → List ℕ
from_gap [] = []
from_gap (b ∷ bs) = cond (is_gap b) (b ∷ bs) (from_gap bs)

-- The first word, empty where there is none, and what follows it.
abbrev pub first_word : List ℕ → List ℕ
first_word bs = until_gap (past_gaps bs)

abbrev pub after_word : List ℕ → List ℕ
after_word bs = from_gap (past_gaps bs)
