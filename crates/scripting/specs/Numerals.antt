-- Numerals: one or more decimal digits.
use Rattle.std.specs.Prelude.{ℕ, ◌+◌, ◌-◌, ◌*◌, Bool, true, cond, ◌&&◌, List, [], ◌∷◌, Some, None, Option, nat_le}

abbrev pub is_digit : ℕ → Bool
is_digit b = nat_le 48 b && nat_le b 57

unfoldable pub all_digits : List ℕ → Bool
all_digits [] = true
all_digits (b ∷ bs) = is_digit b && all_digits bs

-- The number that digits write on after a number.
unfoldable pub decimal : ℕ → List ℕ → ℕ
decimal n [] = n
decimal n (b ∷ bs) = decimal (n * 10 + (b - 48)) bs

-- That number, if there are only digits and it is at most so much.
unfoldable pub digits_after : (most n : ℕ) → List ℕ → Option ℕ
digits_after most n bs = cond (all_digits bs && nat_le (decimal n bs) most) (Some (decimal n bs)) None

abbrev pub numeral : (most : ℕ) → List ℕ → Option ℕ
numeral most [] = None
numeral most (b ∷ bs) = digits_after most 0 (b ∷ bs)
