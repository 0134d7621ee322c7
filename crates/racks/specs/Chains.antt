-- The lay of the cells: each bin is a chain of places, each of which names the next; one more chain has the free ones.
use Rattle.std.specs.Prelude.{◌≡◌, ℕ, zero, suc, ◌+◌, ◌-◌, ◌<◌, ◌≤◌, cond, List, [], ◌∷◌, ◌++◌, drop, map, ◌==◌, ◌≢◌, slice_index}
use Rattle.racks.specs.declared.chains.Chain.{Chain}
use Rattle.racks.specs.Places.{tabled}

-- So many places from the first on, each named by the one before.
abbrev pub chain : (next : List ℕ) → (first count : ℕ) → List ℕ
chain next h zero = []
chain next h (suc u) = h ∷ chain next (slice_index next h) u

-- Of each chain its first and last place, and how many it has.
abbrev pub firsts_of : List Chain → List ℕ
firsts_of chains = map (λ c. c.first) chains

abbrev pub lasts_of : List Chain → List ℕ
lasts_of chains = map (λ c. c.last) chains

abbrev pub counts_of : List Chain → List ℕ
counts_of chains = map (λ c. c.count) chains

abbrev pub chain_of : (next firsts counts : List ℕ) → (list : ℕ) → List ℕ
chain_of next firsts counts a = chain next (slice_index firsts a) (slice_index counts a)

abbrev pub cells_lay : (n : ℕ) → (next firsts counts : List ℕ) → List (List ℕ)
cells_lay n next firsts counts = tabled n (chain_of next firsts counts)

-- How often a place stands in a list, and in all lists.
abbrev pub times : (place : ℕ) → List ℕ → ℕ
times j [] = 0
times j (x ∷ xs) = cond (x == j) 1 0 + times j xs

abbrev pub times_in : (place : ℕ) → List (List ℕ) → ℕ
times_in j [] = 0
times_in j (xs ∷ xss) = times j xs + times_in j xss

-- No place stands twice in a lay.
abbrev pub Once : List (List ℕ) → Type 0
Once lay = (j : ℕ) → times_in j lay ≤ 1

-- No place from room on stands in a lay.
abbrev pub Inside : (room : ℕ) → List (List ℕ) → Type 0
Inside room lay = (j : ℕ) → room ≤ j → times_in j lay ≡ 0

-- The last place of each list that has one is written down.
abbrev pub Ends : (n : ℕ) → (next firsts lasts counts : List ℕ) → Type 0
Ends n next firsts lasts counts = (a : ℕ) → a < n → 0 < slice_index counts a → slice_index lasts a ≡ slice_index (chain_of next firsts counts a) (slice_index counts a - 1)

-- The first place of one list has gone to the end of another, and no other list has changed.
pub record Moved (n : ℕ) (f g : ℕ → List ℕ) (from to place : ℕ) : Type 0 where
  pub headed : f from ≡ place ∷ drop 1 (f from)
  pub left : g from ≡ drop 1 (f from)
  pub joined : g to ≡ f to ++ (place ∷ [])
  pub others : (a : ℕ) → a < n → (a ≢ from) → (a ≢ to) → g a ≡ f a
