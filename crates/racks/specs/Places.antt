-- A rack as a list of places and a lay: for each bin the numbers of its places, oldest first.
use Rattle.std.specs.Prelude.{◌≡◌, ℕ, zero, suc, ◌<◌, cond, List, [], ◌∷◌, ◌++◌, map, length, Ok, Err, Result, ◌≢◌, nat_le, slice_index}
use Rattle.std.specs.List.{range_with_len}
use Rattle.racks.specs.declared.faults.RackFault.{RackFault}
use Rattle.racks.specs.Bins.{bin_of, put_of}

-- A lay from the places of each bin.
unfoldable pub tabled : (bins : ℕ) → (ℕ → List ℕ) → List (List ℕ)
tabled n f = map f (range_with_len 0 n)

-- The k-th place of a bin, where it has so many.
abbrev pub place_in : List (List ℕ) → (bin k : ℕ) → ℕ
place_in lay b k = slice_index (bin_of lay b) k

-- No bin has the place j.
abbrev pub FreshIn : (place : ℕ) → List (List ℕ) → Type 0
FreshIn j lay = (b k : ℕ) → b < length lay → k < length (bin_of lay b) → place_in lay b k ≢ j

-- Every place of the lay is below room.
abbrev pub Within : (room : ℕ) → List (List ℕ) → Type 0
Within room lay = (b k : ℕ) → b < length lay → k < length (bin_of lay b) → place_in lay b k < room

-- A lay is a rack of place numbers. A free place, below room, is put into the bin; or it is refused as any put there would be.
abbrev pub Given : List (List ℕ) → (depth total room bin : ℕ) → Result ℕ RackFault → List (List ℕ) → Type 0
Given lay d t room b (Ok j) next = (put_of lay d t b j ≡ (Ok tt, next)) × FreshIn j lay × (j < room)
Given lay d t room b (Err f) next = put_of lay d t b 0 ≡ (Err f, next)

-- What stands at one place: a list of one, or none past the end.
abbrev pub at : {L : Type 0} → List L → ℕ → List L
at [] i = []
at (p ∷ ps) zero = p ∷ []
at (p ∷ ps) (suc i) = at ps i

-- The loads at the places of one bin.
abbrev pub picked : {L : Type 0} → List L → List ℕ → List L
picked ps [] = []
picked ps (i ∷ is) = at ps i ++ picked ps is

abbrev pub nothing : {L : Type 0} → List ℕ → List L
nothing is = []

-- The bins that a lay makes of a list of places. Where the list is too short for the lay they are empty,
-- and so that nothing is put into them the total is then 0.
unfoldable pub bins_over : {L : Type 0} → (room : ℕ) → List L → List (List ℕ) → List (List L)
bins_over room ps lay = cond (nat_le room (length ps)) (map (picked ps) lay) (map nothing lay)

unfoldable pub total_over : {L : Type 0} → (room : ℕ) → List L → ℕ → ℕ
total_over room ps t = cond (nat_le room (length ps)) t 0
