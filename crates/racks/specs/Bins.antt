-- The bins of a rack as lists of loads, oldest first, and for every call its answer and the next bins.
use Rattle.std.specs.Prelude.{ℕ, ◌+◌, Bool, true, false, not, ◌||◌, List, [], ◌∷◌, ◌++◌, length, replicate, Some, None, Ok, Err, Option, Result, ◌==◌, nat_le, nat_lt, slice_index_or, slice_set}
use Rattle.racks.specs.declared.faults.RackFault.{RackFault}
use Rattle.racks.specs.declared.faults.RackFault.TheVariants.{NotThere, Full}

abbrev pub bin_of : {L : Type 0} → List (List L) → (bin : ℕ) → List L
bin_of bs b = slice_index_or bs b []

-- The loads in all bins together.
abbrev pub held_in : {L : Type 0} → List (List L) → ℕ
held_in [] = 0
held_in (b ∷ bs) = length b + held_in bs

abbrev pub is_empty : {L : Type 0} → List (List L) → Bool
is_empty bs = held_in bs == 0

-- So many bins with nothing in them.
abbrev pub empty_bins : {L : Type 0} → (bins : ℕ) → List (List L)
empty_bins n = replicate n []

abbrev pub no_bin : {L : Type 0} → List (List L) → (bin : ℕ) → Bool
no_bin bs b = not (nat_lt b (length bs))

-- The bin holds depth loads, or all bins together hold total.
abbrev pub is_full : {L : Type 0} → List (List L) → (depth total bin : ℕ) → Bool
is_full bs d t b = nat_le d (length (bin_of bs b)) || nat_le t (held_in bs)

-- The bins with a load at the end of one of them.
abbrev pub added : {L : Type 0} → List (List L) → (bin : ℕ) → L → List (List L)
added bs b x = slice_set bs b (bin_of bs b ++ (x ∷ []))

-- Put: the bin is there; the rack is not full. The load is added at the end.
abbrev pub put_by : {L : Type 0} → (none full : Bool) → List (List L) → (bin : ℕ) → L → Result (Unit {0}) RackFault × List (List L)
put_by true full bs b x = (Err NotThere, bs)
put_by false true bs b x = (Err Full, bs)
put_by false false bs b x = (Ok tt, added bs b x)

unfoldable pub put_of : {L : Type 0} → List (List L) → (depth total bin : ℕ) → L → Result (Unit {0}) RackFault × List (List L)
put_of bs d t b x = put_by (no_bin bs b) (is_full bs d t b) bs b x

-- Take: the bin is there. The oldest load is removed and given, if there is one.
abbrev pub take_by : {L : Type 0} → (none : Bool) → List L → List (List L) → (bin : ℕ) → Result (Option L) RackFault × List (List L)
take_by true xs bs b = (Err NotThere, bs)
take_by false [] bs b = (Ok None, bs)
take_by false (x ∷ xs) bs b = (Ok (Some x), slice_set bs b xs)

unfoldable pub take_of : {L : Type 0} → List (List L) → (bin : ℕ) → Result (Option L) RackFault × List (List L)
take_of bs b = take_by (no_bin bs b) (bin_of bs b) bs b

-- Count: the bin is there. Nothing changes.
abbrev pub count_by : (none : Bool) → ℕ → Result ℕ RackFault
count_by true n = Err NotThere
count_by false n = Ok n

unfoldable pub count_of : {L : Type 0} → List (List L) → (bin : ℕ) → Result ℕ RackFault
count_of bs b = count_by (no_bin bs b) (length (bin_of bs b))
