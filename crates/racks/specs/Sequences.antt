-- Every sequence of calls on a rack: what was put into a bin, what was taken from it, what is in it.
use Rattle.std.specs.Prelude.{◌≡◌, ℕ, cond, ◌&&◌, List, [], ◌∷◌, ◌++◌, is_ok, Some, None, Ok, Err, Option, Result, ◌==◌}
use Rattle.racks.specs.declared.faults.RackFault.{RackFault}
use Rattle.racks.specs.declared.calls.RackCall.{RackCall}
use Rattle.racks.specs.declared.calls.RackCall.TheVariants.{Put, Take, Count}
use Rattle.racks.specs.Bins.{bin_of, put_of, take_of}

-- The bins after a call, with any values and accepted or not.
abbrev pub next_of : {L : Type 0} → (depth total : ℕ) → List (List L) → RackCall L → List (List L)
next_of d t bs (Put b x) = (put_of bs d t b x).1
next_of d t bs (Take b) = (take_of bs b).1
next_of d t bs (Count b) = bs

-- The load that a call adds to a bin: that of an accepted put into it.
abbrev pub added_by : {L : Type 0} → (depth total : ℕ) → List (List L) → (bin : ℕ) → RackCall L → List L
added_by d t bs a (Put b x) = cond (a == b && is_ok (put_of bs d t b x).0) (x ∷ []) []
added_by d t bs a (Take b) = []
added_by d t bs a (Count b) = []

-- The load that a take answered, if it answered one.
abbrev pub answered : {L : Type 0} → Result (Option L) RackFault → List L
answered (Ok (Some x)) = x ∷ []
answered (Ok None) = []
answered (Err f) = []

-- The load that a call takes from a bin: what a take from it answered.
abbrev pub taken_by : {L : Type 0} → List (List L) → (bin : ℕ) → RackCall L → List L
taken_by bs a (Put b x) = []
taken_by bs a (Take b) = cond (a == b) (answered (take_of bs b).0) []
taken_by bs a (Count b) = []

-- Calls in the order in which they are made: the bins after them, and the loads that they put into and took from a bin, in order.
unfoldable pub after : {L : Type 0} → (depth total : ℕ) → List (List L) → List (RackCall L) → List (List L)
after d t bs [] = bs
after d t bs (c ∷ cs) = after d t (next_of d t bs c) cs

unfoldable pub put_into : {L : Type 0} → (depth total : ℕ) → List (List L) → (bin : ℕ) → List (RackCall L) → List L
put_into d t bs a [] = []
put_into d t bs a (c ∷ cs) = added_by d t bs a c ++ put_into d t (next_of d t bs c) a cs

unfoldable pub taken_from : {L : Type 0} → (depth total : ℕ) → List (List L) → (bin : ℕ) → List (RackCall L) → List L
taken_from d t bs a [] = []
taken_from d t bs a (c ∷ cs) = taken_by bs a c ++ taken_from d t (next_of d t bs c) a cs

-- First in, first out, nothing lost and nothing twice. Of calls that led from bins bs to bins last, for every bin:
-- the loads taken from it, followed by those in it, are the loads put into it, in order.
abbrev pub FirstInFirstOut : {L : Type 0} → (depth total : ℕ) → List (List L) → List (RackCall L) → (last : List (List L)) → Type 0
FirstInFirstOut d t bs cs last = (bin : ℕ) → taken_from d t bs bin cs ++ bin_of last bin ≡ put_into d t bs bin cs
