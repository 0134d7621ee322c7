-- What a call on a rack answers, as a value.
use Rattle.std.specs.Prelude.{ℕ, List}
use Rattle.racks.specs.declared.calls.RackCall.{RackCall}
use Rattle.racks.specs.declared.calls.RackCall.TheVariants.{Put, Take, Count}
use Rattle.racks.specs.declared.calls.RackAnswer.{RackAnswer}
use Rattle.racks.specs.declared.calls.RackAnswer.TheVariants.{WasPut, Taken, Counted}
use Rattle.racks.specs.Bins.{put_of, take_of, count_of}

abbrev pub answer_of : {L : Type 0} → (depth total : ℕ) → List (List L) → RackCall L → RackAnswer L
answer_of d t bs (Put b x) = WasPut (put_of bs d t b x).0
answer_of d t bs (Take b) = Taken (take_of bs b).0
answer_of d t bs (Count b) = Counted (count_of bs b)
