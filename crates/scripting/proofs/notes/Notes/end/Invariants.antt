use Rattle.std.proofs.Common.{◌≡◌, ℕ, ◌<◌, get_or, None, vec_items, vec_len}
use Rattle.scripting.proofs.notes.Notes.end.Given as goal

abbrev pub invariant-loop-place : goal.invariant-loop-place
invariant-loop-place l = (s : ℕ) → s < vec_len l.places → get_or (vec_items l.places) s None ≡ None

abbrev pub decreases-loop-place : goal.decreases-loop-place
decreases-loop-place l = vec_len l.places
