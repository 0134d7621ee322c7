use Rattle.std.proofs.Common.{◌≡◌, ℕ, ◌≤◌, get_or, None, vec_items, vec_len, vec_capacity}
use Rattle.scripting.proofs.notes.Blank.new.Given as goal

abbrev pub invariant-loop : goal.invariant-loop
invariant-loop l = (128 ≤ vec_capacity l.places) × (vec_len l.places ≡ l.counter)
    × ((s : ℕ) → get_or (vec_items l.places) s None ≡ None)
