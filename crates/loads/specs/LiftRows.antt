-- A lift row from its parts, and its hooks by number.
use Rattle.std.specs.Prelude.{ℕ, cond, List, Some, None, Option, nat_lt, slice_index_or}
use Rattle.loads.specs.declared.lifts.Hook.{Hook}
use Rattle.loads.specs.declared.lifts.Hook.TheVariants.{Up}
use Rattle.loads.specs.declared.lifts.LiftRow.{LiftRow}

abbrev pub row_of : (stream pick : ℕ) → List Hook → LiftRow
row_of s p h = record { stream = s; pick = p; hooks = h }

-- The hooks are numbered 0 to 63, so what stands past the list is never seen.
abbrev pub hook_at : List Hook → (number : ℕ) → Option Hook
hook_at h n = cond (nat_lt n 64) (Some (slice_index_or h n Up)) None
