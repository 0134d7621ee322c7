use Rattle.std.proofs.Common.{ℕ, ◌<◌, take}
use Rattle.line.specs.Paths.{leg_at, Follows}
use Rattle.line.proofs.paths.travels.Given as goal

-- Each leg so far follows those before it.
abbrev pub invariant-loop-i : goal.invariant-loop-i
invariant-loop-i g l = (j : ℕ) → j < l.i → Follows g.B.Bank l.bank (take j l.legs) (leg_at l.legs j)
