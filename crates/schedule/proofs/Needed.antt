-- The room that settings need, one class after the other.
use Rattle.std.proofs.Common.{◌≡◌, ℕ, ◌+◌, ◌*◌, ◌/◌, ◌<◌, ◌≤◌, ap, div-lt_iff_lt-mul, add-one, arith}
use Rattle.book.specs.Told.{SetNumbers, bins_of}
use Rattle.schedule.specs.Bins.{bins_before, most_loads, most_below}

-- No cycle carries more loads than the longest.
pub few-loads : (cycle : ℕ) → cycle ≤ 1048576 → cycle / 84 ≤ 12483
few-loads cycle h = let l : cycle / 84 < 12484 = (div-lt_iff_lt-mul {k = 84} (omega arith)).1 (omega arith) in omega arith

module _ (s : SetNumbers) (c : ℕ) where
  pub bins-more : bins_before s (c + 1) ≡ bins_before s c + bins_of s c
  unfolding bins_before
  bins-more = ap (bins_before s) (add-one c)

  pub most-more : most_below s (c + 1) ≡ most_below s c + bins_of s c * most_loads s c
  unfolding most_below
  most-more = ap (most_below s) (add-one c)
