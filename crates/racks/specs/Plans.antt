-- What a rack is told when it is made, and the checks in their order.
use Rattle.std.specs.Prelude.{◌≡◌, ℕ, ◌*◌, Bool, cond, not, ◌&&◌, Some, None, Ok, Err, Option, Result, nat_le, nat_lt}
use Rattle.racks.specs.declared.faults.RackFault.{RackFault}
use Rattle.racks.specs.declared.faults.RackFault.TheVariants.{OutOfLimits, TooFewPlaces}
use Rattle.racks.specs.declared.plan.Numbers.{Numbers}
use Rattle.racks.specs.declared.plan.Plan.{Plan}

-- Between two limits, both included.
abbrev pub inside : (low high x : ℕ) → Bool
inside l h x = nat_le l x && nat_le x h

-- 1 to 32 bins; a depth and a total of 1 to 2^20.
abbrev pub within_limits : (bins depth total : ℕ) → Bool
within_limits b d t = inside 1 32 b && (inside 1 1048576 d && inside 1 1048576 t)

-- The numbers are within their limits; the lent list has the places that are needed.
abbrev pub plan_fault : (bins depth total needed places : ℕ) → Option RackFault
plan_fault b d t n p = cond (not (within_limits b d t)) (Some OutOfLimits) (cond (nat_lt p n) (Some TooFewPlaces) None)

-- Rows need depth places for each bin; cells need total places.
abbrev pub rows_need : (bins depth : ℕ) → ℕ
rows_need b d = b * d

-- The check accepts what keeps the rules and carries on just what was told; otherwise it names the first rule broken.
abbrev pub Planned : (fault : Option RackFault) → Numbers → Result Plan RackFault → Type 0
Planned f n (Ok p) = (f ≡ None) × (p.numbers ≡ n)
Planned f n (Err e) = f ≡ Some e
