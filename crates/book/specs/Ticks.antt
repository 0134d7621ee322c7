-- Ticks, cycles, the shift and the bins needed.
use Rattle.std.specs.Prelude.{ℕ, ◌+◌, ◌-◌, ◌*◌, ◌/◌, ◌≤◌, Bool, cond, ◌&&◌, Ok, Err, Result, nat_le, nat_lt}
use Rattle.book.specs.declared.faults.BookFault.{BookFault}
use Rattle.book.specs.declared.faults.BookFault.TheVariants.{OutOfLimits}

-- The last tick of a clock, 2^40 - 1.
abbrev pub last_tick : ℕ
last_tick = 1099511627775

-- A number between two limits, both included.
abbrev pub inside : ℕ → ℕ → ℕ → Bool
inside low high x = nat_le low x && nat_le x high

-- The cycle that holds a tick, and the first tick of a cycle, for cycles of so many ticks.
abbrev pub cycle_at : (cycle tick : ℕ) → ℕ
cycle_at cycle tick = tick / cycle

abbrev pub start_of : (cycle q : ℕ) → ℕ
start_of cycle q = q * cycle

-- The shift: 1 + (phase + delay) / cycle, the quotient rounded up.
abbrev pub shift : (delay cycle phase : ℕ) → ℕ
shift delay cycle phase = 1 + (phase + delay + (cycle - 1)) / cycle

abbrev pub bins_needed : (delay cycle phase : ℕ) → ℕ
bins_needed delay cycle phase = shift delay cycle phase + 1

-- The numbers for which bins needed are told.
abbrev pub bins_told : (delay cycle phase : ℕ) → Bool
bins_told delay cycle phase = nat_le delay 65535 && inside 2000 1048576 cycle && nat_lt phase cycle

abbrev pub bins_answer : (delay cycle phase : ℕ) → Result ℕ BookFault
bins_answer delay cycle phase = cond (bins_told delay cycle phase) (Ok (bins_needed delay cycle phase)) (Err OutOfLimits)

-- A frame of input cycle i has come in whole before phase + (i + 1) * cycle and is handed over at most delay later.
-- With so many bins that is before the cycle in which it leaves, i + bins - 1, begins; no smaller shift does for any i.
pub record Fewest (delay cycle phase bins : ℕ) : Type 0 where
  pub enough : (i : ℕ) → phase + (i + 1) * cycle + delay ≤ start_of cycle (i + (bins - 1))
  pub least : (i shift : ℕ) → phase + (i + 1) * cycle + delay ≤ start_of cycle (i + shift) → bins ≤ shift + 1
