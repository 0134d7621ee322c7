-- What set is told, and the rules for it.
use Rattle.std.specs.Prelude.{◌≡◌, ℕ, zero, suc, ◌+◌, ◌-◌, ◌*◌, ◌/◌, ◌%◌, ◌<◌, ◌≤◌, Bool, true, not, ◌&&◌, List, [], ◌∷◌, length, get_or, Some, None, Option, ◌==◌, nat_le, nat_lt, slice_index, slice_index_or}
use Rattle.book.specs.declared.faults.BookFault.{BookFault}
use Rattle.book.specs.declared.faults.BookFault.TheVariants.{NotInNumber, OutOfLimits, TooFewBins}
use Rattle.book.specs.declared.setup.Class.{Class}
use Rattle.book.specs.declared.setup.Setup.{Setup}
use Rattle.book.specs.Faults.{first_hit, check}
use Rattle.book.specs.Ticks.{inside, shift, bins_needed}

-- All that set is told of a book: its number, the longest hand-over delay, the dead time before each cycle's end,
-- the classes from the fastest on, and the phase of each input.
pub record SetNumbers : Type 0 where
  pub number : ℕ
  pub delay : ℕ
  pub dead_time : ℕ
  pub classes : List Class
  pub phases : List ℕ

abbrev pub told : (number delay dead_time : ℕ) → List Class → List ℕ → SetNumbers
told n d z cs ps = record { number = n; delay = d; dead_time = z; classes = cs; phases = ps }

abbrev pub told_by : Setup → SetNumbers
told_by s = told s.number s.delay s.dead_time s.classes.now s.phases.now

abbrev pub no_class : Class
no_class = record { cycle = 0; bins = 0 }

abbrev pub class_count : SetNumbers → ℕ
class_count s = length s.classes

abbrev pub input_count : SetNumbers → ℕ
input_count s = length s.phases

-- The cycle time and the bins of a class, by its number.
abbrev pub cycle_in : List Class → ℕ → ℕ
cycle_in cs c = (get_or cs c no_class).cycle

abbrev pub bins_in : List Class → ℕ → ℕ
bins_in cs c = (get_or cs c no_class).bins

abbrev pub cycle_of : SetNumbers → ℕ → ℕ
cycle_of s = cycle_in s.classes

abbrev pub bins_of : SetNumbers → ℕ → ℕ
bins_of s = bins_in s.classes

-- The slowest class is the last.
abbrev pub slowest : List Class → ℕ
slowest cs = cycle_in cs (length cs - 1)

-- The phase of an input in the cycles of a class.
abbrev pub phase_of : SetNumbers → (class input : ℕ) → ℕ
phase_of s c i = slice_index s.phases i % cycle_of s c

abbrev pub shift_of : SetNumbers → (class input : ℕ) → ℕ
shift_of s c i = shift s.delay (cycle_of s c) (phase_of s c i)

-- A test of every number below a bound.
unfoldable pub all_below : (ℕ → Bool) → ℕ → Bool
all_below p zero = true
all_below p (suc n) = all_below p n && p n

-- A cycle is a whole number of times the one before, 2 to 64.
abbrev pub whole_times : (before cycle : ℕ) → Bool
whole_times before cycle = cycle % before == 0 && inside 2 64 (cycle / before)

-- The first cycle is at least 2,000 ticks, a later one a multiple of the one before.
abbrev pub step_fits : List Class → ℕ → Bool
step_fits cs zero = nat_le 2000 (cycle_in cs 0)
step_fits cs (suc c) = whole_times (cycle_in cs c) (cycle_in cs (suc c))

-- The same by the cycle before, if there is one.
abbrev pub step_after : Option ℕ → (cycle : ℕ) → Bool
step_after None c = nat_le 2000 c
step_after (Some before) c = whole_times before c

abbrev pub class_fits : List Class → ℕ → Bool
class_fits cs c = nat_le (cycle_in cs c) 1048576 && inside 2 8 (bins_in cs c) && step_fits cs c

abbrev pub phase_fits : List Class → List ℕ → ℕ → Bool
phase_fits cs ps i = nat_lt (slice_index ps i) (slowest cs)

-- The bins of a class serve an input of that phase.
abbrev pub serves : (delay : ℕ) → Class → (phase : ℕ) → Bool
serves d k p = nat_le (bins_needed d k.cycle (p % k.cycle)) k.bins

abbrev pub serves_all : (delay : ℕ) → List ℕ → Class → Bool
serves_all d ps k = all_below (λ i. serves d k (slice_index ps i)) (length ps)

-- The three rules of set.
abbrev pub in_number : SetNumbers → Bool
in_number s = inside 1 4 (class_count s) && inside 1 8 (input_count s)

abbrev pub within_limits : SetNumbers → Bool
within_limits s = nat_le s.delay 65535 && nat_le (s.dead_time + 1626) (cycle_of s 0)
    && all_below (class_fits s.classes) (class_count s) && all_below (phase_fits s.classes s.phases) (input_count s)

abbrev pub enough_bins : SetNumbers → Bool
enough_bins s = all_below (λ c. serves_all s.delay s.phases (slice_index_or s.classes c no_class)) (class_count s)

-- They are checked in this order.
unfoldable pub set_fault : SetNumbers → Option BookFault
set_fault s = first_hit
    (check (not (in_number s)) NotInNumber ∷ check (not (within_limits s)) OutOfLimits ∷ check (not (enough_bins s)) TooFewBins ∷ [])

-- The rules of set, read as facts.
pub record Legal (s : SetNumbers) : Type 0 where
  pub one_class : 1 ≤ class_count s
  pub four_classes : class_count s ≤ 4
  pub one_input : 1 ≤ input_count s
  pub eight_inputs : input_count s ≤ 8
  pub delays : s.delay ≤ 65535
  pub dead : s.dead_time + 1626 ≤ cycle_of s 0
  pub least : (c : ℕ) → c < class_count s → 2000 ≤ cycle_of s c
  pub most : (c : ℕ) → c < class_count s → cycle_of s c ≤ 1048576
  pub two_bins : (c : ℕ) → c < class_count s → 2 ≤ bins_of s c
  pub eight_bins : (c : ℕ) → c < class_count s → bins_of s c ≤ 8
  pub whole : (c : ℕ) → suc c < class_count s → cycle_of s c * (cycle_of s (suc c) / cycle_of s c) ≡ cycle_of s (suc c)
  pub twice : (c : ℕ) → suc c < class_count s → 2 ≤ cycle_of s (suc c) / cycle_of s c
  pub times64 : (c : ℕ) → suc c < class_count s → cycle_of s (suc c) / cycle_of s c ≤ 64
  pub phased : (i : ℕ) → i < input_count s → slice_index s.phases i < slowest s.classes
  pub served : (c i : ℕ) → c < class_count s → i < input_count s → shift_of s c i + 1 ≤ bins_of s c
