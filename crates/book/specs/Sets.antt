-- Checked settings as plain values.
use Rattle.std.specs.Prelude.{◌≡◌, ℕ, cond, List, length, Some, None, Ok, Err, Option, Result, nat_lt, slice_index_or}
use Rattle.book.specs.declared.faults.BookFault.{BookFault}
use Rattle.book.specs.declared.setup.Class.{Class}
use Rattle.book.specs.declared.setup.Settings.{Settings}
use Rattle.book.specs.Few.{items_of}
use Rattle.book.specs.Told.{SetNumbers, told, set_fault, no_class, Legal}

abbrev pub numbers_of : Settings → SetNumbers
numbers_of s = told s.number s.delay s.dead_time (items_of s.classes) (items_of s.phases)

-- What stands at a place of a list, if it is there; d is never seen.
abbrev pub placed : {X : Type 0} → List X → ℕ → X → Option X
placed xs i d = cond (nat_lt i (length xs)) (Some (slice_index_or xs i d)) None

-- A class or a phase by its number, if it is there.
abbrev pub class_at : SetNumbers → ℕ → Option Class
class_at s c = placed s.classes c no_class

abbrev pub phase_at : SetNumbers → ℕ → Option ℕ
phase_at s i = placed s.phases i 0

-- The check accepts what keeps the rules and carries on just what was told; otherwise it names the first rule broken.
abbrev pub Checked : SetNumbers → Result Settings BookFault → Type 0
Checked t (Ok s) = (set_fault t ≡ None) × (numbers_of s ≡ t) × Legal t
Checked t (Err f) = (set_fault t ≡ Some f) × (Legal t → ⊥)
