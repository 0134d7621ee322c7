-- Whose turn it is at a tick: the lowest class whose current bin holds a load, with its cycle and that bin.
use Rattle.std.specs.Prelude.{◌≡◌, ℕ, ◌<◌, Bool, ◌||◌, List, length, Some, None, Option, nat_lt}
use Rattle.book.specs.Told.{SetNumbers, class_count}
use Rattle.schedule.specs.Bins.{bin_of, current_of}
use Rattle.schedule.specs.Wires.{Loads, none, is_some, lowest, current_bin, next_out}
use Rattle.port.specs.declared.wires.Turn.{Turn}

abbrev pub turn_of : SetNumbers → (tick class : ℕ) → Turn
turn_of s tick c = record { class = c; cycle = current_of s tick c; bin = bin_of s c (current_of s tick c) }

module _ {L : Type 0} (loads : Loads L) (s : SetNumbers) (tick : ℕ) (bins : ℕ → List L) where
  -- The current bin of this class holds a load, and that of no lower one does.
  pub record First (t : Turn) : Type 0 where
    pub is : t ≡ turn_of s tick t.class
    pub there : t.class < class_count s
    pub lower : lowest t.class (current_bin loads s tick bins) ≡ none
    pub holds : 0 < length (bins t.bin)

  abbrev pub Waits : Option Turn → Type 0
  Waits None = next_out loads s tick bins ≡ none
  Waits (Some t) = First t

  -- The wire is taken, or a current bin holds a load.
  abbrev pub is_busy : (wire : ℕ) → Bool
  is_busy wire = nat_lt tick wire || is_some (next_out loads s tick bins)
