-- A run of the wire as a function over a rack does it: from a clock up to a tick, with the departures written into a list.
use Rattle.std.specs.Prelude.{◌≡◌, ℕ, suc, ◌-◌, ◌*◌, ◌/◌, ◌<◌, ◌≤◌, ◌⊎◌, List, [], ◌∷◌, length, Some, None, Option, slice_set}
use Rattle.std.specs.List.{AllByRecursion}
use Rattle.book.specs.Told.{SetNumbers, cycle_of}
use Rattle.racks.specs.declared.rack.Rack as Rack
use Rattle.racks.specs.Bins.{bin_of, held_in}
use Rattle.placers.specs.Placers.{replaced}
use Rattle.schedule.specs.declared.departures.Departure.{Departure}
use Rattle.schedule.specs.Bins as rules
use Rattle.schedule.specs.Wires.{Loads, Sending, none, some, next_out, departure, ticks}

-- A rack keeps its room: the number of its bins, its depth and its total.
pub record SameRoom {R L : Type 0} (rack : Rack.Ghosts R L) (was is : R) : Type 0 where
  pub count : length (rack.bins is) ≡ length (rack.bins was)
  pub depth : rack.depth is ≡ rack.depth was
  pub total : rack.total is ≡ rack.total was

-- What is taken out of a bin: its oldest load, or none.
module _ {L : Type 0} (bins : List (List L)) (bin : ℕ) where
  pub record Oldest (x : L) (next : List (List L)) : Type 0 where
    pub rest : List L
    pub there : bin < length bins
    pub is : bin_of bins bin ≡ x ∷ rest
    pub left : next ≡ slice_set bins bin rest

  abbrev pub Taken : Option L → List (List L) → Type 0
  Taken None next = (bin_of bins bin ≡ []) × (next ≡ bins)
  Taken (Some x) next = Oldest x next

-- Every load that waits has at least the length of the shortest frame.
abbrev pub Long : {L : Type 0} → Loads L → (ℕ → List L) → Type 0
Long loads bins = (b : ℕ) → AllByRecursion (λ x. 64 ≤ loads.length_of x) (bins b)

abbrev pub sending_at : {L : Type 0} → (clock wire : ℕ) → (ℕ → List L) → List (Departure L) → Sending L
sending_at clock wire bins sent = record { clock = clock; wire = wire; bins = bins; sent = sent }

module _ {L : Type 0} (loads : Loads L) (s : SetNumbers) where
  -- A load was taken out of the bins as the rules send it at a tick.
  pub record Took (tick : ℕ) (bins : List (List L)) (d : Departure L) (next : List (List L)) : Type 0 where
    pub rest : List L
    pub turn : next_out loads s tick (bin_of bins) ≡ some d.class d.load rest
    pub is : d ≡ departure loads s tick d.class d.load
    pub left : bin_of next ≡ replaced (bin_of bins) (rules.bin_of s d.class (rules.current_of s tick d.class)) rest

  -- What leaves at a tick at which the wire is free.
  abbrev pub Departs : (tick : ℕ) → List (List L) → Option (Departure L) → List (List L) → Type 0
  Departs tick bins None next = (next_out loads s tick (bin_of bins) ≡ none) × (next ≡ bins)
  Departs tick bins (Some d) next = Took tick bins d next

  -- Where nothing leaves at a tick, nothing leaves before this later one: no bin holds a load at all,
  -- or the cycle of the fastest class, and with it every current cycle, is the same up to there.
  pub record Idle (tick until : ℕ) (bins : List (List L)) (later : ℕ) : Type 0 where
    pub onward : tick < later
    pub within : later ≤ until
    pub quiet : (held_in bins ≡ 0) ⊎ (later ≤ suc (tick / cycle_of s 0) * cycle_of s 0)

  -- The ticks from a clock up to until were played, with these departures.
  abbrev pub Played : (until clock wire : ℕ) → List (List L) → (wire' : ℕ) → List (List L) → List (Departure L) → Type 0
  Played until clock wire bins wire' bins' sent =
      ticks loads s (until - clock) (sending_at clock wire (bin_of bins) []) ≡ sending_at until wire' (bin_of bins') sent
