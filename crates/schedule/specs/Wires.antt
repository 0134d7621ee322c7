-- The wire, tick by tick: when it is free, the lowest class whose current bin holds a load sends the oldest of them.
use Rattle.std.specs.Prelude.{ℕ, zero, suc, ◌+◌, Bool, true, false, cond, List, [], ◌∷◌, ◌++◌, nat_lt}
use Rattle.book.specs.Told.{SetNumbers, class_count}
use Rattle.placers.specs.Placers.{replaced}
use Rattle.schedule.specs.declared.departures.Departure.{Departure}
use Rattle.schedule.specs.Bins.{bin_of, current_of}

-- What a kind of load tells of a frame.
pub record Loads (L : Type 0) : Type 0 where
  pub stream_of : L → ℕ
  pub length_of : L → ℕ

-- A frame has 20 octets more on the wire: preamble, start of frame and gap.
abbrev pub wire_octets : {L : Type 0} → Loads L → L → ℕ
wire_octets loads x = loads.length_of x + 20

-- The part of a module that a tick changes: the clock, the tick from which on the wire is free, the bins,
-- and what was sent so far, oldest first.
pub record Sending (L : Type 0) : Type 0 where
  pub clock : ℕ
  pub wire : ℕ
  pub bins : ℕ → List L
  pub sent : List (Departure L)

-- The class that sends next, its oldest load, and the loads behind it; or no class has a load.
pub data Next (L : Type 0) : Type 0 where
  none : Next L
  some : (class : ℕ) → L → List L → Next L

abbrev pub is_some : {L : Type 0} → Next L → Bool
is_some none = false
is_some (some c x rest) = true

unfoldable pub oldest : {L : Type 0} → (class : ℕ) → List L → Next L
oldest c [] = none
oldest c (x ∷ rest) = some c x rest

abbrev pub or_else : {L : Type 0} → Next L → Next L → Next L
or_else none later = later
or_else (some c x rest) later = some c x rest

-- The lowest class below a number whose list has a load.
unfoldable pub lowest : {L : Type 0} → (below : ℕ) → (ℕ → List L) → Next L
lowest zero of = none
lowest (suc n) of = or_else (lowest n of) (oldest n (of n))

module _ {L : Type 0} (loads : Loads L) (s : SetNumbers) where
  -- The current bin of each class.
  abbrev pub current_bin : (clock : ℕ) → (bins : ℕ → List L) → (c : ℕ) → List L
  current_bin clock bins c = bins (bin_of s c (current_of s clock c))

  abbrev pub next_out : (clock : ℕ) → (bins : ℕ → List L) → Next L
  next_out clock bins = lowest (class_count s) (current_bin clock bins)

  abbrev pub departure : (clock class : ℕ) → L → Departure L
  departure clock c x = record { stream = loads.stream_of x; class = c; cycle = current_of s clock c; start = clock; load = x }

  -- The load leaves its bin, and takes the wire for its octets.
  unfoldable pub sending : Sending L → Next L → Sending L
  sending g none = g
  sending g (some c x rest) = record {
    clock = g.clock;
    wire = g.clock + wire_octets loads x;
    bins = replaced g.bins (bin_of s c (current_of s g.clock c)) rest;
    sent = g.sent ++ (departure g.clock c x ∷ []);
  }

  abbrev pub moved : Sending L → Sending L
  moved g = record { clock = suc g.clock; wire = g.wire; bins = g.bins; sent = g.sent }

  unfoldable pub tick : Sending L → Sending L
  tick g = moved (cond (nat_lt g.clock g.wire) g (sending g (next_out g.clock g.bins)))

  unfoldable pub ticks : ℕ → Sending L → Sending L
  ticks zero g = g
  ticks (suc n) g = tick (ticks n g)
