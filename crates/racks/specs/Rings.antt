-- The lay of the rows: each bin is a ring of depth places of its own.
use Rattle.std.specs.Prelude.{ℕ, zero, suc, ◌+◌, ◌*◌, ◌%◌, List, [], ◌∷◌, map, slice_index}
use Rattle.racks.specs.declared.rings.Ring.{Ring}
use Rattle.racks.specs.Places.{tabled}

-- The places of a ring of d places from base on: so many, from the start on.
abbrev pub ring : (base d start count : ℕ) → List ℕ
ring base d s zero = []
ring base d s (suc u) = (base + s) ∷ ring base d ((s + 1) % d) u

-- The next place to be used of a bin's ring: past the last one that is.
abbrev pub ring_end : (d bin start count : ℕ) → ℕ
ring_end d b s u = b * d + (s + u) % d

-- Of each ring its start, and how many places it has.
abbrev pub starts_of : List Ring → List ℕ
starts_of rings = map (λ r. r.start) rings

abbrev pub counts_of : List Ring → List ℕ
counts_of rings = map (λ r. r.count) rings

abbrev pub row_of : (d : ℕ) → (starts counts : List ℕ) → (bin : ℕ) → List ℕ
row_of d starts counts b = ring (b * d) d (slice_index starts b) (slice_index counts b)

abbrev pub rows_lay : (bins d : ℕ) → (starts counts : List ℕ) → List (List ℕ)
rows_lay n d starts counts = tabled n (row_of d starts counts)
