-- Tables of new records.
use Rattle.std.proofs.Common.{◌≡◌, ℕ, zero, suc, get_or, replicate, refl, ap₂}
use Rattle.placers.specs.declared.table.Latest.{Latest}
use Rattle.placers.specs.Latest.{unused}

-- A place that is not there reads as one of the same.
pub get_or-same : {A : Type 0} (n i : ℕ) (a : A) → get_or (replicate n a) i a ≡ a
get_or-same zero i a = refl
get_or-same (suc n) zero a = refl
get_or-same (suc n) (suc i) a = get_or-same n i a

of : (cycle octets : ℕ) → Latest
of q o = record { cycle = q; octets = o }

-- The default of a record is a new one.
pub is-unused : (r : Latest) → (r.cycle ≡ 0) × (r.octets ≡ 0) → r ≡ unused
unfolding of
is-unused r e = ap₂ of e.0 e.1
