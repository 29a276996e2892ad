-- A list that is not too long is that of a vector.
use Rattle.std.proofs.Common.{◌<◌, ◌^◌, List, length, refl, arith, Global}
use Rattle.std.specs.Prelude.{Vec}
use denote.RawPtr.{null_ptr}

-- some handle of the allocator, which a vector holds
pub heap : Global
heap = record { memory = record { seal = tt } }

abbrev pub vec_of : {A : Type 0} → (xs : List A) → length xs < 2 ^ 63 → Vec A Global
vec_of xs few = record { ptr = null_ptr; len = length xs; cap = length xs; alloc = heap; items = xs; ok = (refl, omega arith); small = few }
