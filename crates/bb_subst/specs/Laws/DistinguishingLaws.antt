-- Laws of distinguishing vectors: none occurs twice among them, so there are at most as many as vectors.
use Rattle.std.specs.Prelude.{◌≡◌, ◌≢◌, ℕ, ◌≤◌, ◌^◌, Bool, List, length, All, AllPairs}
use Rattle.bb_net.specs.Netlists.{Netlist}
use Rattle.bb_subst.specs.Distinguishing.{AreDistinguishing}

abbrev pub DistinguishingVectorsAreDistinct : Type 0
DistinguishingVectorsAreDistinct = (spec imp : Netlist) (kinds : List ℕ) (vectors : List (List Bool)) → AreDistinguishing spec imp kinds vectors → AllPairs ◌≢◌ vectors

-- lists of n bits that differ are at most 2^n
abbrev pub VectorsAreFew : Type 0
VectorsAreFew = (n : ℕ) (vectors : List (List Bool)) → All (λ x. length x ≡ n) vectors → AllPairs ◌≢◌ vectors → length vectors ≤ 2 ^ n
