-- Laws of pairs whose outputs count only where a care cell is 1.
use Rattle.std.specs.Prelude.{◌≡◌, ◌↔◌, ℕ, ◌+◌, ◌<◌, ◌≤◌, Bool, true, List, [], length}
use Rattle.bb_iso.specs.Laws.Isomorphism.{AreIsomorphicPairs}
use Rattle.bb_iso.specs.Laws.Formulas.{formula_at}
use Rattle.bb_net.specs.Equivalence.{IsOutput, IsRight}
use Rattle.bb_net.specs.Pairs.{NetPair, IsPair}
use Rattle.bb_net.specs.Values.{bit_of, flat, value_of}
use Rattle.bb_care.specs.Constrained.{constrained}

-- there is room for the copies and the Ands
pub record HasRoom (q : NetPair) : Type 0 where
  pub spec : length q.spec.cells + length q.imp.outs ≤ 8000000
  pub imp : length q.imp.cells + length q.spec.cells + length q.imp.outs ≤ 8000000

-- it is a pair, where there is room
abbrev pub ConstrainedPairsArePairs : Type 0
ConstrainedPairsArePairs = (q : NetPair) (care : ℕ) → IsPair q → HasRoom q → care < length q.spec.cells → IsPair (constrained care q)

-- an output of it is right exactly where it was or the care cell is 0, whatever the boxes give
abbrev pub ConstrainedPairsAreRight : Type 0
ConstrainedPairsAreRight = (q : NetPair) (care : ℕ) → IsPair q → care < length q.spec.cells → (x : List Bool) (box : ℕ → ℕ → List Bool → Bool) (j : ℕ) → IsOutput q.imp j
    → IsRight (constrained care q).spec (constrained care q).imp x (value_of (constrained care q).imp x box) j ↔ (bit_of (flat q.spec x []) care ≡ true → IsRight q.spec q.imp x (value_of q.imp x box) j)

-- those of isomorphic pairs are isomorphic, where the care cells have one formula
abbrev pub ConstrainedPairsStayIsomorphic : Type 0
ConstrainedPairsStayIsomorphic = (p q : NetPair) (care other : ℕ) → IsPair p → IsPair q → AreIsomorphicPairs p q → care < length p.spec.cells → other < length q.spec.cells
    → formula_at p.spec.cells care ≡ formula_at q.spec.cells other → AreIsomorphicPairs (constrained care p) (constrained other q)
