-- Pairs of the same designs.
use Rattle.std.specs.Prelude.{ℕ, Bool, List, Option}
use Rattle.bb_net.specs.Pairs.{NetPair}
use Rattle.bb_iso.specs.Laws.Isomorphism.{AreIsomorphicPairs}
use Rattle.bb_design.specs.Hierarchy.{Design}
use Rattle.bb_design.specs.Inside.Allowed.{IsAllowed}
use Rattle.bb_equiv.specs.DesignEquivalence.{IsPairFor}

-- pairs of the same two sound designs are isomorphic
abbrev pub PairsForDesignsAreIsomorphic : Type 0
PairsForDesignsAreIsomorphic = (care : Option (List ℕ)) (shared : Bool) (spec imp : Design) (p q : NetPair)
    → IsAllowed spec → IsAllowed imp → IsPairFor care shared spec imp p → IsPairFor care shared spec imp q
    → AreIsomorphicPairs p q
