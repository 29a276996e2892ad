-- Designs that fit can be compared.
use Rattle.std.specs.Prelude.{ℕ, Bool, List, Option}
use Rattle.bb_bits.specs.Contents.{Contents}
use Rattle.bb_design.specs.Hierarchy.{Design}
use Rattle.bb_design.specs.Inside.Allowed.{IsAllowed}
use Rattle.bb_equiv.specs.DesignEquivalence.{MayFill}
use Rattle.bb_equiv.specs.DesignFit.{DesignsFit}
use Rattle.bb_equiv.specs.Comparable.{AreComparable}

-- two sound designs that fit can be compared, and some contents may fill the boxes
abbrev pub FittingDesignsAreComparable : Type 0
FittingDesignsAreComparable = (care : Option (List ℕ)) (shared : Bool) (spec imp : Design) → IsAllowed spec
    → IsAllowed imp → DesignsFit care spec imp → AreComparable care spec imp
    × ((contents : Contents) × MayFill shared imp contents)
