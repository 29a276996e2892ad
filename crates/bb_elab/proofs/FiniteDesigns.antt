-- Of a finite design no cause before the drivers holds.
use Rattle.bb_design.specs.Hierarchy.{Design}
use Rattle.bb_design.specs.Refusals.{Recursion, Depth, Size}
use Rattle.bb_design.specs.Laws.CauseLaws.{AreClear}
use Rattle.bb_hier.specs.Inside.Finite.{IsFinite}
use Rattle.bb_design.specs.Laws.DesignLaws.{DesignLaws}

module _ (of_designs : DesignLaws) where
  pub finite_clear : (d : Design) → IsFinite d → AreClear d 3
  finite_clear d finite = (of_designs.causes d).next Size ((of_designs.causes d).next Depth ((of_designs.causes d).next Recursion ((of_designs.causes d).first) finite.hierarchy) finite.bounded.shallow) finite.bounded.small
