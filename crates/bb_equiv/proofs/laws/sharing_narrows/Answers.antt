use Rattle.std.proofs.Common.{false, true≢false, sym}
use Rattle.bb_bits.specs.Contents.{Contents}
use Rattle.bb_design.specs.Hierarchy.{Design}
use Rattle.bb_design.specs.Worlds.{FitDesign}
use Rattle.bb_equiv.specs.DesignEquivalence.{MayFill}
use Rattle.bb_equiv.proofs.laws.sharing_narrows.Goals as goal

apart : (d : Design) (contents : Contents) → FitDesign d contents → MayFill false d contents
apart d contents fit = record { fit = fit; one = λ e. absurd (true≢false (sym e)) }

pub returns : goal.returns
returns c = record {
  apart = λ d contents. (λ fill. fill.fit, apart d contents);
  less = λ d contents fill. apart d contents fill.fit;
  none = λ care spec imp none contents fill. none contents (apart imp contents fill.fit);
}
