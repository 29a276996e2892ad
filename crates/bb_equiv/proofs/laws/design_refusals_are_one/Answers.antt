use Rattle.bb_equiv.proofs.DesignCauses.{design_refusals_are_one}
use Rattle.bb_equiv.proofs.laws.design_refusals_are_one.Goals as goal

pub returns : goal.returns
returns c = design_refusals_are_one c.causes_are_ranked.ensures
