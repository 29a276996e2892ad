use Rattle.bb_equiv.proofs.DesignDecisions.{fit_or_refused}
use Rattle.bb_equiv.proofs.laws.fit_or_refused.Goals as goal

pub returns : goal.returns
returns c = fit_or_refused c.boxes_have_heights.ensures c.causes_are_ranked.ensures
