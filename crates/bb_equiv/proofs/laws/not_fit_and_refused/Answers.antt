use Rattle.bb_equiv.proofs.DesignCauses.{not_fit_and_refused}
use Rattle.bb_equiv.proofs.laws.not_fit_and_refused.Goals as goal

pub returns : goal.returns
returns c = not_fit_and_refused
