use Rattle.bb_equiv.proofs.DesignAgreements.{agree_with_themselves}
use Rattle.bb_equiv.proofs.laws.designs_are_equivalent_to_themselves.Goals as goal

pub returns : goal.returns
returns c = agree_with_themselves c.lower_laws.ensures
