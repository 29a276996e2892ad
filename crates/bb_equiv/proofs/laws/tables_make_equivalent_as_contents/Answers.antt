use Rattle.bb_equiv.proofs.DesignAgreements.{tables_make_equivalent_as_contents}
use Rattle.bb_equiv.proofs.laws.tables_make_equivalent_as_contents.Goals as goal

pub returns : goal.returns
returns c = tables_make_equivalent_as_contents c.lower_laws.ensures
