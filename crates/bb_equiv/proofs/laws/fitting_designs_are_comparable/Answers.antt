use Rattle.bb_equiv.proofs.Comparable.{fitting_designs_are_comparable}
use Rattle.bb_equiv.proofs.laws.fitting_designs_are_comparable.Goals as goal

pub returns : goal.returns
returns c = fitting_designs_are_comparable c.laws_of_designs.ensures c.lower_laws.ensures c.fitting_designs_have_pairs.ensures c.tables_spell_contents.ensures
