use Rattle.bb_care.proofs.ConstrainedIsomorphic.{constrained_pairs_stay_isomorphic}
use Rattle.bb_care.proofs.laws.constrained_pairs_stay_isomorphic.Goals as goal

pub returns : goal.returns
returns c = constrained_pairs_stay_isomorphic c.formulas_are_of_cells.ensures
