use Rattle.bb_iso.proofs.FormulaLemmas.{formulas_are_of_cells}
use Rattle.bb_iso.proofs.RearrangedFormulas.{rearranged_stay_isomorphic}
use Rattle.bb_iso.proofs.laws.rearranged_stay_isomorphic.Goals as goal

pub returns : goal.returns
returns c = rearranged_stay_isomorphic formulas_are_of_cells
