use Rattle.bb_iso.proofs.FormulaLemmas.{formulas_are_of_cells}
use Rattle.bb_iso.proofs.laws.formulas_are_of_cells.Goals as goal

pub returns : goal.returns
returns c = formulas_are_of_cells
