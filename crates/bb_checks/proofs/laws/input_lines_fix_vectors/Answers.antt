use Rattle.bb_checks.proofs.InputTexts.{input_lines_fix_vectors}
use Rattle.bb_checks.proofs.laws.input_lines_fix_vectors.Goals as goal

pub returns : goal.returns
returns c = input_lines_fix_vectors
