use Rattle.bb_cnf.proofs.ReadLines.{lines_fix_proofs}
use Rattle.bb_cnf.proofs.laws.lines_fix_proofs.Goals as goal

pub returns : goal.returns
returns c = lines_fix_proofs
