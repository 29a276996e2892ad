use Rattle.bb_cnf.proofs.SemanticTree.{refutations_exist}
use Rattle.bb_cnf.proofs.laws.refutations_exist.Goals as goal

pub returns : goal.returns
returns c = refutations_exist
