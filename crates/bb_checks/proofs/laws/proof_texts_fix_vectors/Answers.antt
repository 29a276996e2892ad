use Rattle.bb_checks.proofs.ProofTexts.{proof_texts_fix_vectors}
use Rattle.bb_checks.proofs.laws.proof_texts_fix_vectors.Goals as goal

pub returns : goal.returns
returns c = proof_texts_fix_vectors
