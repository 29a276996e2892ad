use Rattle.bb_subst.proofs.Embeddings.{occurrences_keep_bits}
use Rattle.bb_subst.proofs.laws.occurrences_keep_bits.Goals as goal

pub returns : goal.returns
returns c = occurrences_keep_bits c.value_exists.ensures c.value_is_unique.ensures
