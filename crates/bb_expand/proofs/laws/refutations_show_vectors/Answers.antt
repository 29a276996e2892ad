use Rattle.bb_expand.proofs.SomeExpanded.{refutations_show_vectors}
use Rattle.bb_expand.proofs.laws.refutations_show_vectors.Goals as goal

pub returns : goal.returns
returns c = refutations_show_vectors c.refutations.ensures c.expansions_and_tables.ensures.models
