use Rattle.bb_verdict.proofs.TextPairLaws.{text_pairs_are_isomorphic}
use Rattle.bb_verdict.proofs.text_laws.text_pairs_are_isomorphic.Goals as goal

pub returns : goal.returns
returns c = text_pairs_are_isomorphic c.designs_are_allowed.ensures c.texts_have_designs.ensures.designs c.pairs_for_designs_are_isomorphic.ensures
