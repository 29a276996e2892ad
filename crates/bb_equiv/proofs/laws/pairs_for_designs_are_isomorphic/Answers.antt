use Rattle.bb_equiv.proofs.IsomorphicPairs.{pairs_for_designs_are_isomorphic}
use Rattle.bb_equiv.proofs.laws.pairs_for_designs_are_isomorphic.Goals as goal

pub returns : goal.returns
returns c = pairs_for_designs_are_isomorphic (record {
  kinds = c.keys_have_kinds.ensures.one;
  rearranged = c.rearranged_stay_isomorphic.ensures;
  apart = c.flat_nets_have_cuts_apart.ensures;
  kept = c.pairs_are_kept.ensures;
  less = c.without_outputs_are_flat.ensures;
  constrained = c.constrained_pairs_stay_isomorphic.ensures;
  named = c.implementing_nets_are_named_the_same.ensures;
  alike = c.implementing_nets_are_isomorphic.ensures;
})
