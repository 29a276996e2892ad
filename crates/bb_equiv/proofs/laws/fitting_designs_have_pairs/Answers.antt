use Rattle.bb_equiv.proofs.FittingPairs.{fitting_designs_have_pairs}
use Rattle.bb_equiv.proofs.laws.fitting_designs_have_pairs.Goals as goal

pub returns : goal.returns
returns c =
    fitting_designs_have_pairs c.implementing_nets_exist.ensures c.implementing_nets_are_flat.ensures c.implementing_nets_are_printable.ensures c.nets_are_taken_as_designs.ensures c.fitting_have_kept_pair.ensures
