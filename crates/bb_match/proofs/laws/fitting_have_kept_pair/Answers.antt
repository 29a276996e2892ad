use Rattle.bb_match.proofs.CarePairs.{fitting_have_kept_pair}
use Rattle.bb_match.proofs.laws.fitting_have_kept_pair.Goals as goal

pub returns : goal.returns
returns c =
    fitting_have_kept_pair c.rearranged_nets_exist.ensures (record { one = c.keys_have_kinds.ensures.one; own = c.kinds_may_differ.ensures.own; places = c.kinds_may_differ.ensures.fit; modules = c.keys_are_shown.ensures.modules }) c.keys_have_kinds.ensures.some c.constrained_pairs_are_pairs.ensures
