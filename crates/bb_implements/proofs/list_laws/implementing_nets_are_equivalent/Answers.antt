use Rattle.bb_implements.proofs.OccurringNets.{implementing_nets_are_equivalent}
use Rattle.bb_implements.proofs.list_laws.implementing_nets_are_equivalent.Goals as goal

pub returns : goal.returns
returns c = implementing_nets_are_equivalent c.implementing_nets_give_outputs.ensures
