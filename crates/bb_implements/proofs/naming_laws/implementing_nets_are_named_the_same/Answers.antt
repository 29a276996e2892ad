use Rattle.bb_implements.proofs.OccurringNames.{implementing_nets_are_named_the_same}
use Rattle.bb_implements.proofs.naming_laws.implementing_nets_are_named_the_same.Goals as goal

pub returns : goal.returns
returns c = implementing_nets_are_named_the_same c.laws_of_designs.ensures
