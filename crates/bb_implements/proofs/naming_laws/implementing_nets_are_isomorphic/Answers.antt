use Rattle.bb_implements.proofs.IsomorphicNets.{implementing_nets_are_isomorphic}
use Rattle.bb_implements.proofs.naming_laws.implementing_nets_are_isomorphic.Goals as goal

pub returns : goal.returns
returns c = implementing_nets_are_isomorphic c.laws_of_designs.ensures c.order_keeps_formulas.ensures
