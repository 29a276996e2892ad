use Rattle.bb_implements.proofs.SomeLists.{lists_exist}
use Rattle.bb_implements.proofs.list_laws.lists_exist.Goals as goal

pub returns : goal.returns
returns c = lists_exist c.laws_of_designs.ensures c.occurrences_are_fit_in.ensures c.lowerings_exist.ensures
