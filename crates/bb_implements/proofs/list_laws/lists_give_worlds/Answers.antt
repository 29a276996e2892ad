use Rattle.bb_implements.proofs.ListWorlds.{lists_give_worlds}
use Rattle.bb_implements.proofs.list_laws.lists_give_worlds.Goals as goal

pub returns : goal.returns
returns c = lists_give_worlds c.laws_of_designs.ensures c.constructs_hold_bit_by_bit.ensures
