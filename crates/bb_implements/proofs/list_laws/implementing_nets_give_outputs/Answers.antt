use Rattle.bb_implements.proofs.OccurringNets.{implementing_nets_give_outputs}
use Rattle.bb_implements.proofs.list_laws.implementing_nets_give_outputs.Goals as goal

pub returns : goal.returns
returns c = implementing_nets_give_outputs c.laws_of_designs.ensures c.values_have_width.ensures c.made_has_value.ensures c.constructs_hold_bit_by_bit.ensures c.order_keeps_values.ensures c.value_goes_by_boxes.ensures
