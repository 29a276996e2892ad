use Rattle.bb_equiv.proofs.laws.lower_laws.Goals as goal

pub returns : goal.returns
returns c = record {
  by_boxes = c.value_goes_by_boxes.ensures;
  rearranged = c.rearranged_keeps_values.ensures;
  worlds = c.implementing_nets_give_outputs.ensures;
  outputs = c.tables_give_outputs.ensures;
  tables = c.contents_have_tables.ensures;
  contents = c.tables_have_contents.ensures;
  apart = c.flat_nets_have_cuts_apart.ensures;
  among = c.fitting_nets_have_their_outputs.ensures;
  others = c.compared_are_the_others.ensures;
  flat = c.without_outputs_are_flat.ensures;
  kept = c.pairs_are_kept.ensures;
  right = c.constrained_pairs_are_right.ensures;
}
