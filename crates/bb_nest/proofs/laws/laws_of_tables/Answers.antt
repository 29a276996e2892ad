use Rattle.bb_nest.proofs.laws.laws_of_tables.Goals as goal

pub returns : goal.returns
returns c = record {
  below = c.number_is_below.ensures;
  width = c.number_spelled.ensures.length;
  spelled = c.number_spelled_once.ensures;
  tables = c.rows_are_tables.ensures.found;
  chosen = c.rows_are_chosen.ensures.row;
  exists = c.value_exists.ensures;
  swap = c.value_goes_by_boxes.ensures;
  suit = c.vectors_hold_or_not.ensures.suit;
}
