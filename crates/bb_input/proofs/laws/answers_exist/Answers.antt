use Rattle.bb_input.proofs.SomeAnswers.{answers_exist}
use Rattle.bb_input.proofs.laws.answers_exist.Goals as goal

pub returns : goal.returns
returns c = answers_exist (record {
  quantifiers = c.quantifiers.ensures;
  functions = c.functions.ensures;
  points = c.points.ensures;
  below = c.number_is_below.ensures;
  width = c.number_spelled.ensures.length;
  spelled = c.number_spelled_once.ensures;
  tables = c.rows_are_tables.ensures.found;
  chosen = c.rows_are_chosen.ensures.row;
  swap = c.value_goes_by_boxes.ensures;
  suit = c.vectors_hold_or_not.ensures.suit;
  choices = c.conditions_hold_or_not.ensures.choices;
})
