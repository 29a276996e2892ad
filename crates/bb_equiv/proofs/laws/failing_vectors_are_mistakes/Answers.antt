use Rattle.bb_equiv.proofs.Mistakes.{failing_vectors_are_mistakes}
use Rattle.bb_equiv.proofs.laws.failing_vectors_are_mistakes.Goals as goal

pub returns : goal.returns
returns c = failing_vectors_are_mistakes (record {
  laws = c.lower_laws.ensures;
  orders = c.implementing_nets_have_box_orders.ensures;
  fixed = c.rows_are_tables.ensures.unique;
  fit = c.tables_are_spread.ensures.fit;
  shown_fit = c.tables_are_spread.ensures.shown;
  back = c.tables_are_spread.ensures.back;
  at = c.tables_are_spread.ensures.at;
})
