use Rattle.bb_equiv.proofs.SpelledContents.{spelled_contents_have_tables}
use Rattle.bb_equiv.proofs.laws.spelled_contents_have_tables.Goals as goal

pub returns : goal.returns
returns c = spelled_contents_have_tables (record {
  laws = c.lower_laws.ensures;
  orders = c.implementing_nets_have_box_orders.ensures;
  fixed = c.rows_are_tables.ensures.unique;
  fit = c.tables_are_spread.ensures.fit;
  shown_fit = c.tables_are_spread.ensures.shown;
  back = c.tables_are_spread.ensures.back;
  at = c.tables_are_spread.ensures.at;
})
