use Rattle.bb_verdict.proofs.LargeTexts.{large_texts_are_of_large_designs}
use Rattle.bb_verdict.proofs.text_laws.large_texts_are_of_large_designs.Goals as goal

pub returns : goal.returns
returns c = large_texts_are_of_large_designs (record {
  allowed = c.designs_are_allowed.ensures;
  spread = c.tables_are_spread.ensures.fit;
  no_larger = c.nets_are_no_larger.ensures;
  orders = c.implementing_nets_have_box_orders.ensures;
  lines = c.lines_are_few.ensures;
  short = c.texts_are_short.ensures;
})
