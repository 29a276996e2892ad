use Rattle.bb_verdict.proofs.FilledLaw.{filled_texts_finish}
use Rattle.bb_verdict.proofs.text_laws.filled_texts_finish.Goals as goal

pub returns : goal.returns
returns c = filled_texts_finish (record {
  allowed = c.designs_are_allowed.ensures;
  read = c.filled_texts_are_read.ensures;
  faultless = c.filled_modules_are_sound.ensures;
  tops = c.filled_modules_are_tops.ensures;
  sound = c.filled_designs_are_sound.ensures;
  called = c.filled_designs_are_named_the_same.ensures;
  bits = c.filled_designs_have_bits.ensures;
  fitting = c.pairs_implement_exactly_fitting.ensures;
  comparable = c.fitting_designs_are_comparable.ensures;
  run = c.equivalent_designs_run_the_same.ensures;
  as_contents = c.tables_make_equivalent_as_contents.ensures;
  contents = c.tables_have_contents.ensures;
  outputs = c.tables_give_outputs.ensures;
  worlds = c.implementing_nets_give_outputs.ensures;
  one_input = c.followed_inputs_are_one.ensures;
  spread = c.tables_are_spread.ensures.fit;
  spelled = c.spelled_contents_have_tables.ensures;
})
