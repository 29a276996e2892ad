use Rattle.bb_verdict.proofs.FilledNets.{filled_nets_implement}
use Rattle.bb_verdict.proofs.text_laws.filled_nets_implement.Goals as goal

pub returns : goal.returns
returns c = filled_nets_implement (record {
  read = c.filled_texts_are_read.ensures;
  formed = c.sources_are_formed.ensures;
  faultless = c.filled_modules_are_sound.ensures;
  tops = c.filled_modules_are_tops.ensures;
  sound = c.filled_designs_are_sound.ensures;
  allowed = c.sound_texts_are_allowed.ensures;
  called = c.filled_designs_are_named_the_same.ensures;
  bits = c.filled_designs_have_bits.ensures;
  outputs = c.tables_give_outputs.ensures;
  worlds = c.implementing_nets_give_outputs.ensures;
  one_input = c.followed_inputs_are_one.ensures;
})
