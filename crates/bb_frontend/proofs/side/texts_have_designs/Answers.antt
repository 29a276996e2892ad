use Rattle.bb_frontend.proofs.TextDesignLaws.{design_or_fault, not_design_and_fault, side_faults_are_one, text_designs_are_one, texts_read_as_one}
use Rattle.bb_frontend.proofs.side.texts_have_designs.Goals as goal

pub returns : goal.returns
returns c = record {
  readings = texts_read_as_one c.texts_read_once.ensures;
  designs = text_designs_are_one c.texts_read_once.ensures;
  faults = side_faults_are_one c.tokens_are_one.ensures c.not_tokens_and_bad_line.ensures c.not_source_and_fault.ensures c.texts_read_once.ensures c.not_sound_and_fault.ensures
      c.bad_lines_are_one.ensures c.faults_are_one.ensures c.first_faults_are_one.ensures c.first_refusals_are_one.ensures;
  not_both = not_design_and_fault c.tokens_are_one.ensures c.not_tokens_and_bad_line.ensures c.not_source_and_fault.ensures c.texts_read_once.ensures c.not_sound_and_fault.ensures c.not_sound_and_refused.ensures;
  either = design_or_fault c.tokens_or_bad_line.ensures c.source_or_fault.ensures c.sound_or_fault.ensures c.sound_or_refused.ensures;
}
