use Rattle.bb_design.proofs.RefusalLaws.{not_sound_and_refused}
use Rattle.bb_design.proofs.laws.not_sound_and_refused.Goals as goal

pub returns : goal.returns
returns c = not_sound_and_refused
