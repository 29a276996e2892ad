use Rattle.bb_design.proofs.SoundNames.{sound_texts_have_names_apart}
use Rattle.bb_design.proofs.laws.sound_texts_have_names_apart.Goals as goal

pub returns : goal.returns
returns c = sound_texts_have_names_apart
