use Rattle.bb_design.proofs.AllowedDesigns.{sound_texts_are_allowed}
use Rattle.bb_design.proofs.laws.sound_texts_are_allowed.Goals as goal

pub returns : goal.returns
returns c = sound_texts_are_allowed
