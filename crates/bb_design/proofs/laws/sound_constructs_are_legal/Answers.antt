use Rattle.bb_design.proofs.SoundConstructs.{sound_constructs_are_legal}
use Rattle.bb_design.proofs.laws.sound_constructs_are_legal.Goals as goal

pub returns : goal.returns
returns c = sound_constructs_are_legal
