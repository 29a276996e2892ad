use Rattle.bb_design.proofs.SoundBits.{sound_bits_are_there}
use Rattle.bb_design.proofs.laws.sound_bits_are_there.Goals as goal

pub returns : goal.returns
returns c = sound_bits_are_there
