use Rattle.bb_design.proofs.SoundRefusals.{sound_or_refused}
use Rattle.bb_design.proofs.laws.sound_or_refused.Goals as goal

pub returns : goal.returns
returns c = sound_or_refused c.tops_are_meant.ensures c.sound_bits_are_there.ensures
