use Rattle.bb_replace.proofs.ReplacedDesigns.{texts_sound}
use Rattle.bb_replace.proofs.laws.replaced_texts_are_sound.Goals as goal

pub returns : goal.returns
returns c modules text may all quiet = texts_sound modules text may all quiet
