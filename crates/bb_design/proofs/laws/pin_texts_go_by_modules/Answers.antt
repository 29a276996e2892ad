use Rattle.bb_design.proofs.PinTexts.{pin_texts_by_modules}
use Rattle.bb_design.proofs.laws.pin_texts_go_by_modules.Goals as goal

pub returns : goal.returns
returns c = pin_texts_by_modules
