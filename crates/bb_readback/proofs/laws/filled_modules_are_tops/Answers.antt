use Rattle.bb_readback.proofs.Tops.{filled_modules_are_tops}
use Rattle.bb_readback.proofs.laws.filled_modules_are_tops.Goals as goal

pub returns : goal.returns
returns c = filled_modules_are_tops
