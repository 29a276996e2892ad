use Rattle.bb_iso.proofs.OrderedFormulas.{order_keeps_formulas}
use Rattle.bb_iso.proofs.laws.order_keeps_formulas.Goals as goal

pub returns : goal.returns
returns c = order_keeps_formulas
