use Rattle.bb_hier.proofs.CellSums.{inputs_there}
use Rattle.bb_hier.proofs.cells.inputs_of.Goals as goal

pub returns : goal.returns
returns c = record { inputs = inputs_there c.args.gate c.args.terms.now c.outputs_among.result c.outputs_among.ensures.outputs }
