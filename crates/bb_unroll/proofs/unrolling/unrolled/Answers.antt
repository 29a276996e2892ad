use Rattle.std.proofs.Common.{arith}
use Rattle.bb_unroll.proofs.BuiltSteps.{inputs_before, whole_before}
use Rattle.bb_unroll.proofs.UnrolledCells.{cells_long}
use Rattle.bb_unroll.proofs.unrolling.unrolled.Goals as goal

pub add_gates-requires-clause-before : goal.add_gates-requires-clause-before
add_gates-requires-clause-before c = inputs_before c.args.spec.now c.requires.can c.in_ok-net.net c.unrolled_inputs.result c.in_ok-net.ensures.ok c.unrolled_inputs.ensures.inputs

pub returns : goal.returns
returns c = record { net = whole_before c.args.spec.now c.requires.can c.add_gates-2.new.net _ c.in_ok-add_gates-2.ensures.gates (omega (arith, cells_long c.args.spec.now)) }
