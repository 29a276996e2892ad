use Rattle.std.proofs.Common.{arith, ap}
use Rattle.bb_net.specs.Netlists.{Netlist}
use Rattle.bb_unroll.proofs.UnrolledPlaces.{inputs_fit}
use Rattle.bb_unroll.proofs.places.first_gate.Goals as goal

pub returns-clause-there : goal.returns-clause-there
returns-clause-there c = omega (arith, inputs_fit c.args.spec.now c.net.ensures.kept, ap (λ (net : Netlist). net.inputs) c.net.ensures.net)
