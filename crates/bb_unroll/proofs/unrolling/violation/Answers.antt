use Rattle.std.proofs.Common.{[], ◌∷◌, ap, arith, length, length-append}
use Rattle.bb_net.specs.declared.cell.Cell.TheVariants.{Not, And}
use Rattle.bb_net.specs.Netlists.{Netlist}
use Rattle.bb_unroll.specs.Unrolled.{next_place, present_place}
use Rattle.bb_unroll.proofs.BuiltSteps.{cells_few}
use Rattle.bb_unroll.proofs.UnrolledCells.{cells_long}
use Rattle.bb_unroll.proofs.unrolling.violation.Goals as goal

pub add_out-requires-clause-present : goal.add_out-requires-clause-present
add_out-requires-clause-present c =
    let net = c.in_ok-net.net in
    let two = length-append net.cells (Not (next_place c.args.spec.now c.args.invariant) ∷ And (present_place c.args.spec.now c.args.invariant) (length net.cells) ∷ []) in
    omega (arith, ap (λ (net : Netlist). length net.cells) c.in_ok-violation.ensures.cells, two, ap (λ (net : Netlist). length net.cells) c.in_ok-net.ensures.net, cells_long c.args.spec.now)

pub add_out-requires-clause-room : goal.add_out-requires-clause-room
add_out-requires-clause-room c =
    let net = c.in_ok-net.net in
    let two = length-append net.cells (Not (next_place c.args.spec.now c.args.invariant) ∷ And (present_place c.args.spec.now c.args.invariant) (length net.cells) ∷ []) in
    omega (arith, ap (λ (net : Netlist). length net.cells) c.in_ok-violation.ensures.cells, two, ap (λ (net : Netlist). length net.cells) c.in_ok-net.ensures.net, cells_few c.args.spec.now c.requires.can c.requires.inputs)
