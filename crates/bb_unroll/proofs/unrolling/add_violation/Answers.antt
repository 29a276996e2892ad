use Rattle.std.proofs.Common.{[], ◌∷◌, ap, arith, length, length-append}
use Rattle.bb_net.specs.declared.cell.Cell.TheVariants.{Not}
use Rattle.bb_net.specs.Netlists.{Netlist}
use Rattle.bb_unroll.proofs.BuiltSteps.{cells_few}
use Rattle.bb_unroll.proofs.UnrolledPlaces.{next_there, present_there}
use Rattle.bb_unroll.proofs.UnrolledCells.{cells_long}
use Rattle.bb_unroll.proofs.unrolling.add_violation.Goals as goal

pub push-requires-clause-room : goal.push-requires-clause-room
push-requires-clause-room c = omega (arith, ap (λ (net : Netlist). length net.cells) c.requires.before, cells_few c.args.spec.now c.requires.can c.requires.inputs)

pub push-requires-clause-follows : goal.push-requires-clause-follows
push-requires-clause-follows c =
    omega (arith, ap (λ (net : Netlist). length net.cells) c.requires.before, next_there c.args.spec.now c.requires.can.is_flat c.args.invariant c.requires.invariant, c.next_place.ensures.place)

pub push-requires-2-clause-room : goal.push-requires-2-clause-room
push-requires-2-clause-room c =
    omega (
      arith,
      ap (λ (net : Netlist). length net.cells) c.requires.before,
      cells_few c.args.spec.now c.requires.can c.requires.inputs,
      ap (λ (net : Netlist). length net.cells) c.in_ok-does_not_hold.ensures.ok,
      length-append c.args.net.now.cells (Not c.next_place.result ∷ []),
    )

pub push-requires-2-clause-follows : goal.push-requires-2-clause-follows
push-requires-2-clause-follows c =
    let more = ap (λ (net : Netlist). length net.cells) c.in_ok-does_not_hold.ensures.ok in
    let one = length-append c.args.net.now.cells (Not c.next_place.result ∷ []) in (
      omega (arith, ap (λ (net : Netlist). length net.cells) c.requires.before, more, one, present_there c.args.spec.now c.requires.can.is_flat c.args.invariant c.requires.invariant, c.present_place.ensures.place, cells_long c.args.spec.now),
      omega (arith, more, one, c.in_ok-does_not_hold.ensures.place),
    )
