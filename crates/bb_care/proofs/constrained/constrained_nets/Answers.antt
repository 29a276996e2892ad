use Rattle.std.proofs.Common.{◌+◌, ◌<◌, length, ap, sym, subst, arith}
use Rattle.bb_net.specs.Netlists.{Netlist}
use Rattle.bb_care.proofs.ConstrainedCells.{prefix_long, inputs_fit, copy_there}
use Rattle.bb_care.proofs.CopiedCells.{place_is}
use Rattle.bb_care.proofs.constrained.constrained_nets.Goals as goal

pub overflow_add-inputs : goal.overflow_add-inputs
overflow_add-inputs c = omega (arith, c.inputs.ensures.inputs, prefix_long c.args.spec c.inputs.ensures.kept, c.inputs.ensures.kept.cells_fit)

pub guarded-requires-2-clause-care : goal.guarded-requires-2-clause-care
guarded-requires-2-clause-care c =
    let copy = place_is c.args.spec c.args.imp _ _ c.args.care c.copy_place-copy.result (ap (λ n. n + 2) c.inputs.ensures.inputs) (ap length c.cells.ensures.cells) c.copy_place-copy.ensures.place in
    let there = copy_there c.args.spec c.args.imp (inputs_fit c.args.spec c.args.imp c.cells.ensures.kept c.requires.inputs) c.args.care c.requires.care in
    subst (λ (net : Netlist). c.copy_place-copy.result < length net.cells) (sym c.in_ok-add_copies.ensures.copies) (omega (arith, copy, there))
