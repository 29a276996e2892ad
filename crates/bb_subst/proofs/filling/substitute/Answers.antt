use Rattle.std.proofs.Common.{ℕ, List, ◌++◌, map, ap, ap₂, ◌∙◌, arith}
use Rattle.std.specs.Prelude.{slice_index}
use Rattle.bb_net.specs.Kinds.{per_box}
use Rattle.bb_subst.proofs.FillingSteps.{begun_is, filled_is, first_long}
use Rattle.bb_subst.proofs.filling.substitute.Goals as goal

pub start-requires : goal.start-requires
start-requires c = omega (arith, c.inputs.ensures.inputs, first_long c.args.net.now c.inputs.ensures.kept, c.inputs.ensures.kept.cells_fit)

pub overflow_add-inputs : goal.overflow_add-inputs
overflow_add-inputs c = omega (arith, c.inputs-2.ensures.inputs, first_long c.args.net.now c.inputs.ensures.kept, c.inputs.ensures.kept.cells_fit)

pub add_cells-requires-clause-begun : goal.add_cells-requires-clause-begun
add_cells-requires-clause-begun c =
    begun_is c.args.net.now c.inputs.ensures.kept (per_box c.args.kinds.now c.args.tables.now) c.inputs.result c.inputs-2.result c.in_ok-filled.filled c.in_ok-places.places.items c.inputs.ensures.inputs c.inputs-2.ensures.inputs c.in_ok-filled.ensures.ok c.in_ok-places.ensures.places

pub returns : goal.returns
returns c =
    let mid = c.add_cells.new.new in
    let outs = ap₂ (λ (places outs : List ℕ). map (slice_index places) outs) c.deref.ensures.value c.outs.ensures.outs in
    record {
      filled = (
        slice_index c.add_cells.new.places.items,
        filled_is c.costs_are_few.ensures c.args.net.now c.inputs.ensures.kept (per_box c.args.kinds.now c.args.tables.now) mid c.add_outs.new.new c.add_cells.new.places.items c.in_ok-add_cells.ensures.filled
            (c.in_ok-add_outs.ensures.outs ∙ ap (λ (l : List ℕ). record mid { outs = mid.outs ++ l }) outs),
      );
    }
