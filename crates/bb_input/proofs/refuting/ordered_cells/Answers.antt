use Rattle.std.proofs.Common.{rules, IsErrOf, ◌∙◌, sym, subst, subst₂, arith}
use Rattle.bb_bits.specs.Truth.{variable}
use Rattle.bb_net.specs.Netlists.{Netlist}
use Rattle.bb_sym.specs.declared.fault.RungFault.TheVariants.{Nodes}
use Rattle.bb_sym.specs.Plain.{AreVariables, IsReadSo, plain_functions_at}
use Rattle.bb_sym.specs.Inside.Made.{Makes, AreTooMany, RepresentAll, HaveCells}
use Rattle.bb_input.specs.InputFunctions.{boxes_first}
use Rattle.bb_input.proofs.Readings.{order_variables, order_read}
use Rattle.bb_input.proofs.refuting.ordered_cells.Goals as goal

pub plain_cells-requires-clause-variables : goal.plain_cells-requires-clause-variables
plain_cells-requires-clause-variables c =
    let s = c.args.d.now.store in
    subst₂ (λ k (net : Netlist). AreVariables s.vars k c.args.starts.now net) (sym c.requires.pins) (sym c.imp-imp.ensures.imp) (order_variables c.args.pair.now.imp c.args.d.now.store.vars (omega (arith, c.requires.few, c.requires.store)) (sym c.requires.store ∙ c.requires.vars) c.args.starts.now c.requires.count c.requires.starts)

pub returns-in_err-made-clause-nodes : goal.returns-in_err-made-clause-nodes
returns-in_err-made-clause-nodes c =
    let s = c.args.d.now.store in
    let spec = c.args.pair.now.spec in
    let imp = c.args.pair.now.imp in
    let reads = subst₂ (λ k (net : Netlist). IsReadSo s.vars k c.args.starts.now net (boxes_first imp)) (sym c.requires.pins) (sym c.imp-imp.ensures.imp) (order_read c.args.pair.now.imp c.args.d.now.store.vars (omega (arith, c.requires.few, c.requires.store)) (sym c.requires.store ∙ c.requires.vars) c.args.starts.now c.requires.count c.requires.starts) in
    let more = c.in_err-made.ensures.nodes (boxes_first imp) reads in
    let reported : IsErrOf c.from_residual.result Nodes → AreTooMany s (plain_functions_at s.vars (boxes_first imp) c.spec-spec.result.now c.imp-imp.result.now) = search (rules, more) in
    λ full. subst (λ n. AreTooMany s (plain_functions_at n (boxes_first imp) spec imp)) (sym c.requires.store ∙ c.requires.vars)
    (subst₂ (λ (a b : Netlist). AreTooMany s (plain_functions_at s.vars (boxes_first imp) a b)) c.spec-spec.ensures.spec c.imp-imp.ensures.imp (reported full))

pub returns-clause-variables : goal.returns-clause-variables
returns-clause-variables c =
    let s = c.args.d.now.store in
    let new = c.plain_cells.new.d.store in
    let imp = c.args.pair.now.imp in
    let reads = subst₂ (λ k (net : Netlist). IsReadSo s.vars k c.args.starts.now net (boxes_first imp)) (sym c.requires.pins) (sym c.imp-imp.ensures.imp) (order_read c.args.pair.now.imp c.args.d.now.store.vars (omega (arith, c.requires.few, c.requires.store)) (sym c.requires.store ∙ c.requires.vars) c.args.starts.now c.requires.count c.requires.starts) in
    let kept = (c.in_ok-made.ensures.makes (boxes_first imp) reads).kept.vars in
    let h = c.in_ok-made.ensures.variables in (
      h.0 ∙ sym kept,
      subst (λ n. RepresentAll new (variable n) c.in_ok-made.made.variables.items) (sym kept) h.1,
    )

pub returns-clause-cells : goal.returns-clause-cells
returns-clause-cells c =
    let s = c.args.d.now.store in
    let imp = c.args.pair.now.imp in
    let reads = subst₂ (λ k (net : Netlist). IsReadSo s.vars k c.args.starts.now net (boxes_first imp)) (sym c.requires.pins) (sym c.imp-imp.ensures.imp) (order_read c.args.pair.now.imp c.args.d.now.store.vars (omega (arith, c.requires.few, c.requires.store)) (sym c.requires.store ∙ c.requires.vars) c.args.starts.now c.requires.count c.requires.starts) in
    subst₂ (λ (a b : Netlist). HaveCells c.plain_cells.new.d.store (boxes_first imp) a b c.in_ok-made.made.spec.items c.in_ok-made.made.imp.items) c.spec-spec.ensures.spec c.imp-imp.ensures.imp (c.in_ok-made.ensures.cells (boxes_first imp) reads)

pub returns-clause-makes : goal.returns-clause-makes
returns-clause-makes c =
    let s = c.args.d.now.store in
    let new = c.plain_cells.new.d.store in
    let spec = c.args.pair.now.spec in
    let imp = c.args.pair.now.imp in
    let reads = subst₂ (λ k (net : Netlist). IsReadSo s.vars k c.args.starts.now net (boxes_first imp)) (sym c.requires.pins) (sym c.imp-imp.ensures.imp) (order_read c.args.pair.now.imp c.args.d.now.store.vars (omega (arith, c.requires.few, c.requires.store)) (sym c.requires.store ∙ c.requires.vars) c.args.starts.now c.requires.count c.requires.starts) in
    subst (λ n. Makes s new (plain_functions_at n (boxes_first imp) spec imp)) (sym c.requires.store ∙ c.requires.vars)
    (subst₂ (λ (a b : Netlist). Makes s new (plain_functions_at s.vars (boxes_first imp) a b)) c.spec-spec.ensures.spec c.imp-imp.ensures.imp (c.in_ok-made.ensures.makes (boxes_first imp) reads))
