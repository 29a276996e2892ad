use Rattle.std.proofs.Common.{ℕ, ◌-◌, List, map, Option, All, sym, ap, ◌∙◌, subst}
use Rattle.std.specs.Prelude.{◌^◌}
use Rattle.bb_ast.specs.Syntax.{Expression}
use Rattle.bb_ast.specs.Inside.Views.{expression, gate_view}
use Rattle.bb_expr.specs.Inside.Shares.{capped}
use Rattle.bb_expr.specs.Inside.Occurrences.{OccursAt, ranges_at}
use Rattle.bb_hier.specs.Inside.Weights.{gate_weight}
use Rattle.bb_hier.proofs.CellSums.{share_more, share_all, all_within}
use Rattle.bb_hier.proofs.cells.gates_cells.Goals as goal

pub gate_cells-requires : goal.gate_cells-requires
gate_cells-requires c = record {
  occurs = subst (λ l. All (OccursAt c.args.checked.now c.args.place) (map expression l)) (sym c.as_slice.ensures)
      (all_within (OccursAt c.args.checked.now c.args.place) (λ (x : Option (List ℕ) × List Expression). x.1) gate_view c.args.all.now c.loop-call.call-index c.call-item.result c.loop-call-test.true c.call-item.is c.requires.occurs);
}

pub loop-call-preserved : goal.loop-call-preserved
loop-call-preserved c = share_more (λ (x : Option (List ℕ) × List Expression). gate_weight (ranges_at c.args.checked.now c.args.place) c.args.gate x.1) gate_view c.args.all.now c.loop-call.call-index (2 ^ 64 - 1) c.call-item.result c.loop-call.total c.gate_cells.result c.saturating_add-total.result c.loop-call-test.true c.call-item.is c.loop-call.invariant (c.gate_cells.ensures.cells ∙ ap (λ l. capped (gate_weight (ranges_at c.args.checked.now c.args.place) c.args.gate (map expression l))) c.as_slice.ensures) c.saturating_add-total.ensures

pub returns : goal.returns
returns c = record { cells = share_all (λ (x : Option (List ℕ) × List Expression). gate_weight (ranges_at c.args.checked.now c.args.place) c.args.gate x.1) gate_view c.args.all.now c.loop-call.call-index (2 ^ 64 - 1) c.loop-call.total c.loop-call-test.false c.loop-call.invariant }
