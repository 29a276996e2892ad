use Rattle.std.proofs.Common.{List, map, sym, subst}
use Rattle.bb_ast.specs.declared.expr.Expr.{Expr}
use Rattle.bb_ast.specs.Inside.Views.{expression, gate_view}
use Rattle.bb_design.specs.Constructs.{gate_construct}
use Rattle.bb_blast.specs.Inside.BitBlasting.{IsMakeable, IsPartAt}
use Rattle.bb_lemmas.proofs.Turns.{all_here, zip_turn, zip_begin, zip_end}
use Rattle.bb_blast.proofs.gating.add_gates.Goals as goal

pub gate_part-requires-clause-makeable : goal.gate_part-requires-clause-makeable
gate_part-requires-clause-makeable c =
    let k = c.args.context.module in
    subst (λ (l : List Expr). IsMakeable c.args.context.checked.now k (gate_construct c.args.gate (map expression l))) (sym c.as_slice.ensures)
    (all_here (λ x. IsMakeable c.args.context.checked.now k (gate_construct c.args.gate x.1)) gate_view c.args.all.now c.loop-call.call-index c.call-item.result c.loop-call-test.true c.call-item.is c.requires.makeable)

pub loop-call-init : goal.loop-call-init
loop-call-init c = λ before all. zip_begin (IsPartAt c.args.context.checked.now c.args.context.module) before c.args.parts.now.items all

pub loop-call-preserved : goal.loop-call-preserved
loop-call-preserved c = λ before all. zip_turn (IsPartAt c.args.context.checked.now c.args.context.module) gate_view c.args.all.now c.loop-call.call-index c.call-item.result c.loop-call-test.true c.call-item.is (λ x. gate_construct c.args.gate x.1) before
    c.loop-call.parts.items c.push.new.self.items c.in_ok-gate_part.field-0 (c.loop-call.invariant before all)
    (subst (λ (l : List Expr). IsPartAt c.args.context.checked.now c.args.context.module c.in_ok-gate_part.field-0 (gate_construct c.args.gate (map expression l))) c.as_slice.ensures c.in_ok-gate_part.ensures.part) c.in_ok-push.ensures.items

pub returns : goal.returns
returns c = record { parts = λ before all. zip_end (IsPartAt c.args.context.checked.now c.args.context.module) (λ l. map (λ x. gate_construct c.args.gate x.1) (map gate_view l)) c.args.all.now c.loop-call.call-index before c.loop-call.parts.items c.loop-call-test.false (c.loop-call.invariant before all) }
