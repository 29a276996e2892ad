use Rattle.std.proofs.Common.{◌++◌, ap, ◌∙◌, map}
use Rattle.std.proofs.lemmas.Result.{on_ok_weaker}
use Rattle.std.specs.List.{flat_map}
use Rattle.bb_ast.specs.Names.{names_in}
use Rattle.bb_ast.specs.Inside.Views.{expression, operand_view, arm_view}
use Rattle.bb_ast.specs.declared.expr.Expr.TheVariants.{outs-Chain, outs-Words, outs-Concat, outs-Cond, outs-Repeat}
use Rattle.bb_ast.specs.declared.expr.Expr.{out-Expr}
use Rattle.bb_names.specs.Inside.Implicit.{grown}
use Rattle.bb_names.proofs.ExpressionViews.{view-of, names-chain, names-words, names-cond, names-concat, names-repeat}
use Rattle.bb_names.proofs.OnceLemmas.{grown-then, grown-turn, grown-all}
use Rattle.bb_names.proofs.implicit.+names.Goals as goal

pub add_expr-returns-in_ok-add_expr-in-Chain : goal.add_expr-returns-in_ok-add_expr-in-Chain
add_expr-returns-in_ok-add_expr-in-Chain t c =
    let entries = c.args.declared.now.entries in
    let view = view-of c.args.expr.now _ (ap out-Expr c.in-Chain.is ∙ outs-Chain c.in-Chain.first c.in-Chain.rest) in
    rw (ap names_in view ∙ names-chain (expression c.in-Chain.first.value) (map operand_view c.in-Chain.rest.items))
    (on_ok_weaker c.add_operands.result
    (λ step. grown-then entries _ _ _ _ _ (c.in_ok-add_expr-in-Chain.ensures ∙ ap (λ e. grown entries c.args.set.now.keys (names_in (expression e))) c.deref-in-Chain.ensures)
    (step ∙ ap (λ es. grown entries c.add_expr-in-Chain.new.set.keys (flat_map (λ x. names_in x.1) (map operand_view es))) c.deref-in-Chain-2.ensures.value))
    c.add_operands.ensures)

pub add_expr-returns-in_ok-add_expr-in-Words : goal.add_expr-returns-in_ok-add_expr-in-Words
add_expr-returns-in_ok-add_expr-in-Words t c =
    let entries = c.args.declared.now.entries in
    let view = view-of c.args.expr.now _ (ap out-Expr c.in-Words.is ∙ outs-Words c.in-Words.first c.in-Words.rest) in
    rw (ap names_in view ∙ names-words (expression c.in-Words.first.value) (map operand_view c.in-Words.rest.items))
    (on_ok_weaker c.add_words.result
    (λ step. grown-then entries _ _ _ _ _ (c.in_ok-add_expr-in-Words.ensures ∙ ap (λ e. grown entries c.args.set.now.keys (names_in (expression e))) c.deref-in-Words.ensures)
    (step ∙ ap (λ es. grown entries c.add_expr-in-Words.new.set.keys (flat_map (λ x. names_in x.1) (map operand_view es))) c.deref-in-Words-2.ensures.value))
    c.add_words.ensures)

pub add_expr-returns-in_ok-add_arms-in-Cond : goal.add_expr-returns-in_ok-add_arms-in-Cond
add_expr-returns-in_ok-add_arms-in-Cond t c =
    let entries = c.args.declared.now.entries in
    let view = view-of c.args.expr.now _ (ap out-Expr c.in-Cond.is ∙ outs-Cond c.in-Cond.arms c.in-Cond.last) in
    rw (ap names_in view ∙ names-cond (map arm_view c.in-Cond.arms.items) (expression c.in-Cond.last.value))
    (on_ok_weaker c.add_expr-in-Cond.result
    (λ step. grown-then entries _ _ _ _ _ (c.in_ok-add_arms-in-Cond.ensures ∙ ap (λ es. grown entries c.args.set.now.keys (flat_map (λ x. names_in x.0 ++ names_in x.1) (map arm_view es))) c.deref-in-Cond.ensures.value)
    (step ∙ ap (λ e. grown entries c.add_arms.new.set.keys (names_in (expression e))) c.deref-in-Cond-2.ensures))
    c.add_expr-in-Cond.ensures)

pub add_expr-returns-in-Concat : goal.add_expr-returns-in-Concat
add_expr-returns-in-Concat t c =
    let view = view-of c.args.expr.now _ (ap out-Expr c.in-Concat.is ∙ outs-Concat c.in-Concat.parts) in
    rw (ap names_in view ∙ names-concat (map expression c.in-Concat.parts.items))
    (on_ok_weaker c.add_parts.result (λ step. step ∙ ap (λ es. grown c.args.declared.now.entries c.args.set.now.keys (flat_map names_in (map expression es))) c.deref-in-Concat.ensures.value) c.add_parts.ensures)

pub add_expr-returns-in-Repeat : goal.add_expr-returns-in-Repeat
add_expr-returns-in-Repeat t c =
    let view = view-of c.args.expr.now _ (ap out-Expr c.in-Repeat.is ∙ outs-Repeat c.in-Repeat.field-0 c.in-Repeat.parts) in
    rw (ap names_in view ∙ names-repeat c.in-Repeat.field-0 (map expression c.in-Repeat.parts.items))
    (on_ok_weaker c.add_parts-in-Repeat.result (λ step. step ∙ ap (λ es. grown c.args.declared.now.entries c.args.set.now.keys (flat_map names_in (map expression es))) c.deref-in-Repeat.ensures.value) c.add_parts-in-Repeat.ensures)

pub add_operands-loop-operand-preserved : goal.add_operands-loop-operand-preserved
add_operands-loop-operand-preserved t c =
    grown-turn c.args.declared.now.entries (λ x. names_in x.1) operand_view c.args.rest.now c.loop-operand.operand-index c.loop-operand-item.result c.args.set.now.keys c.loop-operand.set.keys c.add_expr.new.set.keys c.loop-operand-test.true c.loop-operand-item.is
    c.loop-operand.invariant c.in_ok-add_expr.ensures

pub add_operands-returns : goal.add_operands-returns
add_operands-returns t c = grown-all c.args.declared.now.entries (λ x. names_in x.1) operand_view c.args.rest.now c.loop-operand.operand-index c.args.set.now.keys c.loop-operand.set.keys c.loop-operand-test.false c.loop-operand.invariant

pub add_words-loop-operand-preserved : goal.add_words-loop-operand-preserved
add_words-loop-operand-preserved t c =
    grown-turn c.args.declared.now.entries (λ x. names_in x.1) operand_view c.args.rest.now c.loop-operand.operand-index c.loop-operand-item.result c.args.set.now.keys c.loop-operand.set.keys c.add_expr.new.set.keys c.loop-operand-test.true c.loop-operand-item.is
    c.loop-operand.invariant c.in_ok-add_expr.ensures

pub add_words-returns : goal.add_words-returns
add_words-returns t c = grown-all c.args.declared.now.entries (λ x. names_in x.1) operand_view c.args.rest.now c.loop-operand.operand-index c.args.set.now.keys c.loop-operand.set.keys c.loop-operand-test.false c.loop-operand.invariant

pub add_parts-loop-part-preserved : goal.add_parts-loop-part-preserved
add_parts-loop-part-preserved t c =
    grown-turn c.args.declared.now.entries names_in expression c.args.parts.now c.loop-part.part-index c.part-item.result c.args.set.now.keys c.loop-part.set.keys c.add_expr.new.set.keys c.loop-part-test.true c.part-item.is
    c.loop-part.invariant c.in_ok-add_expr.ensures

pub add_parts-returns : goal.add_parts-returns
add_parts-returns t c = grown-all c.args.declared.now.entries names_in expression c.args.parts.now c.loop-part.part-index c.args.set.now.keys c.loop-part.set.keys c.loop-part-test.false c.loop-part.invariant

pub add_arms-loop-condition-preserved : goal.add_arms-loop-condition-preserved
add_arms-loop-condition-preserved t c =
    grown-turn c.args.declared.now.entries (λ x. names_in x.0 ++ names_in x.1) arm_view c.args.arms.now c.loop-condition.condition-index c.loop-condition-item.result c.args.set.now.keys c.loop-condition.set.keys c.add_expr-in-loop-condition.new.set.keys c.loop-condition-test.true c.loop-condition-item.is
    c.loop-condition.invariant (grown-then c.args.declared.now.entries _ _ _ _ _ c.in_ok-add_expr.ensures c.in_ok-add_expr-2.ensures)

pub add_arms-returns : goal.add_arms-returns
add_arms-returns t c = grown-all c.args.declared.now.entries (λ x. names_in x.0 ++ names_in x.1) arm_view c.args.arms.now c.loop-condition.condition-index c.args.set.now.keys c.loop-condition.set.keys c.loop-condition-test.false c.loop-condition.invariant
