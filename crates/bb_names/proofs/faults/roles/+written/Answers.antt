use Rattle.std.proofs.Common.{ap, sym, ◌∙◌, map}
use Rattle.std.specs.List.{list_all}
use Rattle.bb_ast.specs.Assignable.{is_assignable}
use Rattle.bb_ast.specs.Inside.Views.{expression}
use Rattle.bb_ast.specs.declared.expr.Expr.TheVariants.{outs-Concat}
use Rattle.bb_ast.specs.declared.expr.Expr.{out-Expr}
use Rattle.bb_names.proofs.ExpressionViews.{view-of, assignable-concat}
use Rattle.bb_names.proofs.NetLemmas.{all-fails, all-more, all-hold}
use Rattle.bb_names.proofs.faults.roles.+written.Goals as goal

pub may_all_be_written-returns-then-not-may_be_written : goal.may_all_be_written-returns-then-not-may_be_written
may_all_be_written-returns-then-not-may_be_written t c =
    sym (all-fails is_assignable expression c.args.parts.now c.loop-part.part-index c.part-item.result c.loop-part-test.true c.part-item.is (sym c.may_be_written.ensures ∙ c.if-not-may_be_written.true))

pub may_be_written-returns-in-Concat : goal.may_be_written-returns-in-Concat
may_be_written-returns-in-Concat t c =
    let view = view-of c.args.expr.now _ (ap out-Expr c.in-Concat.is ∙ outs-Concat c.in-Concat.parts) in
    c.may_all_be_written.ensures ∙ ap (λ es. list_all is_assignable (map expression es)) c.deref.ensures.value ∙ sym (ap is_assignable view ∙ assignable-concat (map expression c.in-Concat.parts.items))

pub may_all_be_written-loop-part-preserved : goal.may_all_be_written-loop-part-preserved
may_all_be_written-loop-part-preserved t c =
    all-more is_assignable expression c.args.parts.now c.loop-part.part-index c.part-item.result c.loop-part-test.true c.part-item.is c.loop-part.invariant (sym c.may_be_written.ensures ∙ c.if-not-may_be_written.false)

pub may_all_be_written-returns : goal.may_all_be_written-returns
may_all_be_written-returns t c = sym (all-hold is_assignable expression c.args.parts.now c.loop-part.part-index c.loop-part-test.false c.loop-part.invariant)
