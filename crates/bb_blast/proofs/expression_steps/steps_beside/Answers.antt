use Rattle.std.proofs.Common.{ap, ◌∙◌, arith}
use Rattle.std.specs.Prelude.{max, slice_get}
use Rattle.std.proofs.lemmas.Result.{IfOk-weaker}
use Rattle.bb_ast.specs.Inside.Views.{expression}
use Rattle.bb_names.specs.Inside.Checked.{syntax}
use Rattle.bb_expr.specs.Inside.Occurrences.{OccursIn}
use Rattle.bb_blast.proofs.ModulePlaces.{some_and, occurring_bounded, cells_few, steps_are}
use Rattle.bb_blast.proofs.expression_steps.steps_beside.Goals as goal

pub lower-requires-clause-width : goal.lower-requires-clause-width
lower-requires-clause-width c =
    let f = some_and (λ m. OccursIn (syntax m) (expression c.args.expr.now)) (slice_get c.args.context.checked.now c.args.context.module) c.requires.occurs in
    omega (
      arith,
      c.max-width.ensures,
      c.own_width.ensures,
      c.requires.least,
      occurring_bounded c.args.context.checked.now c.args.context.module f.0 f.1 c.occurrences_are_fit.ensures c.modules-modules.ensures.checked (expression c.args.expr.now) c.requires.occurs,
    )

pub lower-requires-clause-cells : goal.lower-requires-clause-cells
lower-requires-clause-cells c =
    let f = some_and (λ m. OccursIn (syntax m) (expression c.args.expr.now)) (slice_get c.args.context.checked.now c.args.context.module) c.requires.occurs in
    cells_few c.args.context.checked.now c.args.context.module f.0 f.1 c.cells_are_counted.ensures (expression c.args.expr.now) c.args.least c.max-width.result 2000000 (c.max-width.ensures ∙ ap (max c.args.least) c.own_width.ensures) c.requires.few

pub returns : goal.returns
returns c =
    let f = some_and (λ m. OccursIn (syntax m) (expression c.args.expr.now)) (slice_get c.args.context.checked.now c.args.context.module) c.requires.occurs in
    record {
      made = IfOk-weaker _ _ _ (λ l lowered. steps_are c.args.context.checked.now c.args.context.module f.0 f.1 c.modules-modules.ensures.checked (expression c.args.expr.now) c.args.least c.max-width.result l
          (c.max-width.ensures ∙ ap (max c.args.least) c.own_width.ensures) lowered) c.lower.ensures.lowered;
    }
