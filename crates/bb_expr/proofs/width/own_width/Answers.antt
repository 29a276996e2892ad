use Rattle.std.proofs.Common.{sym, ap, ◌∙◌}
use Rattle.bb_ast.specs.Inside.Views.{expression}
use Rattle.bb_names.specs.Widths.{own_width}
use Rattle.bb_expr.proofs.ScopeLemmas.{occurs-within, module-fit, ranges-are}
use Rattle.bb_expr.proofs.width.own_width.Goals as goal

pub bounds-modules-module : goal.bounds-modules-module
bounds-modules-module c = occurs-within c.args.checked.now c.modules.result.now c.modules.ensures.modules c.args.module (expression c.args.expr.now) c.requires

pub width_of-requires : goal.width_of-requires
width_of-requires c =
    let within = occurs-within c.args.checked.now c.modules.result.now c.modules.ensures.modules c.args.module (expression c.args.expr.now) c.requires in
    record {
      fit = module-fit c.args.checked.now c.modules.result.now c.modules.ensures.modules c.args.module c.index-modules-module.result c.index-modules-module.is within
          c.occurrences_are_fit.ensures c.modules.ensures.checked (expression c.args.expr.now) c.requires;
    }

pub returns : goal.returns
returns c =
    let within = occurs-within c.args.checked.now c.modules.result.now c.modules.ensures.modules c.args.module (expression c.args.expr.now) c.requires in
    c.width_of.ensures
    ∙ ap (λ ranges. own_width ranges (expression c.args.expr.now))
    (sym (ranges-are c.args.checked.now c.modules.result.now c.modules.ensures.modules c.args.module c.index-modules-module.result c.index-modules-module.is within))
