use Rattle.std.proofs.Common.{sym, ap, ◌∙◌}
use Rattle.bb_ast.specs.Inside.Views.{expression}
use Rattle.bb_expr.specs.Cells.{cell_count}
use Rattle.bb_expr.specs.Inside.Shares.{capped}
use Rattle.bb_expr.proofs.ScopeLemmas.{occurs-within, module-fit, ranges-are}
use Rattle.bb_expr.proofs.cell_count.cells.Goals as goal

pub bounds-modules-module : goal.bounds-modules-module
bounds-modules-module c = occurs-within c.args.checked.now c.modules.result.now c.modules.ensures.modules c.args.module (expression c.args.expr.now) c.requires.occurs

pub cells_at-requires : goal.cells_at-requires
cells_at-requires c =
    let within = occurs-within c.args.checked.now c.modules.result.now c.modules.ensures.modules c.args.module (expression c.args.expr.now) c.requires.occurs in
    record {
      fit = module-fit c.args.checked.now c.modules.result.now c.modules.ensures.modules c.args.module c.index-modules-module.result c.index-modules-module.is within
          c.occurrences_are_fit.ensures c.modules.ensures.checked (expression c.args.expr.now) c.requires.occurs;
      width = c.requires.width;
    }

pub returns : goal.returns
returns c =
    let within = occurs-within c.args.checked.now c.modules.result.now c.modules.ensures.modules c.args.module (expression c.args.expr.now) c.requires.occurs in
    c.cells_at.ensures
    ∙ ap (λ ranges. capped (cell_count ranges (expression c.args.expr.now) c.args.width))
    (sym (ranges-are c.args.checked.now c.modules.result.now c.modules.ensures.modules c.args.module c.index-modules-module.result c.index-modules-module.is within))
