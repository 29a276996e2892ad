use Rattle.std.proofs.Common.{arith}
use Rattle.bb_ast.specs.Inside.Views.{expression}
use Rattle.bb_hier.proofs.CellSums.{occurs_narrow}
use Rattle.bb_hier.proofs.cells.assigned_cells.Goals as goal

pub cells-requires-clause-width : goal.cells-requires-clause-width
cells-requires-clause-width c =
    omega (arith, c.requires.left, c.max-width.ensures, c.own_width.ensures, occurs_narrow c.args.checked.now c.args.place (expression c.args.right.now) c.occurrences_are_fit.ensures c.modules-modules.ensures.checked c.requires.occurs)
