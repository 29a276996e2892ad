use Rattle.std.proofs.Common.{◌≡◌, map, take}
use Rattle.std.specs.Prelude.{sum_by}
use Rattle.bb_ast.specs.Inside.Views.{expression}
use Rattle.bb_expr.specs.Inside.Shares.{capped, own_cells}
use Rattle.bb_expr.specs.Inside.Occurrences.{ranges_at}
use Rattle.bb_hier.proofs.cells.all_cells.Given as goal

abbrev pub invariant-loop-expr : goal.invariant-loop-expr
invariant-loop-expr l = l.total ≡ capped (sum_by (own_cells (ranges_at l.checked l.place)) (map expression (take l.expr-index l.all)))
