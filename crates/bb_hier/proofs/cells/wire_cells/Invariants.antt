use Rattle.std.proofs.Common.{◌≡◌, map, take}
use Rattle.std.specs.Prelude.{sum_by}
use Rattle.bb_ast.specs.Inside.Views.{named_view}
use Rattle.bb_expr.specs.Inside.Shares.{capped}
use Rattle.bb_expr.specs.Inside.Occurrences.{ranges_at}
use Rattle.bb_hier.specs.Inside.Weights.{initial_cells}
use Rattle.bb_hier.proofs.cells.wire_cells.Given as goal

abbrev pub invariant-loop-name : goal.invariant-loop-name
invariant-loop-name l = l.total ≡ capped (sum_by (initial_cells (ranges_at l.checked l.place)) (map named_view (take l.name-index l.nets)))
