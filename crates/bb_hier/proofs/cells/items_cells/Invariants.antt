use Rattle.std.proofs.Common.{◌≡◌, map, take}
use Rattle.std.specs.Prelude.{sum_by}
use Rattle.bb_ast.specs.Syntax.{PlainItem}
use Rattle.bb_ast.specs.Inside.Views.{item_view}
use Rattle.bb_expr.specs.Inside.Shares.{capped}
use Rattle.bb_expr.specs.Inside.Occurrences.{ranges_at}
use Rattle.bb_hier.specs.Inside.Weights.{item_cells}
use Rattle.bb_hier.proofs.cells.items_cells.Given as goal

abbrev pub invariant-loop-item : goal.invariant-loop-item
invariant-loop-item l = l.total ≡ capped (sum_by (λ (x : PlainItem). item_cells (ranges_at l.checked l.place) x.body) (map item_view (take l.item-index l.items)))
