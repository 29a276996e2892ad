use Rattle.std.proofs.Common.{◌≡◌, ◌<◌, ℕ, Some, map, length}
use Rattle.std.specs.Prelude.{slice_get, slice_index_or}
use Rattle.bb_ast.specs.Syntax.{PlainModule}
use Rattle.bb_names.specs.Inside.Checked.{syntax}
use Rattle.bb_expr.specs.Inside.Shares.{capped}
use Rattle.bb_hier.specs.Inside.Weights.{construct_cells, instance_cells}
use Rattle.bb_hier.proofs.size.instance_weights.Given as goal

abbrev pub invariant-loop-place : goal.invariant-loop-place
invariant-loop-place l = (length l.weights.items ≡ l.place) × ((k : ℕ) (m : PlainModule) → k < l.place → slice_get (map syntax l.checked) k ≡ Some m → slice_index_or l.constructs k 0 ≡ capped (construct_cells m) → slice_index_or l.weights.items k 0 ≡ capped (instance_cells m))
