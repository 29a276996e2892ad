use Rattle.std.proofs.Common.{◌≡◌, ◌++◌, take, map}
use Rattle.std.specs.Prelude.{vec_items}
use Rattle.std.specs.List.{flat_map}
use Rattle.bb_checks.specs.Reports.{vector_line}
use Rattle.bb_checks.proofs.proof_lines.push_vectors.Given as goal

abbrev pub invariant-loop-vector : goal.invariant-loop-vector
invariant-loop-vector l = l.text.items ≡ l.initial.text.items ++ flat_map vector_line (map vec_items (take l.vector-index l.vectors))
