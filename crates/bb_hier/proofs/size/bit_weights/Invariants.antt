use Rattle.std.proofs.Common.{◌≡◌, ◌+◌, map, take}
use Rattle.bb_ast.specs.Syntax.{PlainModule}
use Rattle.bb_names.specs.Inside.Checked.{module_facts, syntax}
use Rattle.bb_expr.specs.Inside.Shares.{capped}
use Rattle.bb_hier.specs.Inside.Weights.{bit_count}
use Rattle.bb_hier.proofs.size.bit_weights.Given as goal

abbrev pub invariant-loop-scope : goal.invariant-loop-scope
invariant-loop-scope l = l.weights.items ≡ map (λ (m : PlainModule). capped (bit_count m + 1)) (map syntax (map module_facts (take l.scope-index l.modules)))
