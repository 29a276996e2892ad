use Rattle.std.proofs.Common.{◌≡◌, ◌-◌, map}
use Rattle.bb_ast.specs.Inside.Views.{expression}
use Rattle.bb_parse.specs.Inside.Steps.{with_prefix, read_more}
use Rattle.bb_parse.specs.Inside.Expressions.{read_expr}
use Rattle.bb_parse.specs.Inside.Items.{read_terms}
use Rattle.bb_parse.proofs.gates.terms.Given as goal

abbrev pub invariant-loop-turn : goal.invariant-loop-turn
invariant-loop-turn l = read_terms l.depth l.fn.cursor ≡ with_prefix (map expression l.terms.items) (read_more (read_expr l.depth) (l.turn-end - l.turn) l.cursor)
