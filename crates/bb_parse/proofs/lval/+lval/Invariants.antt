use Rattle.std.proofs.Common.{◌≡◌, ◌+◌, ◌-◌, ◌*◌, map}
use Rattle.bb_ast.specs.Inside.Views.{expression}
use Rattle.bb_parse.specs.Inside.Steps.{with_prefix, read_list, read_more}
use Rattle.bb_parse.specs.Inside.Expressions.{read_lval}
use Rattle.bb_parse.proofs.lval.+lval.Given as goal

abbrev pub decreases-lval : goal.decreases-lval
decreases-lval l = 2 * l.depth

abbrev pub decreases-lvals : goal.decreases-lvals
decreases-lvals l = 2 * l.depth + 1

abbrev pub invariant-lvals-loop-turn : goal.invariant-lvals-loop-turn
invariant-lvals-loop-turn l = read_list (read_lval l.depth) l.fn.cursor
    ≡ with_prefix (map expression l.parts.items) (read_more (read_lval l.depth) (l.turn-end - l.turn) l.cursor)
