use Rattle.std.proofs.Common.{◌≡◌, ◌+◌, ◌-◌, ◌*◌, length, map, Some}
use Rattle.bb_ast.specs.Inside.Views.{expression, operand_view, arm_view}
use Rattle.bb_parse.specs.Expressions.{bit_operator, word_operator}
use Rattle.bb_parse.specs.Inside.Steps.{with_prefix, read_list, read_more}
use Rattle.bb_parse.specs.Inside.Expressions.{read_expr, read_level, read_operands, read_arms, read_conditional, with_arms, conditional_from}
use Rattle.bb_parse.proofs.expr.+expr.Given as goal

abbrev pub decreases-arm : goal.decreases-arm
decreases-arm l = 50 * l.inner + 1

abbrev pub decreases-bits : goal.decreases-bits
decreases-bits l = 50 * l.inner + (13 + 3 * l.row)

abbrev pub decreases-braces : goal.decreases-braces
decreases-braces l = 50 * l.inner + 4

abbrev pub decreases-bracket : goal.decreases-bracket
decreases-bracket l = 50 * l.inner + 5

abbrev pub decreases-chain : goal.decreases-chain
decreases-chain l = 50 * l.inner + (14 + 3 * l.row)

abbrev pub decreases-conditional : goal.decreases-conditional
decreases-conditional l = 50 * l.inner + 40

abbrev pub decreases-expr : goal.decreases-expr
decreases-expr l = 50 * l.depth

abbrev pub decreases-exprs : goal.decreases-exprs
decreases-exprs l = 50 * l.depth + 3

abbrev pub decreases-fold : goal.decreases-fold
decreases-fold l = 50 * l.inner + 8

abbrev pub decreases-level : goal.decreases-level
decreases-level l = 50 * l.inner + (12 + 3 * l.height)

abbrev pub decreases-negated : goal.decreases-negated
decreases-negated l = 50 * l.inner + 7

abbrev pub decreases-primary : goal.decreases-primary
decreases-primary l = 50 * l.inner + 6

abbrev pub decreases-unary : goal.decreases-unary
decreases-unary l = 50 * l.inner + 9

abbrev pub decreases-words : goal.decreases-words
decreases-words l = 50 * l.inner + (13 + 3 * l.row)

abbrev pub invariant-bits-loop-turn : goal.invariant-bits-loop-turn
invariant-bits-loop-turn l = read_operands (bit_operator l.row) (read_level l.row (read_expr l.inner)) (length l.fn.cursor) l.fn.cursor
    ≡ with_prefix (map operand_view l.rest.items) (read_operands (bit_operator l.row) (read_level l.row (read_expr l.inner)) (l.turn-end - l.turn) l.cursor)

abbrev pub invariant-words-loop-turn : goal.invariant-words-loop-turn
invariant-words-loop-turn l = read_operands (word_operator l.row) (read_level l.row (read_expr l.inner)) (length l.fn.cursor) l.fn.cursor
    ≡ with_prefix (map operand_view l.rest.items) (read_operands (word_operator l.row) (read_level l.row (read_expr l.inner)) (l.turn-end - l.turn) l.cursor)

abbrev pub invariant-level-loop-row : goal.invariant-level-loop-row
invariant-level-loop-row l = read_level l.row (read_expr l.inner) l.fn.cursor ≡ Some (expression l.value, l.cursor)

abbrev pub invariant-conditional-loop-turn : goal.invariant-conditional-loop-turn
invariant-conditional-loop-turn l = read_conditional (read_expr l.inner) l.fn.cursor
    ≡ conditional_from (with_arms (map arm_view l.arms.items) (read_arms (read_expr l.inner) (l.turn-end - l.turn) l.cursor))

abbrev pub invariant-exprs-loop-turn : goal.invariant-exprs-loop-turn
invariant-exprs-loop-turn l = read_list (read_expr l.depth) l.fn.cursor
    ≡ with_prefix (map expression l.parts.items) (read_more (read_expr l.depth) (l.turn-end - l.turn) l.cursor)
