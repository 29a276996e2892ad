-- A list, operators with their operands and conditions with their values are read in loops, where each turn reads one more.
use Rattle.std.proofs.Common.{◌∙◌, ◌+◌, ◌-◌, Some, None, Vec, Global, ap, map, sym, refl, arith}
use Rattle.bb_ast.specs.declared.expr.Op.{Op}
use Rattle.bb_ast.specs.declared.operators.WordOp.{WordOp}
use Rattle.bb_ast.specs.declared.expr.Expr.{Expr}
use Rattle.bb_ast.specs.Inside.Views.{expression, operand_view, arm_view}
use Rattle.bb_parse.specs.Expressions.{bit_operator, word_operator}
use Rattle.bb_parse.specs.Inside.Steps.{with_prefix}
use Rattle.bb_parse.specs.Inside.Expressions.{read_expr, read_level, read_operands, read_arms, with_arms, conditional_from}
use Rattle.bb_parse.proofs.Levels.{level_zero, level_next, level_alone, level_none}
use Rattle.bb_parse.proofs.Loops.{loop_begins, loop_stops, loop_ends, loop_fails, loop_goes_on, one_more, operands_begin, operands_stop, operands_end, operands_fail, operands_go_on, arms_begin, arms_end, arms_none, arms_stop, arm_none, arms_go_on, makes_gives, fails_gives}
use Rattle.bb_parse.proofs.expr.+expr.Goals as goal

pub exprs-loop-turn-init : goal.exprs-loop-turn-init
exprs-loop-turn-init t c =
    loop_begins (read_expr c.args.depth) _ c.expr.new.cursor (expression c.in_ok-first.first) _ c.len-turn-end.result c.in_ok-first.ensures
    (ap (map expression) c.in_ok-parts.ensures.ok) c.len-turn-end.ensures.len

pub exprs-returns-then-not-takes : goal.exprs-returns-then-not-takes
exprs-returns-then-not-takes t c =
    loop_stops (read_expr c.args.depth) _ _ c.len-turn-end.result c.loop-turn.turn c.loop-turn.cursor c.loop-turn.invariant c.takes.new.self
    c.if-not-takes.ensures.taken (c.if-not-takes.ensures.same refl)

pub exprs-loop-turn-preserved : goal.exprs-loop-turn-preserved
exprs-loop-turn-preserved t c =
    loop_goes_on (read_expr c.args.depth) _ _ c.len-turn-end.result c.loop-turn.turn c.loop-turn.cursor c.loop-turn.invariant c.takes.new.self
    (expression c.in_ok-part.part) c.expr-in-loop-turn.new.cursor _ c.loop-turn-test.true c.if-not-takes.ensures.taken (c.if-not-takes.ensures.left refl)
    c.in_ok-part.ensures (one_more expression c.loop-turn.parts.items c.push.new.self.items c.in_ok-part.part c.in_ok-push.ensures.items)

pub exprs-returns-in_err-part : goal.exprs-returns-in_err-part
exprs-returns-in_err-part t c =
    fails_gives expression (λ (xs : Vec Expr Global). map expression xs.items) c.in_err-part.field-0.0 c.from_residual-in_err-part.result c.expr-in-loop-turn.new.cursor _ _ _
    c.from_residual-in_err-part.ensures c.in_err-part.ensures
    (loop_fails (read_expr c.args.depth) _ _ c.len-turn-end.result c.loop-turn.turn c.loop-turn.cursor c.loop-turn.invariant c.takes.new.self
    c.loop-turn-test.true c.if-not-takes.ensures.taken (c.if-not-takes.ensures.left refl))

pub exprs-returns : goal.exprs-returns
exprs-returns t c =
    loop_ends (read_expr c.args.depth) _ _ c.len-turn-end.result c.loop-turn.turn c.loop-turn.cursor c.loop-turn.invariant (omega (arith, c.loop-turn-test.false))

pub bits-loop-turn-init : goal.bits-loop-turn-init
bits-loop-turn-init t c =
    operands_begin (bit_operator c.args.row) (read_level c.args.row (read_expr c.args.inner)) c.args.cursor.now c.len-turn-end.result c.len-turn-end.ensures.len
    ∙ ap (λ items. with_prefix (map operand_view items) (read_operands (bit_operator c.args.row) (read_level c.args.row (read_expr c.args.inner)) (c.len-turn-end.result - 0) c.args.cursor.now))
    (sym c.new-rest.ensures.items)

pub bits-returns-in_default : goal.bits-returns-in_default
bits-returns-in_default t c =
    operands_stop (bit_operator c.args.row) (read_level c.args.row (read_expr c.args.inner)) _ c.loop-turn.rest.items c.len-turn-end.result c.loop-turn.turn c.loop-turn.cursor
    c.loop-turn.invariant (sym c.in_default.is ∙ c.bit_operator.ensures)

pub bits-loop-turn-preserved : goal.bits-loop-turn-preserved
bits-loop-turn-preserved t c =
    operands_go_on (bit_operator c.args.row) (read_level c.args.row (read_expr c.args.inner)) _ c.loop-turn.rest.items c.len-turn-end.result c.loop-turn.turn c.loop-turn.cursor
    c.loop-turn.invariant c.loop-turn-test.true c.in-Some.op (sym c.in-Some.is ∙ c.bit_operator.ensures) c.in_ok-next.next c.level.new.cursor c.push.new.self.items
    (ap (read_level c.args.row (read_expr c.args.inner)) (sym c.skip.ensures) ∙ c.in_ok-next.ensures) c.in_ok-push.ensures.items

pub bits-returns : goal.bits-returns
bits-returns t c =
    operands_end (bit_operator c.args.row) (read_level c.args.row (read_expr c.args.inner)) _ c.loop-turn.rest.items c.len-turn-end.result c.loop-turn.turn c.loop-turn.cursor
    c.loop-turn.invariant (omega (arith, c.loop-turn-test.false))

pub bits-returns-in_err-next : goal.bits-returns-in_err-next
bits-returns-in_err-next t c =
    fails_gives expression (λ (xs : Vec (Op × Expr) Global). map operand_view xs.items) c.in_err-next.field-0.0 c.from_residual.result c.level.new.cursor _ _ _ c.from_residual.ensures c.in_err-next.ensures
    (λ h. operands_fail (bit_operator c.args.row) (read_level c.args.row (read_expr c.args.inner)) _ c.loop-turn.rest.items c.len-turn-end.result c.loop-turn.turn c.loop-turn.cursor
    c.loop-turn.invariant c.loop-turn-test.true c.in-Some.op (sym c.in-Some.is ∙ c.bit_operator.ensures)
    (ap (read_level c.args.row (read_expr c.args.inner)) (sym c.skip.ensures) ∙ h))

pub words-loop-turn-init : goal.words-loop-turn-init
words-loop-turn-init t c =
    operands_begin (word_operator c.args.row) (read_level c.args.row (read_expr c.args.inner)) c.args.cursor.now c.len-turn-end.result c.len-turn-end.ensures.len
    ∙ ap (λ items. with_prefix (map operand_view items) (read_operands (word_operator c.args.row) (read_level c.args.row (read_expr c.args.inner)) (c.len-turn-end.result - 0) c.args.cursor.now))
    (sym c.new-rest.ensures.items)

pub words-returns-in_default : goal.words-returns-in_default
words-returns-in_default t c =
    operands_stop (word_operator c.args.row) (read_level c.args.row (read_expr c.args.inner)) _ c.loop-turn.rest.items c.len-turn-end.result c.loop-turn.turn c.loop-turn.cursor
    c.loop-turn.invariant (sym c.in_default.is ∙ c.word_operator.ensures)

pub words-loop-turn-preserved : goal.words-loop-turn-preserved
words-loop-turn-preserved t c =
    operands_go_on (word_operator c.args.row) (read_level c.args.row (read_expr c.args.inner)) _ c.loop-turn.rest.items c.len-turn-end.result c.loop-turn.turn c.loop-turn.cursor
    c.loop-turn.invariant c.loop-turn-test.true c.in-Some.op (sym c.in-Some.is ∙ c.word_operator.ensures) c.in_ok-next.next c.level.new.cursor c.push.new.self.items
    (ap (read_level c.args.row (read_expr c.args.inner)) (sym c.skip.ensures) ∙ c.in_ok-next.ensures) c.in_ok-push.ensures.items

pub words-returns : goal.words-returns
words-returns t c =
    operands_end (word_operator c.args.row) (read_level c.args.row (read_expr c.args.inner)) _ c.loop-turn.rest.items c.len-turn-end.result c.loop-turn.turn c.loop-turn.cursor
    c.loop-turn.invariant (omega (arith, c.loop-turn-test.false))

pub words-returns-in_err-next : goal.words-returns-in_err-next
words-returns-in_err-next t c =
    fails_gives expression (λ (xs : Vec (WordOp × Expr) Global). map operand_view xs.items) c.in_err-next.field-0.0 c.from_residual.result c.level.new.cursor _ _ _ c.from_residual.ensures c.in_err-next.ensures
    (λ h. operands_fail (word_operator c.args.row) (read_level c.args.row (read_expr c.args.inner)) _ c.loop-turn.rest.items c.len-turn-end.result c.loop-turn.turn c.loop-turn.cursor
    c.loop-turn.invariant c.loop-turn-test.true c.in-Some.op (sym c.in-Some.is ∙ c.word_operator.ensures)
    (ap (read_level c.args.row (read_expr c.args.inner)) (sym c.skip.ensures) ∙ h))

pub conditional-loop-turn-init : goal.conditional-loop-turn-init
conditional-loop-turn-init t c =
    arms_begin (read_expr c.args.inner) c.args.cursor.now c.len-turn-end.result c.len-turn-end.ensures.len
    ∙ ap (λ items. conditional_from (with_arms (map arm_view items) (read_arms (read_expr c.args.inner) (c.len-turn-end.result - 0) c.args.cursor.now))) (sym c.new-arms.ensures.items)

pub conditional-loop-turn-preserved : goal.conditional-loop-turn-preserved
conditional-loop-turn-preserved t c =
    arms_go_on (read_expr c.args.inner) _ c.loop-turn.arms.items c.len-turn-end.result c.loop-turn.turn c.loop-turn.cursor c.loop-turn.invariant c.loop-turn-test.true
    (expression c.in_ok-value.value) c.level.new.cursor c.takes.new.self c.in_ok-value.ensures c.if-not-takes.ensures.taken (c.if-not-takes.ensures.left refl)
    c.in_ok-next.next c.arm.new.cursor c.push.new.self.items c.in_ok-next.ensures c.in_ok-push.ensures.items

pub conditional-returns : goal.conditional-returns
conditional-returns t c =
    arms_end (read_expr c.args.inner) _ c.loop-turn.arms.items c.len-turn-end.result c.loop-turn.turn c.loop-turn.cursor c.loop-turn.invariant (omega (arith, c.loop-turn-test.false))

pub conditional-returns-then-not-takes : goal.conditional-returns-then-not-takes
conditional-returns-then-not-takes t c =
    makes_gives expression c.conditional_of.result _ c.takes.new.self _ c.conditional_of.ensures
    (arms_stop (read_expr c.args.inner) _ c.loop-turn.arms.items c.len-turn-end.result c.loop-turn.turn c.loop-turn.cursor c.loop-turn.invariant c.loop-turn-test.true
    (expression c.in_ok-value.value) c.level.new.cursor c.takes.new.self c.in_ok-value.ensures c.if-not-takes.ensures.taken (c.if-not-takes.ensures.same refl))

pub conditional-returns-in_err-value : goal.conditional-returns-in_err-value
conditional-returns-in_err-value t c =
    fails_gives expression expression c.in_err-value.field-0.0 c.from_residual.result c.level.new.cursor _ _ _ c.from_residual.ensures c.in_err-value.ensures
    (arms_none (read_expr c.args.inner) _ c.loop-turn.arms.items c.len-turn-end.result c.loop-turn.turn c.loop-turn.cursor c.loop-turn.invariant c.loop-turn-test.true)

pub conditional-returns-in_err-next : goal.conditional-returns-in_err-next
conditional-returns-in_err-next t c =
    fails_gives arm_view expression c.in_err-next.field-0.0 c.from_residual-in_err-next.result c.arm.new.cursor _ _ _ c.from_residual-in_err-next.ensures c.in_err-next.ensures
    (arm_none (read_expr c.args.inner) _ c.loop-turn.arms.items c.len-turn-end.result c.loop-turn.turn c.loop-turn.cursor c.loop-turn.invariant c.loop-turn-test.true
    (expression c.in_ok-value.value) c.level.new.cursor c.takes.new.self c.in_ok-value.ensures c.if-not-takes.ensures.taken (c.if-not-takes.ensures.left refl))

pub level-loop-row-init : goal.level-loop-row-init
level-loop-row-init t c = level_zero (read_expr c.args.inner) c.args.cursor.now ∙ c.in_ok-value.ensures

pub level-returns-in_err-value : goal.level-returns-in_err-value
level-returns-in_err-value t c =
    fails_gives expression expression c.in_err-value.field-0.0 c.from_residual.result c.unary.new.cursor _ _ _ c.from_residual.ensures c.in_err-value.ensures
    (λ h. level_none (read_expr c.args.inner) c.args.cursor.now c.args.height 0 c.args.height (omega arith) (level_zero (read_expr c.args.inner) c.args.cursor.now ∙ h))

pub level-returns-then-not-begins_operator : goal.level-returns-then-not-begins_operator
level-returns-then-not-begins_operator t c =
    level_alone (read_expr c.args.inner) c.args.cursor.now c.loop-row.cursor (expression c.loop-row.value) (c.args.height - c.loop-row.row) c.loop-row.row c.args.height
    (omega (arith, c.loop-row-test.true)) c.loop-row.invariant (sym c.if-not-begins_operator.ensures)

pub level-loop-row-preserved : goal.level-loop-row-preserved
level-loop-row-preserved t c =
    level_next (read_expr c.args.inner) c.args.cursor.now c.loop-row.cursor c.loop-row.row (expression c.loop-row.value) (Some (expression c.in_ok-value-2.value, c.chain.new.cursor))
    c.loop-row.invariant c.in_ok-value-2.ensures

pub level-returns-in_err-value-2 : goal.level-returns-in_err-value-2
level-returns-in_err-value-2 t c =
    fails_gives expression expression c.in_err-value-2.field-0.0 c.from_residual-in_err-value-2.result c.chain.new.cursor _ _ _ c.from_residual-in_err-value-2.ensures
    c.in_err-value-2.ensures
    (λ h. level_none (read_expr c.args.inner) c.args.cursor.now (c.args.height - (c.loop-row.row + 1)) (c.loop-row.row + 1) c.args.height (omega (arith, c.loop-row-test.true))
    (level_next (read_expr c.args.inner) c.args.cursor.now c.loop-row.cursor c.loop-row.row (expression c.loop-row.value) None c.loop-row.invariant h))
