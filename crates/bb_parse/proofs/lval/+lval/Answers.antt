-- The list begins with one part, and each turn of the loop reads one more.
use Rattle.std.proofs.Common.{ap, map, refl, arith}
use Rattle.bb_ast.specs.Inside.Views.{expression}
use Rattle.bb_parse.specs.Inside.Expressions.{read_lval}
use Rattle.bb_parse.proofs.Loops.{loop_begins, loop_stops, fails_gives, loop_ends, loop_fails, loop_goes_on, one_more}
use Rattle.bb_parse.proofs.lval.+lval.Goals as goal

pub lvals-loop-turn-init : goal.lvals-loop-turn-init
lvals-loop-turn-init t c =
    loop_begins (read_lval c.args.depth) _ c.lval.new.cursor (expression c.in_ok-first.first) _ c.len-turn-end.result c.in_ok-first.ensures
    (ap (map expression) c.in_ok-parts.ensures.ok) c.len-turn-end.ensures.len

pub lvals-returns-then-not-takes : goal.lvals-returns-then-not-takes
lvals-returns-then-not-takes t c =
    loop_stops (read_lval c.args.depth) _ _ c.len-turn-end.result c.loop-turn.turn c.loop-turn.cursor c.loop-turn.invariant c.takes.new.self
    c.if-not-takes.ensures.taken (c.if-not-takes.ensures.same refl)

pub lvals-loop-turn-preserved : goal.lvals-loop-turn-preserved
lvals-loop-turn-preserved t c =
    loop_goes_on (read_lval c.args.depth) _ _ c.len-turn-end.result c.loop-turn.turn c.loop-turn.cursor c.loop-turn.invariant c.takes.new.self
    (expression c.in_ok-part.part) c.lval-in-loop-turn.new.cursor _ c.loop-turn-test.true c.if-not-takes.ensures.taken (c.if-not-takes.ensures.left refl)
    c.in_ok-part.ensures (one_more expression c.loop-turn.parts.items c.push.new.self.items c.in_ok-part.part c.in_ok-push.ensures.items)

pub lvals-returns-in_err-part : goal.lvals-returns-in_err-part
lvals-returns-in_err-part t c =
    fails_gives expression (λ xs. map expression xs.items) c.in_err-part.field-0.0 c.from_residual-in_err-part.result c.lval-in-loop-turn.new.cursor _ _ _
    c.from_residual-in_err-part.ensures c.in_err-part.ensures
    (loop_fails (read_lval c.args.depth) _ _ c.len-turn-end.result c.loop-turn.turn c.loop-turn.cursor c.loop-turn.invariant c.takes.new.self
    c.loop-turn-test.true c.if-not-takes.ensures.taken (c.if-not-takes.ensures.left refl))

pub lvals-returns : goal.lvals-returns
lvals-returns t c =
    loop_ends (read_lval c.args.depth) _ _ c.len-turn-end.result c.loop-turn.turn c.loop-turn.cursor c.loop-turn.invariant (omega (arith, c.loop-turn-test.false))
