-- Two terminals come first, and each turn of the loop reads one more.
use Rattle.std.proofs.Common.{map, refl, arith}
use Rattle.bb_ast.specs.Inside.Views.{expression}
use Rattle.bb_parse.specs.Inside.Expressions.{read_expr}
use Rattle.bb_parse.proofs.Loops.{terms_begin, fails_gives, loop_stops, loop_ends, loop_fails, loop_goes_on, one_more}
use Rattle.bb_parse.proofs.gates.terms.Goals as goal

pub loop-turn-init : goal.loop-turn-init
loop-turn-init c = terms_begin c.args.depth c.args.cursor.now c.two_terms.new.cursor _ c.len-turn-end.result c.in_ok-terms.ensures c.len-turn-end.ensures.len

pub returns-then-not-takes : goal.returns-then-not-takes
returns-then-not-takes c =
    loop_stops (read_expr c.args.depth) _ _ c.len-turn-end.result c.loop-turn.turn c.loop-turn.cursor c.loop-turn.invariant c.takes.new.self
    c.if-not-takes.ensures.taken (c.if-not-takes.ensures.same refl)

pub loop-turn-preserved : goal.loop-turn-preserved
loop-turn-preserved c =
    loop_goes_on (read_expr c.args.depth) _ _ c.len-turn-end.result c.loop-turn.turn c.loop-turn.cursor c.loop-turn.invariant c.takes.new.self
    (expression c.in_ok-next.next) c.expr.new.cursor _ c.loop-turn-test.true c.if-not-takes.ensures.taken (c.if-not-takes.ensures.left refl)
    c.in_ok-next.ensures (one_more expression c.loop-turn.terms.items c.push.new.self.items c.in_ok-next.next c.in_ok-push.ensures.ok)

pub returns-in_err-next : goal.returns-in_err-next
returns-in_err-next c =
    fails_gives expression (λ xs. map expression xs.items) c.in_err-next.field-0.0 c.from_residual-in_err-next.result c.expr.new.cursor _ _ _
    c.from_residual-in_err-next.ensures c.in_err-next.ensures
    (loop_fails (read_expr c.args.depth) _ _ c.len-turn-end.result c.loop-turn.turn c.loop-turn.cursor c.loop-turn.invariant c.takes.new.self
    c.loop-turn-test.true c.if-not-takes.ensures.taken (c.if-not-takes.ensures.left refl))

pub returns : goal.returns
returns c = loop_ends (read_expr c.args.depth) _ _ c.len-turn-end.result c.loop-turn.turn c.loop-turn.cursor c.loop-turn.invariant (omega (arith, c.loop-turn-test.false))
