-- The list begins with one part, and each turn of the loop reads one more.
use Rattle.std.proofs.Common.{refl, arith}
use Rattle.bb_parse.specs.Inside.Steps.{read_name}
use Rattle.bb_parse.proofs.Loops.{loop_begins, loop_stops, fails_gives, loop_ends, loop_fails, loop_goes_on}
use Rattle.bb_parse.proofs.names.names.Goals as goal

pub loop-turn-init : goal.loop-turn-init
loop-turn-init c = loop_begins read_name _ c.name.new.self c.in_ok-first.first _ c.len-turn-end.result c.in_ok-first.ensures c.in_ok-names.ensures.ok c.len-turn-end.ensures.len

pub returns-then-not-takes : goal.returns-then-not-takes
returns-then-not-takes c =
    loop_stops read_name _ _ c.len-turn-end.result c.loop-turn.turn c.loop-turn.cursor c.loop-turn.invariant c.takes.new.self
    c.if-not-takes.ensures.taken (c.if-not-takes.ensures.same refl)

pub loop-turn-preserved : goal.loop-turn-preserved
loop-turn-preserved c =
    loop_goes_on read_name _ _ c.len-turn-end.result c.loop-turn.turn c.loop-turn.cursor c.loop-turn.invariant c.takes.new.self
    c.in_ok-name.name c.name-in-loop-turn.new.self _ c.loop-turn-test.true c.if-not-takes.ensures.taken (c.if-not-takes.ensures.left refl)
    c.in_ok-name.ensures c.in_ok-push.ensures.items

pub returns-in_err-name : goal.returns-in_err-name
returns-in_err-name c =
    fails_gives (λ n. n) (λ xs. xs.items) c.in_err-name.field-0.0 c.from_residual-in_err-name.result c.name-in-loop-turn.new.self _ _ _
    c.from_residual-in_err-name.ensures c.in_err-name.ensures
    (loop_fails read_name _ _ c.len-turn-end.result c.loop-turn.turn c.loop-turn.cursor c.loop-turn.invariant c.takes.new.self
    c.loop-turn-test.true c.if-not-takes.ensures.taken (c.if-not-takes.ensures.left refl))

pub returns : goal.returns
returns c = loop_ends read_name _ _ c.len-turn-end.result c.loop-turn.turn c.loop-turn.cursor c.loop-turn.invariant (omega (arith, c.loop-turn-test.false))
