-- The list begins with one part, and each turn of the loop reads one more.
use Rattle.std.proofs.Common.{ap, map, refl, arith}
use Rattle.bb_ast.specs.Inside.Views.{gate_view}
use Rattle.bb_parse.specs.Inside.Items.{read_gate}
use Rattle.bb_parse.proofs.Loops.{loop_begins, loop_stops, fails_gives, loop_ends, loop_fails, loop_goes_on, one_more}
use Rattle.bb_parse.proofs.gates.gate_list.Goals as goal

pub loop-turn-init : goal.loop-turn-init
loop-turn-init c = loop_begins (read_gate c.args.depth) _ c.gate.new.cursor (gate_view c.in_ok-first.first) _ c.len-turn-end.result c.in_ok-first.ensures (ap (map gate_view) c.in_ok-all.ensures.ok) c.len-turn-end.ensures.len

pub returns-then-not-takes : goal.returns-then-not-takes
returns-then-not-takes c =
    loop_stops (read_gate c.args.depth) _ _ c.len-turn-end.result c.loop-turn.turn c.loop-turn.cursor c.loop-turn.invariant c.takes.new.self
    c.if-not-takes.ensures.taken (c.if-not-takes.ensures.same refl)

pub loop-turn-preserved : goal.loop-turn-preserved
loop-turn-preserved c =
    loop_goes_on (read_gate c.args.depth) _ _ c.len-turn-end.result c.loop-turn.turn c.loop-turn.cursor c.loop-turn.invariant c.takes.new.self
    (gate_view c.in_ok-next.next) c.gate-in-loop-turn.new.cursor _ c.loop-turn-test.true c.if-not-takes.ensures.taken (c.if-not-takes.ensures.left refl)
    c.in_ok-next.ensures (one_more gate_view c.loop-turn.all.items c.push.new.self.items c.in_ok-next.next c.in_ok-push.ensures.items)

pub returns-in_err-next : goal.returns-in_err-next
returns-in_err-next c =
    fails_gives gate_view (λ xs. map gate_view xs.items) c.in_err-next.field-0.0 c.from_residual-in_err-next.result c.gate-in-loop-turn.new.cursor _ _ _
    c.from_residual-in_err-next.ensures c.in_err-next.ensures
    (loop_fails (read_gate c.args.depth) _ _ c.len-turn-end.result c.loop-turn.turn c.loop-turn.cursor c.loop-turn.invariant c.takes.new.self
    c.loop-turn-test.true c.if-not-takes.ensures.taken (c.if-not-takes.ensures.left refl))

pub returns : goal.returns
returns c = loop_ends (read_gate c.args.depth) _ _ c.len-turn-end.result c.loop-turn.turn c.loop-turn.cursor c.loop-turn.invariant (omega (arith, c.loop-turn-test.false))
