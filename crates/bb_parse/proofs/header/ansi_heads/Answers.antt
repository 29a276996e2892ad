-- The list begins with one name and its declaration, and each turn of the loop reads one more.
use Rattle.std.proofs.Common.{ℕ, List, ap, map, refl, arith}
use Rattle.bb_ast.specs.declared.module.Port.{Port}
use Rattle.bb_ast.specs.Inside.Views.{head_view}
use Rattle.bb_parse.proofs.Loops.{fails_gives, ansi_begins, ansi_stops, ansi_ends, ansi_fails, ansi_goes_on}
use Rattle.bb_parse.proofs.header.ansi_heads.Goals as goal

pub loop-turn-init : goal.loop-turn-init
loop-turn-init c =
    ansi_begins _ c.port.new.cursor c.name.new.self c.in_ok-before.before c.in_ok-first.first _ c.len-turn-end.result c.in_ok-before.ensures c.in_ok-first.ensures
    (ap (map head_view) c.in_ok-heads.ensures.ok) c.len-turn-end.ensures.len

pub returns-then-not-takes : goal.returns-then-not-takes
returns-then-not-takes c =
    ansi_stops _ c.loop-turn.heads.items c.loop-turn.before c.len-turn-end.result c.loop-turn.turn c.loop-turn.cursor c.loop-turn.invariant c.takes.new.self
    c.if-not-takes.ensures.taken (c.if-not-takes.ensures.same refl)

pub returns-in_err-port : goal.returns-in_err-port
returns-in_err-port c =
    fails_gives (λ (x : Port × List ℕ). (x.0, x.1)) (λ xs. map head_view xs.items) c.in_err-port.field-0.0 c.from_residual-in_err-port.result c.ansi.new.cursor _ _ _
    c.from_residual-in_err-port.ensures c.in_err-port.ensures
    (ansi_fails _ c.loop-turn.heads.items c.loop-turn.before c.len-turn-end.result c.loop-turn.turn c.loop-turn.cursor c.loop-turn.invariant c.takes.new.self
    c.loop-turn-test.true c.if-not-takes.ensures.taken (c.if-not-takes.ensures.left refl))

pub loop-turn-preserved : goal.loop-turn-preserved
loop-turn-preserved c =
    ansi_goes_on _ c.loop-turn.heads.items c.loop-turn.before c.len-turn-end.result c.loop-turn.turn c.loop-turn.cursor c.loop-turn.invariant c.takes.new.self
    c.loop-turn-test.true c.if-not-takes.ensures.taken (c.if-not-takes.ensures.left refl) c.in_ok-port.port c.in_ok-port.name c.ansi.new.cursor c.push.new.self.items
    c.in_ok-port.ensures c.in_ok-push.ensures.items

pub returns : goal.returns
returns c =
    ansi_ends _ c.loop-turn.heads.items c.loop-turn.before c.len-turn-end.result c.loop-turn.turn c.loop-turn.cursor c.loop-turn.invariant (omega (arith, c.loop-turn-test.false))
