use Rattle.std.proofs.Common.{◌<◌, ℕ, length, refl, ap, sym, subst, arith}
use Rattle.std.specs.Prelude.{All}
use Rattle.bb_word.proofs.MoveLemmas.{room_step}
use Rattle.bb_word.proofs.ShiftSteps.{IsShifted-start, IsShifted-step, IsShifted-end}
use Rattle.bb_word.proofs.shifts.add_shift.Goals as goal

pub add_stage-requires-clause-room : goal.add_stage-requires-clause-room
add_stage-requires-clause-room c =
    let inv = c.loop-choice.invariant in
    omega (arith, room_step c.loop-choice.choice-index (length c.args.amount.now) (length c.args.bits.now) (length c.args.net.now.cells) (omega arith) c.requires.room, inv.count, inv.long, ap length c.deref.ensures.value)

pub add_stage-requires-clause-there : goal.add_stage-requires-clause-there
add_stage-requires-clause-there c =
    let n = length c.loop-choice.net.cells in
    subst (All (λ (p : ℕ). p < n)) (sym c.deref.ensures.value) c.loop-choice.invariant.there

pub add_stage-requires-clause-near : goal.add_stage-requires-clause-near
add_stage-requires-clause-near c =
    let inv = c.loop-choice.invariant in
    omega (arith, inv.far, inv.long, ap length c.deref.ensures.value)

pub loop-choice-preserved : goal.loop-choice-preserved
loop-choice-preserved c =
    IsShifted-step c.args.direction c.args.bits.now c.args.amount.now c.args.net.now c.loop-choice.net c.add_stage.new.net c.loop-choice.shifted.items c.deref.result.now c.in_ok-stage.stage.items c.loop-choice.distance _ c.loop-choice.choice-index _
    c.deref.ensures.value (omega arith) refl c.doubled-distance.ensures c.in_ok-stage.ensures.made c.in_ok-stage.ensures.grown c.in_ok-stage.ensures.count c.loop-choice.invariant

pub loop-choice-init : goal.loop-choice-init
loop-choice-init c = IsShifted-start c.args.direction c.args.bits.now c.args.amount.now c.in_ok-shifted.shifted.items c.args.net.now c.in_ok-shifted.ensures.items c.requires.some c.requires.constants c.requires.bits

pub returns-clause-made : goal.returns-clause-made
returns-clause-made c = IsShifted-end c.args.direction c.args.bits.now c.args.amount.now c.args.net.now c.loop-choice.net c.loop-choice.shifted.items c.loop-choice.distance c.loop-choice.choice-index (omega arith) c.loop-choice.invariant
