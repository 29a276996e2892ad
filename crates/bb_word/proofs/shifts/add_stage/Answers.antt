use Rattle.std.proofs.Common.{◌∙◌, ◌<◌, ℕ, length, ap, sym, subst, arith, Global}
use Rattle.std.specs.Prelude.{Vec, All}
use Rattle.std.proofs.lemmas.Result.{IfOk-weaker}
use Rattle.bb_word.proofs.MoveLemmas.{length-move, All-move}
use Rattle.bb_word.proofs.ShiftSteps.{IsStage}
use Rattle.bb_word.proofs.shifts.add_stage.Goals as goal

pub add_choices-requires-clause-same : goal.add_choices-requires-clause-same
add_choices-requires-clause-same c = ap length (c.deref.ensures.value ∙ c.in_ok-moved.ensures.moved) ∙ length-move c.args.direction 0 c.args.distance c.args.bits.now

pub add_choices-requires-clause-room : goal.add_choices-requires-clause-room
add_choices-requires-clause-room c = omega (arith, c.requires.room, ap length (c.deref.ensures.value ∙ c.in_ok-moved.ensures.moved) ∙ length-move c.args.direction 0 c.args.distance c.args.bits.now)

pub add_choices-requires-clause-chosen : goal.add_choices-requires-clause-chosen
add_choices-requires-clause-chosen c =
    let n = length c.args.net.now.cells in
    subst (All (λ (p : ℕ). p < n)) (sym (c.deref.ensures.value ∙ c.in_ok-moved.ensures.moved)) (All-move c.args.direction c.args.distance n c.args.bits.now (omega (arith, c.requires.constants.there)) c.requires.there)

pub returns-clause-made : goal.returns-clause-made
returns-clause-made c =
    IfOk-weaker _ _ _ (λ (places : Vec ℕ Global) e. IsStage c.args.direction c.args.choice c.args.distance c.args.bits.now c.deref.result.now c.args.net.now c.add_choices.new.net places.items c.requires.constants (c.deref.ensures.value ∙ c.in_ok-moved.ensures.moved) e) c.add_choices.ensures.made
