use Rattle.std.proofs.Common.{◌≡◌, List, ℕ, length, take, subst, sym, ap, ◌∙◌}
use Rattle.std.proofs.lemmas.List.{get_or_default}
use Rattle.bb_net.specs.Netlists.{Pins, box_at}
use Rattle.bb_nest.specs.Inside.Readers.{HoldBoxes}
use Rattle.bb_nest.proofs.Loops.{each_fails, each_more, untrue}
use Rattle.bb_nest.proofs.StageRows.{no_pins}
use Rattle.bb_nest.proofs.cells.hold_earlier.Goals as goal

pub returns-then-not-hold_boxes : goal.returns-then-not-hold_boxes
returns-then-not-hold_boxes c =
    let boxes = c.args.boxes.now in
    let b = c.loop-b.b in
    let same : c.ins.result.now ≡ (box_at boxes b).ins = c.ins.ensures.ins ∙ ap (λ (pins : Pins). pins.ins) (c.index-boxes-b.is ∙ get_or_default boxes b c.index-boxes-b.result no_pins c.loop-b-test.true) in
    each_fails (λ j. HoldBoxes (box_at boxes j).ins (take j boxes)) (length boxes) b c.loop-b-test.true
    (λ all. untrue c.hold_boxes.result c.if-not-hold_boxes.true (c.hold_boxes.ensures.1 (subst (λ (ins : List ℕ). HoldBoxes ins (take b boxes)) (sym same) all)))

pub loop-b-preserved : goal.loop-b-preserved
loop-b-preserved c =
    let boxes = c.args.boxes.now in
    let b = c.loop-b.b in
    let same : c.ins.result.now ≡ (box_at boxes b).ins = c.ins.ensures.ins ∙ ap (λ (pins : Pins). pins.ins) (c.index-boxes-b.is ∙ get_or_default boxes b c.index-boxes-b.result no_pins c.loop-b-test.true) in
    each_more (λ j. HoldBoxes (box_at boxes j).ins (take j boxes)) b c.loop-b.invariant (subst (λ (ins : List ℕ). HoldBoxes ins (take b boxes)) same (c.hold_boxes.ensures.0 c.if-not-hold_boxes.false))
