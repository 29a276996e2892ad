use Rattle.std.proofs.Common.{◌≡◌, All, Contains, length, subst, sym, ◌∙◌}
use Rattle.std.proofs.lemmas.List.{get_or_default}
use Rattle.bb_net.specs.Netlists.{Pins, box_at}
use Rattle.bb_nest.specs.Nested.{pin_cells}
use Rattle.bb_nest.proofs.Loops.{each_fails, each_more, untrue}
use Rattle.bb_nest.proofs.StageRows.{no_pins}
use Rattle.bb_nest.proofs.cells.hold_boxes.Goals as goal

pub returns-then-not-hold_pins : goal.returns-then-not-hold_pins
returns-then-not-hold_pins c =
    let boxes = c.args.boxes.now in
    let i = c.loop-pins.pins-index in
    let same : c.pins-item.result ≡ box_at boxes i = c.pins-item.is ∙ get_or_default boxes i c.pins-item.result no_pins c.loop-pins-test.true in
    each_fails (λ a. All (Contains c.args.ins.now) (pin_cells (box_at boxes a))) (length boxes) i c.loop-pins-test.true
    (λ all. untrue c.hold_pins.result c.if-not-hold_pins.true (c.hold_pins.ensures.1 (subst (λ (pins : Pins). All (Contains c.args.ins.now) (pin_cells pins)) (sym same) all)))

pub loop-pins-preserved : goal.loop-pins-preserved
loop-pins-preserved c =
    let boxes = c.args.boxes.now in
    let i = c.loop-pins.pins-index in
    let same : c.pins-item.result ≡ box_at boxes i = c.pins-item.is ∙ get_or_default boxes i c.pins-item.result no_pins c.loop-pins-test.true in
    each_more (λ a. All (Contains c.args.ins.now) (pin_cells (box_at boxes a))) i c.loop-pins.invariant
    (subst (λ (pins : Pins). All (Contains c.args.ins.now) (pin_cells pins)) same (c.hold_pins.ensures.0 c.if-not-hold_pins.false))
