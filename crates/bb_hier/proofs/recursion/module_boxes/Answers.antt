use Rattle.std.proofs.Common.{◌∷◌, ◌++◌, [], ap, ◌∙◌}
use Rattle.bb_hier.proofs.RecursionLoops.{pins_fit, boxes_more}
use Rattle.bb_hier.proofs.recursion.module_boxes.Goals as goal

pub module_pins-requires-clause-called : goal.module_pins-requires-clause-called
module_pins-requires-clause-called c =
    pins_fit c.args.callees.now c.loop-place.place c.index-callees-place.result c.deref.result.now c.requires.there c.loop-place-test.true c.index-callees-place.is c.deref.ensures.value

pub loop-place-preserved : goal.loop-place-preserved
loop-place-preserved c =
    c.in_ok-push.ensures.items ∙ ap (λ xs. xs ++ c.in_ok-module_pins.field-0 ∷ []) c.loop-place.invariant
    ∙ boxes_more c.args.callees.now c.loop-place.place c.index-callees-place.result c.deref.result.now c.in_ok-module_pins.field-0 c.loop-place-test.true c.index-callees-place.is c.deref.ensures.value c.in_ok-module_pins.ensures.pins
