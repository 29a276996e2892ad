use Rattle.std.proofs.Common.{◌≡◌, ◌∙◌, sym, ap, get_or, arith}
use Rattle.std.proofs.lemmas.List.{get_or_read}
use Rattle.bb_net.specs.Netlists.{box_at}
use Rattle.bb_net.proofs.ValueLemmas.{ArePlaced-more, pin_of}
use Rattle.bb_net.proofs.value.place_outputs.Goals as goal

pub place_pins-requires-clause-there : goal.place_pins-requires-clause-there
place_pins-requires-clause-there c = λ p h.
    let item = get_or_read c.args.boxes.now c.loop-pins.pins-index c.pins-item.result c.loop-pins-test.true c.pins-item.is _ in
    let e : c.outs-outs.result.now ≡ (box_at c.args.boxes.now c.loop-pins.pins-index).outs = c.outs-outs.ensures.outs ∙ ap (λ b. b.outs) item in
    omega (arith, c.requires.there c.loop-pins.pins-index p _ (pin_of c.args.boxes.now c.loop-pins.pins-index c.outs-outs.result.now p e h))

pub place_pins-requires-clause-apart : goal.place_pins-requires-clause-apart
place_pins-requires-clause-apart c = λ p q lt h same.
    let item = get_or_read c.args.boxes.now c.loop-pins.pins-index c.pins-item.result c.loop-pins-test.true c.pins-item.is _ in
    let e : c.outs-outs.result.now ≡ (box_at c.args.boxes.now c.loop-pins.pins-index).outs = c.outs-outs.ensures.outs ∙ ap (λ b. b.outs) item in
    let at = pin_of c.args.boxes.now c.loop-pins.pins-index c.outs-outs.result.now q e h in
    let here = pin_of c.args.boxes.now c.loop-pins.pins-index c.outs-outs.result.now p e (omega arith) in
    let i = c.loop-pins.pins-index in
    omega (arith, (c.requires.apart i p i q (get_or c.outs-outs.result.now p 0) here (at.0, at.1 ∙ sym same)).1)

pub loop-pins-preserved : goal.loop-pins-preserved
loop-pins-preserved c =
    let item = get_or_read c.args.boxes.now c.loop-pins.pins-index c.pins-item.result c.loop-pins-test.true c.pins-item.is _ in
    ArePlaced-more c.args.boxes.now c.outs-outs.result.now c.args.z.now c.loop-pins.out c.place_pins.new.out c.loop-pins.start c.loop-pins.pins-index
    c.loop-pins-test.true (c.outs-outs.ensures.outs ∙ ap (λ b. b.outs) item) c.requires.apart c.place_pins.ensures.placed c.place_pins.ensures.others c.loop-pins.invariant
