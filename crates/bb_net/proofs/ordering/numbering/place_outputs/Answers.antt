use Rattle.std.proofs.Common.{◌≡◌, ℕ, ◌<◌, List, length, refl, ap, subst, ◌∙◌, arith}
use Rattle.std.specs.Prelude.{slice_index}
use Rattle.bb_net.specs.Netlists.{Pins, box_at}
use Rattle.bb_net.proofs.BuiltCells.{room_for}
use Rattle.bb_net.proofs.BoxSteps.{pins_few, pin_cell, contains_number, IsPlacing-output, IsComing-next}
use Rattle.bb_net.proofs.ordering.numbering.place_outputs.Goals as goal

pub pins-requires : goal.pins-requires
pins-requires c =
    let q = c.requires.coming in
    record { there = c.requires.placing.begun.there c.args.b (contains_number c.args.s.now.numbers.items c.args.number c.args.b q.there q.is) }

pub overflow_cast-p : goal.overflow_cast-p
overflow_cast-p c =
    let l = c.args.loose.now in
    let outs : c.outs-k-items.result.now ≡ (box_at l.boxes c.args.b).outs = c.outs-k-items.ensures.outs ∙ ap (λ (q : Pins). q.outs) c.pins.ensures.pins in
    let few = pins_few l c.args.b c.requires.placing.list in
    omega (arith, c.loop-p-test.true, ap length outs, few, c.requires.placing.list.cells_fit)

pub put-requires-clause-room : goal.put-requires-clause-room
put-requires-clause-room c =
    let l = c.args.loose.now in
    let s = c.loop-p.s in
    let p = c.loop-p.invariant.placing in
    let outs : c.outs-k-items.result.now ≡ (box_at l.boxes c.args.b).outs = c.outs-k-items.ensures.outs ∙ ap (λ (q : Pins). q.outs) c.pins.ensures.pins in
    let lt : c.loop-p.p < length (box_at l.boxes c.args.b).outs = subst (λ xs. c.loop-p.p < length xs) outs c.loop-p-test.true in
    let pin = pin_cell l c.args.b c.loop-p.p p.list lt in
    room_for l s.net s.to.items s.numbers.items (slice_index (box_at l.boxes c.args.b).outs c.loop-p.p) p.list p.built (omega (arith, pin.0, p.begun.whole)) (c.loop-p.invariant.coming.free c.loop-p.p (omega arith) lt)

pub put-requires-clause-there : goal.put-requires-clause-there
put-requires-clause-there c =
    let l = c.args.loose.now in
    let s = c.loop-p.s in
    let p = c.loop-p.invariant.placing in
    let outs : c.outs-k-items.result.now ≡ (box_at l.boxes c.args.b).outs = c.outs-k-items.ensures.outs ∙ ap (λ (q : Pins). q.outs) c.pins.ensures.pins in
    let lt : c.loop-p.p < length (box_at l.boxes c.args.b).outs = subst (λ xs. c.loop-p.p < length xs) outs c.loop-p-test.true in
    let pin = pin_cell l c.args.b c.loop-p.p p.list lt in
    omega (arith, pin.0, ap (λ xs. slice_index xs c.loop-p.p) outs, p.begun.whole, s.to.ok.0)

pub loop-p-preserved : goal.loop-p-preserved
loop-p-preserved c =
    let l = c.args.loose.now in
    let s = c.loop-p.s in
    let p = c.loop-p.invariant.placing in
    let outs : c.outs-k-items.result.now ≡ (box_at l.boxes c.args.b).outs = c.outs-k-items.ensures.outs ∙ ap (λ (q : Pins). q.outs) c.pins.ensures.pins in
    let lt : c.loop-p.p < length (box_at l.boxes c.args.b).outs = subst (λ xs. c.loop-p.p < length xs) outs c.loop-p-test.true in
    record {
      placing = rw (c.in_ok-put.ensures.net, c.in_ok-put.ensures.to, c.in_ok-put.ensures.fresh, outs)
          (IsPlacing-output l s.net s.to.items s.numbers.items s.numbered.items s.waiting.items s.fresh.items _ c.args.b c.args.number c.loop-p.p p c.loop-p.invariant.coming lt);
      coming = rw (c.in_ok-put.ensures.net, c.in_ok-put.ensures.to, outs)
          (IsComing-next l s.net s.to.items s.numbers.items c.args.b c.args.number c.loop-p.p p.list p.built c.loop-p.invariant.coming lt);
      numbers = c.loop-p.invariant.numbers;
    }

pub loop-p-init : goal.loop-p-init
loop-p-init c = record { placing = c.requires.placing; coming = c.requires.coming; numbers = refl {A = List ℕ} }
