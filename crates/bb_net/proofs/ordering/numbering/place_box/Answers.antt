use Rattle.std.proofs.Common.{◌≡◌, ◌<◌, [], length, map, sym, ap, subst, ◌∙◌, arith}
use Rattle.std.specs.Prelude.{All}
use Rattle.std.specs.BinaryHeap.{heap_items}
use Rattle.bb_net.specs.Netlists.{Pins, box_at, with_box}
use Rattle.bb_net.specs.Inside.Placings.{given_place, IsPlacingBy}
use Rattle.bb_net.proofs.PlacingSteps.{IsPlacing-number}
use Rattle.bb_net.proofs.BoxSteps.{box_room, ins_there, IsComing-first}
use Rattle.bb_net.proofs.ordering.numbering.place_box.Goals as goal

pub pins-requires : goal.pins-requires
pins-requires c = record { there = c.requires.placing.queue.ready_there c.args.b c.requires.ready }

pub add_box-requires-clause-room : goal.add_box-requires-clause-room
add_box-requires-clause-room c =
    let l = c.args.loose.now in
    let s = c.args.s.now in
    let p = subst (λ xs. IsPlacingBy l s.net s.to.items s.numbers.items s.numbered.items s.waiting.items xs (heap_items s.ready) [] []) c.requires.settled c.requires.placing in
    let room = box_room l s.net s.to.items s.numbers.items s.numbered.items s.waiting.items (heap_items s.ready) c.args.b p c.requires.new c.requires.ready c.requires.least in
    omega (arith, room, p.list.boxes_fit, p.built.box_count)

pub add_box-requires-clause-there : goal.add_box-requires-clause-there
add_box-requires-clause-there c =
    let l = c.args.loose.now in
    let s = c.args.s.now in
    let ins : c.ins.result.now ≡ (box_at l.boxes c.args.b).ins = c.ins.ensures.ins ∙ ap (λ (q : Pins). q.ins) c.pins.ensures.pins in
    let moved : c.in_ok-ins.ins.items ≡ map (given_place s.to.items) (box_at l.boxes c.args.b).ins = c.in_ok-ins.ensures.ok ∙ ap (λ xs. map (given_place xs) c.ins.result.now) c.deref.ensures.value ∙ ap (map (given_place s.to.items)) ins in
    subst (All (λ place. place < length s.net.cells)) (sym moved)
    (ins_there l s.net s.to.items s.numbers.items (box_at l.boxes c.args.b).ins c.requires.placing.built (λ pin has. c.requires.placing.queue.ready_pins c.args.b pin c.requires.ready has))

pub index_mut-requires : goal.index_mut-requires
index_mut-requires c = omega (arith, c.requires.placing.queue.ready_there c.args.b c.requires.ready, c.requires.placing.flags, c.args.s.now.numbered.ok.0)

pub place_outputs-requires-clause-placing : goal.place_outputs-requires-clause-placing
place_outputs-requires-clause-placing c =
    let l = c.args.loose.now in
    let s = c.args.s.now in
    let p = subst (λ xs. IsPlacingBy l s.net s.to.items s.numbers.items s.numbered.items s.waiting.items xs (heap_items s.ready) [] []) c.requires.settled c.requires.placing in
    let ins : c.ins.result.now ≡ (box_at l.boxes c.args.b).ins = c.ins.ensures.ins ∙ ap (λ (q : Pins). q.ins) c.pins.ensures.pins in
    let moved : c.in_ok-ins.ins.items ≡ map (given_place s.to.items) (box_at l.boxes c.args.b).ins = c.in_ok-ins.ensures.ok ∙ ap (λ xs. map (given_place xs) c.ins.result.now) c.deref.ensures.value ∙ ap (map (given_place s.to.items)) ins in
    let net : c.add_box.new.self ≡ with_box s.net (map (given_place s.to.items) (box_at l.boxes c.args.b).ins) = c.in_ok-number.ensures.ok ∙ ap (with_box s.net) moved in
    rw (net, c.in_ok-push.ensures.items, c.requires.settled)
    (IsPlacing-number l s.net s.to.items s.numbers.items s.numbered.items s.waiting.items (heap_items s.ready) c.args.b p c.requires.new c.requires.ready c.requires.least)

pub place_outputs-requires-clause-coming : goal.place_outputs-requires-clause-coming
place_outputs-requires-clause-coming c =
    let l = c.args.loose.now in
    let s = c.args.s.now in
    let p = subst (λ xs. IsPlacingBy l s.net s.to.items s.numbers.items s.numbered.items s.waiting.items xs (heap_items s.ready) [] []) c.requires.settled c.requires.placing in
    rw (c.in_ok-number.ensures.ok, c.in_ok-push.ensures.items)
    (IsComing-first l s.net s.to.items s.numbers.items s.numbered.items s.waiting.items (heap_items s.ready) c.args.b c.in_ok-number.number c.in_ok-ins.ins.items p c.requires.new c.requires.ready c.in_ok-number.ensures.number)
