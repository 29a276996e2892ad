use Rattle.std.proofs.Common.{◌-◌, ◌<◌, length, ap, ◌∙◌, arith}
use Rattle.std.specs.BinaryHeap.{heap_items}
use Rattle.std.proofs.lemmas.List.{length_push}
use Rattle.bb_net.proofs.BoxSteps.{IsPlacing-drop, numbers_few, ready_below}
use Rattle.bb_net.proofs.ordering.numbering.place_boxes.Goals as goal

pub next_ready-requires-clause-there : goal.next_ready-requires-clause-there
next_ready-requires-clause-there c =
    let s = c.loop-b.s in
    let p = c.loop-b.invariant.placing in
    ready_below c.args.loose.now s.net s.to.items s.numbers.items s.numbered.items s.waiting.items s.fresh.items (heap_items s.ready) (length c.deref.result.now) p (ap length c.deref.ensures.value)

pub place_box-requires-clause-placing : goal.place_box-requires-clause-placing
place_box-requires-clause-placing c =
    let s = c.loop-b.s in
    IsPlacing-drop c.args.loose.now s.net s.to.items s.numbers.items s.numbered.items c.deref.result.now s.waiting.items s.fresh.items (heap_items s.ready) (heap_items c.next_ready.new.ready)
    c.loop-b.invariant.placing c.deref.ensures.value c.in-Some.ensures.order c.in-Some.ensures.kept c.in-Some.ensures.dropped

pub loop-b-smaller : goal.loop-b-smaller
loop-b-smaller c =
    let l = c.args.loose.now in
    let old = c.loop-b.s.numbers.items in
    let t = c.settle-in-Some.new.s in
    let few = numbers_few l t.net t.to.items t.numbers.items t.numbered.items t.waiting.items t.fresh.items (heap_items t.ready) c.in_ok-settle-2.ensures.placing in
    let more = ap length (c.in_ok-settle-2.ensures.numbers ∙ c.in_ok-place_box.ensures.numbers) ∙ length_push old c.in-Some.b in
    let less : length l.boxes - length t.numbers.items < length l.boxes - length old = omega (arith, few, more) in
    less

pub returns-clause-placing : goal.returns-clause-placing
returns-clause-placing c =
    let s = c.loop-b.s in
    IsPlacing-drop c.args.loose.now s.net s.to.items s.numbers.items s.numbered.items c.deref.result.now s.waiting.items s.fresh.items (heap_items s.ready) (heap_items c.next_ready.new.ready)
    c.loop-b.invariant.placing c.deref.ensures.value c.in_default.ensures.order c.in_default.ensures.kept c.in_default.ensures.dropped
