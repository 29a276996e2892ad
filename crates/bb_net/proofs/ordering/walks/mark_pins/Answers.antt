use Rattle.std.proofs.Common.{◌≡◌, ◌<◌, true, false, length, sym, ap, subst, ◌∙◌, arith}
use Rattle.std.proofs.lemmas.List.{get_or_read}
use Rattle.bb_net.specs.Netlists.{Pins, box_at}
use Rattle.bb_net.specs.Values.{bit_of}
use Rattle.bb_net.specs.Inside.Walks.{IsMarked}
use Rattle.bb_net.proofs.WalkLemmas.{IsMarked-seen, AreDone-more, pins_among}
use Rattle.bb_net.proofs.ordering.walks.mark_pins.Goals as goal

pub returns-then-index-clause-ok : goal.returns-then-index-clause-ok
returns-then-index-clause-ok c =
    let done = c.args.done.now.items in
    let lt : c.args.b < length done = omega (arith, c.requires.there, c.requires.done.whole) in
    let is : bit_of done c.args.b ≡ true = sym (get_or_read done c.args.b c.index.result.now lt c.index.ensures false) ∙ c.if-index.true in
    IsMarked-seen (box_at c.args.loose.now.boxes c.args.b).ins c.args.seen.now c.args.stack.now.items (λ k has. c.requires.done.pins c.args.b k is has)

pub mark_all-requires : goal.mark_all-requires
mark_all-requires c =
    record { there = pins_among c.args.loose.now c.args.b (length c.args.seen.now) c.pins.result.now c.ins.result.now c.requires.list c.requires.whole c.pins.ensures.pins c.ins.ensures.ins }

pub returns-clause-ok : goal.returns-clause-ok
returns-clause-ok c =
    let ins = c.ins.ensures.ins ∙ ap (λ (q : Pins). q.ins) c.pins.ensures.pins in
    subst (λ places. IsMarked places c.args.seen.now c.args.stack.now.items c.mark_all.new.seen c.mark_all.new.stack.items) ins c.in_ok-mark_all.ensures.ok

pub returns-clause-done : goal.returns-clause-done
returns-clause-done c =
    let ins = c.ins.ensures.ins ∙ ap (λ (q : Pins). q.ins) c.pins.ensures.pins in
    let marked = subst (λ places. IsMarked places c.args.seen.now c.args.stack.now.items c.mark_all.new.seen c.mark_all.new.stack.items) ins c.in_ok-mark_all.ensures.ok in
    AreDone-more c.args.loose.now c.args.seen.now c.mark_all.new.seen c.args.done.now.items c.args.b c.args.stack.now.items c.mark_all.new.stack.items c.requires.done marked
