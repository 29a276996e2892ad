use Rattle.std.proofs.Common.{◌≡◌, ◌<◌, true, length, refl, subst, inl, inr, arith}
use Rattle.std.specs.BinaryHeap.{heap_items}
use Rattle.std.proofs.lemmas.List.Elements.{All-contains}
use Rattle.bb_net.specs.Values.{bit_of}
use Rattle.bb_net.specs.Inside.Placings.{boxes_of}
use Rattle.bb_net.proofs.BoxSteps.{top_box, least_box, popped}
use Rattle.bb_net.proofs.ordering.numbering.next_ready.Goals as goal

pub bounds-numbered-b : goal.bounds-numbered-b
bounds-numbered-b c =
    let q = c.loop-b.ready in
    let r = c.in-Some.field-0.now in
    let some : 0 < length (heap_items q) = omega (arith, c.in-Some.ensures.variant.0 refl, q.data.ok.0) in
    let top = top_box (heap_items q) r some c.in-Some.ensures.lookup in
    All-contains (λ b. b < length c.args.numbered.now) (boxes_of (heap_items c.args.ready.now)) r.0 c.requires.there (c.loop-b.invariant.kept r.0 top)

pub returns-then-not-numbered-b-clause-some : goal.returns-then-not-numbered-b-clause-some
returns-then-not-numbered-b-clause-some c =
    let q = c.loop-b.ready in
    let r = c.in-Some.field-0.now in
    let some : 0 < length (heap_items q) = omega (arith, c.in-Some.ensures.variant.0 refl, q.data.ok.0) in
    (c.if-not-numbered-b.true, top_box (heap_items q) r some c.in-Some.ensures.lookup, least_box (heap_items q) r (c.in-Some.ensures.greatest c.loop-b.invariant.order))

pub loop-b-preserved : goal.loop-b-preserved
loop-b-preserved c =
    let q = c.loop-b.ready in
    let r = c.in-Some.field-0.now in
    let numbered = c.args.numbered.now in
    let some : 0 < length (heap_items q) = omega (arith, c.in-Some.ensures.variant.0 refl, q.data.ok.0) in
    let p = popped (heap_items q) (heap_items c.pop.new.self) c.pop.result r q.data.len (omega (arith, q.data.ok.0)) some c.in-Some.ensures.lookup c.loop-b.invariant.order c.pop.ensures.top c.pop.ensures.permutation c.pop.ensures.heap_order c.pop.ensures.none in
    record {
      order = p.order;
      kept = λ b has. c.loop-b.invariant.kept b (p.kept b has);
      dropped = λ b has. elim (c.loop-b.invariant.dropped b has) [
        | inl old ↦ elim (p.dropped b old) [ inl e ↦ inr (subst (λ j. bit_of numbered j ≡ true) e c.if-not-numbered-b.false) | inr rest ↦ inl rest ]
        | inr reported ↦ inr reported
      ];
    }
