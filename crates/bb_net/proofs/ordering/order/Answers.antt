use Rattle.std.proofs.Common.{length, ap, subst, arith}
use Rattle.bb_net.specs.Inside.Placings.{IsPlaced, IsOpen}
use Rattle.bb_net.proofs.ordering.order.Goals as goal

pub finish-requires-clause-whole : goal.finish-requires-clause-whole
finish-requires-clause-whole c = λ k h.
    let placing = c.in_ok-place_boxes.ensures.placing in
    subst (λ xs. IsPlaced xs k) c.deref-2.ensures.value (c.in-None.ensures.none k (omega (arith, h, ap length c.deref-2.ensures.value, placing.begun.whole)))

pub closed_walk-requires : goal.closed_walk-requires
closed_walk-requires c =
    let e = c.in_ok-place_boxes.ensures in
    let k = c.in-Some.field-0 in
    let found = c.in-Some.ensures.some in
    record {
      placing = e.placing;
      settled = e.settled;
      none_ready = e.none_ready;
      «open» = (k, omega (arith, found.0, ap length c.deref-2.ensures.value, e.placing.begun.whole), subst (λ xs. IsOpen xs k) c.deref-2.ensures.value found.1);
    }
