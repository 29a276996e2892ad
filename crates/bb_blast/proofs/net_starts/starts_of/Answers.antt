use Rattle.std.proofs.Common.{◌∙◌, ap, length, ◌∷◌, [], length-append, arith}
use Rattle.std.proofs.lemmas.List.Sums.{sum_by_more}
use Rattle.bb_names.specs.declared.net.NetInfo.{NetInfo}
use Rattle.bb_names.specs.Ranges.{range_width}
use Rattle.bb_blast.proofs.NetNumbers.{starts_more}
use Rattle.bb_blast.proofs.net_starts.starts_of.Goals as goal

pub loop-net-preserved : goal.loop-net-preserved
loop-net-preserved c = record {
  next = omega (arith, c.loop-net.invariant.next, c.range_width-next.ensures.width, ap (λ (x : NetInfo). range_width x.range) c.net-item.is, sum_by_more (λ (x : NetInfo). range_width x.range) c.args.nets.now c.loop-net.net-index c.net-item.result c.loop-net-test.true);
  long = ap length c.in_ok-push.ensures.items ∙ omega (arith, length-append c.loop-net.starts.items (c.loop-net.next ∷ []), c.loop-net.invariant.long);
  each = starts_more c.args.nets.now c.loop-net.starts.items _ c.loop-net.net-index c.loop-net.next c.loop-net.invariant.next c.loop-net.invariant.long c.loop-net.invariant.each c.in_ok-push.ensures.items;
}
