use Rattle.std.proofs.Common.{[], ◌∷◌, length, map, ap, arith}
use Rattle.std.proofs.lemmas.List.{length-append}
use Rattle.bb_net.specs.Netlists.{box_at}
use Rattle.bb_expand.proofs.SharedBoxes.{bits_inside, bits_listed, starts_more}
use Rattle.bb_expand.proofs.rows.starts_of_boxes.Goals as goal

pub box_bits-start-requires : goal.box_bits-start-requires
box_bits-start-requires c = record { small = omega (arith, bits_inside c.args.boxes.now c.args.firsts.now c.requires.there c.loop-b.b-index c.loop-b-test.true c.index-boxes-b.result c.index-boxes-b.is, c.requires.small) }

pub overflow_add-start : goal.overflow_add-start
overflow_add-start c = omega (arith, bits_inside c.args.boxes.now c.args.firsts.now c.requires.there c.loop-b.b-index c.loop-b-test.true c.index-boxes-b.result c.index-boxes-b.is, c.loop-b.invariant.0, c.box_bits-start.ensures.bits, c.requires.small)

pub loop-b-preserved : goal.loop-b-preserved
loop-b-preserved c = (
  omega (arith, bits_listed c.args.boxes.now c.args.firsts.now c.requires.there c.loop-b.b-index c.loop-b-test.true c.index-boxes-b.result c.index-boxes-b.is, c.loop-b.invariant.0, c.box_bits-start.ensures.bits),
  omega (arith, ap length c.in_ok-push.ensures.items, length-append c.loop-b.starts.items (c.loop-b.start ∷ []), c.loop-b.invariant.1),
  starts_more (map (box_at c.args.boxes.now) c.args.firsts.now) c.loop-b.starts.items c.push.new.self.items c.loop-b.b-index c.loop-b.start c.loop-b.invariant.1 c.in_ok-push.ensures.items c.loop-b.invariant.0 c.loop-b.invariant.2,
)
