use Rattle.bb_net.specs.Orders.{moved_pins}
use Rattle.bb_net.specs.Rearrangements.{new_place}
use Rattle.bb_net.proofs.Rearranged.{changed_more}
use Rattle.bb_net.proofs.rearranging.move_boxes.Goals as goal

pub loop-b-preserved : goal.loop-b-preserved
loop-b-preserved c = changed_more (moved_pins (new_place c.args.numbers.now)) c.args.boxes.now c.loop-b.boxes c.loop-b.b c.index-boxes-b.result c.move_pins.new.pins
    c.loop-b-test.true c.loop-b.auto.boxes c.loop-b.invariant.0 c.loop-b.invariant.1 c.move_pins.ensures
