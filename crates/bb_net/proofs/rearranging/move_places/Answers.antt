use Rattle.bb_net.specs.Rearrangements.{new_place}
use Rattle.bb_net.proofs.Rearranged.{changed_more}
use Rattle.bb_net.proofs.rearranging.move_places.Goals as goal

pub loop-k-preserved : goal.loop-k-preserved
loop-k-preserved c = changed_more (new_place c.args.numbers.now) c.args.places.now c.loop-k.places c.loop-k.k 0 c.new_place.result
    c.loop-k-test.true c.loop-k.auto.places c.loop-k.invariant.0 c.loop-k.invariant.1 c.new_place.ensures
