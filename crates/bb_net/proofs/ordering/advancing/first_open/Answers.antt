use Rattle.std.specs.Prelude.{slice_index}
use borrow.Author.Count.{below_more}
use Rattle.bb_net.specs.Inside.Placings.{IsPlaced}
use Rattle.bb_net.proofs.LookedAt.{placed_some}
use Rattle.bb_net.proofs.ordering.advancing.first_open.Goals as goal

pub loop-pin-preserved : goal.loop-pin-preserved
loop-pin-preserved c =
    below_more (λ p. IsPlaced c.args.to.now (slice_index c.args.ins.now p)) c.loop-pin.pin c.loop-pin.invariant (placed_some c.args.to.now (slice_index c.args.ins.now c.loop-pin.pin) c.if-is_none.ensures)
