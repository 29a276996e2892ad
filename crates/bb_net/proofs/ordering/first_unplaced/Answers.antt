use borrow.Author.Count.{below_more}
use Rattle.bb_net.specs.Inside.Placings.{IsPlaced}
use Rattle.bb_net.proofs.LookedAt.{placed_some}
use Rattle.bb_net.proofs.ordering.first_unplaced.Goals as goal

pub loop-k-preserved : goal.loop-k-preserved
loop-k-preserved c = below_more (λ k. IsPlaced c.args.to.now k) c.loop-k.k c.loop-k.invariant (placed_some c.args.to.now c.loop-k.k c.if-is_none.ensures)
