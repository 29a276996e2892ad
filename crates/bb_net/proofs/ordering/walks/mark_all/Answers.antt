use Rattle.std.proofs.Common.{[]}
use Rattle.bb_net.proofs.PlaceLists.{Contains-none}
use Rattle.bb_net.proofs.WalkLemmas.{IsMarked-seen, IsMarked-take}
use Rattle.bb_net.proofs.ordering.walks.mark_all.Goals as goal

pub loop-place-init : goal.loop-place-init
loop-place-init c = IsMarked-seen [] c.args.seen.now c.args.stack.now.items (λ k has. Contains-none k has)

pub loop-place-preserved : goal.loop-place-preserved
loop-place-preserved c =
    IsMarked-take c.args.places.now c.loop-place.place-index c.args.seen.now c.args.stack.now.items c.loop-place.seen c.loop-place.stack.items c.mark.new.seen c.mark.new.stack.items
    c.loop-place-test.true c.loop-place.invariant c.in_ok-mark.ensures.ok
