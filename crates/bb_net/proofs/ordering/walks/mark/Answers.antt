use Rattle.bb_net.proofs.WalkLemmas.{IsMarked-pushed}
use Rattle.bb_net.proofs.ordering.walks.mark.Goals as goal

pub returns-in_ok-push : goal.returns-in_ok-push
returns-in_ok-push c = record {
  ok = IsMarked-pushed c.args.place c.args.seen.now c.args.stack.now.items c.push.new.self.items c.requires.there c.if-not-seen-place.true c.in_ok-push.ensures.items;
}
