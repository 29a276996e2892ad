use Rattle.bb_net.proofs.NetLemmas.{IsNetlist-first}
use Rattle.bb_net.proofs.net.Net.start.Goals as goal

pub invariant_of-result : goal.invariant_of-result
invariant_of-result c =
    rw (c.in_ok-cells.ensures.ok, c.new.ensures.items, c.new-2.ensures.items) (IsNetlist-first _ c.requires)
