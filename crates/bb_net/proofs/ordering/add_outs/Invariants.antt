use Rattle.std.proofs.Common.{◌≡◌, ◌++◌, map, take}
use Rattle.bb_net.specs.Inside.Placings.{given_place}
use Rattle.bb_net.proofs.ordering.add_outs.Given as goal

abbrev pub invariant-loop-k : goal.invariant-loop-k
invariant-loop-k l = l.net ≡ record l.initial.net { outs = l.initial.net.outs ++ map (given_place l.to) (take l.k-index l.outs) }
