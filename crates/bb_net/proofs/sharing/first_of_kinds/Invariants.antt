use Rattle.std.proofs.Common.{◌≡◌, take}
use Rattle.bb_net.specs.Kinds.{first_places}
use Rattle.bb_net.proofs.sharing.first_of_kinds.Given as goal

abbrev pub invariant-loop-b : goal.invariant-loop-b
invariant-loop-b l = l.firsts.items ≡ first_places (take l.b l.kinds)
