use Rattle.std.proofs.Common.{◌≡◌, map, take}
use Rattle.bb_expr.specs.Inside.Instantiation.{moved}
use Rattle.bb_expr.proofs.circuits.moved_outs.Given as goal

abbrev pub invariant-loop-out : goal.invariant-loop-out
invariant-loop-out l = l.places.items ≡ map (moved l.at l.inputs) (take l.out-index l.outs)
