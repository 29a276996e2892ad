use Rattle.std.proofs.Common.{◌≡◌, ◌++◌, map}
use Rattle.bb_net.specs.CutPoints.{NextState}
use Rattle.bb_match.specs.Pairing.{output_name}
use Rattle.bb_match.proofs.joining.add_next_states.Given as goal

abbrev pub invariant-loop-r : goal.invariant-loop-r
invariant-loop-r l = l.names.items ≡ l.initial.names.items ++ map (λ r. output_name (NextState r.text)) l.yielded
