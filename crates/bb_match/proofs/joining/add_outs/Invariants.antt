use Rattle.std.proofs.Common.{◌≡◌, ◌++◌, map}
use Rattle.bb_net.specs.CutPoints.{TopOutput}
use Rattle.bb_match.specs.Pairing.{output_name}
use Rattle.bb_match.proofs.joining.add_outs.Given as goal

abbrev pub invariant-loop-text : goal.invariant-loop-text
invariant-loop-text l = l.names.items ≡ l.initial.names.items ++ map (λ text. output_name (TopOutput text)) l.yielded
