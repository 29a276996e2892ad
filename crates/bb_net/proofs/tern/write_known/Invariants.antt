use Rattle.bb_net.specs.Ternary.{tern_of}
use Rattle.bb_net.proofs.Steps.{IsFilled}
use Rattle.bb_net.proofs.TernLemmas.{tern_step}
use Rattle.bb_net.proofs.tern.write_known.Given as goal

abbrev pub invariant-loop-place : goal.invariant-loop-place
invariant-loop-place l = IsFilled (tern_step l.x l.cells) (tern_of l.out) l.place
