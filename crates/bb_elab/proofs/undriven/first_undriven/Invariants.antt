use Rattle.bb_elab.proofs.UndrivenBits.{HaveDrivers}
use Rattle.bb_elab.proofs.undriven.first_undriven.Given as goal

abbrev pub invariant-loop-k : goal.invariant-loop-k
invariant-loop-k l = HaveDrivers l.k l.read l.counts
