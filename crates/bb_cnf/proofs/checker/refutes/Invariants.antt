use Rattle.std.proofs.Common.{◌≡◌, ◌++◌, false, drop, length}
use Rattle.bb_cnf.specs.declared.clauses.Lit.{Lit}
use Rattle.bb_cnf.specs.Chains.{derived}
use Rattle.bb_cnf.specs.Inside.PartialResolvent.{held, AreListed, sets_of}
use Rattle.bb_cnf.proofs.checker.refutes.Given as goal

abbrev pub invariant-loop-step : goal.invariant-loop-step
invariant-loop-step l =
    (derived (sets_of l.given) l.steps ≡ derived (sets_of l.given ++ sets_of l.made.items) (drop l.step-index l.steps))
    × (length l.made.items ≡ l.step-index) × ((m : Lit) → held l.so_far m ≡ false) × AreListed l.so_far
