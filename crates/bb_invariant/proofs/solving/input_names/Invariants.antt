use Rattle.std.proofs.Common.{◌≡◌, length}
use Rattle.bb_invariant.proofs.solving.input_names.Given as goal

abbrev pub invariant-loop : goal.invariant-loop
invariant-loop l = length l.names.items ≡ l.counter
