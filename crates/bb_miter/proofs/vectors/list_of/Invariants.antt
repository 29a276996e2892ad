use Rattle.std.proofs.Common.{◌≡◌, ◌++◌}
use Rattle.bb_miter.proofs.vectors.list_of.Given as goal

abbrev pub invariant-loop-x : goal.invariant-loop-x
invariant-loop-x l = l.vectors.items ++ l.x-iterator ≡ l.fn.found.keys
