use Rattle.std.proofs.Common.{◌≡◌, ◌+◌, map, take}
use Rattle.bb_hier.proofs.recursion.module_pins.Given as goal

abbrev pub invariant-loop-k : goal.invariant-loop-k
invariant-loop-k l = l.ins.items ≡ map (λ j. j + 2) (take l.k-index l.called)
