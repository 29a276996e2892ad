use Rattle.std.proofs.Common.{◌≡◌, ◌++◌, map, take}
use Rattle.bb_hier.proofs.summary.add_names.Given as goal

abbrev pub invariant-loop-call : goal.invariant-loop-call
invariant-loop-call l = l.names.items ≡ l.initial.names.items ++ map (λ call. call.name) (take l.call-index l.call-items)
