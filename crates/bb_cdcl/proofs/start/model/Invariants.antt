use Rattle.std.proofs.Common.{◌≡◌, false, map, take, unwrap_or}
use Rattle.bb_cdcl.proofs.start.model.Given as goal

abbrev pub invariant-loop-value : goal.invariant-loop-value
invariant-loop-value l = l.bits.items ≡ map (λ o. unwrap_or o false) (take l.value-index l.values)
