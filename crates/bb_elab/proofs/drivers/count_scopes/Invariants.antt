use Rattle.std.proofs.Common.{ℕ, List, ◌++◌, take}
use Rattle.std.specs.List.{flat_map}
use Rattle.bb_elab.specs.Inside.DrivenNumbers.{scope_numbers, IsTally}
use Rattle.bb_elab.proofs.drivers.count_scopes.Given as goal

abbrev pub invariant-loop-scope : goal.invariant-loop-scope
invariant-loop-scope l = (numbers : List ℕ) → IsTally numbers l.initial.counts → IsTally (numbers ++ flat_map (scope_numbers l.placed l.templates) (take l.scope-index l.placed)) l.counts
