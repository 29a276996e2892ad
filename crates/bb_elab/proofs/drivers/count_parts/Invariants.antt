use Rattle.std.proofs.Common.{ℕ, List, ◌++◌, take}
use Rattle.std.specs.List.{flat_map}
use Rattle.bb_elab.specs.Inside.DrivenNumbers.{part_numbers, IsTally}
use Rattle.bb_elab.proofs.drivers.count_parts.Given as goal

abbrev pub invariant-loop-part : goal.invariant-loop-part
invariant-loop-part l = (numbers : List ℕ) → IsTally numbers l.initial.counts → IsTally (numbers ++ flat_map (part_numbers l.placed l.scope) (take l.part-index l.parts)) l.counts
