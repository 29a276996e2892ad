use Rattle.std.proofs.Common.{◌≡◌, ℕ, List, map, take}
use Rattle.std.specs.List.{list_any}
use Rattle.bb_bits.specs.Names.{same_name}
use Rattle.bb_names.specs.Inside.Checked.{module_facts, syntax}
use Rattle.bb_design.specs.Hierarchy.{is_instantiated}
use Rattle.bb_hier.proofs.top.targets.Given as goal

abbrev pub invariant-loop-checked : goal.invariant-loop-checked
invariant-loop-checked l = (n : List ℕ) → list_any (same_name n) l.targets.keys ≡ is_instantiated (map syntax (map module_facts (take l.checked-index l.modules))) n
