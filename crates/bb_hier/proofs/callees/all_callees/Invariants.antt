use Rattle.std.proofs.Common.{◌≡◌, map, take}
use Rattle.std.specs.List.{filter_map}
use Rattle.std.specs.Map.{lookup}
use Rattle.bb_bits.specs.Names.{same_name}
use Rattle.bb_names.specs.Inside.Checked.{module_facts, syntax}
use Rattle.bb_design.specs.Hierarchy.{instances_of}
use Rattle.bb_hier.proofs.callees.all_callees.Given as goal

abbrev pub invariant-loop-checked : goal.invariant-loop-checked
invariant-loop-checked l = map (λ list. list.items) l.all.items
    ≡ map (λ m. filter_map (λ i. lookup (same_name i.target) l.places.entries) (instances_of m)) (map syntax (map module_facts (take l.checked-index l.modules)))
