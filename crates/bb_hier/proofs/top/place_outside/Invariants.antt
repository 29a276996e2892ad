use Rattle.std.proofs.Common.{◌≡◌, ◌<◌, ◌++◌, map, drop, length}
use Rattle.std.specs.Prelude.{filter, not, slice_get, option_to_list, IfSome}
use Rattle.std.specs.List.{list_any}
use Rattle.std.specs.Option.{option_and_then}
use Rattle.bb_bits.specs.Names.{same_name}
use Rattle.bb_names.specs.Inside.Checked.{module_facts, syntax}
use Rattle.bb_hier.proofs.top.place_outside.Given as goal

abbrev pub invariant-loop-k : goal.invariant-loop-k
invariant-loop-k l = record {
  there : IfSome l.found (λ k. k < length l.modules);
  place : filter (λ m. not (list_any (same_name m.name) l.targets.keys)) (map syntax (map module_facts l.modules))
      ≡ option_to_list (option_and_then (slice_get (map syntax (map module_facts l.modules))) l.found)
      ++ filter (λ m. not (list_any (same_name m.name) l.targets.keys)) (map syntax (map module_facts (drop l.k l.modules)));
}
