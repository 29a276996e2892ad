use Rattle.std.proofs.Common.{◌≡◌, ℕ, List, map, take}
use Rattle.std.specs.Map.{lookup}
use Rattle.bb_bits.specs.Names.{same_name}
use Rattle.bb_names.specs.Inside.Checked.{module_facts, syntax}
use Rattle.bb_design.specs.Inside.Callees.{place_named}
use Rattle.bb_hier.proofs.callees.places.Given as goal

abbrev pub invariant-loop-k : goal.invariant-loop-k
invariant-loop-k l = (n : List ℕ) → lookup (same_name n) l.places.entries ≡ place_named (map syntax (map module_facts (take l.k l.modules))) n
