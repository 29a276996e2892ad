use Rattle.std.proofs.Common.{◌≡◌, map, drop}
use Rattle.bb_names.specs.Inside.Checked.{module_facts, syntax}
use Rattle.bb_names.specs.Sites.{module_named}
use Rattle.bb_hier.proofs.top.place_named.Given as goal

abbrev pub invariant-loop-k : goal.invariant-loop-k
invariant-loop-k l = module_named (map syntax (map module_facts (drop l.k l.modules))) l.name ≡ module_named (map syntax (map module_facts l.modules)) l.name
