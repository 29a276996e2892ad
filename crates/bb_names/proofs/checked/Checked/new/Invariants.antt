use Rattle.std.proofs.Common.{◌≡◌, ◌++◌, map, All}
use Rattle.bb_ast.specs.Inside.Views.{module_view}
use Rattle.bb_names.specs.Inside.Checked.{module_facts, syntax, HasNets}
use Rattle.bb_names.proofs.checked.Checked.new.Given as goal

abbrev pub invariant-loop-of : goal.invariant-loop-of
invariant-loop-of l = record {
  all : map syntax (map module_facts l.modules.items) ++ map module_view l.of-iterator.rest.items ≡ map module_view l.fn.source;
  each : All HasNets (map module_facts l.modules.items);
}
