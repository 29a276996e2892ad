use Rattle.std.proofs.Common.{◌≡◌, ◌++◌, List, take, map}
use Rattle.bb_ast.specs.Syntax.{PlainModule, Nets}
use Rattle.bb_ast.specs.Inside.Views.{module_view, named_view}
use Rattle.bb_names.specs.Declarations.{Declaration, declared_by}
use Rattle.bb_names.specs.Inside.Firsts.{noted}
use Rattle.bb_names.specs.Sites.{item_sites}
use Rattle.bb_names.specs.Inside.Summaries.{Describes}
use Rattle.bb_names.proofs.faults.items.look_at_nets.Given as goal

abbrev pub invariant-loop-name : goal.invariant-loop-name
invariant-loop-name l = record {
  noted : (text : List PlainModule) (before : List Declaration) → Describes l.initial.earlier.entries before → l.found ≡ noted text (module_view l.fn.of) l.initial.found (item_sites text before (Nets l.fn.range (map named_view (take l.name-index l.nets))));
  declared : (before : List Declaration) → Describes l.initial.earlier.entries before → Describes l.earlier.entries (before ++ declared_by (Nets l.fn.range (map named_view (take l.name-index l.nets))));
}
