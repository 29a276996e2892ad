use Rattle.std.proofs.Common.{◌≡◌, ◌++◌, List, take, map}
use Rattle.bb_ast.specs.Syntax.{PlainModule}
use Rattle.bb_ast.specs.Inside.Views.{module_view}
use Rattle.bb_names.specs.Declarations.{Declaration}
use Rattle.bb_names.specs.Inside.Firsts.{noted}
use Rattle.bb_names.specs.Sites.{declared_sites}
use Rattle.bb_names.specs.Inside.Summaries.{named, Describes}
use Rattle.bb_names.proofs.faults.names.look_at_names.Given as goal

abbrev pub invariant-loop-name : goal.invariant-loop-name
invariant-loop-name l = record {
  noted : (text : List PlainModule) (before : List Declaration) → Describes l.initial.earlier.entries before → l.found ≡ noted text (module_view l.fn.of) l.initial.found (declared_sites before (map (λ n. named n l.fn.d) (take l.name-index l.names)));
  declared : (before : List Declaration) → Describes l.initial.earlier.entries before → Describes l.earlier.entries (before ++ map (λ n. named n l.fn.d) (take l.name-index l.names));
}
