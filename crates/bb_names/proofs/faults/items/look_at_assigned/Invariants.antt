use Rattle.std.proofs.Common.{◌≡◌, ◌++◌, List, take, map}
use Rattle.std.specs.List.{flat_map}
use Rattle.bb_ast.specs.Syntax.{PlainModule}
use Rattle.bb_ast.specs.Inside.Views.{module_view, arm_view}
use Rattle.bb_names.specs.Inside.Firsts.{noted}
use Rattle.bb_names.specs.Sites.{Driven, Read, sites_in}
use Rattle.bb_names.proofs.faults.items.look_at_assigned.Given as goal

abbrev pub invariant-loop-left : goal.invariant-loop-left
invariant-loop-left l = (text : List PlainModule) → l.found ≡ noted text (module_view l.fn.of) l.initial.found (flat_map (λ x. sites_in Driven x.0 ++ sites_in Read x.1) (map arm_view (take l.left-index l.all)))
