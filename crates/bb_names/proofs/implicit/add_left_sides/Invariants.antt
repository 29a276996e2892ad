use Rattle.std.proofs.Common.{◌≡◌, take, map}
use Rattle.std.specs.List.{flat_map}
use Rattle.bb_ast.specs.Names.{names_in}
use Rattle.bb_ast.specs.Inside.Views.{arm_view}
use Rattle.bb_names.specs.Inside.Implicit.{grown}
use Rattle.bb_names.proofs.implicit.add_left_sides.Given as goal

abbrev pub invariant-loop-left : goal.invariant-loop-left
invariant-loop-left l = l.set.keys ≡ grown l.declared.entries l.initial.set.keys (flat_map (λ x. names_in x.0) (map arm_view (take l.left-index l.all)))
