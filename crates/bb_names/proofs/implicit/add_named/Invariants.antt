use Rattle.std.proofs.Common.{◌≡◌, take, map}
use Rattle.std.specs.List.{flat_map}
use Rattle.bb_ast.specs.Inside.Views.{named_view}
use Rattle.bb_names.specs.Declarations.{names_in_optional}
use Rattle.bb_names.specs.Inside.Implicit.{grown}
use Rattle.bb_names.proofs.implicit.add_named.Given as goal

abbrev pub invariant-loop-place : goal.invariant-loop-place
invariant-loop-place l = l.set.keys ≡ grown l.declared.entries l.initial.set.keys (flat_map (λ x. names_in_optional x.1) (map named_view (take l.place-index l.all)))
