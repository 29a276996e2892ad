use Rattle.std.proofs.Common.{◌≡◌, take, map}
use Rattle.std.specs.List.{flat_map}
use Rattle.bb_ast.specs.Inside.Views.{optional_view}
use Rattle.bb_names.specs.Declarations.{names_in_optional}
use Rattle.bb_names.specs.Inside.Implicit.{grown}
use Rattle.bb_names.proofs.implicit.add_places.Given as goal

abbrev pub invariant-loop-place : goal.invariant-loop-place
invariant-loop-place l = l.set.keys ≡ grown l.declared.entries l.initial.set.keys (flat_map names_in_optional (map optional_view (take l.place-index l.places)))
