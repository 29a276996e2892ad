use Rattle.std.proofs.Common.{◌≡◌, take, map}
use Rattle.std.specs.List.{flat_map}
use Rattle.bb_ast.specs.Inside.Views.{call_view}
use Rattle.bb_names.specs.Declarations.{names_in_conns}
use Rattle.bb_names.specs.Inside.Implicit.{grown}
use Rattle.bb_names.proofs.implicit.add_calls.Given as goal

abbrev pub invariant-loop-call : goal.invariant-loop-call
invariant-loop-call l = l.set.keys ≡ grown l.declared.entries l.initial.set.keys (flat_map (λ x. names_in_conns x.1) (map call_view (take l.call-index l.calls)))
