use Rattle.std.proofs.Common.{◌++◌, List, take, map}
use Rattle.bb_ast.specs.Inside.Views.{call_view}
use Rattle.bb_names.specs.Declarations.{Declaration, instance_declaration}
use Rattle.bb_names.specs.Inside.Summaries.{Describes}
use Rattle.bb_names.proofs.declaring.declare_calls.Given as goal

abbrev pub invariant-loop-call : goal.invariant-loop-call
invariant-loop-call l = (all : List Declaration) → Describes l.initial.declared.entries all → Describes l.declared.entries (all ++ map (λ x. instance_declaration x.0) (map call_view (take l.call-index l.calls)))
