use Rattle.std.proofs.Common.{◌++◌, List, take, map}
use Rattle.bb_ast.specs.Inside.Views.{named_view}
use Rattle.bb_names.specs.Declarations.{Declaration, net_declaration}
use Rattle.bb_names.specs.declared.net.NetKind.TheVariants.{Wire}
use Rattle.bb_names.specs.Inside.Summaries.{Describes}
use Rattle.bb_names.proofs.declaring.declare_nets.Given as goal

abbrev pub invariant-loop-name : goal.invariant-loop-name
invariant-loop-name l = (all : List Declaration) → Describes l.initial.declared.entries all → Describes l.declared.entries (all ++ map (λ x. net_declaration Wire l.fn.range x.0) (map named_view (take l.name-index l.nets)))
