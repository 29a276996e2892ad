use Rattle.std.proofs.Common.{◌++◌, List, take, map}
use Rattle.bb_names.specs.Declarations.{Declaration}
use Rattle.bb_names.specs.Inside.Summaries.{named, Describes}
use Rattle.bb_names.proofs.declaring.declare_names.Given as goal

abbrev pub invariant-loop-name : goal.invariant-loop-name
invariant-loop-name l = (all : List Declaration) → Describes l.initial.declared.entries all → Describes l.declared.entries (all ++ map (λ n. named n l.fn.d) (take l.name-index l.names))
