use Rattle.std.proofs.Common.{◌++◌, List, take, map}
use Rattle.std.specs.List.{flat_map}
use Rattle.bb_ast.specs.Inside.Views.{head_view}
use Rattle.bb_names.specs.Declarations.{Declaration, declared_by_head}
use Rattle.bb_names.specs.Inside.Summaries.{Describes}
use Rattle.bb_names.proofs.declaring.declare_heads.Given as goal

abbrev pub invariant-loop-head : goal.invariant-loop-head
invariant-loop-head l = (all : List Declaration) → Describes l.initial.declared.entries all → Describes l.declared.entries (all ++ flat_map declared_by_head (map head_view (take l.head-index l.heads)))
