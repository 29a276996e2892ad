use Rattle.std.proofs.Common.{◌++◌, List, map, take}
use Rattle.std.specs.List.{AllZip, flat_map}
use Rattle.bb_ast.specs.Inside.Views.{named_view}
use Rattle.bb_design.specs.Constructs.{Construct, initial_construct}
use Rattle.bb_blast.specs.Inside.BitBlasting.{IsPartAt}
use Rattle.bb_blast.proofs.assigning.add_all_declared.Given as goal

abbrev pub invariant-loop-net : goal.invariant-loop-net
invariant-loop-net l = (before : List Construct) → AllZip (IsPartAt l.context.checked.now l.context.module) l.initial.parts.items before
    → AllZip (IsPartAt l.context.checked.now l.context.module) l.parts.items (before ++ flat_map initial_construct (map named_view (take l.net-index l.nets)))
