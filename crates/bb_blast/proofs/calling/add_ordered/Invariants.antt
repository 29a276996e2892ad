use Rattle.std.proofs.Common.{◌++◌, List, Some, map, take}
use Rattle.std.specs.List.{AllZip}
use Rattle.bb_ast.specs.Syntax.{Order}
use Rattle.bb_ast.specs.Inside.Views.{optional_view}
use Rattle.bb_design.specs.Constructs.{Construct, connections}
use Rattle.bb_design.specs.Hierarchy.{Instance}
use Rattle.bb_blast.specs.Inside.BitBlasting.{IsCallAt, IsPartAt, module_in}
use Rattle.bb_blast.proofs.calling.add_ordered.Given as goal

abbrev pub invariant-loop-k : goal.invariant-loop-k
invariant-loop-k l = (called : Instance) → IsCallAt l.context.checked.now l.context.module l.inner.instance l.inner.target called → (before : List Construct) → AllZip (IsPartAt l.context.checked.now l.context.module) l.initial.parts.items before
    → AllZip (IsPartAt l.context.checked.now l.context.module) l.parts.items (before ++ connections (Some (module_in l.context.checked.now l.inner.target)) (called.name, Order (map optional_view (take l.k l.places))))
