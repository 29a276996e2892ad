use Rattle.std.proofs.Common.{◌++◌, List, Some, map, take}
use Rattle.std.specs.List.{AllZip}
use Rattle.bb_ast.specs.Syntax.{Named}
use Rattle.bb_ast.specs.Inside.Views.{named_view}
use Rattle.bb_design.specs.Constructs.{Construct, connections}
use Rattle.bb_design.specs.Hierarchy.{Instance}
use Rattle.bb_blast.specs.Inside.BitBlasting.{IsCallAt, IsPartAt, module_in}
use Rattle.bb_blast.proofs.calling.add_named.Given as goal

abbrev pub invariant-loop-port : goal.invariant-loop-port
invariant-loop-port l = (called : Instance) → IsCallAt l.context.checked.now l.context.module l.inner.instance l.inner.target called → (before : List Construct) → AllZip (IsPartAt l.context.checked.now l.context.module) l.initial.parts.items before
    → AllZip (IsPartAt l.context.checked.now l.context.module) l.parts.items (before ++ connections (Some (module_in l.context.checked.now l.inner.target)) (called.name, Named (map named_view (take l.port-index l.all))))
