use Rattle.std.proofs.Common.{◌++◌, List, map, take}
use Rattle.std.specs.List.{AllZip}
use Rattle.bb_ast.specs.Inside.Views.{arm_view}
use Rattle.bb_design.specs.Constructs.{Construct, Assignment}
use Rattle.bb_blast.specs.Inside.BitBlasting.{IsPartAt}
use Rattle.bb_blast.proofs.assigning.add_assignments.Given as goal

abbrev pub invariant-loop-left : goal.invariant-loop-left
invariant-loop-left l = (before : List Construct) → AllZip (IsPartAt l.context.checked.now l.context.module) l.initial.parts.items before
    → AllZip (IsPartAt l.context.checked.now l.context.module) l.parts.items (before ++ map (λ x. Assignment x.0 x.1) (map arm_view (take l.left-index l.all)))
