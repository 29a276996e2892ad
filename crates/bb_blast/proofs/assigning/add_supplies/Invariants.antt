use Rattle.std.proofs.Common.{◌++◌, List, map, take}
use Rattle.std.specs.List.{AllZip}
use Rattle.bb_design.specs.Constructs.{Construct, SupplyNet}
use Rattle.bb_blast.specs.Inside.BitBlasting.{IsPartAt}
use Rattle.bb_blast.proofs.assigning.add_supplies.Given as goal

abbrev pub invariant-loop-name : goal.invariant-loop-name
invariant-loop-name l = (before : List Construct) → AllZip (IsPartAt l.context.checked.now l.context.module) l.initial.parts.items before
    → AllZip (IsPartAt l.context.checked.now l.context.module) l.parts.items (before ++ map (SupplyNet l.high) (take l.name-index l.names))
