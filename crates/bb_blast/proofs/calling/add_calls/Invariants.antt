use Rattle.std.proofs.Common.{◌++◌, ℕ, List, map, take}
use Rattle.std.specs.List.{AllZip, flat_map}
use Rattle.bb_ast.specs.Inside.Views.{call_view}
use Rattle.bb_names.specs.Inside.Checked.{syntax}
use Rattle.bb_names.specs.Sites.{module_named}
use Rattle.bb_design.specs.Constructs.{Construct, connections}
use Rattle.bb_design.specs.Hierarchy.{instance_of}
use Rattle.bb_blast.specs.Inside.BitBlasting.{AreCallsAt, IsPartAt}
use Rattle.bb_blast.proofs.calling.add_calls.Given as goal

abbrev pub invariant-loop-k : goal.invariant-loop-k
invariant-loop-k l = (n : List ℕ) → AreCallsAt l.context.checked.now l.context.module l.targets.modules.now l.first (map (instance_of n) (map call_view l.calls))
    → (before : List Construct) → AllZip (IsPartAt l.context.checked.now l.context.module) l.initial.parts.items before
    → AllZip (IsPartAt l.context.checked.now l.context.module) l.parts.items (before ++ flat_map (connections (module_named (map syntax l.context.checked.now) n)) (map call_view (take l.k l.calls)))
