use Rattle.std.proofs.Common.{◌++◌, List, map, take}
use Rattle.std.specs.List.{AllZip}
use Rattle.bb_ast.specs.Inside.Views.{gate_view}
use Rattle.bb_design.specs.Constructs.{Construct, gate_construct}
use Rattle.bb_blast.specs.Inside.BitBlasting.{IsPartAt}
use Rattle.bb_blast.proofs.gating.add_gates.Given as goal

abbrev pub invariant-loop-call : goal.invariant-loop-call
invariant-loop-call l = (before : List Construct) → AllZip (IsPartAt l.context.checked.now l.context.module) l.initial.parts.items before
    → AllZip (IsPartAt l.context.checked.now l.context.module) l.parts.items (before ++ map (λ x. gate_construct l.gate x.1) (map gate_view (take l.call-index l.all)))
