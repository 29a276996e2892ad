use Rattle.std.proofs.Common.{map, take}
use Rattle.std.specs.List.{AllZip}
use Rattle.bb_ast.specs.Inside.Views.{expression}
use Rattle.bb_blast.specs.Inside.ModuleTemplates.{IsWholeIn}
use Rattle.bb_blast.specs.Inside.BitBlasting.{module_in}
use Rattle.bb_blast.proofs.gating.gate_inputs.Given as goal

abbrev pub invariant-loop-term : goal.invariant-loop-term
invariant-loop-term l = AllZip (IsWholeIn (module_in l.context.checked.now l.context.module)) l.ins.items (map expression (take l.term-index l.terms))
