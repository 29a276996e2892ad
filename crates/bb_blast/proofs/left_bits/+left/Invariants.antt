use Rattle.std.proofs.Common.{◌++◌, List, map, take}
use Rattle.std.specs.List.{flat_map}
use Rattle.bb_ast.specs.Inside.Views.{expression}
use Rattle.bb_names.specs.Inside.Checked.{module_facts, syntax}
use Rattle.bb_design.specs.Hierarchy.{Scope}
use Rattle.bb_design.specs.NetBits.{Bit, written_bits}
use Rattle.bb_blast.specs.Inside.ModuleTemplates.{AreBitsIn}
use Rattle.bb_blast.proofs.left_bits.+left.Given as goal

abbrev pub invariant-add_lefts-loop-part : goal.invariant-add_lefts-loop-part
invariant-add_lefts-loop-part l = (before : Scope → List Bit) → AreBitsIn (syntax (module_facts l.scope)) l.initial.numbers.items before
    → AreBitsIn (syntax (module_facts l.scope)) l.numbers.items (λ s. before s ++ flat_map (written_bits s) (map expression (take l.part-index l.all)))
