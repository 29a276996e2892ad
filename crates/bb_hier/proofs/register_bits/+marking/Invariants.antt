use Rattle.std.proofs.Common.{◌++◌, List, map, take}
use Rattle.std.specs.List.{flat_map}
use Rattle.bb_ast.specs.Inside.Views.{expression}
use Rattle.bb_names.specs.Inside.Checked.{module_facts, syntax}
use Rattle.bb_design.specs.NetBits.{Bit, written_bits}
use Rattle.bb_hier.specs.Inside.Weights.{any_scope, AreMarks}
use Rattle.bb_hier.proofs.register_bits.+marking.Given as goal

abbrev pub invariant-mark_all-loop-part : goal.invariant-mark_all-loop-part
invariant-mark_all-loop-part l = (bits : List Bit) → AreMarks l.scope.nets.items (map (λ row. row.items) l.fn.marks) bits
    → AreMarks l.scope.nets.items (map (λ row. row.items) l.marks) (bits ++ flat_map (written_bits (any_scope (syntax (module_facts l.scope)))) (map expression (take l.part-index l.all)))
