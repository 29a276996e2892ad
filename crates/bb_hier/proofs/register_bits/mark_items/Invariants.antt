use Rattle.std.proofs.Common.{◌++◌, List, map, take}
use Rattle.std.specs.List.{flat_map}
use Rattle.bb_ast.specs.Syntax.{PlainItem}
use Rattle.bb_ast.specs.Inside.Views.{item_view}
use Rattle.bb_names.specs.Inside.Checked.{module_facts, syntax}
use Rattle.bb_design.specs.NetBits.{Bit}
use Rattle.bb_hier.specs.Inside.Weights.{any_scope, stored_by, AreMarks}
use Rattle.bb_hier.proofs.register_bits.mark_items.Given as goal

abbrev pub invariant-loop-item : goal.invariant-loop-item
invariant-loop-item l = (bits : List Bit) → AreMarks l.scope.nets.items (map (λ row. row.items) l.fn.marks) bits
    → AreMarks l.scope.nets.items (map (λ row. row.items) l.marks) (bits ++ flat_map (λ (item : PlainItem). stored_by (any_scope (syntax (module_facts l.scope))) item.body) (map item_view (take l.item-index l.items)))
