use Rattle.std.proofs.Common.{◌≡◌, ◌+◌, ◌≤◌, map, take, drop}
use Rattle.std.specs.Prelude.{sum_by}
use Rattle.bb_ast.specs.Inside.Views.{expression, operand_view, arm_view}
use Rattle.bb_names.specs.Inside.Checked.{module_facts}
use Rattle.bb_expr.specs.Inside.Fit.{ranges_in}
use Rattle.bb_expr.specs.Inside.Levels.{words_cells}
use Rattle.bb_expr.specs.Inside.Shares.{capped, own_cells, operand_cells, arm_cells}
use Rattle.bb_expr.proofs.cell_count.+cells.Given as goal

abbrev pub invariant-operand_cells-loop-op : goal.invariant-operand_cells-loop-op
invariant-operand_cells-loop-op l = l.total ≡ capped (sum_by (operand_cells (ranges_in (module_facts l.scope)) l.width) (map operand_view (take l.op-index l.rest)))

abbrev pub invariant-arm_cells-loop-condition : goal.invariant-arm_cells-loop-condition
invariant-arm_cells-loop-condition l = l.total ≡ capped (sum_by (arm_cells (ranges_in (module_facts l.scope)) l.width) (map arm_view (take l.condition-index l.all)))

abbrev pub invariant-part_cells-loop-part : goal.invariant-part_cells-loop-part
invariant-part_cells-loop-part l = l.total ≡ capped (sum_by (own_cells (ranges_in (module_facts l.scope))) (map expression (take l.part-index l.all)))

abbrev pub invariant-level_cells-loop-op : goal.invariant-level_cells-loop-op
invariant-level_cells-loop-op l =
    let ranges = ranges_in (module_facts l.scope) in
    record {
      next : l.next ≡ l.op-index;
      bounded : l.own ≤ 65536;
      all : capped (l.total + words_cells ranges l.own (map operand_view (drop l.op-index l.rest)) l.width) ≡ capped (words_cells ranges l.fn.left (map operand_view l.rest) l.width);
      total : l.total ≤ 18446744073709551615;
    }
