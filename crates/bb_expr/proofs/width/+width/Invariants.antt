use Rattle.std.proofs.Common.{◌≡◌, ◌+◌, map, drop}
use Rattle.std.specs.Prelude.{max, sum}
use Rattle.bb_ast.specs.Inside.Views.{expression, operand_view, arm_view}
use Rattle.bb_names.specs.Inside.Checked.{module_facts}
use Rattle.bb_names.specs.Widths.{own_width, greatest}
use Rattle.bb_expr.specs.Inside.Fit.{ranges_in}
use Rattle.bb_expr.specs.Inside.Levels.{width_on}
use Rattle.bb_expr.proofs.width.+width.Given as goal

abbrev pub invariant-widest_operand-loop-operand : goal.invariant-widest_operand-loop-operand
invariant-widest_operand-loop-operand l =
    max l.widest (greatest (map (λ x. own_width (ranges_in (module_facts l.scope)) x.1) (map operand_view (drop l.operand-index l.rest))))
    ≡ greatest (map (λ x. own_width (ranges_in (module_facts l.scope)) x.1) (map operand_view l.rest))

abbrev pub invariant-widest_value-loop-value : goal.invariant-widest_value-loop-value
invariant-widest_value-loop-value l =
    max l.widest (greatest (map (λ x. own_width (ranges_in (module_facts l.scope)) x.1) (map arm_view (drop l.value-index l.all))))
    ≡ greatest (map (λ x. own_width (ranges_in (module_facts l.scope)) x.1) (map arm_view l.all))

abbrev pub invariant-total_width-loop-part : goal.invariant-total_width-loop-part
invariant-total_width-loop-part l =
    l.total + sum (map (own_width (ranges_in (module_facts l.scope))) (map expression (drop l.part-index l.all)))
    ≡ sum (map (own_width (ranges_in (module_facts l.scope))) (map expression l.all))

abbrev pub invariant-level_width-loop-op : goal.invariant-level_width-loop-op
invariant-level_width-loop-op l =
    width_on (ranges_in (module_facts l.scope)) l.width (map operand_view (drop l.op-index l.rest))
    ≡ width_on (ranges_in (module_facts l.scope)) l.fn.left (map operand_view l.rest)
