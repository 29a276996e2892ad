use Rattle.std.proofs.Common.{◌≡◌, ◌+◌, ◌-◌, ◌≤◌, List, map, take, drop, length}
use Rattle.std.specs.Prelude.{◌*◌, ◌^◌, sum_by}
use Rattle.bb_ast.specs.Inside.Views.{expression, operand_view, arm_view}
use Rattle.bb_names.specs.Inside.Checked.{module_facts}
use Rattle.bb_names.specs.Widths.{own_width}
use Rattle.bb_expr.specs.declared.step.BitStep.{BitStep}
use Rattle.bb_expr.specs.Cells.{MadeTerms}
use Rattle.bb_expr.specs.Inside.Fit.{ranges_in}
use Rattle.bb_expr.specs.Inside.Growing.{Adds, beside, chained_on, arms_on, most_steps}
use Rattle.bb_expr.specs.Inside.Levels.{AreReady, words_on}
use Rattle.bb_expr.specs.Inside.Shares.{own_cells, operand_cells, arm_cells}
use Rattle.bb_expr.proofs.WalkLemmas.{IsChained}
use Rattle.bb_expr.proofs.ReadyLemmas.{IsWorded}
use Rattle.bb_expr.proofs.lowering.+lowering.Given as goal

abbrev pub invariant-chain-loop-op : goal.invariant-chain-loop-op
invariant-chain-loop-op l =
    let ranges = ranges_in (module_facts l.scope) in
    record {
      made : (m : MadeTerms) (old : List BitStep) → Adds l.scope.nets.items m old l.initial.steps.items l.initial.bits.items
          → IsChained l.scope.nets.items ranges l.width (map operand_view (drop l.op-index l.rest)) (chained_on ranges l.width m (map operand_view l.rest)) old l.steps.items l.bits.items;
      width : length l.bits.items ≡ l.width;
      room : length l.steps.items + 4 * sum_by (operand_cells ranges l.width) (map operand_view (drop l.op-index l.rest)) ≤ 2 ^ 31;
    }

abbrev pub invariant-conditional-loop-turn : goal.invariant-conditional-loop-turn
invariant-conditional-loop-turn l =
    let ranges = ranges_in (module_facts l.scope) in
    record {
      made : (m : MadeTerms) (old : List BitStep) → Adds l.scope.nets.items m old l.initial.steps.items l.initial.bits.items
          → Adds l.scope.nets.items (arms_on ranges l.width m (map arm_view (drop (length l.all - l.turn) l.all))) old l.steps.items l.bits.items;
      width : length l.bits.items ≡ l.width;
      room : length l.steps.items + 4 * sum_by (arm_cells ranges l.width) (map arm_view (take (length l.all - l.turn) l.all)) ≤ 2 ^ 31;
    }

abbrev pub invariant-side_by_side-loop-part : goal.invariant-side_by_side-loop-part
invariant-side_by_side-loop-part l =
    let ranges = ranges_in (module_facts l.scope) in
    record {
      made : Adds l.scope.nets.items (beside ranges (map expression (take l.part-index l.all))) l.fn.steps.items l.steps.items l.bits.items;
      room : length l.steps.items + most_steps (sum_by (own_width ranges) (map expression (drop l.part-index l.all))) (sum_by (own_cells ranges) (map expression (drop l.part-index l.all))) ≤ 2 ^ 31;
    }

abbrev pub invariant-words-loop-op : goal.invariant-words-loop-op
invariant-words-loop-op l =
    let ranges = ranges_in (module_facts l.scope) in
    record {
      next : l.next ≡ l.op-index;
      made : (m : MadeTerms) (old : List BitStep) → Adds l.scope.nets.items m old l.initial.steps.items l.initial.bits.items
          → IsWorded l.scope.nets.items ranges l.width l.own (map operand_view (drop l.op-index l.rest)) (words_on ranges m l.fn.left (map operand_view l.rest) l.width) old l.steps.items l.bits.items;
      ready : AreReady (module_facts l.scope) (map operand_view (drop l.op-index l.rest)) l.width l.own (length l.steps.items) (length l.bits.items);
    }
