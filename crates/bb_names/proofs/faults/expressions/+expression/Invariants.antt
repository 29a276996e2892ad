use Rattle.std.proofs.Common.{◌≡◌, ◌++◌, ℕ, List, take, map}
use Rattle.std.specs.Prelude.{sum}
use Rattle.std.specs.List.{flat_map}
use Rattle.bb_ast.specs.Syntax.{PlainModule}
use Rattle.bb_ast.specs.Inside.Views.{expression, operand_view, arm_view, module_view}
use Rattle.bb_names.specs.Faults.{width_in}
use Rattle.bb_names.specs.Inside.Firsts.{noted, use_of, sites_of_part, saturated, words_width}
use Rattle.bb_names.specs.Sites.{sites_in}
use Rattle.bb_names.specs.Widths.{greatest}
use Rattle.bb_names.proofs.faults.expressions.+expression.Given as goal

abbrev pub invariant-look_at_operands-loop-operand : goal.invariant-look_at_operands-loop-operand
invariant-look_at_operands-loop-operand l = record {
  noted : (text : List PlainModule) → l.found ≡ noted text (module_view l.fn.of) l.initial.found (flat_map (λ x. sites_in (use_of l.fn.role) x.1) (map operand_view (take l.operand-index l.rest)));
  width : l.width ≡ saturated (greatest (map (λ x. width_in (module_view l.fn.of) x.1) (map operand_view (take l.operand-index l.rest))));
}

abbrev pub invariant-look_at_words-loop-op : goal.invariant-look_at_words-loop-op
invariant-look_at_words-loop-op l = record {
  noted : (text : List PlainModule) → l.found ≡ noted text (module_view l.fn.of) l.initial.found (flat_map (λ x. sites_in (use_of l.fn.role) x.1) (map operand_view (take l.op-index l.rest)));
  width : (left : ℕ) → l.fn.first ≡ saturated left → l.width ≡ saturated (words_width left (map (λ x. (x.0, width_in (module_view l.fn.of) x.1)) (map operand_view (take l.op-index l.rest))));
}

abbrev pub invariant-look_at_arms-loop-condition : goal.invariant-look_at_arms-loop-condition
invariant-look_at_arms-loop-condition l = record {
  noted : (text : List PlainModule) → l.found ≡ noted text (module_view l.fn.of) l.initial.found (flat_map (λ x. sites_in (use_of l.fn.role) x.0 ++ sites_in (use_of l.fn.role) x.1) (map arm_view (take l.condition-index l.arms)));
  width : l.width ≡ saturated (greatest (map (λ x. width_in (module_view l.fn.of) x.1) (map arm_view (take l.condition-index l.arms))));
}

abbrev pub invariant-look_at_parts-loop-part : goal.invariant-look_at_parts-loop-part
invariant-look_at_parts-loop-part l = record {
  noted : (text : List PlainModule) → l.found ≡ noted text (module_view l.fn.of) l.initial.found (flat_map (sites_of_part (use_of l.fn.role)) (map expression (take l.part-index l.parts)));
  width : l.width ≡ saturated (sum (map (width_in (module_view l.fn.of)) (map expression (take l.part-index l.parts))));
}
