use Rattle.std.proofs.Common.{◌≡◌, ◌++◌, take, map}
use Rattle.std.specs.List.{flat_map}
use Rattle.bb_ast.specs.Names.{names_in}
use Rattle.bb_ast.specs.Inside.Views.{expression, operand_view, arm_view}
use Rattle.bb_names.specs.Inside.Implicit.{grown}
use Rattle.bb_names.proofs.implicit.+names.Given as goal

abbrev pub invariant-add_arms-loop-condition : goal.invariant-add_arms-loop-condition
invariant-add_arms-loop-condition l = l.set.keys ≡ grown l.declared.entries l.initial.set.keys (flat_map (λ x. names_in x.0 ++ names_in x.1) (map arm_view (take l.condition-index l.arms)))

abbrev pub invariant-add_operands-loop-operand : goal.invariant-add_operands-loop-operand
invariant-add_operands-loop-operand l = l.set.keys ≡ grown l.declared.entries l.initial.set.keys (flat_map (λ x. names_in x.1) (map operand_view (take l.operand-index l.rest)))

abbrev pub invariant-add_words-loop-operand : goal.invariant-add_words-loop-operand
invariant-add_words-loop-operand l = l.set.keys ≡ grown l.declared.entries l.initial.set.keys (flat_map (λ x. names_in x.1) (map operand_view (take l.operand-index l.rest)))

abbrev pub invariant-add_parts-loop-part : goal.invariant-add_parts-loop-part
invariant-add_parts-loop-part l = l.set.keys ≡ grown l.declared.entries l.initial.set.keys (flat_map names_in (map expression (take l.part-index l.parts)))
