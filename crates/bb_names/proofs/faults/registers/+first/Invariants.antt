use Rattle.std.proofs.Common.{◌≡◌, ◌++◌, take, map}
use Rattle.std.specs.Prelude.{None}
use Rattle.std.specs.List.{flat_map}
use Rattle.bb_ast.specs.Names.{names_in}
use Rattle.bb_ast.specs.Inside.Views.{expression, operand_view, arm_view}
use Rattle.bb_names.specs.Inside.Firsts.{first_of}
use Rattle.bb_names.proofs.faults.registers.+first.Given as goal

abbrev pub invariant-first_of_arms-loop-condition : goal.invariant-first_of_arms-loop-condition
invariant-first_of_arms-loop-condition l = first_of (flat_map (λ x. names_in x.0 ++ names_in x.1) (map arm_view (take l.condition-index l.arms))) ≡ None

abbrev pub invariant-first_of_operands-loop-operand : goal.invariant-first_of_operands-loop-operand
invariant-first_of_operands-loop-operand l = first_of (flat_map (λ x. names_in x.1) (map operand_view (take l.operand-index l.rest))) ≡ None

abbrev pub invariant-first_of_words-loop-operand : goal.invariant-first_of_words-loop-operand
invariant-first_of_words-loop-operand l = first_of (flat_map (λ x. names_in x.1) (map operand_view (take l.operand-index l.rest))) ≡ None

abbrev pub invariant-first_of_parts-loop-part : goal.invariant-first_of_parts-loop-part
invariant-first_of_parts-loop-part l = first_of (flat_map names_in (map expression (take l.part-index l.parts))) ≡ None
