use Rattle.std.proofs.Common.{ℕ, List, map, ap, ap₂, ◌∙◌}
use Rattle.bb_bits.specs.Bits.{low_bits}
use Rattle.bb_expr.specs.declared.step.BitStep.{BitStep}
use Rattle.bb_blast.specs.declared.logic.Operand.{Operand}
use Rattle.bb_blast.specs.Inside.Logic.{kept_of, operand_in}
use Rattle.bb_blast.proofs.logic.logic_of.Goals as goal

pub returns : goal.returns
returns c = record {
  logic = record {
    operators = c.in_ok-add_steps.ensures.operators ∙ ap (λ (all : List BitStep). (kept_of all).operators) c.deref.ensures.value;
    bits = c.in_ok-bits.ensures.operands
        ∙ ap₂ (λ (results : List Operand) (places : List ℕ). map (operand_in results) places) (c.deref-2.ensures.value ∙ c.in_ok-add_steps.ensures.results ∙ ap (λ (all : List BitStep). (kept_of all).results) c.deref.ensures.value)
        (c.low_bits.ensures.low ∙ ap (low_bits c.args.count) c.deref-3.ensures.value);
  };
}
