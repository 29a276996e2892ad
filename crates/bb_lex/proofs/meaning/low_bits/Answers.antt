use Rattle.std.proofs.Common.{◌-◌, ◌++◌, append_assoc, sym, ap, ◌∙◌, arith}
use Rattle.bb_lex.specs.Numbers.{weighted_bits}
use Rattle.bb_lex.proofs.Meanings.{weighted_bits-first}
use Rattle.bb_lex.proofs.meaning.low_bits.Goals as goal

-- the next bit is pushed
pub loop-left-preserved : goal.loop-left-preserved
loop-left-preserved c =
    let old = c.loop-left.bits.items in
    let left = c.loop-left.left in
    let value = c.args.value in (
      ap (λ l. l ++ weighted_bits (left - 1) value) c.in_ok-push.ensures.items
          ∙ append_assoc old _ (weighted_bits (left - 1) value)
          ∙ ap (λ l. old ++ l) (sym (weighted_bits-first left value (omega arith)))
          ∙ c.loop-left.invariant.0,
      omega arith,
    )
