use Rattle.std.proofs.Common.{◌-◌, ◌%◌, ◌^◌, length, take, drop, ap, ◌∙◌}
use Rattle.bb_lex.proofs.Digits.{number_after, number_after-low_first}
use Rattle.bb_lex.proofs.number.low_value.Goals as goal

pub loop-rest-preserved : goal.loop-rest-preserved
loop-rest-preserved c =
    let rest = c.loop-rest.rest.now in (
      ap (λ v. number_after c.args.radix v (take (length rest - 1) (drop 1 rest)) % 2 ^ 128) c.joined_low-value.ensures
          ∙ number_after-low_first c.args.radix c.loop-rest.value rest c.in-len1-up.len_at_least
          ∙ c.loop-rest.invariant.0,
      c.joined_low-value.type_inv,
    )
