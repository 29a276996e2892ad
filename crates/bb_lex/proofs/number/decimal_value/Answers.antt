use Rattle.std.proofs.Common.{◌-◌, length, take, drop, sym, ap, ◌∙◌, arith}
use Rattle.bb_lex.proofs.Digits.{number_after, number_after-first, number_after-short}
use Rattle.bb_lex.proofs.number.decimal_value.Goals as goal

pub loop-rest-preserved : goal.loop-rest-preserved
loop-rest-preserved c =
    let rest = c.loop-rest.rest.now in (
      ap (λ v. number_after 10 v (take (length rest - 1) (drop 1 rest))) c.in-Some.ensures.1
          ∙ sym (number_after-first c.loop-rest.value rest c.in-len1-up.len_at_least)
          ∙ c.loop-rest.invariant.0,
      omega (arith, c.in-Some.ensures.0, c.in-Some.ensures.1),
    )

pub returns : goal.returns
returns c =
    let e = sym (number_after-short c.loop-rest.value c.loop-rest.rest.now c.in_default.len_below) ∙ c.loop-rest.invariant.0 in
    (omega (arith, e, c.loop-rest.invariant.1), e)
