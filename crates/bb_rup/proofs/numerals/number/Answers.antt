use Rattle.std.proofs.Common.{sym, ◌∙◌, subst, arith}
use Rattle.bb_rup.proofs.Digits.{Fits, fits-small, digit_is}
use Rattle.bb_rup.proofs.numerals.number.Goals as goal

pub overflow_mul-value : goal.overflow_mul-value
overflow_mul-value c =
    let fits = subst (λ rest. Fits c.loop-b.value rest c.args.digits.now) c.in-Some.ensures.cases.0 c.loop-b.invariant.2 in
    omega (arith, fits-small c.loop-b.value c.in-Some.b.now c.in-Some.tail.now c.args.digits.now c.if-digits-gt10.false fits)

pub overflow_add-value : goal.overflow_add-value
overflow_add-value c =
    let fits = subst (λ rest. Fits c.loop-b.value rest c.args.digits.now) c.in-Some.ensures.cases.0 c.loop-b.invariant.2 in
    let digit = digit_is c.in-Some.b.now (sym c.is_ascii_digit.ensures.value ∙ c.if-not-is_ascii_digit.false) in
    omega (arith, c.from.ensures, digit.2, fits-small c.loop-b.value c.in-Some.b.now c.in-Some.tail.now c.args.digits.now c.if-digits-gt10.false fits)
