use Rattle.std.proofs.Common.{◌≡◌, ◌+◌, ◌-◌, ◌*◌, ◌%◌, ◌^◌, drop, length, nat_eq, ap, sym, ◌∙◌, arith, length-set}
use Rattle.bb_bits.specs.Numbers.{number_of}
use Rattle.bb_nest.proofs.Copies.{spell_more, spelled_whole}
use Rattle.bb_nest.proofs.spelling.spell.Goals as goal

pub loop-i-preserved : goal.loop-i-preserved
loop-i-preserved c =
    let i = c.loop-i.i in
    let bits = c.loop-i.bits in
    let left = c.loop-i.left in (
      omega (arith, c.loop-i.invariant.0),
      length-set bits (i - 1) (nat_eq (left % 2) 1) ∙ c.loop-i.invariant.1,
      spell_more bits i (length c.args.bits.now) left c.args.number c.loop-i-test.true c.loop-i.invariant.0 c.loop-i.invariant.1 c.loop-i.invariant.2,
    )

pub returns-clause-number : goal.returns-clause-number
returns-clause-number c =
    let i = c.loop-i.i in
    let n = length c.args.bits.now in
    let all : i ≡ 0 = omega (arith, c.loop-i-test.false) in
    let whole : 2 ^ n ≡ 2 ^ (n - 0) = ap (λ j. 2 ^ j) (let h : n ≡ n - 0 = omega arith in h) in
    spelled_whole c.loop-i.left (2 ^ n) (number_of c.loop-i.bits) c.args.number
    (ap (λ p. c.loop-i.left * p + number_of c.loop-i.bits) whole ∙ ap (λ j. c.loop-i.left * 2 ^ (n - j) + number_of (drop j c.loop-i.bits)) (sym all) ∙ c.loop-i.invariant.2) c.requires
