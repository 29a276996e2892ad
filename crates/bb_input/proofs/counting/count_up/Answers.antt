use Rattle.std.proofs.Common.{◌≡◌, ◌+◌, ◌-◌, ◌^◌, false, length, ap, ◌∙◌, arith, length-set}
use Rattle.std.specs.Prelude.{slice_set}
use Rattle.bb_bits.specs.Numbers.{number_of}
use Rattle.bb_input.proofs.NumberSteps.{raised, lowered, next_power}
use Rattle.bb_input.proofs.counting.count_up.Goals as goal

pub returns-then-not-bits-i-clause-next : goal.returns-then-not-bits-i-clause-next
returns-then-not-bits-i-clause-next c = λ below.
    let bits = c.loop-i.bits in
    let i = c.loop-i.i - 1 in
    let n = length c.args.bits.now in
    let same = c.loop-i.invariant.1 in
    let up = raised bits i (omega (arith, c.loop-i-test.true, c.loop-i.invariant.0, same)) c.if-not-bits-i.true in
    let power : 2 ^ (length bits - (i + 1)) ≡ 2 ^ (n - c.loop-i.i) = ap (λ k. 2 ^ k) (let e : length bits - (i + 1) ≡ n - c.loop-i.i = omega (arith, c.loop-i-test.true, same) in e) in
    omega (arith, up, power, c.loop-i.invariant.2)

pub loop-i-preserved : goal.loop-i-preserved
loop-i-preserved c =
    let bits = c.loop-i.bits in
    let i = c.loop-i.i - 1 in
    let n = length c.args.bits.now in
    let same = c.loop-i.invariant.1 in
    let down = lowered bits i (omega (arith, c.loop-i-test.true, c.loop-i.invariant.0, same)) c.if-not-bits-i.false in
    let power : 2 ^ (length bits - (i + 1)) ≡ 2 ^ (n - (i + 1)) = ap (λ k. 2 ^ (k - (i + 1))) same in
    let here : 2 ^ (n - c.loop-i.i) ≡ 2 ^ (n - (i + 1)) = ap (λ k. 2 ^ (n - k)) (let e : c.loop-i.i ≡ i + 1 = omega (arith, c.loop-i-test.true) in e) in
    let next = next_power n i (omega (arith, c.loop-i-test.true, c.loop-i.invariant.0)) in (
      omega (arith, c.loop-i.invariant.0),
      length-set bits i false ∙ same,
      (let e : number_of (slice_set bits i false) + 2 ^ (n - i) ≡ number_of c.args.bits.now + 1 = omega (arith, down, power, here, next, c.loop-i.invariant.2) in e),
    )
