use Rattle.std.proofs.Common.{◌+◌, ◌*◌, ◌≤◌, length, map, take, ap, arith}
use Rattle.std.specs.Prelude.{if◌then◌else◌}
use Rattle.bb_bits.specs.Numbers.{number_of}
use Rattle.bb_net.specs.Values.{bit_of}
use Rattle.bb_net.proofs.TableLemmas.{row-more, row-small}
use Rattle.bb_net.proofs.tables.row_number.Goals as goal
use Rattle.bb_net.proofs.tables.row_number.Goals.{then-out-place, else-out-place}

pub overflow_mul-number : goal.overflow_mul-number
overflow_mul-number c =
    let few : length c.args.places.now ≤ 24 = omega arith in
    omega (arith, row-small (bit_of c.args.out.now) c.args.places.now c.loop-place.place-index c.loop-place-test.true few c.number_is_below.ensures, c.loop-place.invariant)

pub overflow_add-number : goal.overflow_add-number
overflow_add-number c =
    let few : length c.args.places.now ≤ 24 = omega arith in
    omega (arith, row-small (bit_of c.args.out.now) c.args.places.now c.loop-place.place-index c.loop-place-test.true few c.number_is_below.ensures, c.loop-place.invariant)

pub loop-place-preserved : goal.loop-place-preserved
loop-place-preserved c =
    let v = bit_of c.args.out.now in
    let s = row-more v c.args.places.now c.loop-place.place-index 0 c.loop-place-test.true c.number_doubles.ensures in
    elim c.if-out-place.branch [
      | then-out-place w ↦
          let e = ap (λ b. 2 * number_of (map v (take c.loop-place.place-index c.args.places.now)) + (if b then 1 else 0)) w.if-out-place.true in
          omega (arith, s, e, c.loop-place.invariant, w.number-is)
      | else-out-place w ↦
          let e = ap (λ b. 2 * number_of (map v (take c.loop-place.place-index c.args.places.now)) + (if b then 1 else 0)) w.if-out-place.false in
          omega (arith, s, e, c.loop-place.invariant, w.number-is)
    ]
