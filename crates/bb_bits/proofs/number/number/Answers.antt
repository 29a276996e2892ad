use Rattle.std.proofs.Common.{◌-◌, false, length, arith, rules}
use Rattle.std.proofs.lemmas.Nat.{one_shl}
use Rattle.bb_bits.proofs.NumberLemmas.{number_of-drop_set, number_of-small}
use Rattle.bb_bits.proofs.number.number.Goals as goal

pub overflow_add-number : goal.overflow_add-number
overflow_add-number c =
    let s = number_of-drop_set c.args.bits.now c.loop-i.i false c.loop-i-test.true c.if-bit.true in
    let k = one_shl (length c.args.bits.now - 1 - c.loop-i.i) 64 (omega arith) in
    let small = number_of-small c.args.bits.now c.requires in
    rw k (search (arith, rules))
