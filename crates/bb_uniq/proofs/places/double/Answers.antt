use Rattle.std.proofs.Common.{◌≡◌, ◌*◌, length, suc, arith}
use Rattle.std.proofs.Math.Nat.{pow-suc}
use Rattle.bb_uniq.proofs.places.double.Goals as goal

pub put_all-requires-clause-power : goal.put_all-requires-clause-power
put_all-requires-clause-power c =
    let power = c.requires.places.count in
    let twice : length c.as_mut_slice.result.now ≡ 2 * length c.args.places.now.items = grind (arith) in
    (suc power.0, omega (arith, twice, power.1, pow-suc 2 power.0))
