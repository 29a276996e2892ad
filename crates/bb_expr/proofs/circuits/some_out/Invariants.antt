use Rattle.std.proofs.Common.{◌≡◌, false, take}
use Rattle.bb_expr.specs.Inside.Instantiation.{is_out}
use Rattle.bb_expr.proofs.circuits.some_out.Given as goal

abbrev pub invariant-loop-out : goal.invariant-loop-out
invariant-loop-out l = is_out l.place (take l.out-index l.outs) ≡ false
