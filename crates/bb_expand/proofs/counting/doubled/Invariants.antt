use Rattle.std.proofs.Common.{◌≡◌, ◌-◌, ◌*◌, ◌^◌, min}
use Rattle.bb_expand.proofs.counting.doubled.Given as goal

abbrev pub invariant-loop : goal.invariant-loop
invariant-loop l = l.doubled ≡ min (2 ^ l.counter * l.number) (2 ^ 64 - 1)
