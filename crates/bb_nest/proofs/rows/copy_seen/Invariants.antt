use Rattle.std.proofs.Common.{◌≡◌, ◌+◌, ◌++◌, length, map, take, drop}
use Rattle.bb_net.specs.Values.{bit_of}
use Rattle.bb_nest.proofs.rows.copy_seen.Given as goal

abbrev pub invariant-loop-q : goal.invariant-loop-q
invariant-loop-q l = l.point ≡ map (λ p. bit_of l.fn.point (length l.readers + p)) (take l.q l.readers) ++ drop l.q l.fn.point
