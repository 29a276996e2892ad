use Rattle.std.proofs.Common.{◌≡◌, ◌+◌, ◌++◌, map, take}
use Rattle.bb_blast.specs.declared.stored.Stored.{Stored}
use Rattle.bb_elab.proofs.reading.add_clocks.Given as goal

abbrev pub invariant-loop-register : goal.invariant-loop-register
invariant-loop-register l = l.places.items ≡ l.fn.places.items ++ map (λ (x : Stored). l.first + x.clock) (take l.register-index l.stored)
