use Rattle.std.proofs.Common.{◌≡◌, map, take}
use Rattle.bb_elab.proofs.register_names.stored_numbers.Given as goal

abbrev pub invariant-loop-register : goal.invariant-loop-register
invariant-loop-register l = l.numbers.items ≡ map (λ x. x.bit) (take l.register-index l.stored)
