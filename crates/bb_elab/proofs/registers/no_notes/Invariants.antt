use Rattle.std.proofs.Common.{◌≡◌, None}
use Rattle.std.specs.Prelude.{replicate}
use Rattle.bb_elab.proofs.registers.no_notes.Given as goal

abbrev pub invariant-loop : goal.invariant-loop
invariant-loop l = l.notes.items ≡ replicate l.counter None
