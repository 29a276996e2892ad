use Rattle.std.proofs.Common.{List, ◌++◌, take}
use Rattle.bb_blast.specs.declared.stored.Stored.{Stored}
use Rattle.bb_elab.specs.Inside.StoredNumbers.{stored_from, AreNotes}
use Rattle.bb_elab.proofs.registers.note_bits.Given as goal

abbrev pub invariant-loop-bit : goal.invariant-loop-bit
invariant-loop-bit l = (all : List Stored) → AreNotes all l.initial.notes → AreNotes (all ++ stored_from l.first (take l.bit-index l.left) l.clock l.falling) l.notes
