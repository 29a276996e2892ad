use Rattle.std.proofs.Common.{List, ◌++◌, take}
use Rattle.std.specs.List.{flat_map}
use Rattle.bb_blast.specs.declared.stored.Stored.{Stored}
use Rattle.bb_elab.specs.Inside.StoredNumbers.{part_stored, AreNotes}
use Rattle.bb_elab.proofs.registers.note_parts.Given as goal

abbrev pub invariant-loop-part : goal.invariant-loop-part
invariant-loop-part l = (all : List Stored) → AreNotes all l.initial.notes → AreNotes (all ++ flat_map (part_stored l.scope) (take l.part-index l.parts)) l.notes
