use Rattle.std.proofs.Common.{List, ◌++◌, take}
use Rattle.std.specs.List.{flat_map}
use Rattle.bb_blast.specs.declared.stored.Stored.{Stored}
use Rattle.bb_elab.specs.Inside.StoredNumbers.{scope_stored, AreNotes}
use Rattle.bb_elab.proofs.registers.note_scopes.Given as goal

abbrev pub invariant-loop-scope : goal.invariant-loop-scope
invariant-loop-scope l = (all : List Stored) → AreNotes all l.initial.notes → AreNotes (all ++ flat_map (scope_stored l.templates) (take l.scope-index l.placed)) l.notes
