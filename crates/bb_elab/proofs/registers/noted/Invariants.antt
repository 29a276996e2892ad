use Rattle.std.proofs.Common.{◌≡◌, take}
use Rattle.std.specs.List.{filter_map}
use Rattle.bb_elab.proofs.registers.noted.Given as goal

abbrev pub invariant-loop-note : goal.invariant-loop-note
invariant-loop-note l = l.all.items ≡ filter_map (λ note. note) (take l.note-index l.notes)
