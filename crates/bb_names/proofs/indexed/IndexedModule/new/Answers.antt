use Rattle.bb_names.proofs.indexed.IndexedModule.new.Goals as goal

pub invariant_of-result : goal.invariant_of-result
invariant_of-result c = c.in_ok-note_names.ensures
