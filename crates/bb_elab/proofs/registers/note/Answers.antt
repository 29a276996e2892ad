use Rattle.std.proofs.Common.{not, ap, ◌∙◌}
use Rattle.bb_elab.proofs.StoredNotes.{noted_or_not}
use Rattle.bb_elab.proofs.registers.note.Goals as goal

pub returns-then-is_none : goal.returns-then-is_none
returns-then-is_none c = record { noted = λ all noted. (noted_or_not all c.args.notes.now c.args.stored c.requires.there noted).0 (c.is_none.ensures ∙ ap not c.if-is_none.true) }

pub returns-else-is_none : goal.returns-else-is_none
returns-else-is_none c = record { noted = λ all noted. (noted_or_not all c.args.notes.now c.args.stored c.requires.there noted).1 (c.is_none.ensures ∙ ap not c.if-is_none.false) }
