use Rattle.std.proofs.Common.{Some, None, sym, ap, ◌∙◌, append-nil}
use Rattle.bb_elab.proofs.StoredNotes.{kept_more}
use Rattle.bb_elab.proofs.registers.noted.Goals as goal
use Rattle.bb_elab.proofs.registers.noted.Goals.{in-Some+in_ok-push, in_default}

pub loop-note-preserved : goal.loop-note-preserved
loop-note-preserved c = elim c.match-note.branch [
  | in-Some+in_ok-push w ↦ kept_more (λ note. note) c.args.notes.now c.loop-note.note-index (Some w.in-Some.stored) None c.loop-note.all.items c.match-note.all.items c.loop-note-test.true w.in-Some.is c.loop-note.invariant
      (ap (λ l. l.items) w.all-is ∙ w.in_ok-push.ensures.items)
  | in_default w ↦ kept_more (λ note. note) c.args.notes.now c.loop-note.note-index None None c.loop-note.all.items c.match-note.all.items c.loop-note-test.true w.in_default.is c.loop-note.invariant
      (ap (λ l. l.items) w.all-is ∙ sym (append-nil c.loop-note.all.items))
]
