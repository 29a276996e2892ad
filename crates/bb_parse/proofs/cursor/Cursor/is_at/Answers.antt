use Rattle.std.proofs.Common.{◌∙◌, Some, ap, sym}
use Rattle.bb_parse.proofs.Marks.{same_marks, mark_next}
use Rattle.bb_parse.proofs.cursor.Cursor.is_at.Goals as goal

pub returns-in-Some-Mark : goal.returns-in-Some-Mark
returns-in-Some-Mark c =
    c.eq.ensures ∙ same_marks c.in-Some-Mark.mark c.args.wanted ∙ mark_next c.in-Some-Mark.mark c.args.wanted c.args.self.now
    (sym (c.in-Some-Mark.is ∙ ap Some c.in-Some-Mark.field-0-is) ∙ c.kind.ensures)
