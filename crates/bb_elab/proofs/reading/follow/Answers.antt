use Rattle.std.proofs.Common.{true, set, refl}
use Rattle.bb_elab.proofs.CopyMarks.{follow_goes}
use Rattle.bb_lemmas.proofs.Marks.{unmarked_less}
use Rattle.bb_elab.proofs.reading.follow.Goals as goal

pub loop-place-smaller : goal.loop-place-smaller
loop-place-smaller c = unmarked_less c.loop-place.marks c.loop-place.place c.loop-place-test.true c.if-not-marks-place.true

pub loop-place-preserved : goal.loop-place-preserved
loop-place-preserved c =
    follow_goes c.args.cells.now c.args.marks.now c.loop-place.marks (set c.loop-place.marks c.loop-place.place true) c.args.start c.loop-place.place c.copied-place.result c.loop-place.invariant c.loop-place-test.true c.if-not-marks-place.true refl
    c.copied-place.ensures.copied c.copied-place.ensures.only
