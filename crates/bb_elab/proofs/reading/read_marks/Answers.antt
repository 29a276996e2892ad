use Rattle.std.proofs.Common.{◌+◌, ◌<◌, false, List, Bool, length, map, get_or, subst, sym, ap, ◌∙◌, arith}
use Rattle.std.proofs.lemmas.List.Elements.{All-contains}
use Rattle.std.specs.List.{Contains}
use Rattle.bb_blast.specs.declared.stored.Stored.{Stored}
use Rattle.bb_implements.specs.Inside.ReadPlaces.{AreClosed}
use Rattle.bb_lemmas.proofs.Members.{all_from, from_map}
use Rattle.bb_elab.proofs.CopyMarks.{all_marked}
use Rattle.bb_lemmas.proofs.Turns.{written_back}
use Rattle.bb_elab.proofs.reading.read_marks.Goals as goal

pub returns-clause-read : goal.returns-clause-read
returns-clause-read c = λ loose timed k read.
    let clocks = map (λ (x : Stored). c.args.first + x.clock) c.args.stored.now in
    let long = c.follow_all.ensures.long ∙ ap length c.cells-cells.ensures.cells in
    ap (λ (l : List Bool). get_or l k false) (written_back c.in_ok-marks.marks.len c.follow_all.new.marks _ (omega (arith, c.follow_all.ensures.long, c.in_ok-marks.marks.ok.0, ap length c.deref_mut.ensures.value, c.in_ok-marks.ensures.len, c.cells-cells.ensures.cells)))
    ∙ all_marked c.laws_of_cells.ensures c.args.list.now loose clocks
    (all_from (λ p. p < length c.args.list.now.cells) clocks (λ p has. let x = from_map (λ (x : Stored). c.args.first + x.clock) c.args.stored.now p has in
    subst (λ p. p < length c.args.list.now.cells) x.2 (All-contains (λ (x : Stored). c.args.first + x.clock < length c.args.list.now.cells) c.args.stored.now x.0 timed x.1)))
    c.follow_all.new.marks long (subst (λ cells. AreClosed cells c.follow_all.new.marks) c.cells-cells.ensures.cells c.follow_all.ensures.closed)
    (λ s has lt. c.follow_all.ensures.started s (subst (λ l. Contains l s) (sym (c.deref.ensures.value ∙ c.in_ok-places.ensures.places)) has) (subst (λ cells. s < length cells) (sym c.cells-cells.ensures.cells) lt)) k read
