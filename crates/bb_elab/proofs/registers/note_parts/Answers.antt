use Rattle.std.proofs.Common.{length, take, subst, sym, arith}
use Rattle.std.specs.Prelude.{All}
use Rattle.std.specs.List.{flat_map}
use Rattle.std.proofs.lemmas.List.{take_all}
use Rattle.bb_elab.specs.Inside.StoredNumbers.{part_stored, IsStorable}
use Rattle.bb_elab.proofs.StoredNotes.{notes_more, notes_whole}
use Rattle.bb_elab.proofs.Tallies.{flat_more, all_of_one}
use Rattle.bb_elab.proofs.registers.note_parts.Goals as goal

pub note_part-requires-clause-there : goal.note_part-requires-clause-there
note_part-requires-clause-there c =
    all_of_one c.args.parts.now c.loop-part.part-index c.part-item.result c.loop-part-test.true c.part-item.is (IsStorable (length c.loop-part.notes)) (part_stored c.args.scope.now)
    (subst (λ n. All (IsStorable n) (flat_map (part_stored c.args.scope.now) c.args.parts.now)) (sym c.loop-part.auto.notes) c.requires.there)

pub loop-part-preserved : goal.loop-part-preserved
loop-part-preserved c =
    notes_more c.args.notes.now c.loop-part.notes c.note_part.new.notes (flat_map (part_stored c.args.scope.now) (take c.loop-part.part-index c.args.parts.now)) _ _ c.loop-part.invariant c.note_part.ensures.noted
    (flat_more c.args.parts.now c.loop-part.part-index c.part-item.result c.loop-part-test.true c.part-item.is (part_stored c.args.scope.now))

pub returns : goal.returns
returns c = record {
  noted = notes_whole (flat_map (part_stored c.args.scope.now)) c.args.parts.now c.loop-part.part-index c.args.notes.now c.loop-part.notes (take_all c.loop-part.part-index c.args.parts.now (omega (arith, c.loop-part-test.false))) c.loop-part.invariant;
}
