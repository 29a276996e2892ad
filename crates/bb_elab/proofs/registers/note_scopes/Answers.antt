use Rattle.std.proofs.Common.{take, arith}
use Rattle.std.specs.List.{flat_map}
use Rattle.std.proofs.lemmas.List.{take_all}
use Rattle.bb_elab.specs.Inside.StoredNumbers.{scope_stored}
use Rattle.bb_elab.proofs.StoredNotes.{notes_more, notes_whole}
use Rattle.bb_elab.proofs.Tallies.{flat_more}
use Rattle.bb_elab.proofs.registers.note_scopes.Goals as goal

pub loop-scope-preserved : goal.loop-scope-preserved
loop-scope-preserved c =
    notes_more c.args.notes.now c.loop-scope.notes c.note_scope.new.notes (flat_map (scope_stored c.args.templates.now) (take c.loop-scope.scope-index c.args.placed.now)) _ _ c.loop-scope.invariant c.note_scope.ensures.noted
    (flat_more c.args.placed.now c.loop-scope.scope-index c.scope-item.result c.loop-scope-test.true c.scope-item.is (scope_stored c.args.templates.now))

pub returns : goal.returns
returns c = record {
  noted = notes_whole (flat_map (scope_stored c.args.templates.now)) c.args.placed.now c.loop-scope.scope-index c.args.notes.now c.loop-scope.notes (take_all c.loop-scope.scope-index c.args.placed.now (omega (arith, c.loop-scope-test.false))) c.loop-scope.invariant;
}
