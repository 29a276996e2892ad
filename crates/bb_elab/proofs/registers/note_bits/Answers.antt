use Rattle.std.proofs.Common.{◌+◌, get_or, take, arith}
use Rattle.std.proofs.lemmas.List.{get_or_default, take_all}
use Rattle.bb_elab.specs.Inside.StoredNumbers.{stored_from}
use Rattle.bb_elab.proofs.StoredNotes.{notes_more, notes_whole, storable_at}
use Rattle.bb_elab.proofs.Tallies.{map_more}
use Rattle.bb_elab.proofs.registers.note_bits.Goals as goal

pub overflow_add-first : goal.overflow_add-first
overflow_add-first c =
    let s = storable_at _ c.args.first c.args.left.now c.args.clock c.args.falling c.loop-bit.bit-index c.loop-bit-test.true c.requires.there in
    omega (arith, s.0, c.requires.few)

pub overflow_add-first-in-loop-bit : goal.overflow_add-first-in-loop-bit
overflow_add-first-in-loop-bit c =
    let s = storable_at _ c.args.first c.args.left.now c.args.clock c.args.falling c.loop-bit.bit-index c.loop-bit-test.true c.requires.there in
    omega (arith, s.1, c.requires.few)

pub note-requires : goal.note-requires
note-requires c =
    let s = storable_at _ c.args.first c.args.left.now c.args.clock c.args.falling c.loop-bit.bit-index c.loop-bit-test.true c.requires.there in
    record { there = omega (arith, s.0, c.loop-bit.auto.notes) }

pub loop-bit-preserved : goal.loop-bit-preserved
loop-bit-preserved c =
    let bit = get_or c.args.left.now c.loop-bit.bit-index 0 in
    notes_more c.args.notes.now c.loop-bit.notes c.note.new.notes (stored_from c.args.first (take c.loop-bit.bit-index c.args.left.now) c.args.clock c.args.falling) _ _ c.loop-bit.invariant c.note.ensures.noted
    (map_more c.args.left.now c.loop-bit.bit-index bit c.loop-bit-test.true (get_or_default c.args.left.now c.loop-bit.bit-index 0 bit c.loop-bit-test.true) (λ x. record { bit = c.args.first + x; clock = c.args.first + c.args.clock; falling = c.args.falling }))

pub returns : goal.returns
returns c = record {
  noted = notes_whole (λ left. stored_from c.args.first left c.args.clock c.args.falling) c.args.left.now c.loop-bit.bit-index c.args.notes.now c.loop-bit.notes (take_all c.loop-bit.bit-index c.args.left.now (omega (arith, c.loop-bit-test.false))) c.loop-bit.invariant;
}
