use Rattle.std.proofs.Common.{arith}
use Rattle.bb_tern.proofs.Passes.{words_more}
use Rattle.bb_tern.proofs.passing.write_words.Goals as goal

pub loop-place-preserved : goal.loop-place-preserved
loop-place-preserved c =
    words_more c.args.cells.now c.args.ins.now c.loop-place.out c.loop-place.place c.cell_word.result (omega arith) (omega arith) (c.requires.ordered c.loop-place.place (omega arith)) c.cell_word.ensures c.loop-place.invariant

pub returns-clause-written : goal.returns-clause-written
returns-clause-written c = λ k x bit l pattern bits i below. c.loop-place.invariant k x bit l pattern bits i (omega (arith, below, c.loop-place-test.false))
