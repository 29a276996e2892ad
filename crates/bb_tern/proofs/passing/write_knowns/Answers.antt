use Rattle.std.proofs.Common.{arith}
use Rattle.bb_tern.proofs.Passes.{knowns_more}
use Rattle.bb_tern.proofs.passing.write_knowns.Goals as goal

pub loop-place-preserved : goal.loop-place-preserved
loop-place-preserved c =
    knowns_more c.args.cells.now c.args.ins.now c.loop-place.out c.loop-place.place c.cell_known.result (omega arith) (omega arith) (c.requires.ordered c.loop-place.place (omega arith)) c.cell_known.ensures c.loop-place.invariant

pub returns-clause-written : goal.returns-clause-written
returns-clause-written c = λ k x value l pattern values i below. c.loop-place.invariant k x value l pattern values i (omega (arith, below, c.loop-place-test.false))
