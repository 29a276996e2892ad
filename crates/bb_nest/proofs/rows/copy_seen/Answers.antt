use Rattle.bb_nest.proofs.Copies.{copy_more}
use Rattle.bb_nest.proofs.rows.copy_seen.Goals as goal

pub loop-q-preserved : goal.loop-q-preserved
loop-q-preserved c = copy_more c.args.readers.now c.args.point.now c.requires.fit c.loop-q.point c.loop-q.q c.loop-q-test.true c.loop-q.invariant
