use Rattle.bb_care.proofs.OtherOutputs.{outs_next}
use Rattle.bb_care.proofs.constrained.add_outs.Goals as goal

pub loop-j-preserved : goal.loop-j-preserved
loop-j-preserved c = outs_next c.args.net.now c.loop-j.net c.add_out.new.self c.args.first c.loop-j.j c.loop-j.invariant c.in_ok-add_out.ensures.ok
