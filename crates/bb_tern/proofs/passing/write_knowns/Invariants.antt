use Rattle.bb_tern.specs.Inside.Lanes.{AreKnowns}
use Rattle.bb_tern.proofs.passing.write_knowns.Given as goal

abbrev pub invariant-loop-place : goal.invariant-loop-place
invariant-loop-place l = AreKnowns l.cells l.ins l.out l.place
