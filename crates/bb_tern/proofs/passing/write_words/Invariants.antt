use Rattle.bb_tern.specs.Inside.Lanes.{AreWords}
use Rattle.bb_tern.proofs.passing.write_words.Given as goal

abbrev pub invariant-loop-place : goal.invariant-loop-place
invariant-loop-place l = AreWords l.cells l.ins l.out l.place
