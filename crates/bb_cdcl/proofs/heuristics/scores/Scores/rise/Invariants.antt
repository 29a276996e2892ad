use Rattle.bb_cdcl.proofs.heuristics.scores.Scores.rise.Given as goal

abbrev pub decreases-loop-at : goal.decreases-loop-at
decreases-loop-at l = l.at
