use Rattle.bb_ladder.proofs.running.judge.Goals as goal

pub returns-in-Comparison : goal.returns-in-Comparison
returns-in-Comparison c = record { answer = rw c.in-Comparison.is c.judge_pair.ensures.answer }

pub returns-in-Refutation : goal.returns-in-Refutation
returns-in-Refutation c = record { answer = rw c.in-Refutation.is c.judge_refutation.ensures.answer }
