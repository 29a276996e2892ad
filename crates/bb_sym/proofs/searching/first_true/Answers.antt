use Rattle.bb_sym.proofs.searching.first_true.Goals as goal

pub returns-then-least-clause-earlier : goal.returns-then-least-clause-earlier
returns-then-least-clause-earlier c = c.loop-j.invariant.1
