use Rattle.bb_cnf.proofs.Kept.{kept_on_err}
use Rattle.bb_cnf.proofs.printer.put_pairs.Goals as goal

pub returns-in_err-put_pair-clause-err : goal.returns-in_err-put_pair-clause-err
returns-in_err-put_pair-clause-err c = kept_on_err _ _ _ _ _ c.loop-pair.invariant c.in_err-put_pair.ensures.err
