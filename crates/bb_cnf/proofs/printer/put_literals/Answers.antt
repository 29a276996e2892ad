use Rattle.bb_cnf.proofs.Kept.{kept_on_err}
use Rattle.bb_cnf.proofs.printer.put_literals.Goals as goal

pub returns-in_err-put_literal-clause-err : goal.returns-in_err-put_literal-clause-err
returns-in_err-put_literal-clause-err c = kept_on_err _ _ _ _ _ c.loop-lit.invariant c.in_err-put_literal.ensures.err
