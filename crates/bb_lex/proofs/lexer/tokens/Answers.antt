use Rattle.bb_lex.proofs.LawProofs.{answer_ok, answer_fault, answer_only_ok, answer_only_fault}
use Rattle.bb_lex.proofs.lexer.tokens.Goals as goal

pub returns-clause-ok : goal.returns-clause-ok
returns-clause-ok c = answer_ok c.args.text.now c.scan.result c.scan.ensures

pub returns-clause-fault : goal.returns-clause-fault
returns-clause-fault c = answer_fault c.args.text.now c.scan.result c.scan.ensures

pub returns-clause-only_ok : goal.returns-clause-only_ok
returns-clause-only_ok c = answer_only_ok c.args.text.now c.scan.result c.scan.ensures

pub returns-clause-only_fault : goal.returns-clause-only_fault
returns-clause-only_fault c = answer_only_fault c.args.text.now c.scan.result c.scan.ensures
