use Rattle.std.proofs.Common.{◌≡◌, take, drop}
use Rattle.bb_parse.specs.Inside.Sources.{first_statement}
use Rattle.bb_parse.proofs.Statements.{with_tokens}
use Rattle.bb_parse.proofs.statement.first.Given as goal

abbrev pub invariant-loop-i : goal.invariant-loop-i
invariant-loop-i l = first_statement l.tokens ≡ with_tokens (take l.i l.tokens) (first_statement (drop l.i l.tokens))
