use Rattle.std.proofs.Common.{length}
use Rattle.bb_lex.proofs.TokenLists.{IsScanned}
use Rattle.bb_lex.proofs.lexer.scan.Given as goal

abbrev pub invariant-pieces : goal.invariant-pieces
invariant-pieces l = IsScanned l.text l.tokens.items l.line l.rest

abbrev pub decreases-pieces : goal.decreases-pieces
decreases-pieces l = length l.rest
