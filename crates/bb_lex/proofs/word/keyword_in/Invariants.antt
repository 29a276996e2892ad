use Rattle.std.proofs.Common.{◌≡◌, drop}
use Rattle.bb_lex.specs.Words.{entry_of}
use Rattle.bb_lex.specs.Inside.Words.{entries}
use Rattle.bb_lex.proofs.word.keyword_in.Given as goal

abbrev pub invariant-loop-entry : goal.invariant-loop-entry
invariant-loop-entry l = entry_of (entries (drop l.entry-index l.table)) l.word ≡ entry_of (entries l.table) l.word
