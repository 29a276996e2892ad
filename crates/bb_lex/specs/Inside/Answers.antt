-- What may be returned for a text: its tokens, or the line on which it goes wrong, unless memory runs out.
use Rattle.std.specs.Prelude.{ℕ, List, Vec, Result, Ok, Err}
use Rattle.std.specs.Global.{Global}
use Rattle.bb_lex.specs.declared.token.Token.{Token}
use Rattle.bb_lex.specs.declared.fault.LexFault.{LexFault}
use Rattle.bb_lex.specs.declared.fault.LexFault.TheVariants.{Bad, NoMemory}
use Rattle.bb_lex.specs.Cut.{AreTokens, IsBadOn}

-- a fault of the text itself
abbrev pub IsFault : List ℕ → LexFault → Type 0
IsFault text (Bad line) = IsBadOn text line
IsFault text NoMemory = ⊥

abbrev pub IsAnswer : List ℕ → Result (Vec Token Global) LexFault → Type 0
IsAnswer text (Ok tokens) = AreTokens text tokens.items
IsAnswer text (Err (Bad line)) = IsBadOn text line
IsAnswer text (Err NoMemory) = Unit {0}
