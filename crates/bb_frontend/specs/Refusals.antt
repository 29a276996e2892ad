-- The first fault of a text's statements, and the lines that refuse. Lines of a text are counted from 1.
use Rattle.std.specs.Prelude.{ℕ, List, ◌++◌, codes, decimal}
use Rattle.bb_lex.specs.declared.token.Token.{Token as TextToken}
use Rattle.bb_lex.specs.Cut.{AreTokens}
use Rattle.bb_parse.specs.declared.fault.ParseFault.{ParseFault}
use Rattle.bb_parse.specs.Sources.{IsParseFault}

abbrev pub HasFault : List ℕ → ParseFault → Type 0
HasFault text fault = (tokens : List TextToken) × AreTokens text tokens × IsParseFault text tokens fault

-- a word with a line of the text
abbrev pub at_line : List ℕ → ℕ → List ℕ
at_line word line = word ++ codes " line " ++ decimal line

-- the line that refuses one side, or the pair
abbrev pub refusal : List ℕ → List ℕ → List ℕ
refusal side words = codes "refused " ++ side ++ codes " " ++ words ++ codes "\n"
