-- A piece that was found at the start, with the rest after it.
use Rattle.std.specs.Prelude.{ℕ, Option, Some, None, List}
use Rattle.bb_lex.specs.declared.token.Kind.{Kind}
use Rattle.bb_lex.specs.declared.piece.Found.{Found}

-- a piece's kind with the rest after it
abbrev pub skipped : Option (List ℕ) → Option (Option Kind × List ℕ)
skipped None = None
skipped (Some after) = Some (None, after)

abbrev pub token_of : Kind → Option (List ℕ) → Option (Option Kind × List ℕ)
token_of kind None = None
token_of kind (Some after) = Some (Some kind, after)

-- a piece that was found, without where it lies in memory
abbrev pub seen : Option Found → Option (Option Kind × List ℕ)
seen None = None
seen (Some found) = Some (found.kind, found.rest.now)
