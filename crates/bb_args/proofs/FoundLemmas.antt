-- What clap's getters read, by the rows of what was found.
use Rattle.std.proofs.Common.{◌≡◌, List, ℕ}
use Rattle.clap.specs.Words.{first_of, first_value, rows_of}
use Rattle.clap.specs.declared.parser.matches.Found.{Found}
use Rattle.clap.proofs.WalkLemmas.{first_value-rows}

pub value_by_rows : (f : Found) (id : List ℕ) → first_value f id ≡ first_of id (rows_of f)
value_by_rows = first_value-rows
