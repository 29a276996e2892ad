-- A call of the program as it is seen from outside: its words, what the files hold under their names, and the reads
-- before the call and after it. It is one value, so that each clause of the top call differs from its neighbour only in
-- what it says of two texts.
use Rattle.std.specs.Prelude.{ℕ, List, map, Option, String, string_bytes}
use Rattle.bb_outside.specs.Counts.{Reads}

pub record Call : Type 0 where
  pub words : List (List ℕ)
  pub holds : List ℕ → Option (List ℕ)
  pub before : Reads
  pub after : Reads

-- the call with these words, by what its files say of themselves as it begins and as it returns
abbrev pub called : {F Z : Type 0} → List (String Z) → (F → List ℕ → Option (List ℕ)) → (F → Reads) → F → F → Call
called words holds reads old new =
    record { words = map string_bytes words; holds = holds old; before = reads old; after = reads new }
