-- A list of names as a text of Verilog writes it: joined by commas.
use Rattle.std.specs.Prelude.{ℕ, List, [], ◌∷◌, ◌++◌, codes}
use Rattle.std.specs.List.{flat_map}

-- a comma, and then the name
abbrev pub after_comma : List ℕ → List ℕ
after_comma name = codes "," ++ name

-- a comma between each two names that follow one another
abbrev pub comma_separated : List (List ℕ) → List ℕ
comma_separated [] = []
comma_separated (name ∷ names) = name ++ flat_map after_comma names
