-- The names of ports, written one after another.
use Rattle.std.specs.Prelude.{ℕ, Bool, true, if◌then◌else◌, List, [], ◌∷◌, ◌++◌, codes}
use Rattle.bb_fill.specs.Words.{printed}

-- names, each with a comma before it where a name has come before
abbrev pub port_texts : Bool → List (List ℕ) → List ℕ
port_texts begun [] = []
port_texts begun (name ∷ names) = (if begun then codes "," else []) ++ printed name ++ port_texts true names

-- a name has come, once these are written
abbrev pub begun_after : Bool → List (List ℕ) → Bool
begun_after begun [] = begun
begun_after begun (name ∷ names) = true
