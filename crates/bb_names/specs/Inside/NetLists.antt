-- Names of nets with their places.
use Rattle.std.specs.Prelude.{ℕ, ◌^◌, ◌-◌, min, List, [], ◌∷◌, ◌++◌, map, filter, fold, not, length, is_some, if◌then◌else◌}
use Rattle.std.specs.Map.{lookup}
use Rattle.bb_bits.specs.Names.{same_name}
use Rattle.bb_ast.specs.Syntax.{PlainBody}
use Rattle.bb_names.specs.Declarations.{declared_by}

-- a name after the others with its place, saturated at 2^32 - 1, unless it is one of them
abbrev pub with_place : List (List ℕ × ℕ) → List ℕ → List (List ℕ × ℕ)
with_place entries n = if is_some (lookup (same_name n) entries) then entries else entries ++ (n, min (length entries) (2 ^ 32 - 1)) ∷ []

abbrev pub all_placed : List (List ℕ × ℕ) → List (List ℕ) → List (List ℕ × ℕ)
all_placed = fold with_place

-- the names that an item declares as nets
abbrev pub nets_declared_by : PlainBody → List (List ℕ)
nets_declared_by body = map (λ d. d.name) (filter (λ d. not d.instance) (declared_by body))
