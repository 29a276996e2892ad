-- Names that are no keys of a map, each added once after the others.
use Rattle.std.specs.Prelude.{ℕ, List, filter, fold, is_none}
use Rattle.std.specs.Map.{lookup}
use Rattle.bb_bits.specs.Names.{same_name}
use Rattle.indexmap.specs.IndexSet.{insert_key}
use Rattle.bb_names.specs.declared.summary.Summary.{Summary}

-- each name after the others, unless it is among them
abbrev pub all_added : List (List ℕ) → List (List ℕ) → List (List ℕ)
all_added = fold (insert_key same_name)

-- the same for those that are not declared
abbrev pub grown : List (List ℕ × Summary) → List (List ℕ) → List (List ℕ) → List (List ℕ)
grown entries old names = all_added old (filter (λ n. is_none (lookup (same_name n) entries)) names)
