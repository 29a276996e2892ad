-- Of modules, by their places, how many levels of instances they have below them.
use Rattle.std.specs.Prelude.{ℕ, zero, suc, ◌+◌, max, Bool, true, List, [], ◌∷◌}
use Rattle.std.specs.List.{list_any, slice_index_or}

-- whether the module at a place has this many levels of instances below it
abbrev pub is_tall : List (List ℕ) → ℕ → ℕ → Bool
is_tall lists zero k = true
is_tall lists (suc n) k = list_any (is_tall lists n) (slice_index_or lists k [])

-- one level more than the tallest of these modules has
abbrev pub height_over : (ℕ → ℕ) → List ℕ → ℕ
height_over height [] = 0
height_over height (k ∷ called) = max (height k + 1) (height_over height called)
