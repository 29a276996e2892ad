-- Lists in which each element is seen together with those before it.
use Rattle.std.specs.Prelude.{ℕ, List, [], ◌∷◌, ◌++◌, Bool, not}
use Rattle.std.specs.List.{filter, list_any}
use Rattle.bb_bits.specs.Names.{same_name}

-- what each element and those before it give, one after another
abbrev pub each_from : {A B : Type 0} → (List A → A → List B) → List A → List A → List B
each_from gives before [] = []
each_from gives before (x ∷ xs) = gives before x ++ each_from gives (before ++ x ∷ []) xs

abbrev pub each_after : {A B : Type 0} → (List A → A → List B) → List A → List B
each_after gives xs = each_from gives [] xs

abbrev pub has_name : List ℕ → List (List ℕ) → Bool
has_name n names = list_any (same_name n) names

-- each name at its first occurrence
abbrev pub once : List (List ℕ) → List (List ℕ)
once [] = []
once (n ∷ ns) = n ∷ filter (λ m. not (same_name n m)) (once ns)
