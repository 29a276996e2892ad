-- How many choices stand for the cells, cell after cell.
use Rattle.std.proofs.Common.{◌≡◌, ◌∙◌, ℕ, ◌+◌, ◌<◌, ◌≤◌, false, List, [], ◌∷◌, ◌++◌, length, refl, sym, ap}
use Rattle.std.specs.Prelude.{sum_by}
use Rattle.std.specs.List.{flat_map}
use Rattle.std.proofs.lemmas.Grind.{flat_map-append}
use Rattle.std.proofs.lemmas.List.Sums.{sum_by_more, sum_by_more_le}
use Rattle.bb_net.specs.declared.cell.Cell.TheVariants.{Const}
use Rattle.bb_net.specs.Netlists.{cell_at}
use Rattle.bb_net.specs.Flats.{FlatNet}
use Rattle.bb_fill.specs.Filled.{choice_count, first_choice}

pub choices_more : (f : FlatNet) (k : ℕ) → k < length f.net.cells → first_choice f (k + 1) ≡ first_choice f k + choice_count f.net.boxes (cell_at f.net.cells k)
choices_more f k within = sum_by_more (choice_count f.net.boxes) f.net.cells k (Const false) within

pub choices_within : (f : FlatNet) (k : ℕ) → k < length f.net.cells → first_choice f k + choice_count f.net.boxes (cell_at f.net.cells k) ≤ sum_by (choice_count f.net.boxes) f.net.cells
choices_within f k within = sum_by_more_le (choice_count f.net.boxes) f.net.cells k (Const false) within

pub flat_twice : {A B C : Type 0} (f : B → List C) (g : A → List B) (xs : List A) → flat_map (λ x. flat_map f (g x)) xs ≡ flat_map f (flat_map g xs)
flat_twice f g [] = refl
flat_twice f g (x ∷ xs) = ap (λ l. flat_map f (g x) ++ l) (flat_twice f g xs) ∙ sym (flat_map-append f (g x) (flat_map g xs))
