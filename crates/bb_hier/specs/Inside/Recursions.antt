-- Modules by their places in the text, where a list has for each place the places that are instantiated there. A module
-- is taken as a cell that reads the modules that it instantiates, so that a recursion is a loop among cells.
use Rattle.std.specs.Prelude.{◌≡◌, ◌⊎◌, ℕ, ◌+◌, ◌<◌, ◌^◌, ◌||◌, ◌==◌, Bool, true, false, if◌then◌else◌, List, [], ◌∷◌, map, length, All}
use Rattle.std.specs.List.{enumerate_from, flat_map, range_with_len}
use Rattle.bb_net.specs.declared.loose.LooseCell.TheVariants.{Const, BoxOut}
use Rattle.bb_net.specs.Loose.{LooseList}
use Rattle.bb_net.specs.Netlists.{Pins}
use Rattle.bb_net.specs.Values.{bit_of}
use Rattle.bb_bits.specs.Closures.{Leads}

-- which place instantiates which
abbrev pub place_steps : List (List ℕ) → List (ℕ × ℕ)
place_steps lists = flat_map (λ x. map (λ k. (x.0, k)) x.1) (enumerate_from 0 lists)

-- all places are there, and so few that cells for them can be counted
pub record ArePlacesThere (lists : List (List ℕ)) : Type 0 where
  pub there : All (All (λ k. k < length lists)) lists
  pub few : length lists + 2 < 2 ^ 32

abbrev pub IsReachedAt : List (List ℕ) → ℕ → ℕ → Type 0
IsReachedAt lists top k = (top ≡ k) ⊎ Leads (place_steps lists) top k

abbrev pub IsRecursiveAt : List (List ℕ) → ℕ → ℕ → Type 0
IsRecursiveAt lists top k = IsReachedAt lists top k × Leads (place_steps lists) k k

-- the least place that is recursive
pub record IsFirstRecursive (lists : List (List ℕ)) (top k : ℕ) : Type 0 where
  pub there : k < length lists
  pub holds : IsRecursiveAt lists top k
  pub first : (j : ℕ) → j < k → IsRecursiveAt lists top j → ⊥

-- the box that represents the module at a place: its cell comes after the two constants
abbrev pub module_pins : ℕ × List ℕ → Pins
module_pins (k, called) = record { ins = map (λ j. j + 2) called; outs = (k + 2) ∷ [] }

abbrev pub module_list : List (List ℕ) → LooseList
module_list lists = record {
  inputs = 0;
  cells = Const false ∷ Const true ∷ map (λ k. BoxOut k 0) (range_with_len 0 (length lists));
  boxes = map module_pins (enumerate_from 0 lists);
  outs = [];
}

-- the lists, emptied where the place is neither the top nor marked
abbrev pub kept_lists : ℕ → List Bool → List (List ℕ) → List (List ℕ)
kept_lists top marks lists = map (λ x. if x.0 == top || bit_of marks (x.0 + 2) then x.1 else []) (enumerate_from 0 lists)
