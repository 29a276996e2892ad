-- All outputs of a netlist but one, picked by their numbers.
use Rattle.std.proofs.Common.{◌≡◌, ℕ, suc, ◌<◌, List, ◌++◌, map, take, drop, length, All, sym, ap, ap₂, ◌∙◌, arith}
use Rattle.std.specs.Prelude.{slice_index}
use Rattle.std.specs.List.{range_with_len}
use Rattle.std.proofs.lemmas.List.{drop-map, map-append, take-map}
use Rattle.std.proofs.lemmas.List.FromFn.{get_or-map-range_with_len, get_or-range_with_len, length-map-range_with_len, length-range_with_len}
use Rattle.std.proofs.lemmas.Grind.{same_number_lists}
use Rattle.bb_match.specs.Pairing.{without}

-- the numbers below a bound are below it
pub numbers_below : (n : ℕ) → All (λ k. k < n) (range_with_len 0 n)
numbers_below n k d within =
    let below : k < n = omega (arith, within, length-range_with_len 0 n) in
    omega (arith, below, get_or-range_with_len 0 n k d below)

map_without : {A B : Type 0} (f : A → B) (k : ℕ) (xs : List A) → map f (without k xs) ≡ without k (map f xs)
map_without f k xs = map-append f (take k xs) (drop (suc k) xs) ∙ ap₂ (λ l m. l ++ m) (sym (take-map f k xs)) (sym (drop-map f (suc k) xs))

all_picked : (outs : List ℕ) → map (slice_index outs) (range_with_len 0 (length outs)) ≡ outs
all_picked outs =
    let long : length (map (slice_index outs) (range_with_len 0 (length outs))) ≡ length outs = length-map-range_with_len (slice_index outs) 0 (length outs) in
    same_number_lists (map (slice_index outs) (range_with_len 0 (length outs))) outs long (λ k within. get_or-map-range_with_len (slice_index outs) 0 (length outs) k k 0 (omega (arith, within, long)) (omega arith))

pub others_picked : (place : ℕ) (outs : List ℕ) → map (slice_index outs) (without place (range_with_len 0 (length outs))) ≡ without place outs
others_picked place outs = map_without (slice_index outs) place (range_with_len 0 (length outs)) ∙ ap (without place) (all_picked outs)
