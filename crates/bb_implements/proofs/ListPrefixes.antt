-- The list of cells of a design begins with the constants and the inputs.
use Rattle.std.proofs.Common.{◌≡◌, ℕ, zero, suc, ◌+◌, ◌≤◌, true, false, List, [], ◌∷◌, ◌++◌, map, take, drop, length, get_or, Contains, refl, sym, ap, ap₂, ◌∙◌, arith, length-append}
use Rattle.std.specs.List.{range_with_len}
use Rattle.std.proofs.lemmas.List.{length-map}
use Rattle.std.proofs.lemmas.List.Elements.{All-contains, Contains-append_left}
use Rattle.std.proofs.lemmas.List.Sorted.{length_permutation}
use Rattle.bb_net.specs.declared.loose.LooseCell.{LooseCell}
use Rattle.bb_net.specs.declared.loose.LooseCell.TheVariants as cell
use Rattle.bb_net.specs.Loose.{LooseList, loose_at}
use Rattle.bb_design.specs.Hierarchy.{Design}
use Rattle.bb_design.specs.NetBits.{net_order}
use Rattle.bb_design.specs.Registers.{cut_bits}
use Rattle.bb_implements.specs.Places.{CellName, Constant, Input, NetBit, Numbering, Lowering, IsListOf, place_in, driving_places, prefix_places, operator_places, placed_cells}
use Rattle.bb_implements.specs.Laws.ListLaws.{ListsBegin}
use Rattle.bb_lemmas.proofs.Members.{contains_here, contains_there}
use Rattle.bb_lemmas.proofs.Ranges.{length-range}

taken : (value : ℕ → LooseCell) (a : ℕ) (cells : List LooseCell) (n : ℕ) → n ≤ length cells → ((k : ℕ) → value (a + k) ≡ get_or cells k (cell.Const false)) → take n cells ≡ map value (range_with_len a n)
taken value a [] zero fits h = refl
taken value a (c ∷ cs) zero fits h = refl
taken value a [] (suc n) fits h = absurd (omega (arith, fits))
taken value a (c ∷ cs) (suc n) fits h = ap₂ ◌∷◌ (sym (ap value (omega arith) ∙ h 0)) (taken value (a + 1) cs n (omega (arith, fits)) (λ k. ap value (omega arith) ∙ h (suc k)))

numbered_prefix : (value : ℕ → LooseCell) (number : Numbering) (xs ys : List (CellName × LooseCell)) (a : ℕ) → map (λ x. number x.0) (xs ++ ys) ≡ range_with_len a (length (xs ++ ys)) → ((x : CellName × LooseCell) → Contains (xs ++ ys) x → value (number x.0) ≡ x.1)
    → map value (range_with_len a (length xs)) ≡ map (λ x. x.1) xs
numbered_prefix value number [] ys a e h = refl
numbered_prefix value number (x ∷ xs) ys a e h =
    let here : number x.0 ≡ a = ap (λ l. get_or l 0 0) e in
    ap₂ ◌∷◌ (ap value (sym here) ∙ h x (contains_here x (xs ++ ys))) (numbered_prefix value number xs ys (a + 1) (ap (drop 1) e) (λ y has. h y (contains_there x (xs ++ ys) y has)))

input_cells : (ks : List ℕ) → map (λ (x : CellName × LooseCell). x.1) (map (λ i. (Input i, cell.Input i)) ks) ≡ map cell.Input ks
input_cells [] = refl
input_cells (k ∷ ks) = ap (λ l. cell.Input k ∷ l) (input_cells ks)

pub prefix-length : (d : Design) (lowering : Lowering) (number : Numbering) → length (prefix_places d lowering number) ≡ (2 + length (cut_bits d)) + length (net_order d)
prefix-length d lowering number =
    let n = length (cut_bits d) in
    let inputs : List (CellName × LooseCell) = map (λ i. (Input i, cell.Input i)) (range_with_len 0 n) in
    let first : List (CellName × LooseCell) = (Constant false, cell.Const false) ∷ (Constant true, cell.Const true) ∷ inputs in
    let nets : List (CellName × LooseCell) = map (λ b. (NetBit b, cell.Copy (number (place_in (driving_places d lowering) b)))) (net_order d) in
    let long : length first ≡ 2 + n = omega (arith, length-map {B = CellName × LooseCell} (range_with_len 0 n) (λ i. (Input i, cell.Input i)), length-range 0 n) in
    let bits : length nets ≡ length (net_order d) = length-map {B = CellName × LooseCell} (net_order d) (λ b. (NetBit b, cell.Copy (number (place_in (driving_places d lowering) b)))) in
    omega (arith, long, bits, length-append first nets)

-- each place of the list is that of one thing
pub places-length : (d : Design) (lowering : Lowering) (l : LooseList) (list : IsListOf d lowering l) → length (placed_cells d lowering list.number) ≡ length l.cells
places-length d lowering l list =
    let numbers = map (λ (x : CellName × LooseCell). list.number x.0) (placed_cells d lowering list.number) in
    sym (length-map (placed_cells d lowering list.number) (λ x. list.number x.0)) ∙ sym (length_permutation numbers (range_with_len 0 (length l.cells)) list.numbers) ∙ length-range 0 (length l.cells)

-- what is in the front has its place in the list
pub prefix_fits : (d : Design) (lowering : Lowering) (l : LooseList) → IsListOf d lowering l → (2 + length (cut_bits d)) + length (net_order d) ≤ length l.cells
prefix_fits d lowering l list = omega (
  arith,
  places-length d lowering l list,
  prefix-length d lowering list.number,
  length-append (prefix_places d lowering list.number) (operator_places d lowering list.number),
)

pub lists_begin : ListsBegin
lists_begin d lowering l list =
    let n = length (cut_bits d) in
    let inputs : List (CellName × LooseCell) = map (λ i. (Input i, cell.Input i)) (range_with_len 0 n) in
    let first : List (CellName × LooseCell) = (Constant false, cell.Const false) ∷ (Constant true, cell.Const true) ∷ inputs in
    let nets : List (CellName × LooseCell) = map (λ b. (NetBit b, cell.Copy (list.number (place_in (driving_places d lowering) b)))) (net_order d) in
    let long : length first ≡ l.inputs + 2 = omega (arith, length-map {B = CellName × LooseCell} (range_with_len 0 n) (λ i. (Input i, cell.Input i)), length-range 0 n, list.inputs) in
    let fits : l.inputs + 2 ≤ length l.cells = omega (arith, prefix_fits d lowering l list, list.inputs) in
    taken (loose_at l) 0 l.cells (l.inputs + 2) fits (λ k. ap (loose_at l) (omega arith))
    ∙ ap (λ k. map (loose_at l) (range_with_len 0 k)) (sym long)
    ∙ numbered_prefix (loose_at l) list.number first nets 0 list.prefix (λ x has. All-contains (λ x. loose_at l (list.number x.0) ≡ x.1) (placed_cells d lowering list.number) x list.cells (Contains-append_left (first ++ nets) (operator_places d lowering list.number) x has))
    ∙ ap (λ r. cell.Const false ∷ cell.Const true ∷ r) (input_cells (range_with_len 0 n) ∙ ap (λ k. map cell.Input (range_with_len 0 k)) (sym list.inputs))
