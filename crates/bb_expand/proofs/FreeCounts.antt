-- How many clauses and variables there are at a free vector.
use Rattle.std.proofs.Common.{◌≡◌, ℕ, ◌+◌, ◌*◌, ◌^◌, ◌<◌, ◌≤◌, zero, suc, List, [], ◌∷◌, ◌++◌, length, ap, ap₂, ◌∙◌, sym, arith, add-one, refl}
use Rattle.std.specs.List.{flat_map, range_with_len}
use Rattle.std.proofs.lemmas.List.{length-append}
use Rattle.std.proofs.lemmas.List.FromFn.{length-range_with_len}
use Rattle.bb_net.specs.declared.cell.Cell.{Cell}
use Rattle.bb_net.specs.declared.cell.Cell.TheVariants.{Const, Input, Not, And, Or, Xor, Mux, BoxOut}
use Rattle.bb_net.specs.Netlists.{Netlist, IsNetlist, cell_at}
use Rattle.bb_cnf.specs.declared.clauses.Lit.{Lit}
use Rattle.bb_miter.specs.Inside.Equivalence.{AreComparable}
use Rattle.bb_expand.specs.Expansions.{cell_clauses}
use Rattle.bb_expand.specs.Inside.FreeClauses.{free_cell_clauses, cells_after, output_variable, wanted_variable, difference_variable, difference_clauses, some_difference, free_clauses}
use Rattle.bb_expand.proofs.FreeCells.{no_box}
use Rattle.bb_expand.proofs.Grows.{pieces_more}
use Rattle.bb_expand.proofs.Pieces.{length-pieces}

-- one more piece
pub counted_more : {A : Type 0} (f : ℕ → List A) (k n m : ℕ) → n ≡ length (flat_map f (range_with_len 0 k)) → m ≡ length (f k) → n + m ≡ length (flat_map f (range_with_len 0 (k + 1)))
counted_more f k n m before here = ap₂ (λ a b. a + b) before here ∙ sym (ap length (pieces_more f k) ∙ length-append (flat_map f (range_with_len 0 k)) (f k))

-- pieces that are not empty
pieces_some : {A : Type 0} (f : ℕ → List A) (n : ℕ) → ((k : ℕ) → k < n → 1 ≤ length (f k)) → n ≤ length (flat_map f (range_with_len 0 n))
pieces_some f zero h = omega arith
pieces_some f (suc n) h =
    let more = counted_more f n (length (flat_map f (range_with_len 0 n))) (length (f n)) refl refl in
    let all = rw (add-one n) at more in
    let here = h n (omega arith) in
    let before = pieces_some f n (λ k below. h k (omega (arith, below))) in
    omega (arith, all, here, before)

cell_some : (var : ℕ → ℕ) (y : ℕ) (cell : Cell) → ((b p : ℕ) → cell ≡ BoxOut b p → ⊥) → 1 ≤ length (free_cell_clauses var y cell)
cell_some var y (Const b) none = omega arith
cell_some var y (Input i) none = omega arith
cell_some var y (Not a) none = omega arith
cell_some var y (And a b) none = omega arith
cell_some var y (Or a b) none = omega arith
cell_some var y (Xor a b) none = omega arith
cell_some var y (Mux c t e) none = omega arith
cell_some var y (BoxOut b p) none = absurd (none b p refl)

cells_some : (base : ℕ) (net : Netlist) → IsNetlist net → net.boxes ≡ [] → length net.cells ≤ length (cells_after base net.cells)
cells_some base net kept none = pieces_some (λ q. free_cell_clauses (λ k. base + k + 1) (base + q + 1) (cell_at net.cells q)) (length net.cells)
    (λ q h. cell_some (λ k. base + k + 1) (base + q + 1) (cell_at net.cells q) (λ b p is. no_box net kept none q b p h is))

-- the parts together
pub length-free : (spec imp : Netlist) → length (free_clauses spec imp).clauses ≡ length (cells_after imp.inputs imp.cells) + length (cells_after (imp.inputs + length imp.cells) spec.cells) + length imp.outs * 4 + 1
length-free spec imp =
    let four = length-pieces (λ j. cell_clauses [] [] [] (λ k. k) (difference_variable spec imp j) (Xor (output_variable imp j) (wanted_variable spec imp j))) 4 (λ j. refl) (range_with_len 0 (length imp.outs)) in
    let outs = ap (λ n. n * 4) (length-range_with_len 0 (length imp.outs)) in
    let first = length-append (cells_after imp.inputs imp.cells) (cells_after (imp.inputs + length imp.cells) spec.cells) in
    let then = length-append (cells_after imp.inputs imp.cells ++ cells_after (imp.inputs + length imp.cells) spec.cells) (difference_clauses spec imp) in
    let last = length-append (cells_after imp.inputs imp.cells ++ cells_after (imp.inputs + length imp.cells) spec.cells ++ difference_clauses spec imp) (some_difference spec imp ∷ []) in
    omega (arith, four, outs, first, then, last)

-- few clauses have few variables
pub few_variables : (spec imp : Netlist) (most : ℕ) → IsNetlist spec → IsNetlist imp → AreComparable spec imp → length (free_clauses spec imp).clauses ≤ most → length imp.cells + length spec.cells + length imp.outs ≤ most
few_variables spec imp most spec_kept imp_kept both few =
    let own = cells_some imp.inputs imp imp_kept both.imp_boxes in
    let other = cells_some (imp.inputs + length imp.cells) spec spec_kept both.spec_boxes in
    omega (arith, length-free spec imp, own, other, few)

-- the same exclusive or, by other names of its variables
pub same_xor : (old : List (List Lit)) (y a b z c d : ℕ) → y ≡ z → a ≡ c → b ≡ d → old ++ cell_clauses [] [] [] (λ k. k) y (Xor a b) ≡ old ++ cell_clauses [] [] [] (λ k. k) z (Xor c d)
same_xor old y a b z c d one two three = rw (one, two, three) refl

pub all_variables_fit : (spec imp : Netlist) → IsNetlist spec → IsNetlist imp → AreComparable spec imp → length (free_clauses spec imp).clauses ≤ 8000000 → imp.inputs + length imp.cells + length spec.cells + length imp.outs < 2 ^ 32
all_variables_fit spec imp spec_kept imp_kept both few =
    let variables = few_variables spec imp 8000000 spec_kept imp_kept both few in
    omega (arith, variables, both.few)

-- one part after another
pub free_pushed : (spec imp : Netlist) (inputs wanted : ℕ) (start one two three all : List (List Lit)) (clause : List Lit) → start ≡ [] → inputs ≡ imp.inputs → wanted ≡ imp.inputs + length imp.cells
    → one ≡ start ++ cells_after inputs imp.cells → two ≡ one ++ cells_after wanted spec.cells → three ≡ two ++ difference_clauses spec imp → all ≡ three ++ clause ∷ [] → clause ≡ some_difference spec imp
    → all ≡ (free_clauses spec imp).clauses
free_pushed spec imp inputs wanted start one two three all clause none ins want first second third last is =
    last
    ∙ ap₂ (λ t (c : List Lit). t ++ c ∷ []) (third
    ∙ ap (λ t. t ++ difference_clauses spec imp) (second
    ∙ ap₂ (λ t u. t ++ u) (first ∙ ap₂ (λ t u. t ++ u) none (ap (λ n. cells_after n imp.cells) ins)) (ap (λ n. cells_after n spec.cells) want))) is
