-- An expansion has as many clauses as were counted.
use Rattle.std.proofs.Common.{◌≡◌, ℕ, ◌+◌, ◌*◌, ◌^◌, ◌≤◌, zero, suc, Bool, false, List, [], ◌∷◌, length, take, get_or, refl, ap, ap₂, ◌∙◌, arith, add-one}
use Rattle.std.specs.Prelude.{slice_index}
use Rattle.std.specs.List.{flat_map, range_with_len, sum_by}
use Rattle.std.proofs.lemmas.List.{length-append, take_all}
use Rattle.std.proofs.lemmas.List.FromFn.{length-map-range_with_len, length-range_with_len}
use Rattle.std.proofs.lemmas.List.Sums.{sum_by_more}
use Rattle.bb_bits.specs.Numbers.{bits_of}
use Rattle.bb_net.specs.declared.cell.Cell.{Cell}
use Rattle.bb_net.specs.declared.cell.Cell.TheVariants.{Const, Input, Not, And, Or, Xor, Mux, BoxOut}
use Rattle.bb_net.specs.Kinds.{representatives}
use Rattle.bb_net.specs.Netlists.{Netlist, Pins, cell_at, box_at}
use Rattle.bb_net.specs.Equivalence.{wanted_bit}
use Rattle.bb_expand.specs.ClauseCounts.{cell_clause_count, clauses_per_vector}
use Rattle.bb_expand.specs.Expansions.{having, row_clauses, cell_clauses, cell_variable, cells_clauses, output_clauses, vector_clauses, table_variable}
use Rattle.bb_expand.specs.Laws.{ClausesAreCounted}
use Rattle.bb_expand.proofs.Pieces.{length-pieces}
use Rattle.bb_expand.proofs.Grows.{pieces_more}

length-numbered : {A : Type 0} (f : ℕ → List A) (m n : ℕ) → ((k : ℕ) → length (f k) ≡ m) → length (flat_map f (range_with_len 0 n)) ≡ n * m
length-numbered f m n each = length-pieces f m each (range_with_len 0 n) ∙ ap (λ k. k * m) (length-range_with_len 0 n)

length-cell : (kinds : List ℕ) (boxes : List Pins) (x : List Bool) (var : ℕ → ℕ) (y : ℕ) (cell : Cell) → length (cell_clauses kinds boxes x var y cell) ≡ cell_clause_count boxes cell
length-cell kinds boxes x var y (Const b) = refl
length-cell kinds boxes x var y (Input i) = refl
length-cell kinds boxes x var y (Not a) = refl
length-cell kinds boxes x var y (And a b) = refl
length-cell kinds boxes x var y (Or a b) = refl
length-cell kinds boxes x var y (Xor a b) = refl
length-cell kinds boxes x var y (Mux c t e) = refl
length-cell kinds boxes x var y (BoxOut b p) =
    let e = length-numbered (λ row. row_clauses var (box_at boxes b).ins y (bits_of (length (box_at boxes b).ins) row) (table_variable (representatives kinds boxes) (slice_index kinds b) row p)) 2 (2 ^ length (box_at boxes b).ins) (λ k. refl) in
    omega (arith, e)

module _ (imp : Netlist) (kinds : List ℕ) (v : ℕ) (x : List Bool) where
  length-cells : (k : ℕ) → k ≤ length imp.cells
      → length (flat_map (λ place. cell_clauses kinds imp.boxes x (cell_variable imp kinds v) (cell_variable imp kinds v place) (cell_at imp.cells place)) (range_with_len 0 k)) ≡ sum_by (cell_clause_count imp.boxes) (take k imp.cells)
  length-cells zero h = refl
  length-cells (suc k) h =
      let more = ap length (rw (add-one k) at (pieces_more (λ place. cell_clauses kinds imp.boxes x (cell_variable imp kinds v) (cell_variable imp kinds v place) (cell_at imp.cells place)) k)) in
      let both = length-append (flat_map (λ place. cell_clauses kinds imp.boxes x (cell_variable imp kinds v) (cell_variable imp kinds v place) (cell_at imp.cells place)) (range_with_len 0 k)) (cell_clauses kinds imp.boxes x (cell_variable imp kinds v) (cell_variable imp kinds v k) (cell_at imp.cells k)) in
      let sums = rw (add-one k) at (sum_by_more (cell_clause_count imp.boxes) imp.cells k (Const false) (omega (arith, h))) in
      omega (arith, more, both, sums, length-cell kinds imp.boxes x (cell_variable imp kinds v) (cell_variable imp kinds v k) (cell_at imp.cells k), length-cells k (omega (arith, h)))

length-vector : (spec imp : Netlist) (kinds : List ℕ) (v : ℕ) (x : List Bool) → length (vector_clauses spec imp kinds v x) ≡ clauses_per_vector imp
length-vector spec imp kinds v x =
    length-append (cells_clauses imp kinds v x) (output_clauses spec imp kinds v x)
    ∙ ap₂ (λ m n. m + n) (length-cells imp kinds v x (length imp.cells) (omega arith) ∙ ap (sum_by (cell_clause_count imp.boxes)) (take_all (length imp.cells) imp.cells (omega arith)))
    (length-map-range_with_len (λ j. having (cell_variable imp kinds v (get_or imp.outs j 0)) (wanted_bit spec x j) ∷ []) 0 (length imp.outs))

pub clauses_are_counted : ClausesAreCounted
clauses_are_counted spec imp kinds vectors = length-numbered (λ v. vector_clauses spec imp kinds v (get_or vectors v [])) (clauses_per_vector imp) (length vectors) (λ v. length-vector spec imp kinds v (get_or vectors v []))
