-- How large an expansion is whose clauses are few: each cell has a clause, and there are two cells at least.
use Rattle.std.proofs.Common.{ℕ, ◌+◌, ◌*◌, ◌^◌, ◌≤◌, List, [], ◌∷◌, length, sum_by, ap, arith}
use Rattle.std.proofs.lemmas.List.{length-take}
use Rattle.std.proofs.lemmas.List.FromFn.{length-map-range_with_len}
use Rattle.std.proofs.lemmas.List.Sums.{sum_by-cons}
use Rattle.std.proofs.lemmas.Nat.{mul-le, pow_pos}
use Rattle.bb_net.specs.declared.cell.Cell.{Cell}
use Rattle.bb_net.specs.declared.cell.Cell.TheVariants.{Const, Input, Not, And, Or, Xor, Mux, BoxOut}
use Rattle.bb_net.specs.Netlists.{Netlist, Pins, IsNetlist, box_at}
use Rattle.bb_expand.specs.ClauseCounts.{cell_clause_count, clauses_per_vector, clause_total}
use Rattle.bb_expand.proofs.Spelled.{few_doublings}

each_counts : (boxes : List Pins) (cell : Cell) → 1 ≤ cell_clause_count boxes cell
each_counts boxes (Const b) = omega arith
each_counts boxes (Input i) = omega arith
each_counts boxes (Not a) = omega arith
each_counts boxes (And a b) = omega arith
each_counts boxes (Or a b) = omega arith
each_counts boxes (Xor a b) = omega arith
each_counts boxes (Mux c t e) = omega arith
each_counts boxes (BoxOut b p) = let h = pow_pos (length (box_at boxes b).ins) in omega (arith, h)

pub cells_count : (boxes : List Pins) (cells : List Cell) → length cells ≤ sum_by (cell_clause_count boxes) cells
cells_count boxes [] = omega arith
cells_count boxes (cell ∷ cells) = let s = sum_by-cons (cell_clause_count boxes) cell cells in omega (arith, s, each_counts boxes cell, cells_count boxes cells)

pub two_cells : (net : Netlist) → IsNetlist net → net.inputs + 2 ≤ length net.cells
two_cells net kept =
    let first = ap length kept.prefix in
    let taken = length-take (net.inputs + 2) net.cells in
    let whole = length-map-range_with_len Input 0 net.inputs in
    omega (arith, first, taken, whole)

-- an expansion of few clauses has few variables, and so few inputs
pub few_variables : (imp : Netlist) (most : ℕ) → clause_total imp ≤ most → 2 ^ imp.inputs * length imp.cells ≤ most
few_variables imp most few =
    let cells = cells_count imp.boxes imp.cells in
    let p : 2 ^ imp.inputs * length imp.cells ≤ 2 ^ imp.inputs * clauses_per_vector imp = mul-le (2 ^ imp.inputs) (length imp.cells) (2 ^ imp.inputs) (clauses_per_vector imp) (omega arith) (omega (arith, cells)) in
    omega (arith, p, few)

pub few_vectors : (imp : Netlist) (most n : ℕ) → IsNetlist imp → clause_total imp ≤ most → most ≤ 2 ^ n * 2 → imp.inputs ≤ n
few_vectors imp most n kept few bound =
    let p : 2 ^ imp.inputs * 2 ≤ 2 ^ imp.inputs * length imp.cells = mul-le (2 ^ imp.inputs) 2 (2 ^ imp.inputs) (length imp.cells) (omega arith) (omega (arith, two_cells imp kept)) in
    few_doublings imp.inputs n (omega (arith, p, few_variables imp most few, bound))
