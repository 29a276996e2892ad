-- How many clauses an expansion has: for each vector those of the cells, by their gates, and one for each output. A box
-- output has two for each row of its table.
use Rattle.std.specs.Prelude.{ℕ, ◌+◌, ◌*◌, ◌^◌, List, length, sum_by}
use Rattle.bb_net.specs.declared.cell.Cell.{Cell}
use Rattle.bb_net.specs.declared.cell.Cell.TheVariants.{Const, Input, Not, And, Or, Xor, Mux, BoxOut}
use Rattle.bb_net.specs.Netlists.{Netlist, Pins, box_at}

-- the clauses of a cell
abbrev pub cell_clause_count : List Pins → Cell → ℕ
cell_clause_count boxes (Const b) = 1
cell_clause_count boxes (Input i) = 1
cell_clause_count boxes (Not a) = 2
cell_clause_count boxes (And a b) = 3
cell_clause_count boxes (Or a b) = 3
cell_clause_count boxes (Xor a b) = 4
cell_clause_count boxes (Mux c t e) = 4
cell_clause_count boxes (BoxOut b p) = 2 * 2 ^ length (box_at boxes b).ins

-- those of a vector
abbrev pub clauses_per_vector : Netlist → ℕ
clauses_per_vector imp = sum_by (cell_clause_count imp.boxes) imp.cells + length imp.outs

-- those of all vectors
abbrev pub clause_total : Netlist → ℕ
clause_total imp = 2 ^ imp.inputs * clauses_per_vector imp
