-- Clauses whose models are the vectors at which two netlists without boxes differ: a miter (Brand, Verification of
-- large synthesized designs, 1993) in the clauses of Tseitin. Variables count from 1: first the inputs, then the cells
-- of the implementation, then those of the specification, and then one for each output, which is 1 exactly where the
-- two differ there.
use Rattle.std.specs.Prelude.{◌↔◌, ℕ, ◌+◌, Bool, List, [], ◌∷◌, ◌++◌, length, map, take, slice_index}
use Rattle.std.specs.List.{flat_map, range_with_len}
use Rattle.bb_net.specs.declared.cell.Cell.{Cell}
use Rattle.bb_net.specs.declared.cell.Cell.TheVariants.{Input, Xor}
use Rattle.bb_net.specs.Netlists.{Netlist, IsNetlist, cell_at}
use Rattle.bb_cdcl.specs.Inside.Outcomes.{HasModel}
use Rattle.bb_cnf.specs.declared.clauses.Lit.{Lit}
use Rattle.bb_cnf.specs.Clauses.{Formula, HasVariablesWithin, positive, negated}
use Rattle.bb_cnf.specs.Truth.{IsModel}
use Rattle.bb_miter.specs.Inside.Equivalence.{AreComparable, DiffersAt}
use Rattle.bb_expand.specs.Expansions.{cell_clauses}

-- the variables y and z are equal
abbrev pub equal_clauses : ℕ → ℕ → List (List Lit)
equal_clauses y z = (negated y ∷ positive z ∷ []) ∷ (positive y ∷ negated z ∷ []) ∷ []

-- the variable y of a cell is the cell's bit, where var gives the variables of the places that it reads
abbrev pub free_cell_clauses : (ℕ → ℕ) → ℕ → Cell → List (List Lit)
free_cell_clauses var y (Input i) = equal_clauses y (i + 1)
free_cell_clauses var y cell = cell_clauses [] [] [] var y cell

-- the clauses of cells, where `base` variables come before theirs
abbrev pub cells_after : ℕ → List Cell → List (List Lit)
cells_after base cells = flat_map (λ place. free_cell_clauses (λ k. base + k + 1) (base + place + 1) (cell_at cells place)) (range_with_len 0 (length cells))

-- the variables of an output in the implementation and in the specification, and the one that says that they differ
abbrev pub output_variable : Netlist → ℕ → ℕ
output_variable imp j = imp.inputs + slice_index imp.outs j + 1

abbrev pub wanted_variable : Netlist → Netlist → ℕ → ℕ
wanted_variable spec imp j = imp.inputs + length imp.cells + slice_index spec.outs j + 1

abbrev pub difference_variable : Netlist → Netlist → ℕ → ℕ
difference_variable spec imp j = imp.inputs + length imp.cells + length spec.cells + j + 1

-- the variable of each output is the exclusive or of the two
abbrev pub difference_clauses : Netlist → Netlist → List (List Lit)
difference_clauses spec imp = flat_map (λ j. cell_clauses [] [] [] (λ k. k) (difference_variable spec imp j) (Xor (output_variable imp j) (wanted_variable spec imp j))) (range_with_len 0 (length imp.outs))

-- some output differs
abbrev pub some_difference : Netlist → Netlist → List Lit
some_difference spec imp = map (λ j. positive (difference_variable spec imp j)) (range_with_len 0 (length imp.outs))

-- first the cells, then the outputs
abbrev pub free_clauses : Netlist → Netlist → Formula
free_clauses spec imp = record {
  vars = imp.inputs + length imp.cells + length spec.cells + length imp.outs;
  clauses = cells_after imp.inputs imp.cells ++ cells_after (imp.inputs + length imp.cells) spec.cells ++ difference_clauses spec imp ++ some_difference spec imp ∷ [];
}

-- the first bits of a model are a vector at which the two differ
abbrev pub ModelsDiffer : Type 0
ModelsDiffer = (spec imp : Netlist) → IsNetlist spec → IsNetlist imp → AreComparable spec imp → (bits : List Bool) → IsModel bits (free_clauses spec imp) → DiffersAt spec imp (take imp.inputs bits)

-- there is a model exactly where there is such a vector
abbrev pub ModelsAreDifferences : Type 0
ModelsAreDifferences = (spec imp : Netlist) → IsNetlist spec → IsNetlist imp → AreComparable spec imp → HasModel (free_clauses spec imp) ↔ ((x : List Bool) × DiffersAt spec imp x)

-- all variables are in range
abbrev pub FreeVariablesAreWithin : Type 0
FreeVariablesAreWithin = (spec imp : Netlist) → IsNetlist spec → IsNetlist imp → AreComparable spec imp → HasVariablesWithin (free_clauses spec imp).vars (free_clauses spec imp).clauses
