-- The variables of the clauses at a free vector are in range.
use Rattle.std.proofs.Common.{◌≡◌, ℕ, ◌+◌, ◌<◌, ◌≤◌, List, [], ◌∷◌, ◌++◌, length, All, subst, arith}
use Rattle.std.proofs.lemmas.List.Elements.{All-nil, All-cons, All-append, All-get_or}
use Rattle.bb_net.specs.declared.cell.Cell.{Cell}
use Rattle.bb_net.specs.declared.cell.Cell.TheVariants.{Input, Xor, BoxOut}
use Rattle.bb_net.specs.Netlists.{Netlist, IsNetlist, ReadsBefore, cell_at}
use Rattle.bb_cnf.specs.declared.clauses.Lit.{Lit}
use Rattle.bb_cnf.specs.Clauses.{HasVariablesWithin, positive}
use Rattle.bb_miter.specs.Inside.Equivalence.{AreComparable}
use Rattle.bb_expand.specs.Expansions.{cell_clauses}
use Rattle.bb_expand.specs.Inside.FreeClauses.{equal_clauses, free_cell_clauses, cells_after, output_variable, wanted_variable, difference_variable, difference_clauses, some_difference, free_clauses, FreeVariablesAreWithin}
use Rattle.bb_expand.proofs.FreeCells.{no_box}
use Rattle.bb_expand.proofs.Pieces.{pieces_hold, all_hold}
use Rattle.bb_expand.proofs.Variables.{clauses_in, cell_in}

abbrev IsIn : ℕ → List Lit → Type 0
IsIn vars lits = All (λ l. (1 ≤ l.var) × (l.var ≤ vars)) lits

free_cell_in : (vars : ℕ) (var : ℕ → ℕ) (inputs place y : ℕ) (cell : Cell) → ReadsBefore inputs [] place cell → ((b p : ℕ) → cell ≡ BoxOut b p → ⊥)
    → ((k : ℕ) → k < place → (1 ≤ var k) × (var k ≤ vars)) → (1 ≤ y) × (y ≤ vars) → inputs ≤ vars → HasVariablesWithin vars (free_cell_clauses var y cell)
free_cell_in vars var inputs place y (Input i) reads none h hy some =
    let hi : (1 ≤ i + 1) × (i + 1 ≤ vars) = (omega arith, omega (arith, reads, some)) in
    clauses_in vars (equal_clauses y (i + 1)) ((hy, (hi, tt)), ((hy, (hi, tt)), tt))
free_cell_in vars var inputs place y cell reads none h hy some = cell_in vars var inputs place y [] [] [] cell reads h hy (λ b p row is below. absurd (none b p is))

cells_in : (vars base : ℕ) (net : Netlist) → IsNetlist net → net.boxes ≡ [] → net.inputs ≤ base → base + length net.cells ≤ vars → HasVariablesWithin vars (cells_after base net.cells)
cells_in vars base net kept none inputs fits =
    pieces_hold (IsIn vars) (λ q. free_cell_clauses (λ k. base + k + 1) (base + q + 1) (cell_at net.cells q)) (length net.cells)
    (λ q h. free_cell_in vars (λ k. base + k + 1) net.inputs q (base + q + 1) (cell_at net.cells q) (subst (λ boxes. ReadsBefore net.inputs boxes q (cell_at net.cells q)) none (kept.ordered q h))
    (λ b p is. no_box net kept none q b p h is) (λ k below. (omega arith, omega (arith, below, h, fits))) (omega arith, omega (arith, h, fits)) (omega (arith, inputs, fits)))

module _ (spec imp : Netlist) (spec_kept : IsNetlist spec) (imp_kept : IsNetlist imp) (both : AreComparable spec imp) where
  abbrev vars : ℕ
  vars = (free_clauses spec imp).vars

  difference_in : (j : ℕ) → j < length imp.outs → HasVariablesWithin vars (cell_clauses [] [] [] (λ k. k) (difference_variable spec imp j) (Xor (output_variable imp j) (wanted_variable spec imp j)))
  difference_in j h =
      let out = All-get_or (λ k. k < length imp.cells) imp.outs j 0 h imp_kept.outs_there in
      let want = All-get_or (λ k. k < length spec.cells) spec.outs j 0 (omega (arith, h, both.outputs)) spec_kept.outs_there in
      let hy : (1 ≤ difference_variable spec imp j) × (difference_variable spec imp j ≤ vars) = (omega arith, omega (arith, h)) in
      let ha : (1 ≤ output_variable imp j) × (output_variable imp j ≤ vars) = (omega arith, omega (arith, out)) in
      let hb : (1 ≤ wanted_variable spec imp j) × (wanted_variable spec imp j ≤ vars) = (omega arith, omega (arith, want)) in
      clauses_in vars (cell_clauses [] [] [] (λ k. k) (difference_variable spec imp j) (Xor (output_variable imp j) (wanted_variable spec imp j)))
      ((hy, (ha, (hb, tt))), ((hy, (ha, (hb, tt))), ((hy, (ha, (hb, tt))), ((hy, (ha, (hb, tt))), tt))))

  pub all_in : HasVariablesWithin vars (free_clauses spec imp).clauses
  all_in =
      let cells = All-append (IsIn vars) (cells_after imp.inputs imp.cells) (cells_after (imp.inputs + length imp.cells) spec.cells)
      (cells_in vars imp.inputs imp imp_kept both.imp_boxes (omega arith) (omega arith))
      (cells_in vars (imp.inputs + length imp.cells) spec spec_kept both.spec_boxes (omega (arith, both.inputs)) (omega arith)) in
      let prefix = All-append (IsIn vars) (cells_after imp.inputs imp.cells ++ cells_after (imp.inputs + length imp.cells) spec.cells) (difference_clauses spec imp) cells
      (pieces_hold (IsIn vars) (λ j. cell_clauses [] [] [] (λ k. k) (difference_variable spec imp j) (Xor (output_variable imp j) (wanted_variable spec imp j))) (length imp.outs) difference_in) in
      All-append (IsIn vars) (cells_after imp.inputs imp.cells ++ cells_after (imp.inputs + length imp.cells) spec.cells ++ difference_clauses spec imp) (some_difference spec imp ∷ []) prefix
      (All-cons (IsIn vars) (some_difference spec imp) []
      (all_hold (λ l. (1 ≤ l.var) × (l.var ≤ vars)) (λ j. positive (difference_variable spec imp j)) (length imp.outs) (λ j h. (omega arith, omega (arith, h))))
      (All-nil (IsIn vars)))

pub free_variables_are_within : FreeVariablesAreWithin
free_variables_are_within spec imp spec_kept imp_kept both = all_in spec imp spec_kept imp_kept both
