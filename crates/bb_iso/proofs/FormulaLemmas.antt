-- The formula of a cell is that of its gate, by the formulas of the cells that it reads.
use Rattle.std.proofs.Common.{◌≡◌, ℕ, ◌+◌, ◌<◌, ◌≤◌, zero, suc, false, List, length, map, take, refl, sym, ap, ap₂, ◌∙◌, inl, inr, arith}
use Rattle.std.specs.List.{range_with_len}
use Rattle.std.proofs.lemmas.Bool.{cases_lt}
use Rattle.std.proofs.lemmas.List.{get_or_past, get_or-take, length-take}
use Rattle.std.proofs.lemmas.List.FromFn.{length-map-range_with_len, get_or-map-range_with_len}
use Rattle.bb_net.specs.declared.cell.Cell.{Cell}
use Rattle.bb_net.specs.declared.cell.Cell.TheVariants as cell
use Rattle.bb_net.specs.Netlists.{Netlist, Pins, cell_at, first_cells, ReadsBefore, IsOrdered, IsNetlist}
use Rattle.bb_iso.specs.Laws.Formulas.{Formula, Const, Not, And, Or, Xor, Mux, cell_formula, formula_within, formula_at}
use Rattle.bb_iso.specs.Laws.{FormulasAreOfCells}

-- a cell's formula depends on the formulas of what it reads alone
pub formula_same : (inputs : ℕ) (boxes : List Pins) (at other : ℕ → Formula) (place : ℕ) (c : Cell) → ReadsBefore inputs boxes place c → ((k : ℕ) → k < place → at k ≡ other k) → cell_formula at c ≡ cell_formula other c
formula_same inputs boxes at other place (cell.Const b) h same = refl
formula_same inputs boxes at other place (cell.Input i) h same = refl
formula_same inputs boxes at other place (cell.Not a) h same = ap Not (same a h)
formula_same inputs boxes at other place (cell.And a b) h same = ap₂ And (same a h.0) (same b h.1)
formula_same inputs boxes at other place (cell.Or a b) h same = ap₂ Or (same a h.0) (same b h.1)
formula_same inputs boxes at other place (cell.Xor a b) h same = ap₂ Xor (same a h.0) (same b h.1)
formula_same inputs boxes at other place (cell.Mux c t e) h same =
    let p = same c h.0 in let q = same t h.1 in let r = same e h.2 in
    λ i. Mux (p i) (q i) (r i)
formula_same inputs boxes at other place (cell.BoxOut b p) h same = refl

-- steps beyond the place change nothing
formula_within-enough : (net : Netlist) → IsOrdered net → (n m place : ℕ) → place < n → place < m → place < length net.cells → formula_within net.cells n place ≡ formula_within net.cells m place
unfolding formula_within
formula_within-enough net ordered zero m place p q there = absurd (omega arith)
formula_within-enough net ordered (suc n) zero place p q there = absurd (omega arith)
formula_within-enough net ordered (suc n) (suc m) place p q there =
    formula_same net.inputs net.boxes (formula_within net.cells n) (formula_within net.cells m) place (cell_at net.cells place) (ordered place there)
    (λ k below. formula_within-enough net ordered n m k (omega arith) (omega arith) (omega arith))

pub formula_at-cell : (net : Netlist) → IsOrdered net → (k : ℕ) → k < length net.cells → formula_at net.cells k ≡ cell_formula (formula_at net.cells) (cell_at net.cells k)
unfolding formula_within
formula_at-cell net ordered k there =
    formula_same net.inputs net.boxes (formula_within net.cells k) (formula_at net.cells) k (cell_at net.cells k) (ordered k there)
    (λ j below. formula_within-enough net ordered k (suc j) j below (omega arith) (omega arith))

pub formulas_are_of_cells : FormulasAreOfCells
formulas_are_of_cells net kept k there = formula_at-cell net kept.ordered k there

-- the constants and the inputs

-- what they are made of does not depend on what is given for the places that a cell reads
first_formula : (inputs k : ℕ) (at other : ℕ → Formula) → cell_formula at (cell_at (first_cells inputs) k) ≡ cell_formula other (cell_at (first_cells inputs) k)
first_formula inputs zero at other = refl
first_formula inputs (suc zero) at other = refl
first_formula inputs (suc (suc i)) at other = elim (cases_lt i inputs) [
  | inl low ↦
      let is : cell_at (first_cells inputs) (suc (suc i)) ≡ cell.Input i = get_or-map-range_with_len cell.Input 0 inputs i i (cell.Const false) low (omega arith) in
      ap (cell_formula at) is ∙ sym (ap (cell_formula other) is)
  | inr past ↦
      let is : cell_at (first_cells inputs) (suc (suc i)) ≡ cell.Const false = get_or_past (map cell.Input (range_with_len 0 inputs)) i (cell.Const false) (omega (arith, past, length-map-range_with_len cell.Input 0 inputs)) in
      ap (cell_formula at) is ∙ sym (ap (cell_formula other) is)
]

-- the formula of a constant or an input in every netlist with so many inputs
abbrev pub prefix_formula : ℕ → ℕ → Formula
prefix_formula inputs k = cell_formula (λ j. Const false) (cell_at (first_cells inputs) k)

pub formula_at-prefix : (net : Netlist) → IsNetlist net → (k : ℕ) → k < net.inputs + 2 → formula_at net.cells k ≡ prefix_formula net.inputs k
unfolding formula_within
formula_at-prefix net kept k low =
    let is : cell_at net.cells k ≡ cell_at (first_cells net.inputs) k = sym (get_or-take (net.inputs + 2) net.cells k (cell.Const false) low) ∙ ap (λ cells. cell_at cells k) kept.prefix in
    ap (cell_formula (formula_within net.cells k)) is ∙ first_formula net.inputs k (formula_within net.cells k) (λ j. Const false)

pub inputs_below : (net : Netlist) → IsNetlist net → net.inputs + 2 ≤ length net.cells
inputs_below net kept =
    let cells : length (take (net.inputs + 2) net.cells) ≡ length (first_cells net.inputs) = ap length kept.prefix in
    let inputs : length (map cell.Input (range_with_len 0 net.inputs)) ≡ net.inputs = length-map-range_with_len cell.Input 0 net.inputs in
    omega (arith, cells, inputs, length-take (net.inputs + 2) net.cells)
