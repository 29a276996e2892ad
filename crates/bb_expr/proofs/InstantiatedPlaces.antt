-- The cells of a netlist of one operator by their places: the constants, the inputs, and the cells after them.
use Rattle.std.proofs.Common.{◌≡◌, ℕ, zero, suc, ◌+◌, ◌-◌, ◌<◌, ◌≤◌, Bool, true, false, List, [], ◌∷◌, length, take, refl, sym, ap, ◌∙◌, subst, inl, inr, arith}
use Rattle.std.specs.Prelude.{All, slice_index_or, nat_eq, nat_lt, if◌then◌else◌}
use Rattle.std.proofs.lemmas.Bool.{eqb-true, lt-ltb}
use Rattle.std.proofs.lemmas.Bool.Decides.{eqb_tells}
use Rattle.std.proofs.lemmas.List.{get_or-drop, get_or-take, length-take, length-drop}
use Rattle.std.proofs.lemmas.List.Elements.{All-head, All-tail, All-weaker}
use Rattle.std.proofs.lemmas.List.FromFn.{length-map-range_with_len, get_or-map-range_with_len}
use Rattle.bb_lemmas.proofs.Tests.{not_lt_to_test}
use Rattle.bb_lemmas.proofs.Bits.{or_cases}
use Rattle.bb_net.specs.declared.cell.Cell.{Cell}
use Rattle.bb_net.specs.declared.cell.Cell.TheVariants as cells
use Rattle.bb_net.specs.Netlists.{Netlist, IsNetlist, cell_at, first_cells, ReadsBefore}
use Rattle.bb_word.specs.Laws.Formulas.{Const, Input, cell_formula, formula_at}
use Rattle.bb_word.specs.Laws.FormulaLaws.{formula_at-meets}
use Rattle.bb_expr.specs.declared.circuits.Instantiation.{Instantiation}
use Rattle.bb_expr.specs.Inside.Instantiation.{is_out, after_inputs, constant_steps, moved}
use Rattle.bb_expr.proofs.StepLemmas.{either-side}

-- a place is a constant's, an input's, or that of a cell after them
pub data Site (n place : ℕ) : Type 0 where
  Zero : place ≡ 0 → Site n place
  One : place ≡ 1 → Site n place
  In : (k : ℕ) → k < n → place ≡ 2 + k → Site n place
  After : (i : ℕ) → place ≡ (2 + n) + i → Site n place

pub site : (n place : ℕ) → Site n place
site n zero = Zero refl
site n (suc zero) = One refl
site n (suc (suc k)) = elim (either-side k n) [
  | inl below ↦ In k below (omega arith)
  | inr above ↦ After above.0 (omega (arith, above.1))
]

pub apart : (a b : ℕ) → (a ≡ b → ⊥) → nat_eq a b ≡ false
apart a b not = elim (eqb_tells a b) [
  | inl is ↦ absurd (not is.1)
  | inr differs ↦ differs.0
]

pub moved-input : (at : Instantiation) (inputs : List ℕ) (k : ℕ) → k < length inputs → moved at inputs (2 + k) ≡ slice_index_or inputs k 0
moved-input at inputs k lt =
    let zero' : nat_eq (2 + k) 0 ≡ false = apart (2 + k) 0 (λ e. omega (arith, e)) in
    let one' : nat_eq (2 + k) 1 ≡ false = apart (2 + k) 1 (λ e. omega (arith, e)) in
    let in' : nat_lt (2 + k) (2 + length inputs) ≡ true = lt-ltb (2 + k) (2 + length inputs) (omega (arith, lt)) in
    let back : (2 + k) - 2 ≡ k = omega arith in
    ap (λ b. if b then at.zero else (if nat_eq (2 + k) 1 then at.one else (if nat_lt (2 + k) (2 + length inputs) then slice_index_or inputs ((2 + k) - 2) 0 else at.first + ((2 + k) - (2 + length inputs))))) zero'
    ∙ ap (λ b. if b then at.one else (if nat_lt (2 + k) (2 + length inputs) then slice_index_or inputs ((2 + k) - 2) 0 else at.first + ((2 + k) - (2 + length inputs)))) one'
    ∙ ap (λ b. if b then slice_index_or inputs ((2 + k) - 2) 0 else at.first + ((2 + k) - (2 + length inputs))) in'
    ∙ ap (λ j. slice_index_or inputs j 0) back

pub moved-after : (at : Instantiation) (inputs : List ℕ) (i : ℕ) → moved at inputs ((2 + length inputs) + i) ≡ at.first + i
moved-after at inputs i =
    let n = 2 + length inputs in
    let zero' : nat_eq (n + i) 0 ≡ false = apart (n + i) 0 (λ e. omega (arith, e)) in
    let one' : nat_eq (n + i) 1 ≡ false = apart (n + i) 1 (λ e. omega (arith, e)) in
    let in' : nat_lt (n + i) n ≡ false = not_lt_to_test (n + i) n (omega arith) in
    let back : (n + i) - n ≡ i = omega arith in
    ap (λ b. if b then at.zero else (if nat_eq (n + i) 1 then at.one else (if nat_lt (n + i) n then slice_index_or inputs ((n + i) - 2) 0 else at.first + ((n + i) - n)))) zero'
    ∙ ap (λ b. if b then at.one else (if nat_lt (n + i) n then slice_index_or inputs ((n + i) - 2) 0 else at.first + ((n + i) - n))) one'
    ∙ ap (λ b. if b then slice_index_or inputs ((n + i) - 2) 0 else at.first + ((n + i) - n)) in'
    ∙ ap (λ j. at.first + j) back

module _ (net : Netlist) (kept : IsNetlist net) where
  prefix-cell : (place : ℕ) → place < net.inputs + 2 → cell_at net.cells place ≡ cell_at (first_cells net.inputs) place
  prefix-cell place lt = sym (get_or-take (net.inputs + 2) net.cells place (cells.Const false) lt) ∙ ap (λ l. cell_at l place) kept.prefix

  -- the front is whole, since it has as many cells as it should
  pub prefix_there : net.inputs + 2 ≤ length net.cells
  prefix_there = omega (arith, ap length kept.prefix, prefix-length net.inputs, taken (net.inputs + 2) net.cells)
    where
      prefix-length : (n : ℕ) → length (first_cells n) ≡ n + 2
      prefix-length n = omega (arith, length-map-range_with_len cells.Input 0 n)

      taken : (n : ℕ) (l : List Cell) → length (take n l) ≤ length l
      taken n l = omega (arith, length-take n l)

  formula-step : (place : ℕ) → place < length net.cells → formula_at net.cells place ≡ cell_formula (formula_at net.cells) (cell_at net.cells place)
  formula-step place lt = formula_at-meets net kept.ordered place lt

  pub zero-formula : formula_at net.cells 0 ≡ Const false
  zero-formula = formula-step 0 (omega (arith, prefix_there)) ∙ ap (cell_formula (formula_at net.cells)) (prefix-cell 0 (omega arith))

  pub one-formula : formula_at net.cells 1 ≡ Const true
  one-formula = formula-step 1 (omega (arith, prefix_there)) ∙ ap (cell_formula (formula_at net.cells)) (prefix-cell 1 (omega arith))

  input-cell : (k : ℕ) → k < net.inputs → cell_at (first_cells net.inputs) (suc (suc k)) ≡ cells.Input k
  input-cell k lt = get_or-map-range_with_len cells.Input 0 net.inputs k k (cells.Const false) lt (omega arith)

  pub input-formula : (k : ℕ) → k < net.inputs → formula_at net.cells (2 + k) ≡ Input k
  input-formula k lt =
      ap (formula_at net.cells) (let e : 2 + k ≡ suc (suc k) = omega arith in e)
      ∙ formula-step (suc (suc k)) (omega (arith, prefix_there, lt))
      ∙ ap (cell_formula (formula_at net.cells)) (prefix-cell (suc (suc k)) (omega (arith, lt)) ∙ input-cell k lt)

  pub after-there : (i : ℕ) → i < length (after_inputs net) → (2 + net.inputs) + i < length net.cells
  after-there i lt = omega (arith, lt, length-drop (net.inputs + 2) net.cells)

  pub after-length : (place i : ℕ) → place ≡ (2 + net.inputs) + i → place < length net.cells → i < length (after_inputs net)
  after-length place i is lt = omega (arith, is, lt, length-drop (net.inputs + 2) net.cells)

  pub after-cell : (i : ℕ) → cell_at (after_inputs net) i ≡ cell_at net.cells ((2 + net.inputs) + i)
  after-cell i = get_or-drop (net.inputs + 2) net.cells i (cells.Const false) ∙ ap (cell_at net.cells) (let e : (net.inputs + 2) + i ≡ (2 + net.inputs) + i = omega arith in e)

  pub after-formula : (i : ℕ) → i < length (after_inputs net) → formula_at net.cells ((2 + net.inputs) + i) ≡ cell_formula (formula_at net.cells) (cell_at (after_inputs net) i)
  after-formula i lt = formula-step ((2 + net.inputs) + i) (after-there i lt) ∙ ap (cell_formula (formula_at net.cells)) (sym (after-cell i))

  pub after-reads : net.boxes ≡ [] → (i : ℕ) → i < length (after_inputs net) → ReadsBefore net.inputs [] ((2 + net.inputs) + i) (cell_at (after_inputs net) i)
  after-reads none i lt =
      subst (λ boxes. ReadsBefore net.inputs boxes ((2 + net.inputs) + i) (cell_at (after_inputs net) i)) none
      (subst (ReadsBefore net.inputs net.boxes ((2 + net.inputs) + i)) (sym (after-cell i)) (kept.ordered ((2 + net.inputs) + i) (after-there i lt)))

-- what holds of all outputs holds of each
pub out-there : (P : ℕ → Type 0) (outs : List ℕ) → All P outs → (j : ℕ) → is_out j outs ≡ true → P j
out-there P [] all j h = cc
out-there P (out ∷ outs) all j h = elim (or_cases (nat_eq out j) (is_out j outs) h) [
  | inl is ↦ subst P (eqb-true out j is) (All-head P out outs all)
  | inr other ↦ out-there P outs (All-tail P out outs all) j other
]

-- all outputs are places of the constants, the inputs and the cells after them
pub outs-within : (net : Netlist) → IsNetlist net → (n : ℕ) → net.inputs ≡ n → (outs : List ℕ) → outs ≡ net.outs → All (λ place. place < 2 + n + length (after_inputs net)) outs
outs-within net kept n count outs is =
    subst (All (λ place. place < 2 + n + length (after_inputs net))) (sym is)
    (All-weaker (λ place. place < length net.cells) (λ place. place < 2 + n + length (after_inputs net)) (λ place lt. omega (arith, lt, count, prefix_there net kept, length-drop (net.inputs + 2) net.cells)) net.outs kept.outs_there)

pub constant-few : (bit needed : Bool) → length (constant_steps bit needed) ≤ 1
constant-few bit true = omega arith
constant-few bit false = omega arith
