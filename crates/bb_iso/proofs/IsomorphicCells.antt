-- Netlists that are isomorphic have the same formulas, and cells of one formula have one value.
use Rattle.std.proofs.Common.{◌≡◌, ℕ, ◌+◌, ◌-◌, ◌<◌, ◌≤◌, zero, suc, Bool, List, [], ◌∷◌, length, map, refl, sym, ap, ap₂, ◌∙◌, inl, inr, arith}
use Rattle.std.specs.Prelude.{All, Contains}
use Rattle.std.proofs.lemmas.Bool.{cases_lt}
use Rattle.std.proofs.lemmas.List.Elements.{All-head, All-tail}
use Rattle.std.proofs.lemmas.List.FromFn.{length-map-range_with_len, get_or-map-range_with_len}
use Rattle.std.proofs.lemmas.List.Sorted.{IsPermutation-sym, Contains-permutation}
use Rattle.std.proofs.Math.ListN as math
use Rattle.bb_net.specs.Netlists.{Netlist, Pins, cell_at, box_at, IsOrdered, IsNetlist}
use Rattle.bb_net.specs.Ternary.{tern, IsTern}
use Rattle.bb_net.specs.Values.{bit_of, value_of, IsValue}
use Rattle.bb_iso.specs.Laws.Isomorphism.{AreIsomorphic}
use Rattle.bb_iso.specs.Laws.Formulas.{Formula, formula_at, cell_formulas, PinFormulas, pin_formulas}
use Rattle.bb_iso.specs.Laws.{IsomorphismIsMutual, IsomorphicNetsHaveCells, IsomorphicCellsHaveOneBit, IsomorphicCellsAreKnownTheSame}
use Rattle.bb_iso.proofs.FormulaLemmas.{formula_at-cell, prefix_formula, formula_at-prefix, inputs_below}
use Rattle.bb_iso.proofs.FormulaValues.{formula_bit, pin_bit, value_formula, formula_bit-same, formula_tern, tern_formula}

pub isomorphism_is_mutual : IsomorphismIsMutual
isomorphism_is_mutual a b alike = record {
  inputs = sym alike.inputs;
  cells = IsPermutation-sym (cell_formulas a) (cell_formulas b) alike.cells;
  boxes = sym alike.boxes;
  outs = sym alike.outs;
}

-- the formula of each cell after the constants and the inputs is listed
formula_listed : (net : Netlist) (k : ℕ) → net.inputs + 2 ≤ k → k < length net.cells → Contains (cell_formulas net) (formula_at net.cells k)
formula_listed net k after there =
    let first = net.inputs + 2 in
    let count = length net.cells - first in
    (k - first, omega (arith, after, there, length-map-range_with_len (formula_at net.cells) first count), get_or-map-range_with_len (formula_at net.cells) first count (k - first) k (formula_at net.cells k) (omega (arith, after, there)) (omega (arith, after)))

listed_formula : (net : Netlist) (f : Formula) → Contains (cell_formulas net) f → (m : ℕ) × (m < length net.cells) × (f ≡ formula_at net.cells m)
listed_formula net f has =
    let first = net.inputs + 2 in
    let count = length net.cells - first in
    let low : has.0 < count = omega (arith, has.1, length-map-range_with_len (formula_at net.cells) first count) in
    (first + has.0, omega (arith, low), sym has.2 ∙ get_or-map-range_with_len (formula_at net.cells) first count has.0 (first + has.0) f low refl)

pub isomorphic_nets_have_cells : IsomorphicNetsHaveCells
isomorphic_nets_have_cells a b kept also alike k there = elim (cases_lt k (a.inputs + 2)) [
  | inl low ↦
      (k, omega (arith, low, alike.inputs, inputs_below b also), formula_at-prefix a kept k low ∙ ap (λ inputs. prefix_formula inputs k) alike.inputs ∙ sym (formula_at-prefix b also k (omega (arith, low, alike.inputs))))
  | inr after ↦ listed_formula b (formula_at a.cells k) (Contains-permutation (cell_formulas a) (cell_formulas b) (formula_at a.cells k) alike.cells (formula_listed a k after there))
]

-- bits

-- bits that are those of formulas
map_formulas : (v : ℕ → Bool) (w : Formula → Bool) (at : ℕ → Formula) (place : ℕ) → ((k : ℕ) → k < place → v k ≡ w (at k)) → (xs : List ℕ) → All (λ k. k < place) xs → map v xs ≡ map w (map at xs)
map_formulas v w at place same [] low = refl
map_formulas v w at place same (x ∷ xs) low = ap₂ (λ bit bits. bit ∷ bits) (same x (All-head (λ k. k < place) x xs low)) (map_formulas v w at place same xs (All-tail (λ k. k < place) x xs low))

-- the formulas of the input pins of a box
ins_formulas : (a b : Netlist) → AreIsomorphic a b → (c : ℕ) → map (formula_at a.cells) (box_at a.boxes c).ins ≡ map (formula_at b.cells) (box_at b.boxes c).ins
ins_formulas a b alike c =
    let none : Pins = record { ins = []; outs = [] } in
    let ins : PinFormulas → List Formula = λ pins. pins.ins in
    sym (ap ins (math.get_or-map (pin_formulas a.cells) a.boxes c none)) ∙ ap (λ pins. ins (math.get_or pins c (record { ins = []; outs = [] }))) alike.boxes ∙ ap ins (math.get_or-map (pin_formulas b.cells) b.boxes c none)

module _ (exists : (net : Netlist) (x : List Bool) (box : ℕ → ℕ → List Bool → Bool) → IsOrdered net → IsValue net x box (value_of net x box)) (a b : Netlist) (kept : IsNetlist a) (also : IsNetlist b) (alike : AreIsomorphic a b) (x : List Bool)
    (one other : ℕ → ℕ → List Bool → Bool) (same : (c p : ℕ) (ins : List Bool) → one c p ins ≡ other c p ins) where
  abbrev left : ℕ → Bool
  left = bit_of (value_of a x one)

  abbrev right : ℕ → Bool
  right = bit_of (value_of b x other)

  abbrev left_pin : ℕ → ℕ → Bool
  left_pin = pin_bit a.boxes one left

  abbrev right_pin : ℕ → ℕ → Bool
  right_pin = pin_bit b.boxes other right

  left_bit : (k : ℕ) → k < length a.cells → left k ≡ formula_bit x left_pin (formula_at a.cells k)
  left_bit k there = value_formula a x one (value_of a x one) kept.ordered (exists a x one kept.ordered) (suc k) k (omega arith) there

  right_bit : (m : ℕ) → m < length b.cells → right m ≡ formula_bit x right_pin (formula_at b.cells m)
  right_bit m there = value_formula b x other (value_of b x other) also.ordered (exists b x other also.ordered) (suc m) m (omega arith) there

  -- a formula has one bit by what the pins give in the one and by what they give in the other
  one_bit : (bound k : ℕ) → k < bound → k < length a.cells → formula_bit x left_pin (formula_at a.cells k) ≡ formula_bit x right_pin (formula_at a.cells k)
  one_bit zero k low there = absurd (omega arith)
  one_bit (suc bound) k low there =
      let of_cell = formula_at-cell a kept.ordered k there in
      let before : (j : ℕ) → j < k → formula_bit x left_pin (formula_at a.cells j) ≡ formula_bit x right_pin (formula_at a.cells j) = λ j below. one_bit bound j (omega arith) (omega arith) in
      let pins : (c p : ℕ) → All (λ j. j < k) (box_at a.boxes c).ins → left_pin c p ≡ right_pin c p = λ c p read.
      let ins : map left (box_at a.boxes c).ins ≡ map right (box_at b.boxes c).ins =
      map_formulas left (formula_bit x right_pin) (formula_at a.cells) k (λ j below. left_bit j (omega arith) ∙ before j below) (box_at a.boxes c).ins read
      ∙ ap (map (formula_bit x right_pin)) (ins_formulas a b alike c)
      ∙ sym (map_formulas right (formula_bit x right_pin) (formula_at b.cells) (length b.cells) right_bit (box_at b.boxes c).ins (also.pins_there c)) in
      ap (one c p) ins ∙ same c p (map right (box_at b.boxes c).ins) in
      ap (formula_bit x left_pin) of_cell ∙ formula_bit-same a.inputs a.boxes x left_pin right_pin (formula_at a.cells) k (cell_at a.cells k) (kept.ordered k there) before pins ∙ ap (formula_bit x right_pin) (sym of_cell)

  cells_have_one_bit : (k m : ℕ) → k < length a.cells → m < length b.cells → formula_at a.cells k ≡ formula_at b.cells m → left k ≡ right m
  cells_have_one_bit k m there here formula = left_bit k there ∙ one_bit (suc k) k (omega arith) there ∙ ap (formula_bit x right_pin) formula ∙ sym (right_bit m here)

pub isomorphic_cells_have_one_bit : ((net : Netlist) (x : List Bool) (box : ℕ → ℕ → List Bool → Bool) → IsOrdered net → IsValue net x box (value_of net x box)) → IsomorphicCellsHaveOneBit
isomorphic_cells_have_one_bit exists a b kept also alike x one other same = cells_have_one_bit exists a b kept also alike x one other same

pub isomorphic_cells_are_known_the_same : ((net : Netlist) (x : List Bool) → IsOrdered net → IsTern net x (tern net x)) → IsomorphicCellsAreKnownTheSame
isomorphic_cells_are_known_the_same exists a b kept also alike x k m there here formula =
    tern_formula a x (tern a x) kept.ordered (exists a x kept.ordered) (suc k) k (omega arith) there
    ∙ ap (formula_tern x) formula
    ∙ sym (tern_formula b x (tern b x) also.ordered (exists b x also.ordered) (suc m) m (omega arith) here)
