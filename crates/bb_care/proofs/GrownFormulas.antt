-- In a netlist with gates after its cells each old cell has the formula that it had, so alike netlists stay alike where the new cells
-- have the same formulas.
use Rattle.std.proofs.Common.{◌≡◌, ℕ, zero, suc, ◌+◌, ◌-◌, ◌<◌, List, [], ◌∷◌, ◌++◌, length, map, All, refl, sym, ap, ap₂, ◌∙◌, subst, arith, length-append}
use Rattle.std.specs.Prelude.{slice_index}
use Rattle.std.specs.List.{range_with_len}
use Rattle.std.specs.List.Sorted.{IsPermutation}
use Rattle.std.proofs.lemmas.List.{get_or_default, map-append}
use Rattle.std.proofs.lemmas.List.Elements.{All-head, All-tail}
use Rattle.std.proofs.lemmas.List.Sorted.{IsPermutation-append}
use Rattle.bb_lemmas.proofs.Ranges.{range_parts}
use Rattle.bb_iso.specs.Laws.Isomorphism.{AreIsomorphic}
use Rattle.bb_iso.specs.Laws.Formulas.{Formula, Not, And, Or, Xor, Mux, cell_formula, formula_at, cell_formulas, pin_formulas}
use Rattle.bb_iso.specs.Laws.{FormulasAreOfCells}
use Rattle.bb_subst.specs.Embeddings.{renumbered}
use Rattle.bb_net.specs.declared.cell.Cell.{Cell}
use Rattle.bb_net.specs.declared.cell.Cell.TheVariants as cell
use Rattle.bb_net.specs.Netlists.{Netlist, Pins, IsNetlist, ReadsBefore, box_at, cell_at}
use Rattle.bb_care.proofs.ConstrainedCells.{prefix_long, not_moved}
use Rattle.bb_care.proofs.GrownNets.{grown, old_cell}

-- a moved cell has the formula that it had, where what it reads has
pub moved_formula : (inputs : ℕ) (boxes : List Pins) (to : ℕ → ℕ) (at new : ℕ → Formula) (place : ℕ) (c : Cell) → ReadsBefore inputs boxes place c → ((k : ℕ) → k < place → new (to k) ≡ at k) → cell_formula new (renumbered to c) ≡ cell_formula at c
moved_formula inputs boxes to at new place (cell.Const b) h same = refl
moved_formula inputs boxes to at new place (cell.Input i) h same = refl
moved_formula inputs boxes to at new place (cell.Not a) h same = ap Not (same a h)
moved_formula inputs boxes to at new place (cell.And a b) h same = ap₂ And (same a h.0) (same b h.1)
moved_formula inputs boxes to at new place (cell.Or a b) h same = ap₂ Or (same a h.0) (same b h.1)
moved_formula inputs boxes to at new place (cell.Xor a b) h same = ap₂ Xor (same a h.0) (same b h.1)
moved_formula inputs boxes to at new place (cell.Mux c t e) h same =
    let p = same c h.0 in let q = same t h.1 in let r = same e h.2 in
    λ i. Mux (p i) (q i) (r i)
moved_formula inputs boxes to at new place (cell.BoxOut b p) h same = refl

-- what one function gives for consecutive numbers and another one for those of a list
pub map_places : {X : Type 0} (f g : ℕ → X) (a : ℕ) (xs : List ℕ) → ((i k : ℕ) → a + i ≡ k → i < length xs → f k ≡ g (slice_index xs i)) → map f (range_with_len a (length xs)) ≡ map g xs
map_places f g a [] same = refl
map_places f g a (x ∷ xs) same = ap₂ (λ y ys. y ∷ ys) (same 0 a (omega arith) (omega arith)) (map_places f g (a + 1) xs (λ i k is lt. same (suc i) k (omega (arith, is)) (omega (arith, lt))))

pub map_ranges : {X : Type 0} (f g : ℕ → X) (a b n : ℕ) → ((i : ℕ) → i < n → f (a + i) ≡ g (b + i)) → map f (range_with_len a n) ≡ map g (range_with_len b n)
map_ranges f g a b zero same = refl
map_ranges f g a b (suc n) same =
    ap₂ (λ y ys. y ∷ ys) (ap f (omega arith) ∙ same 0 (omega arith) ∙ ap g (omega arith))
    (map_ranges f g (a + 1) (b + 1) n (λ i lt. ap f (omega arith) ∙ same (suc i) (omega (arith, lt)) ∙ ap g (omega arith)))

-- the formulas of places
pub map_below : (f g : ℕ → Formula) (count : ℕ) → ((k : ℕ) → k < count → f k ≡ g k) → (xs : List ℕ) → All (λ k. k < count) xs → map f xs ≡ map g xs
map_below f g count same [] low = refl
map_below f g count same (x ∷ xs) low = ap₂ (λ y ys. y ∷ ys) (same x (All-head (λ k. k < count) x xs low)) (map_below f g count same xs (All-tail (λ k. k < count) x xs low))

module _ (of_cells : FormulasAreOfCells) (net : Netlist) (kept : IsNetlist net) (more : List Cell) (outs : List ℕ) (also : IsNetlist (grown net more outs)) where
  abbrev now : ℕ → Formula
  now = formula_at (net.cells ++ more)

  old_within : (bound k : ℕ) → k < bound → k < length net.cells → now k ≡ formula_at net.cells k
  old_within zero k low there = absurd (omega (arith, low))
  old_within (suc bound) k low there =
      of_cells (grown net more outs) also k (omega (arith, there, length-append net.cells more))
      ∙ ap (cell_formula now) (old_cell net kept more k there ∙ not_moved (cell_at net.cells k))
      ∙ moved_formula net.inputs net.boxes (λ j. j) (formula_at net.cells) now k (cell_at net.cells k) (kept.ordered k there) (λ j below. old_within bound j (omega (arith, low, below)) (omega (arith, there, below)))
      ∙ sym (of_cells net kept k there)

  -- an old cell has the formula that it had
  pub old_formula : (k : ℕ) → k < length net.cells → now k ≡ formula_at net.cells k
  old_formula k there = old_within (suc k) k (omega arith) there

  -- the new formulas follow on the old ones
  pub grown_formulas : cell_formulas (grown net more outs) ≡ cell_formulas net ++ map now (range_with_len (length net.cells) (length more))
  grown_formulas =
      let first = net.inputs + 2 in
      let count = length net.cells - first in
      let fits = prefix_long net kept in
      ap (λ n. map now (range_with_len first n)) (omega (arith, fits, length-append net.cells more))
      ∙ ap (map now) (range_parts first count (length more))
      ∙ map-append now (range_with_len first count) (range_with_len (first + count) (length more))
      ∙ ap₂ (λ xs ys. xs ++ ys) (map_ranges now (formula_at net.cells) first first count (λ i lt. old_formula (first + i) (omega (arith, lt, fits))))
      (ap (λ a. map now (range_with_len a (length more))) (omega (arith, fits)))

  -- the pins of boxes have the formulas that they had
  pub grown_pins : map (pin_formulas (net.cells ++ more)) net.boxes ≡ map (pin_formulas net.cells) net.boxes
  grown_pins = each net.boxes (λ b lt. (kept.pins_there b, outputs_there b))
    where
      -- the output pins of a box are cells
      outputs_there : (b : ℕ) → All (λ k. k < length net.cells) (box_at net.boxes b).outs
      outputs_there b p d low = subst (λ k. k < length net.cells) (get_or_default (box_at net.boxes b).outs p 0 d low) (kept.driven b p (slice_index (box_at net.boxes b).outs p) (low, refl)).0

      each : (boxes : List Pins) → ((b : ℕ) → b < length boxes → All (λ k. k < length net.cells) (box_at boxes b).ins × All (λ k. k < length net.cells) (box_at boxes b).outs) → map (pin_formulas (net.cells ++ more)) boxes ≡ map (pin_formulas net.cells) boxes
      each [] there = refl
      each (b ∷ bs) there =
          let ins = map_below now (formula_at net.cells) (length net.cells) old_formula b.ins (there 0 (omega arith)).0 in
          let outs = map_below now (formula_at net.cells) (length net.cells) old_formula b.outs (there 0 (omega arith)).1 in
          let rest = each bs (λ c lt. there (suc c) (omega (arith, lt))) in
          λ i. record { ins = ins i; outs = outs i } ∷ rest i

-- alike netlists stay alike where the new cells have the same formulas, each as often, and so have the new outputs
pub grown_isomorphic : FormulasAreOfCells → (a b : Netlist) → IsNetlist a → IsNetlist b → (more less : List Cell) (outs others : List ℕ) → IsNetlist (grown a more outs) → IsNetlist (grown b less others) → AreIsomorphic a b
    → IsPermutation (map (formula_at (a.cells ++ more)) (range_with_len (length a.cells) (length more))) (map (formula_at (b.cells ++ less)) (range_with_len (length b.cells) (length less)))
    → map (formula_at (a.cells ++ more)) outs ≡ map (formula_at (b.cells ++ less)) others
    → AreIsomorphic (grown a more outs) (grown b less others)
grown_isomorphic of_cells a b kept_a kept_b more less outs others also_a also_b alike new same = record {
  inputs = alike.inputs;
  cells =
      subst (λ fs. IsPermutation fs (cell_formulas (grown b less others))) (sym (grown_formulas of_cells a kept_a more outs also_a))
      (subst (IsPermutation (cell_formulas a ++ map (formula_at (a.cells ++ more)) (range_with_len (length a.cells) (length more)))) (sym (grown_formulas of_cells b kept_b less others also_b))
      (IsPermutation-append (cell_formulas a) (cell_formulas b) (map (formula_at (a.cells ++ more)) (range_with_len (length a.cells) (length more))) (map (formula_at (b.cells ++ less)) (range_with_len (length b.cells) (length less))) alike.cells new));
  boxes = grown_pins of_cells a kept_a more outs also_a ∙ alike.boxes ∙ sym (grown_pins of_cells b kept_b less others also_b);
  outs = same;
}
