-- In a rearranged netlist a cell has the formula that it had, with the inputs renumbered, so isomorphic netlists stay isomorphic.
use Rattle.std.proofs.Common.{◌≡◌, ℕ, ◌+◌, ◌-◌, ◌<◌, ◌≤◌, zero, suc, false, List, [], ◌∷◌, length, map, get_or, All, refl, sym, ap, ap₂, subst, ◌∙◌, inl, inr, arith}
use Rattle.std.specs.Prelude.{slice_index}
use Rattle.std.specs.List.{range_with_len}
use Rattle.std.specs.List.Sorted.{IsPermutation}
use Rattle.std.proofs.Math.ListN as math
use Rattle.std.proofs.lemmas.Bool.{cases_lt}
use Rattle.std.proofs.lemmas.List.{get_or_default, get_or_past, get_or-take}
use Rattle.std.proofs.lemmas.List.Elements.{All-head, All-tail}
use Rattle.std.proofs.lemmas.List.Sorted.{IsPermutation-map}
use Rattle.std.proofs.lemmas.Simd.{map-map}
use Rattle.bb_net.specs.declared.cell.Cell.{Cell}
use Rattle.bb_net.specs.declared.cell.Cell.TheVariants as cell
use Rattle.bb_net.specs.Netlists.{Netlist, Pins, cell_at, box_at, ReadsBefore, IsNetlist}
use Rattle.bb_net.specs.Orders.{moved_pins}
use Rattle.bb_net.specs.Rearrangements.{new_input, new_place, moved_cell, IsRearranged}
use Rattle.bb_iso.specs.Laws.Isomorphism.{AreIsomorphic}
use Rattle.bb_iso.specs.Laws.Formulas.{Formula, Const, Input, Not, And, Or, Xor, Mux, BoxOut, cell_formula, formula_at, cell_formulas, PinFormulas, pin_formulas}
use Rattle.bb_iso.specs.Laws.{FormulasAreOfCells}
use Rattle.bb_iso.proofs.FormulaLemmas.{inputs_below}

-- a formula with its inputs renumbered
abbrev pub renumbered : List ℕ → Formula → Formula
renumbered numbers (Const b) = Const b
renumbered numbers (Input i) = Input (new_input numbers i)
renumbered numbers (Not f) = Not (renumbered numbers f)
renumbered numbers (And f g) = And (renumbered numbers f) (renumbered numbers g)
renumbered numbers (Or f g) = Or (renumbered numbers f) (renumbered numbers g)
renumbered numbers (Xor f g) = Xor (renumbered numbers f) (renumbered numbers g)
renumbered numbers (Mux f g h) = Mux (renumbered numbers f) (renumbered numbers g) (renumbered numbers h)
renumbered numbers (BoxOut b p) = BoxOut b p

abbrev pub renumbered_pins : List ℕ → PinFormulas → PinFormulas
renumbered_pins numbers pins = record { ins = map (renumbered numbers) pins.ins; outs = map (renumbered numbers) pins.outs }

-- a moved cell has the renumbered formula of the cell where what it reads has
cell_moved : (numbers : List ℕ) (inputs : ℕ) (boxes : List Pins) (at new : ℕ → Formula) (place : ℕ) (c : Cell) → ReadsBefore inputs boxes place c → ((k : ℕ) → k < place → new (new_place numbers k) ≡ renumbered numbers (at k))
    → cell_formula new (moved_cell numbers c) ≡ renumbered numbers (cell_formula at c)
cell_moved numbers inputs boxes at new place (cell.Const b) h same = refl
cell_moved numbers inputs boxes at new place (cell.Input i) h same = refl
cell_moved numbers inputs boxes at new place (cell.Not a) h same = ap Not (same a h)
cell_moved numbers inputs boxes at new place (cell.And a b) h same = ap₂ And (same a h.0) (same b h.1)
cell_moved numbers inputs boxes at new place (cell.Or a b) h same = ap₂ Or (same a h.0) (same b h.1)
cell_moved numbers inputs boxes at new place (cell.Xor a b) h same = ap₂ Xor (same a h.0) (same b h.1)
cell_moved numbers inputs boxes at new place (cell.Mux c t e) h same =
    let p = same c h.0 in let q = same t h.1 in let r = same e h.2 in
    λ i. Mux (p i) (q i) (r i)
cell_moved numbers inputs boxes at new place (cell.BoxOut b p) h same = refl

-- each place has its new place among the cells
place_there : (numbers : List ℕ) (inputs count k : ℕ) → length numbers ≡ inputs → All (λ n. n < inputs) numbers → inputs + 2 ≤ count → k < count → new_place numbers k < count
place_there numbers inputs count zero long below room lt = lt
place_there numbers inputs count (suc zero) long below room lt = lt
place_there numbers inputs count (suc (suc i)) long below room lt = elim (cases_lt i (length numbers)) [
  | inl low ↦ omega (arith, room, below i i low)
  | inr past ↦ omega (arith, lt, get_or_past numbers i i past)
]

-- after the inputs it is the same
place_stays : (numbers : List ℕ) (inputs k : ℕ) → length numbers ≡ inputs → inputs + 2 ≤ k → new_place numbers k ≡ k
place_stays numbers inputs zero long after = refl
place_stays numbers inputs (suc zero) long after = refl
place_stays numbers inputs (suc (suc i)) long after = ap (λ n. n + 2) (get_or_past numbers i i (omega (arith, long, after))) ∙ omega arith

-- lists that are the same item by item
map_range_same : {X : Type 0} (f g : ℕ → X) (a n : ℕ) → ((k : ℕ) → a ≤ k → k < a + n → f k ≡ g k) → map f (range_with_len a n) ≡ map g (range_with_len a n)
map_range_same f g a zero same = refl
map_range_same f g a (suc n) same = ap₂ (λ x xs. x ∷ xs) (same a (omega arith) (omega arith)) (map_range_same f g (a + 1) n (λ k low high. same k (omega (arith, low)) (omega (arith, high))))

map_places : (f g : ℕ → Formula) (numbers : List ℕ) (count : ℕ) → ((k : ℕ) → k < count → f (new_place numbers k) ≡ renumbered numbers (g k)) → (xs : List ℕ) → All (λ k. k < count) xs → map f (map (new_place numbers) xs) ≡ map (renumbered numbers) (map g xs)
map_places f g numbers count same [] low = refl
map_places f g numbers count same (x ∷ xs) low = ap₂ (λ y ys. y ∷ ys) (same x (All-head (λ k. k < count) x xs low)) (map_places f g numbers count same xs (All-tail (λ k. k < count) x xs low))

map_same : {X Y : Type 0} (f g : X → Y) → ((x : X) → f x ≡ g x) → (xs : List X) → map f xs ≡ map g xs
map_same f g same xs = λ i. map (λ x. same x i) xs

-- the formula at place 0
first_false : (of_cells : FormulasAreOfCells) (net : Netlist) → IsNetlist net → formula_at net.cells 0 ≡ Const false
first_false of_cells net kept =
    of_cells net kept 0 (omega (arith, inputs_below net kept)) ∙ ap (cell_formula (formula_at net.cells)) is
  where
    is : cell_at net.cells 0 ≡ cell.Const false
    is = sym (get_or-take (net.inputs + 2) net.cells 0 (cell.Const false) (omega arith)) ∙ ap (λ cells. cell_at cells 0) kept.prefix

module _ (of_cells : FormulasAreOfCells) (numbers picks : List ℕ) (old new : Netlist) (kept : IsNetlist old) (also : IsNetlist new) (r : IsRearranged numbers picks old new) where
  formula_moved : (bound k : ℕ) → k < bound → k < length old.cells → formula_at new.cells (new_place numbers k) ≡ renumbered numbers (formula_at old.cells k)
  formula_moved zero k low there = absurd (omega arith)
  formula_moved (suc bound) k low there =
      let here : new_place numbers k < length new.cells = subst (λ n. new_place numbers k < n) (sym r.cell_count) (place_there numbers old.inputs (length old.cells) k r.numbered r.numbers_there (inputs_below old kept) there) in
      of_cells new also (new_place numbers k) here
      ∙ ap (cell_formula (formula_at new.cells)) (r.cells k there)
      ∙ cell_moved numbers old.inputs old.boxes (formula_at old.cells) (formula_at new.cells) k (cell_at old.cells k) (kept.ordered k there) (λ j below. formula_moved bound j (omega arith) (omega arith))
      ∙ ap (renumbered numbers) (sym (of_cells old kept k there))

  moved : (k : ℕ) → k < length old.cells → formula_at new.cells (new_place numbers k) ≡ renumbered numbers (formula_at old.cells k)
  moved k there = formula_moved (suc k) k (omega arith) there

  cells_renumbered : cell_formulas new ≡ map (renumbered numbers) (cell_formulas old)
  cells_renumbered =
      let first = old.inputs + 2 in
      let count = length old.cells - first in
      let fits = inputs_below old kept in
      ap₂ (λ inputs n. map (formula_at new.cells) (range_with_len (inputs + 2) (n - (inputs + 2)))) r.inputs r.cell_count
      ∙ map_range_same (formula_at new.cells) (λ k. renumbered numbers (formula_at old.cells k)) first count
      (λ k after there. ap (formula_at new.cells) (sym (place_stays numbers old.inputs k r.numbered after)) ∙ moved k (omega (arith, there, fits)))
      ∙ sym (map-map (renumbered numbers) (formula_at old.cells) (range_with_len first count))

  boxes_renumbered : map (pin_formulas new.cells) new.boxes ≡ map (renumbered_pins numbers) (map (pin_formulas old.cells) old.boxes)
  boxes_renumbered =
      ap (map (pin_formulas new.cells)) r.boxes ∙ each old.boxes (λ b lt. (kept.pins_there b, outputs_there b))
    where
      -- the output pins of a box are cells
      outputs_there : (b : ℕ) → All (λ k. k < length old.cells) (box_at old.boxes b).outs
      outputs_there b p d low = subst (λ k. k < length old.cells) (get_or_default (box_at old.boxes b).outs p 0 d low) (kept.driven b p (slice_index (box_at old.boxes b).outs p) (low, refl)).0

      each : (boxes : List Pins) → ((b : ℕ) → b < length boxes → All (λ k. k < length old.cells) (box_at boxes b).ins × All (λ k. k < length old.cells) (box_at boxes b).outs)
          → map (pin_formulas new.cells) (map (moved_pins (new_place numbers)) boxes) ≡ map (renumbered_pins numbers) (map (pin_formulas old.cells) boxes)
      each [] there = refl
      each (b ∷ bs) there =
          let ins = map_places (formula_at new.cells) (formula_at old.cells) numbers (length old.cells) moved b.ins (there 0 (omega arith)).0 in
          let outs = map_places (formula_at new.cells) (formula_at old.cells) numbers (length old.cells) moved b.outs (there 0 (omega arith)).1 in
          let rest = each bs (λ c lt. there (suc c) (omega (arith, lt))) in
          λ i. record { ins = ins i; outs = outs i } ∷ rest i

  outs_renumbered : map (formula_at new.cells) new.outs ≡ map (λ j. renumbered numbers (get_or (map (formula_at old.cells) old.outs) j (Const false))) picks
  outs_renumbered =
      ap (map (formula_at new.cells)) r.outs
      ∙ map-map (formula_at new.cells) (λ j. new_place numbers (slice_index old.outs j)) picks
      ∙ map_same (λ j. formula_at new.cells (new_place numbers (slice_index old.outs j))) (λ j. renumbered numbers (get_or (map (formula_at old.cells) old.outs) j (Const false))) each picks
    where
      there : (j : ℕ) → slice_index old.outs j < length old.cells
      there j = elim (cases_lt j (length old.outs)) [
        | inl low ↦ kept.outs_there j 0 low
        | inr past ↦ omega (arith, get_or_past old.outs j 0 past, inputs_below old kept)
      ]

      each : (j : ℕ) → formula_at new.cells (new_place numbers (slice_index old.outs j)) ≡ renumbered numbers (get_or (map (formula_at old.cells) old.outs) j (Const false))
      each j =
          moved (slice_index old.outs j) (there j)
          ∙ ap (renumbered numbers) (sym (math.get_or-map (formula_at old.cells) old.outs j 0) ∙ ap (get_or (map (formula_at old.cells) old.outs) j) (first_false of_cells old kept))

-- isomorphic netlists that are rearranged in one way are isomorphic
pub rearranged_stay_isomorphic : FormulasAreOfCells → (numbers picks : List ℕ) (old new u v : Netlist) → IsNetlist old → IsNetlist new → IsNetlist u → IsNetlist v → IsRearranged numbers picks old new → IsRearranged numbers picks u v → AreIsomorphic old u → AreIsomorphic new v
rearranged_stay_isomorphic of_cells numbers picks old new u v kept_old kept_new kept_u kept_v r s alike = record {
  inputs = r.inputs ∙ alike.inputs ∙ sym s.inputs;
  cells =
      subst (λ fs. IsPermutation fs (cell_formulas v)) (sym (cells_renumbered of_cells numbers picks old new kept_old kept_new r))
      (subst (λ fs. IsPermutation (map (renumbered numbers) (cell_formulas old)) fs) (sym (cells_renumbered of_cells numbers picks u v kept_u kept_v s)) (IsPermutation-map (renumbered numbers) (cell_formulas old) (cell_formulas u) alike.cells));
  boxes =
      boxes_renumbered of_cells numbers picks old new kept_old kept_new r ∙ ap (map (renumbered_pins numbers)) alike.boxes ∙ sym (boxes_renumbered of_cells numbers picks u v kept_u kept_v s);
  outs =
      outs_renumbered of_cells numbers picks old new kept_old kept_new r
      ∙ ap (λ fs. map (λ j. renumbered numbers (get_or fs j (Const false))) picks) alike.outs
      ∙ sym (outs_renumbered of_cells numbers picks u v kept_u kept_v s);
}
