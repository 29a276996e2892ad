-- Netlists that are alike have the same bits when they are filled with the same tables: an old cell has its formula, and a place in a
-- tree has the same part of the column and the same bits at its pins.
use Rattle.std.proofs.Common.{◌≡◌, ℕ, zero, suc, ◌<◌, Bool, false, List, [], ◌∷◌, ◌++◌, length, map, take, drop, All, inl, inr, refl, sym, ap, ap₂, ◌∙◌, subst, arith, length-append}
use Rattle.std.specs.List.{slice_index_or}
use Rattle.std.proofs.lemmas.List.{drop_at, length-map, take_at}
use Rattle.std.proofs.lemmas.List.Elements.{All-head, All-tail}
use Rattle.bb_iso.specs.Laws.Isomorphism.{AreIsomorphic}
use Rattle.bb_iso.specs.Laws.Formulas.{Formula, BoxOut, cell_formula, formula_at, pin_formulas}
use Rattle.bb_iso.specs.Laws.{IsomorphicCellsHaveOneBit, IsomorphicNetsHaveCells, FormulasAreOfCells}
use Rattle.bb_bits.specs.Numbers.{number_of}
use Rattle.bb_bits.specs.Tables.{TableBits, column}
use Rattle.bb_net.specs.declared.cell.Cell.{Cell}
use Rattle.bb_net.specs.declared.cell.Cell.TheVariants as cell
use Rattle.bb_net.specs.Netlists.{Netlist, Pins, IsNetlist, box_at, cell_at}
use Rattle.bb_net.specs.Values.{FitBoxes, bit_of, flat, free_bit, tabled_bit, table_at}
use Rattle.bb_subst.specs.Filled.{IsFilled, IsPlaceOf}
use Rattle.bb_subst.specs.Laws.IsomorphismLaws.{IsomorphicFilledNetsHaveSameBits, HaveSameBits}
use Rattle.bb_subst.specs.Laws.EmbeddingLaws.{TreesChoose}
use Rattle.bb_subst.specs.Laws.FilledLaws.{FilledHaveBits}
use Rattle.bb_subst.specs.Trees.{IsTree, IsInTree}
use Rattle.bb_subst.proofs.FilledTrees.{tree_there}

-- the laws on which this rests
pub record IsomorphismLaws : Type 0 where
  pub formulas : FormulasAreOfCells
  pub cells : IsomorphicNetsHaveCells
  pub bits : IsomorphicCellsHaveOneBit
  pub have : FilledHaveBits
  pub choose : TreesChoose

-- a cell with the formula of an output pin is one
is_pin : (at : ℕ → Formula) (c : Cell) (b p : ℕ) → cell_formula at c ≡ BoxOut b p → c ≡ cell.BoxOut b p
is_pin at (cell.Const v) b p e = absurd (grind (arith, e))
is_pin at (cell.Input i) b p e = absurd (grind (arith, e))
is_pin at (cell.Not a) b p e = absurd (grind (arith, e))
is_pin at (cell.And a c) b p e = absurd (grind (arith, e))
is_pin at (cell.Or a c) b p e = absurd (grind (arith, e))
is_pin at (cell.Xor a c) b p e = absurd (grind (arith, e))
is_pin at (cell.Mux c t f) b p e = absurd (grind (arith, e))
is_pin at (cell.BoxOut c q) b p e = ap₂ cell.BoxOut (grind (arith, e)) (grind (arith, e))

-- the pins of each box have the same formulas
box_formulas : (cells others : List Cell) (ps qs : List Pins) → map (pin_formulas cells) ps ≡ map (pin_formulas others) qs → (c : ℕ) → pin_formulas cells (box_at ps c) ≡ pin_formulas others (box_at qs c)
box_formulas cells others [] [] e c = refl
box_formulas cells others [] (q ∷ qs) e c = cc
box_formulas cells others (p ∷ ps) [] e c = cc
box_formulas cells others (p ∷ ps) (q ∷ qs) e zero = cc
box_formulas cells others (p ∷ ps) (q ∷ qs) e (suc c) =
    let rest : map (pin_formulas cells) ps ≡ map (pin_formulas others) qs = cc in
    box_formulas cells others ps qs rest c

-- the bit of a cell by the inputs
abbrev bit_at : Netlist → List Bool → ℕ → Bool
bit_at net x = bit_of (flat net x [])

-- the same bits at a place of the other netlist
abbrev HasBits : Netlist → Netlist → ℕ → Type 0
HasBits new other place = (m : ℕ) × (m < length other.cells) × ((x : List Bool) → bit_at new x place ≡ bit_at other x m)

-- halves of one column are the same
halves_same : (a b c d : List Bool) → length a ≡ length b → length c ≡ length d → a ++ b ≡ c ++ d → (a ≡ c) × (b ≡ d)
halves_same a b c d one two e =
    let long : length c ≡ length a = omega (arith, one, two, ap length e, length-append a b, length-append c d) in (
      sym (take_at a b (length a) refl) ∙ ap (take (length a)) e ∙ take_at c d (length a) long,
      sym (drop_at a b (length a) refl) ∙ ap (drop (length a)) e ∙ drop_at c d (length a) long,
    )

module _ (choose : TreesChoose) (new other : Netlist) (kept : IsNetlist new) (kept_other : IsNetlist other) where
  -- trees over one column have the same bit where their pins have
  roots_same : (pins others : List ℕ) (bits : List Bool) (root base : ℕ) → IsTree new.cells pins bits root → IsTree other.cells others bits base
      → ((x : List Bool) → map (bit_at new x) pins ≡ map (bit_at other x) others) → HasBits new other root
  roots_same pins others bits root base tree also same = (
    base,
    tree_there other.cells others bits base also,
    λ x. choose new kept x (free_bit new.boxes []) pins bits root tree ∙ ap (λ l. slice_index_or bits (number_of l) false) (same x) ∙ sym (choose other kept_other x (free_bit other.boxes []) others bits base also),
  )

  -- and so has each place in them
  places_same : (pins others : List ℕ) (bits : List Bool) (root base place : ℕ) → IsTree new.cells pins bits root → IsTree other.cells others bits base
      → ((x : List Bool) → map (bit_at new x) pins ≡ map (bit_at other x) others) → IsInTree new.cells pins root place → HasBits new other place
  places_same [] others bits root base place tree also same is = subst (HasBits new other) (sym is) (roots_same [] others bits root base tree also same)
  places_same (pin ∷ pins) others bits root base place tree also same (inl is) = subst (HasBits new other) (sym is) (roots_same (pin ∷ pins) others bits root base tree also same)
  places_same (pin ∷ pins) [] bits root base place tree also same (inr within) = let long = ap length (same []) in absurd (omega (arith, long))
  places_same (pin ∷ pins) (one ∷ others) bits root base place tree also same (inr (low, high, is, inl within)) =
      let mux : cell.Mux pin tree.4 tree.3 ≡ cell.Mux pin high low = sym tree.7 ∙ is in
      let own : low ≡ tree.3 = grind (arith, mux) in
      let halves = halves_same also.1 also.2 tree.1 tree.2 also.6 tree.6 (sym also.5 ∙ tree.5) in
      places_same pins others tree.1 tree.3 also.3 place tree.8 (subst (λ l. IsTree other.cells others l also.3) halves.0 also.8) (λ x. ap (drop 1) (same x))
      (subst (λ n. IsInTree new.cells pins n place) own within)
  places_same (pin ∷ pins) (one ∷ others) bits root base place tree also same (inr (low, high, is, inr within)) =
      let mux : cell.Mux pin tree.4 tree.3 ≡ cell.Mux pin high low = sym tree.7 ∙ is in
      let own : high ≡ tree.4 = grind (arith, mux) in
      let halves = halves_same also.1 also.2 tree.1 tree.2 also.6 tree.6 (sym also.5 ∙ tree.5) in
      places_same pins others tree.2 tree.4 also.4 place tree.9 (subst (λ l. IsTree other.cells others l also.4) halves.1 also.9) (λ x. ap (drop 1) (same x))
      (subst (λ n. IsInTree new.cells pins n place) own within)

module _ (laws : IsomorphismLaws) (a b new other : Netlist) (tables : List TableBits) (at to : ℕ → ℕ) (kept_a : IsNetlist a) (kept_b : IsNetlist b) (kept : IsNetlist new) (kept_other : IsNetlist other)
    (alike : AreIsomorphic a b) (fit : FitBoxes tables a.boxes) (filled : IsFilled a tables new at) (also : IsFilled b tables other to) where
  boxes_same : (c : ℕ) → pin_formulas a.cells (box_at a.boxes c) ≡ pin_formulas b.cells (box_at b.boxes c)
  boxes_same = box_formulas a.cells b.cells a.boxes b.boxes alike.boxes

  boxes_many : length a.boxes ≡ length b.boxes
  boxes_many = sym (length-map a.boxes (pin_formulas a.cells)) ∙ ap length alike.boxes ∙ length-map b.boxes (pin_formulas b.cells)

  fit_both : FitBoxes tables b.boxes
  fit_both = record {
    count = fit.count ∙ boxes_many;
    inputs = λ c lt. fit.inputs c (omega (arith, lt, boxes_many)) ∙ sym (length-map (box_at a.boxes c).ins (formula_at a.cells)) ∙ ap (λ f. length f.ins) (boxes_same c) ∙ length-map (box_at b.boxes c).ins (formula_at b.cells);
    outputs = λ c lt. fit.outputs c (omega (arith, lt, boxes_many)) ∙ sym (length-map (box_at a.boxes c).outs (formula_at a.cells)) ∙ ap (λ f. length f.outs) (boxes_same c) ∙ length-map (box_at b.boxes c).outs (formula_at b.cells);
    whole = λ c lt. fit.whole c (omega (arith, lt, boxes_many));
  }

  -- cells of one formula
  cells_same : (k m : ℕ) → k < length a.cells → m < length b.cells → formula_at a.cells k ≡ formula_at b.cells m → (x : List Bool) → bit_at new x (at k) ≡ bit_at other x (to m)
  cells_same k m here there same x =
      laws.have a new tables at kept_a kept fit filled x k here ∙ laws.bits a b kept_a kept_b alike x (tabled_bit tables) (tabled_bit tables) (λ c p ins. refl) k m here there same
      ∙ sym (laws.have b other tables to kept_b kept_other fit_both also x m there)

  lists_same : (x : List Bool) (xs ys : List ℕ) → All (λ k. k < length a.cells) xs → All (λ k. k < length b.cells) ys → map (formula_at a.cells) xs ≡ map (formula_at b.cells) ys
      → map (bit_at new x) (map at xs) ≡ map (bit_at other x) (map to ys)
  lists_same x [] [] here there e = refl
  lists_same x [] (m ∷ ys) here there e = cc
  lists_same x (k ∷ xs) [] here there e = cc
  lists_same x (k ∷ xs) (m ∷ ys) here there e =
      let first : formula_at a.cells k ≡ formula_at b.cells m = cc in
      let rest : map (formula_at a.cells) xs ≡ map (formula_at b.cells) ys = cc in
      ap₂ ◌∷◌ (cells_same k m (All-head (λ k. k < length a.cells) k xs here) (All-head (λ k. k < length b.cells) m ys there) first x)
      (lists_same x xs ys (All-tail (λ k. k < length a.cells) k xs here) (All-tail (λ k. k < length b.cells) m ys there) rest)

  by_place : (place : ℕ) → IsPlaceOf a new at (length a.cells) place → HasBits new other place
  by_place place (inl (j, here, is)) =
      let found = laws.cells a b kept_a kept_b alike j here in
      (to found.0, also.occurs.there found.0 found.1, λ x. ap (bit_at new x) is ∙ cells_same j found.0 here found.1 found.2 x)
  by_place place (inr (j, c, p, here, is, within)) =
      let found = laws.cells a b kept_a kept_b alike j here in
      let pin : cell_at b.cells found.0 ≡ cell.BoxOut c p = is_pin (formula_at b.cells) (cell_at b.cells found.0) c p
      (sym (laws.formulas b kept_b found.0 found.1) ∙ sym found.2 ∙ laws.formulas a kept_a j here ∙ ap (cell_formula (formula_at a.cells)) is) in
      places_same laws.choose new other kept kept_other (map at (box_at a.boxes c).ins) (map to (box_at b.boxes c).ins) (column (table_at tables c) p) (at j) (to found.0) place
      (filled.trees j c p here is) (also.trees found.0 c p found.1 pin)
      (λ x. lists_same x (box_at a.boxes c).ins (box_at b.boxes c).ins (kept_a.pins_there c) (kept_b.pins_there c) (ap (λ f. f.ins) (boxes_same c))) within

  same_bits : HaveSameBits new other
  same_bits = record {
    inputs = filled.occurs.inputs ∙ alike.inputs ∙ sym also.occurs.inputs;
    outs = λ x. ap (map (bit_at new x)) filled.outs ∙ lists_same x a.outs b.outs kept_a.outs_there kept_b.outs_there alike.outs ∙ sym (ap (map (bit_at other x)) also.outs);
    cells = λ k lt. by_place k (filled.only k lt);
  }

pub isomorphic_filled_nets_have_same_bits : IsomorphismLaws → IsomorphicFilledNetsHaveSameBits
isomorphic_filled_nets_have_same_bits laws a b new other tables at to kept_a kept_b kept kept_other alike fit filled also = same_bits laws a b new other tables at to kept_a kept_b kept kept_other alike fit filled also
