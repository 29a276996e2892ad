-- The formulas of an ordered netlist are the only ones that meet the equations of the list of which it is an order.
use Rattle.std.proofs.Common.{◌≡◌, ◌≢◌, ℕ, ◌<◌, ◌⊎◌, zero, suc, List, length, refl, sym, ap, ap₂, subst, ◌∙◌, inl, inr, arith}
use Rattle.std.specs.Prelude.{All, AllPairs, slice_index}
use Rattle.std.proofs.lemmas.Bool.{cases_lt}
use Rattle.bb_net.specs.declared.cell.Cell.{Cell}
use Rattle.bb_net.specs.declared.loose.LooseCell.{LooseCell}
use Rattle.bb_net.specs.declared.loose.LooseCell.TheVariants as loose
use Rattle.bb_net.specs.Loose.{LooseList, IsLoose, loose_at, operand_places}
use Rattle.bb_net.specs.Netlists.{Netlist, Pins, cell_at, ReadsBefore, IsNetlist}
use Rattle.bb_net.specs.Orders.{IsNoCopy, IsCopySource, IsMoved, IsOrderOf}
use Rattle.bb_iso.specs.Laws.Formulas.{Formula, Not, And, Or, Xor, Mux, BoxOut, cell_formula, formula_at}
use Rattle.bb_iso.specs.Laws.LooseFormulas.{IsFormulaOf, AreLooseFormulas, OrderKeepsFormulas}
use Rattle.bb_iso.proofs.FormulaLemmas.{formula_at-cell}

copy_or_kept : (c : LooseCell) → ((p : ℕ) × (c ≡ loose.Copy p)) ⊎ IsNoCopy c
copy_or_kept (loose.Copy p) = inl (p, refl)
copy_or_kept (loose.Const b) = inr tt
copy_or_kept (loose.Input i) = inr tt
copy_or_kept (loose.Not a) = inr tt
copy_or_kept (loose.And a b) = inr tt
copy_or_kept (loose.Or a b) = inr tt
copy_or_kept (loose.Xor a b) = inr tt
copy_or_kept (loose.Mux a b c) = inr tt
copy_or_kept (loose.BoxOut b p) = inr tt

-- a number is at one place
one_place : (numbers : List ℕ) → AllPairs ◌≢◌ numbers → (b c : ℕ) → b < length numbers → c < length numbers → slice_index numbers b ≡ slice_index numbers c → b ≡ c
one_place numbers apart b c here there same = elim (cases_lt b c) [
  | inl low ↦ absurd (apart b c 0 low there same)
  | inr high ↦ elim (cases_lt c b) [ inl low ↦ absurd (apart c b 0 low here (sym same)) | inr low ↦ omega (arith, high, low) ]
]

module _ (numbers : List ℕ) (apart : AllPairs ◌≢◌ numbers) (to : ℕ → ℕ) (inputs count place : ℕ) (old new : List Pins) (at w : ℕ → Formula) where
  -- what meets the equation of a cell is the formula of the moved cell, where that is so for its operands, which precede it
  formula_moved : (c : LooseCell) (d : Cell) (f : Formula) → IsFormulaOf numbers at c f → IsMoved to numbers c d → ReadsBefore inputs new place d → All (λ k. k < count) (operand_places old c)
      → ((k : ℕ) → k < count → to k < place → at k ≡ w (to k)) → f ≡ cell_formula w d
  formula_moved (loose.Const b) d f is m read there same = is ∙ ap (cell_formula w) (sym m)
  formula_moved (loose.Input i) d f is m read there same = is ∙ ap (cell_formula w) (sym m)
  formula_moved (loose.Not a) d f is m read there same =
      let r = subst (ReadsBefore inputs new place) m read in
      is ∙ ap Not (same a (there 0 0 (omega arith)) r) ∙ ap (cell_formula w) (sym m)
  formula_moved (loose.And a b) d f is m read there same =
      let r = subst (ReadsBefore inputs new place) m read in
      is ∙ ap₂ And (same a (there 0 0 (omega arith)) r.0) (same b (there 1 0 (omega arith)) r.1) ∙ ap (cell_formula w) (sym m)
  formula_moved (loose.Or a b) d f is m read there same =
      let r = subst (ReadsBefore inputs new place) m read in
      is ∙ ap₂ Or (same a (there 0 0 (omega arith)) r.0) (same b (there 1 0 (omega arith)) r.1) ∙ ap (cell_formula w) (sym m)
  formula_moved (loose.Xor a b) d f is m read there same =
      let r = subst (ReadsBefore inputs new place) m read in
      is ∙ ap₂ Xor (same a (there 0 0 (omega arith)) r.0) (same b (there 1 0 (omega arith)) r.1) ∙ ap (cell_formula w) (sym m)
  formula_moved (loose.Mux c t e) d f is m read there same =
      let r = subst (ReadsBefore inputs new place) m read in
      let p = same c (there 0 0 (omega arith)) r.0 in
      let q = same t (there 1 0 (omega arith)) r.1 in
      let s = same e (there 2 0 (omega arith)) r.2 in
      let mux : Mux (at c) (at t) (at e) ≡ Mux (w (to c)) (w (to t)) (w (to e)) = λ i. Mux (p i) (q i) (s i) in
      is ∙ mux ∙ ap (cell_formula w) (sym m)
  formula_moved (loose.BoxOut n p) d f is m read there same =
      is.3 ∙ ap (λ b. BoxOut b p) (one_place numbers apart is.0 m.0 is.1 m.1 (is.2 ∙ sym m.2)) ∙ ap (cell_formula w) (sym m.3)
  formula_moved (loose.Copy p) d f is m read there same = absurd m

  -- and the formula of the moved cell meets the equation
  formula_back : (c : LooseCell) (d : Cell) (f : Formula) → f ≡ cell_formula w d → IsMoved to numbers c d → All (λ k. k < count) (operand_places old c) → ((k : ℕ) → k < count → at k ≡ w (to k)) → IsFormulaOf numbers at c f
  formula_back (loose.Const b) d f is m there same = is ∙ ap (cell_formula w) m
  formula_back (loose.Input i) d f is m there same = is ∙ ap (cell_formula w) m
  formula_back (loose.Not a) d f is m there same = is ∙ ap (cell_formula w) m ∙ ap Not (sym (same a (there 0 0 (omega arith))))
  formula_back (loose.And a b) d f is m there same = is ∙ ap (cell_formula w) m ∙ ap₂ And (sym (same a (there 0 0 (omega arith)))) (sym (same b (there 1 0 (omega arith))))
  formula_back (loose.Or a b) d f is m there same = is ∙ ap (cell_formula w) m ∙ ap₂ Or (sym (same a (there 0 0 (omega arith)))) (sym (same b (there 1 0 (omega arith))))
  formula_back (loose.Xor a b) d f is m there same = is ∙ ap (cell_formula w) m ∙ ap₂ Xor (sym (same a (there 0 0 (omega arith)))) (sym (same b (there 1 0 (omega arith))))
  formula_back (loose.Mux c t e) d f is m there same =
      let p = same c (there 0 0 (omega arith)) in
      let q = same t (there 1 0 (omega arith)) in
      let s = same e (there 2 0 (omega arith)) in
      let mux : Mux (at c) (at t) (at e) ≡ Mux (w (to c)) (w (to t)) (w (to e)) = λ i. Mux (p i) (q i) (s i) in
      is ∙ ap (cell_formula w) m ∙ sym mux
  formula_back (loose.BoxOut n p) d f is m there same = (m.0, m.1, m.2, is ∙ ap (cell_formula w) m.3)
  formula_back (loose.Copy p) d f is m there same = absurd m

-- the end of a chain of copies
record Ends (l : LooseList) (to : ℕ → ℕ) (at : ℕ → Formula) (k source : ℕ) : Type 0 where
  pub there : source < length l.cells
  pub kept : IsNoCopy (loose_at l source)
  pub place : to k ≡ to source
  pub formula : at k ≡ at source

module _ (l : LooseList) (net : Netlist) (numbers : List ℕ) (list : IsLoose l) (kept : IsNetlist net) (o : IsOrderOf l net numbers) (at : ℕ → Formula) where
  source_ends : AreLooseFormulas l numbers at → (n k source : ℕ) → k < length l.cells → IsCopySource n l k source → Ends l o.to at k source
  source_ends each zero k source h s = record {
    there = subst (λ j. j < length l.cells) s.0 h;
    kept = subst (λ j. IsNoCopy (loose_at l j)) s.0 s.1;
    place = ap o.to s.0;
    formula = ap at s.0;
  }
  source_ends each (suc n) k source h s =
      let p = s.0 in
      let rest = source_ends each n p source s.1 s.3 in
      let copy : at k ≡ at p = subst (λ c. IsFormulaOf numbers at c (at k)) s.2 (each k h) in
      record { there = rest.there; kept = rest.kept; place = o.copies k p h s.2 ∙ rest.place; formula = copy ∙ rest.formula }

  -- formulas that meet the equations are those of the netlist
  solution_is : AreLooseFormulas l numbers at → (bound k : ℕ) → k < length l.cells → o.to k < bound → at k ≡ formula_at net.cells (o.to k)
  solution_is each zero k h small = absurd (omega arith)
  solution_is each (suc bound) k h small =
      let chain = o.sources k h in
      let s = chain.1 in
      let end = source_ends each chain.0 k s h chain.2 in
      let there = o.there s end.there in
      end.formula
      ∙ formula_moved numbers o.numbers_apart o.to net.inputs (length l.cells) (o.to s) l.boxes net.boxes at (formula_at net.cells) (loose_at l s) (cell_at net.cells (o.to s)) (at s) (each s end.there) (o.moved s end.there end.kept) (kept.ordered (o.to s) there) (list.there s end.there)
      (λ a low below. solution_is each bound a low (omega (arith, below, end.place, small)))
      ∙ sym (formula_at-cell net kept.ordered (o.to s) there)
      ∙ ap (formula_at net.cells) (sym end.place)

  -- and those of the netlist meet them
  is_solution : ((k : ℕ) → k < length l.cells → at k ≡ formula_at net.cells (o.to k)) → AreLooseFormulas l numbers at
  is_solution same k h = elim (copy_or_kept (loose_at l k)) [
    | inl copy ↦
        let p = copy.0 in
        let low : p < length l.cells = subst (λ c. All (λ j. j < length l.cells) (operand_places l.boxes c)) copy.1 (list.there k h) 0 0 (omega arith) in
        subst (λ c. IsFormulaOf numbers at c (at k)) (sym copy.1) (same k h ∙ ap (formula_at net.cells) (o.copies k p h copy.1) ∙ sym (same p low))
    | inr keep ↦
        formula_back numbers o.numbers_apart o.to net.inputs (length l.cells) (o.to k) l.boxes net.boxes at (formula_at net.cells) (loose_at l k) (cell_at net.cells (o.to k)) (at k) (same k h ∙ formula_at-cell net kept.ordered (o.to k) (o.there k h)) (o.moved k h keep) (list.there k h) same
  ]

pub order_keeps_formulas : OrderKeepsFormulas
order_keeps_formulas l net numbers list kept o at = (λ each k h. solution_is l net numbers list kept o at each (suc (o.to k)) k h (omega arith), is_solution l net numbers list kept o at)
