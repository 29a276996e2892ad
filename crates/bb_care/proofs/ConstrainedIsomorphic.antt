-- Pairs whose outputs count only where a care cell is 1 are alike where they were and the care cells have one formula.
use Rattle.std.proofs.Common.{◌≡◌, ℕ, zero, suc, ◌+◌, ◌-◌, ◌<◌, List, [], ◌++◌, length, map, All, sym, ap, ap₂, ◌∙◌, subst, arith, length-append}
use Rattle.std.specs.Prelude.{slice_index}
use Rattle.std.specs.List.{range_with_len}
use Rattle.std.specs.List.Sorted.{IsPermutation}
use Rattle.std.proofs.lemmas.List.{length-map}
use Rattle.std.proofs.lemmas.List.Sorted.{IsPermutation-refl}
use Rattle.bb_iso.specs.Laws.Isomorphism.{AreIsomorphic, AreIsomorphicPairs}
use Rattle.bb_iso.specs.Laws.Formulas.{Formula, And, cell_formula, cell_formulas, formula_at}
use Rattle.bb_iso.specs.Laws.{FormulasAreOfCells}
use Rattle.bb_lemmas.proofs.Maps.{map-twice}
use Rattle.bb_net.specs.declared.cell.Cell.TheVariants as cell
use Rattle.bb_net.specs.Netlists.{Netlist, IsNetlist, cell_at}
use Rattle.bb_net.specs.Pairs.{NetPair, IsPair}
use Rattle.bb_care.specs.Constrained.{specification_copies, copy_place, guarded, with_copies}
use Rattle.bb_care.specs.Laws.{ConstrainedPairsStayIsomorphic}
use Rattle.bb_care.proofs.ConstrainedCells.{copied_length, copy_after, copy_cell, copy_there, guarded_and, guarded_length, inputs_fit}
use Rattle.bb_care.proofs.ConstrainedPairs.{ands, care_there, copy_is_netlist, imp_is_netlist, spec_is_netlist}
use Rattle.bb_care.proofs.GrownFormulas.{grown_isomorphic, map_below, map_places, map_ranges, moved_formula, old_formula}

-- the Ands

module _ (of_cells : FormulasAreOfCells) (care : ℕ) (outs : List ℕ) (net : Netlist) (kept : IsNetlist net) (there : All (λ out. out < length net.cells) outs) (low : care < length net.cells) (also : IsNetlist (guarded care outs net)) where
  abbrev now : ℕ → Formula
  now = formula_at (net.cells ++ ands care outs)

  -- what an And is made of
  abbrev guard : Formula → Formula
  guard f = And f (formula_at net.cells care)

  and_formula : (i k : ℕ) → length net.cells + i ≡ k → i < length outs → now k ≡ guard (formula_at net.cells (slice_index outs i))
  and_formula i k is lt =
      of_cells (guarded care outs net) also k (omega (arith, is, lt, guarded_length care outs net))
      ∙ ap (cell_formula now) (ap (cell_at (net.cells ++ ands care outs)) (sym is) ∙ guarded_and care outs net i lt)
      ∙ ap₂ And (old_formula of_cells net kept (ands care outs) (range_with_len (length net.cells) (length outs)) also (slice_index outs i) (there i 0 lt))
      (old_formula of_cells net kept (ands care outs) (range_with_len (length net.cells) (length outs)) also care low)

  and_formulas : map now (range_with_len (length net.cells) (length outs)) ≡ map guard (map (formula_at net.cells) outs)
  and_formulas = map_places now (λ out. guard (formula_at net.cells out)) (length net.cells) outs and_formula ∙ sym (map-twice (formula_at net.cells) guard outs)

  new_formulas : map now (range_with_len (length net.cells) (length (ands care outs))) ≡ map guard (map (formula_at net.cells) outs)
  new_formulas = ap (λ n. map now (range_with_len (length net.cells) n)) (length-map outs (λ out. cell.And out care)) ∙ and_formulas

-- with the Ands alike netlists are alike
guarded_isomorphic : FormulasAreOfCells → (a b : Netlist) → IsNetlist a → IsNetlist b → (care other : ℕ) → care < length a.cells → other < length b.cells → IsNetlist (guarded care a.outs a) → IsNetlist (guarded other b.outs b)
    → AreIsomorphic a b → formula_at a.cells care ≡ formula_at b.cells other → AreIsomorphic (guarded care a.outs a) (guarded other b.outs b)
guarded_isomorphic of_cells a b kept_a kept_b care other low_a low_b also_a also_b alike same =
    grown_isomorphic of_cells a b kept_a kept_b (ands care a.outs) (ands other b.outs) (range_with_len (length a.cells) (length a.outs)) (range_with_len (length b.cells) (length b.outs)) also_a also_b alike
    (subst (IsPermutation left) (new_formulas of_cells care a.outs a kept_a kept_a.outs_there low_a also_a ∙ equal ∙ sym (new_formulas of_cells other b.outs b kept_b kept_b.outs_there low_b also_b)) (IsPermutation-refl left))
    (and_formulas of_cells care a.outs a kept_a kept_a.outs_there low_a also_a ∙ equal ∙ sym (and_formulas of_cells other b.outs b kept_b kept_b.outs_there low_b also_b))
  where
    left : List Formula
    left = map (formula_at (a.cells ++ ands care a.outs)) (range_with_len (length a.cells) (length (ands care a.outs)))

    equal : map (λ f. And f (formula_at a.cells care)) (map (formula_at a.cells) a.outs) ≡ map (λ f. And f (formula_at b.cells other)) (map (formula_at b.cells) b.outs)
    equal = ap₂ (λ (g : Formula) (fs : List Formula). map (λ f. And f g) fs) same alike.outs

-- the copies

module _ (of_cells : FormulasAreOfCells) (spec imp : Netlist) (kept : IsNetlist spec) (also : IsNetlist imp) (none : spec.boxes ≡ []) (inputs : spec.inputs ≡ imp.inputs) (with : IsNetlist (with_copies spec imp)) where
  abbrev to : ℕ → ℕ
  to = copy_place spec imp

  abbrev copied : ℕ → Formula
  copied = formula_at (imp.cells ++ specification_copies spec imp)

  copy_within : (bound k : ℕ) → k < bound → k < length spec.cells → copied (to k) ≡ formula_at spec.cells k
  copy_within zero k low there = absurd (omega (arith, low))
  copy_within (suc bound) k low there =
      of_cells (with_copies spec imp) with (to k) (copy_there spec imp (inputs_fit spec imp also inputs) k there)
      ∙ ap (cell_formula copied) (copy_cell spec imp kept also inputs k there)
      ∙ moved_formula spec.inputs spec.boxes to (formula_at spec.cells) copied k (cell_at spec.cells k) (kept.ordered k there) (λ j below. copy_within bound j (omega (arith, low, below)) (omega (arith, there, below)))
      ∙ sym (of_cells spec kept k there)

  -- a copy has the formula of its cell
  copy_formula : (k : ℕ) → k < length spec.cells → copied (to k) ≡ formula_at spec.cells k
  copy_formula k there = copy_within (suc k) k (omega arith) there

  copy_formulas : map copied (range_with_len (length imp.cells) (length (specification_copies spec imp))) ≡ cell_formulas spec
  copy_formulas =
      ap (λ n. map copied (range_with_len (length imp.cells) n)) (omega (arith, copied_length spec imp, length-append imp.cells (specification_copies spec imp)))
      ∙ map_ranges copied (formula_at spec.cells) (length imp.cells) (spec.inputs + 2) (length spec.cells - (spec.inputs + 2)) (λ i lt.
      ap copied (sym (copy_after spec imp (spec.inputs + 2 + i) (omega arith) ∙ omega arith)) ∙ copy_formula (spec.inputs + 2 + i) (omega (arith, lt)))

  outs_stay : map copied imp.outs ≡ map (formula_at imp.cells) imp.outs
  outs_stay = map_below copied (formula_at imp.cells) (length imp.cells) (old_formula of_cells imp also (specification_copies spec imp) imp.outs with) imp.outs also.outs_there

-- with the copies alike netlists are alike
copied_isomorphic : FormulasAreOfCells → (p q : NetPair) → IsPair p → IsPair q → AreIsomorphicPairs p q → IsNetlist (with_copies p.spec p.imp) → IsNetlist (with_copies q.spec q.imp) → AreIsomorphic (with_copies p.spec p.imp) (with_copies q.spec q.imp)
copied_isomorphic of_cells p q one two alike with_p with_q =
    grown_isomorphic of_cells p.imp q.imp one.imp two.imp (specification_copies p.spec p.imp) (specification_copies q.spec q.imp) p.imp.outs q.imp.outs with_p with_q alike.imp
    (subst (λ fs. IsPermutation fs right) (sym (copy_formulas of_cells p.spec p.imp one.spec one.imp one.beside.no_box one.beside.inputs with_p))
    (subst (IsPermutation (cell_formulas p.spec)) (sym (copy_formulas of_cells q.spec q.imp two.spec two.imp two.beside.no_box two.beside.inputs with_q)) alike.spec.cells))
    (outs_stay of_cells p.spec p.imp one.spec one.imp one.beside.no_box one.beside.inputs with_p ∙ alike.imp.outs ∙ sym (outs_stay of_cells q.spec q.imp two.spec two.imp two.beside.no_box two.beside.inputs with_q))
  where
    right : List Formula
    right = map (formula_at (q.imp.cells ++ specification_copies q.spec q.imp)) (range_with_len (length q.imp.cells) (length (specification_copies q.spec q.imp)))

pub constrained_pairs_stay_isomorphic : FormulasAreOfCells → ConstrainedPairsStayIsomorphic
constrained_pairs_stay_isomorphic of_cells p q care other one two alike low_p low_q same = record {
  spec = guarded_isomorphic of_cells p.spec q.spec one.spec two.spec care other low_p low_q (spec_is_netlist p care one low_p) (spec_is_netlist q other two low_q) alike.spec same;
  imp =
      guarded_isomorphic of_cells (with_copies p.spec p.imp) (with_copies q.spec q.imp) with_p with_q (copy_place p.spec p.imp care) (copy_place q.spec q.imp other)
      (care_there p care one low_p) (care_there q other two low_q)
      (imp_is_netlist p care one low_p) (imp_is_netlist q other two low_q) (copied_isomorphic of_cells p q one two alike with_p with_q)
      (copy_formula of_cells p.spec p.imp one.spec one.imp one.beside.no_box one.beside.inputs with_p care low_p
      ∙ same ∙ sym (copy_formula of_cells q.spec q.imp two.spec two.imp two.beside.no_box two.beside.inputs with_q other low_q));
  ins = alike.ins;
  outs = alike.outs;
  boxes = alike.boxes;
  kinds = alike.kinds;
}
  where
    with_p : IsNetlist (with_copies p.spec p.imp)
    with_p = copy_is_netlist p care one low_p

    with_q : IsNetlist (with_copies q.spec q.imp)
    with_q = copy_is_netlist q other two low_q
