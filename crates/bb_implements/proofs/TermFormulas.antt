-- Formulas of terms. Where formulas meet the equations of a list of cells, each step of an expression has that of what it is made of.
use Rattle.std.proofs.Common.{◌≡◌, ℕ, zero, suc, ◌+◌, ◌<◌, Bool, false, List, [], ◌∷◌, map, length, get_or, All, Contains, refl, sym, ap, ap₂, ◌∙◌, subst, arith}
use Rattle.std.specs.List.{enumerate_from}
use Rattle.std.proofs.lemmas.List.Elements.{All-contains, All-head, All-tail}
use Rattle.bb_ast.specs.Syntax.{Expression}
use Rattle.bb_iso.specs.Laws.Formulas.{Formula}
use Rattle.bb_iso.specs.Laws.Formulas as formula
use Rattle.bb_iso.specs.Laws.LooseFormulas.{IsFormulaOf, AreLooseFormulas}
use Rattle.bb_names.specs.declared.net.NetInfo.{NetInfo}
use Rattle.bb_names.specs.Nets.{nets_of}
use Rattle.bb_names.specs.Widths.{Ranges}
use Rattle.bb_names.specs.Declarations.{range_of}
use Rattle.bb_expr.specs.declared.step.BitStep.{BitStep}
use Rattle.bb_expr.specs.declared.step.BitStep.TheVariants as steps
use Rattle.bb_expr.specs.Lowered.{ReadsEarlier, step_term, term_within, term_at, IsLowered}
use Rattle.bb_expr.specs.Terms.{Term}
use Rattle.bb_expr.specs.Terms as term
use Rattle.bb_expr.specs.Cells.{made}
use Rattle.bb_net.specs.declared.loose.LooseCell.{LooseCell}
use Rattle.bb_net.specs.declared.loose.LooseCell.TheVariants as cell
use Rattle.bb_net.specs.Loose.{LooseList}
use Rattle.bb_design.specs.Hierarchy.{Design, Scope}
use Rattle.bb_design.specs.Contexts.{made_in}
use Rattle.bb_design.specs.Constructs.{Construct, parts}
use Rattle.bb_implements.specs.Places.{CellName, Constant, NetBit, Step, lowered_in, Lowering, IsLowering, step_places, IsListOf}
use Rattle.bb_lemmas.proofs.Numbered.{enumerated_from, numbered_at}
use Rattle.bb_implements.proofs.ListedPlaces.{IsListed, Occurs, lowered_at, listed_cell, listed_below, constant_listed, step_occurs}

-- the formula of a term, where at gives those of the bits of nets
abbrev pub term_formula : (List ℕ → ℕ → Formula) → Term → Formula
term_formula at (term.Const b) = formula.Const b
term_formula at (term.Net n i) = at n i
term_formula at (term.Not a) = formula.Not (term_formula at a)
term_formula at (term.And a b) = formula.And (term_formula at a) (term_formula at b)
term_formula at (term.Or a b) = formula.Or (term_formula at a) (term_formula at b)
term_formula at (term.Xor a b) = formula.Xor (term_formula at a) (term_formula at b)
term_formula at (term.Mux c t e) = formula.Mux (term_formula at c) (term_formula at t) (term_formula at e)

-- those of the bits of a scope, where v gives those of places
abbrev pub formulas_in : (CellName → Formula) → Scope → List ℕ → ℕ → Formula
formulas_in v s n i = v (NetBit (record { path = s.path; net = n; place = i }))

-- what a step is made of, by what the steps are made of that it reads
module _ (nets : List NetInfo) (all : List BitStep) (earlier : All (λ x. ReadsEarlier nets x.0 x.1) (enumerate_from 0 all)) where
  pub reads_at : (j : ℕ) → j < length all → ReadsEarlier nets j (get_or all j (steps.Const false))
  reads_at j fits = All-contains (λ (z : ℕ × BitStep). ReadsEarlier nets z.0 z.1) (enumerate_from 0 all) (j, get_or all j (steps.Const false)) earlier (numbered_at all j (steps.Const false) fits)

  step_same : (one other : ℕ → Term) (j : ℕ) → ((a : ℕ) → a < j → one a ≡ other a) → (step : BitStep) → ReadsEarlier nets j step → step_term nets step one ≡ step_term nets step other
  step_same one other j same (steps.Const b) reads = refl
  step_same one other j same (steps.Net m i) reads = refl
  step_same one other j same (steps.Not a) reads = ap term.Not (same a reads)
  step_same one other j same (steps.And a b) reads = ap₂ term.And (same a reads.0) (same b reads.1)
  step_same one other j same (steps.Or a b) reads = ap₂ term.Or (same a reads.0) (same b reads.1)
  step_same one other j same (steps.Xor a b) reads = ap₂ term.Xor (same a reads.0) (same b reads.1)
  step_same one other j same (steps.Mux i t e) reads = let first = same i reads.0 in let second = same t reads.1 in let third = same e reads.2 in λ q. term.Mux (first q) (second q) (third q)

  -- more steps from operand to operand change nothing
  steady : (m n j : ℕ) → j < m → j < n → j < length all → term_within nets all m j ≡ term_within nets all n j
  unfolding term_within
  steady zero n j low high fits = absurd (omega (arith, low))
  steady (suc m) zero j low high fits = absurd (omega (arith, high))
  steady (suc m) (suc n) j low high fits =
      step_same (term_within nets all m) (term_within nets all n) j (λ a lt. steady m n a (omega (arith, lt, low)) (omega (arith, lt, high)) (omega (arith, lt, fits))) (get_or all j (steps.Const false)) (reads_at j fits)

  pub term_next : (j : ℕ) → j < length all → term_at nets all j ≡ step_term nets (get_or all j (steps.Const false)) (term_at nets all)
  unfolding term_within
  term_next j fits =
      let one : j + 1 ≡ suc j = omega arith in
      ap (λ n. term_within nets all n j) one
      ∙ step_same (term_within nets all j) (term_at nets all) j (λ a lt. steady j (a + 1) a lt (omega arith) (omega (arith, lt, fits))) (get_or all j (steps.Const false)) (reads_at j fits)

-- the places of an expression have the formulas of its bits, where each step has that of what it is made of
pub made_formulas : (v : CellName → Formula) (at : List ℕ → ℕ → Formula) (lowering : Lowering) (k n : ℕ) (nets : List NetInfo) (ranges : Ranges) (e : Expression) (w : ℕ) → IsLowered nets ranges e w (lowering k n).all (lowering k n).bits
    → ((j : ℕ) → j < length (lowering k n).all → v (Step k n j) ≡ term_formula at (term_at nets (lowering k n).all j)) → map v (step_places lowering k n) ≡ map (term_formula at) (made ranges e w).bits
made_formulas v at lowering k n nets ranges e w low each = from (lowering k n).bits low.places ∙ ap (map (term_formula at)) low.terms
  where
    from : (js : List ℕ) → All (λ j. j < length (lowering k n).all) js → map v (map (Step k n) js) ≡ map (term_formula at) (map (term_at nets (lowering k n).all) js)
    from [] fits = refl
    from (j ∷ js) fits = ap₂ ◌∷◌ (each j (All-head (λ j. j < length (lowering k n).all) j js fits)) (from js (All-tail (λ j. j < length (lowering k n).all) j js fits))

module _ (d : Design) (lowering : Lowering) (l : LooseList) (list : IsListOf d lowering l) (lowered : IsLowering d lowering) (numbers : List ℕ) (at : ℕ → Formula) (meets : AreLooseFormulas l numbers at) where
  -- the formula at a place
  abbrev pub formula_of : CellName → Formula
  formula_of p = at (list.number p)

  pub equation : (p : CellName) (c : LooseCell) → IsListed d lowering l list p c → IsFormulaOf numbers at c (formula_of p)
  equation p c has = subst (λ u. IsFormulaOf numbers at u (formula_of p)) (listed_cell d lowering l list p c has) (meets (list.number p) (listed_below d lowering l list p c has))

  pub constant_formula : (b : Bool) → formula_of (Constant b) ≡ formula.Const b
  constant_formula b = equation (Constant b) (cell.Const b) (constant_listed d lowering l list b)

  module _ (k : ℕ) (s : Scope) (c : Construct) (has : Contains (enumerate_from 0 (parts d)) (k, (s, c))) (n : ℕ) where
    abbrev all : List BitStep
    all = (lowering k n).all

    abbrev term_of : ℕ → Term
    term_of j = term_at (nets_of s.source) all j

    -- a step has the formula of what it is made of, where the steps that it reads have theirs
    one_step : (j : ℕ) → ((a : ℕ) → a < j → formula_of (Step k n a) ≡ term_formula (formulas_in formula_of s) (term_of a)) → (step : BitStep) → ReadsEarlier (nets_of s.source) j step → Occurs d lowering l list k s n j step
        → formula_of (Step k n j) ≡ term_formula (formulas_in formula_of s) (step_term (nets_of s.source) step term_of)
    one_step j earlier (steps.Const b) reads occurs = ap at occurs.0 ∙ constant_formula b
    one_step j earlier (steps.Net m i) reads occurs = ap at occurs.0
    one_step j earlier (steps.Not a) reads occurs = equation (Step k n j) _ occurs.1 ∙ ap formula.Not (earlier a reads)
    one_step j earlier (steps.And a b) reads occurs = equation (Step k n j) _ occurs.1 ∙ ap₂ formula.And (earlier a reads.0) (earlier b reads.1)
    one_step j earlier (steps.Or a b) reads occurs = equation (Step k n j) _ occurs.1 ∙ ap₂ formula.Or (earlier a reads.0) (earlier b reads.1)
    one_step j earlier (steps.Xor a b) reads occurs = equation (Step k n j) _ occurs.1 ∙ ap₂ formula.Xor (earlier a reads.0) (earlier b reads.1)
    one_step j earlier (steps.Mux i t e) reads occurs =
        let first = earlier i reads.0 in
        let second = earlier t reads.1 in
        let third = earlier e reads.2 in
        equation (Step k n j) _ occurs.1 ∙ (λ q. formula.Mux (first q) (second q) (third q))

    module _ (e : Expression) (w : ℕ) (there : Contains (enumerate_from 0 (lowered_in (s, c))) (n, (e, w))) where
      abbrev low : IsLowered (nets_of s.source) (range_of s.source) e w (lowering k n).all (lowering k n).bits
      low = lowered_at d lowering lowered k s c has n e w there

      within : (m j : ℕ) → j < m → j < length all → formula_of (Step k n j) ≡ term_formula (formulas_in formula_of s) (term_of j)
      within zero j below fits = absurd (omega (arith, below))
      within (suc m) j below fits =
          let y = enumerated_from 0 (lowered_in (s, c)) n (e, w) there in
          one_step j (λ a lt. within m a (omega (arith, lt, below)) (omega (arith, lt, fits))) (get_or all j (steps.Const false)) (reads_at (nets_of s.source) all low.earlier j fits)
          (step_occurs d lowering l list k s c has n (omega (arith, y.1, y.2)) j fits)
          ∙ ap (term_formula (formulas_in formula_of s)) (sym (term_next (nets_of s.source) all low.earlier j fits))

      pub step_formula : (j : ℕ) → j < length all → formula_of (Step k n j) ≡ term_formula (formulas_in formula_of s) (term_of j)
      step_formula j fits = within (suc j) j (omega arith) fits

      -- the steps of an expression have the formulas of its bits
      pub expression_formulas : map formula_of (step_places lowering k n) ≡ map (term_formula (formulas_in formula_of s)) (made_in s e w).bits
      expression_formulas = made_formulas formula_of (formulas_in formula_of s) lowering k n (nets_of s.source) (range_of s.source) e w low step_formula
