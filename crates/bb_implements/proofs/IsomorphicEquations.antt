-- Formulas made of those of one list of cells of a design meet the equations of another, which has other numbers and other steps.
use Rattle.std.proofs.Common.{◌≡◌, ◌⊎◌, ℕ, zero, suc, ◌-◌, ◌<◌, ◌≤◌, true, false, List, flat_map, length, get_or, All, Contains, sym, ap, ap₂, ◌∙◌, subst, inl, inr, arith}
use Rattle.std.specs.List.{enumerate_from}
use Rattle.std.specs.Prelude.{IfSome}
use Rattle.std.proofs.lemmas.List.Elements.{All-contains, Contains-get_or}
use Rattle.bb_iso.specs.Laws.Formulas.{Formula}
use Rattle.bb_iso.specs.Laws.Formulas as formula
use Rattle.bb_iso.specs.Laws.LooseFormulas.{IsFormulaOf, AreLooseFormulas}
use Rattle.bb_ast.specs.declared.module.Gate.{Gate}
use Rattle.bb_ast.specs.declared.module.Gate.TheVariants as gates
use Rattle.bb_ast.specs.Syntax.{Expression, Plain}
use Rattle.bb_names.specs.Nets.{nets_of}
use Rattle.bb_expr.specs.declared.step.BitStep.{BitStep}
use Rattle.bb_expr.specs.declared.step.BitStep.TheVariants as steps
use Rattle.bb_expr.specs.Lowered.{ReadsEarlier, step_term, term_at}
use Rattle.bb_expr.specs.Terms.{Term}
use Rattle.bb_net.specs.declared.loose.LooseCell.{LooseCell}
use Rattle.bb_net.specs.declared.loose.LooseCell.TheVariants as cell
use Rattle.bb_net.specs.Loose.{LooseList, loose_at}
use Rattle.bb_design.specs.Hierarchy.{Design, Scope}
use Rattle.bb_design.specs.NetBits.{Bit, net_order}
use Rattle.bb_design.specs.Contexts.{width_of}
use Rattle.bb_design.specs.Constructs.{Construct, GateInstance, parts}
use Rattle.bb_design.specs.GateFunctions.{inverts}
use Rattle.bb_implements.specs.Places.{CellName, Constant, Input, NetBit, Step, Joined, Inverted, BoxPin, lowered_in, Lowering, IsLowering, terminal_place, joined_place, driving_places, data_at, place_in, step_cell, net_place, join_cell, placed_cells, IsListOf}
use Rattle.bb_lemmas.proofs.Orders.{less_or_not}
use Rattle.bb_lemmas.proofs.Numbered.{enumerated_from, numbered_at, from_numbered}
use Rattle.bb_implements.proofs.ListedEntries.{Entry, each_entry}
use Rattle.bb_implements.proofs.ListedPlaces.{IsListed, Occurs, lowered_at, reads_there, listed_cell, listed_below, listed_at, constant_listed, input_listed, net_listed, pin_listed, step_occurs, joined_listed, inverted_listed}
use Rattle.bb_implements.proofs.ListedSources.{terminal_there, net_bit_of_step, scope_there, given_holds, data_holds, found_holds}
use Rattle.bb_design.specs.Laws.Wired.{IsWired}
use Rattle.bb_implements.proofs.ListNumbers.{one_place_listed}
use Rattle.bb_implements.proofs.IsomorphicPlaces.{there, here, step_here, terminal_same, given_same, place_same}
use Rattle.bb_implements.proofs.TermFormulas.{term_formula, formulas_in, term_next, equation}
use Rattle.bb_design.specs.Laws.DesignLaws.{DesignLaws}

module _ (of_designs : DesignLaws) (d : Design) (one other : Lowering) (l m : LooseList) (list : IsListOf d one l) (more : IsListOf d other m) (lowered : IsLowering d one) (also : IsLowering d other) (wired : IsWired d)
    (numbers : List ℕ) (at : ℕ → Formula) (meets : AreLooseFormulas m numbers at) where
  -- the formula at a place of the list, and that of the same place of the other
  abbrev pub v : CellName → Formula
  v = here d one other m more lowered also wired numbers at meets

  abbrev u : CellName → Formula
  u = there d one other m more lowered also wired numbers at meets

  abbrev pub Listed : CellName → LooseCell → Type 0
  Listed = IsListed d one l list

  -- the formulas by the numbers of the list
  abbrev chosen : (k : ℕ) → (k < length l.cells) ⊎ (length l.cells ≤ k) → Formula
  chosen k (inl fits) = v (listed_at d one l list k fits).0
  chosen k (inr past) = formula.Const false

  abbrev pub formulas : ℕ → Formula
  formulas k = chosen k (less_or_not k (length l.cells))

  pub formula_is : (p : CellName) (c : LooseCell) → Listed p c → formulas (list.number p) ≡ v p
  formula_is p c has = by (less_or_not (list.number p) (length l.cells))
    where
      by : (o : (list.number p < length l.cells) ⊎ (length l.cells ≤ list.number p)) → chosen (list.number p) o ≡ v p
      by (inl fits) = let q = listed_at d one l list (list.number p) fits in ap v (one_place_listed d one l list q.0 p q.1 c q.2 has q.3)
      by (inr past) = absurd (omega (arith, past, listed_below d one l list p c has))

  theirs : (p : CellName) (c : LooseCell) → IsListed d other m more p c → IsFormulaOf numbers at c (u p)
  theirs = equation d other m more also numbers at meets

  module _ (k : ℕ) (s : Scope) (c : Construct) (has : Contains (enumerate_from 0 (parts d)) (k, (s, c))) (x : ℕ) (fits : x < length (lowered_in (s, c))) where
    abbrev all : List BitStep
    all = (one k x).all

    abbrev term_of : ℕ → Term
    term_of j = term_at (nets_of s.source) all j

    -- what a step is made of
    step_made : (j : ℕ) → j < length all → v (Step k x j) ≡ term_formula (formulas_in u s) (step_term (nets_of s.source) (get_or all j (steps.Const false)) term_of)
    step_made j there =
        let e = get_or (lowered_in (s, c)) x (Plain 0, 0) in
        let low = lowered_at d one lowered k s c has x e.0 e.1 (numbered_at (lowered_in (s, c)) x (Plain 0, 0) fits) in
        step_here d one other m more lowered also wired numbers at meets k s c has x j ∙ ap (term_formula (formulas_in u s)) (term_next (nets_of s.source) all low.earlier j there)

    -- where a step is, there is its formula
    step_occurs_so : (j : ℕ) (step : BitStep) → ReadsEarlier (nets_of s.source) j step → Occurs d one l list k s x j step → v (Step k x j) ≡ term_formula (formulas_in u s) (step_term (nets_of s.source) step term_of) → formulas (list.number (Step k x j)) ≡ v (Step k x j)
    step_occurs_so j (steps.Const b) reads occurs is = ap formulas occurs.0 ∙ formula_is (Constant b) _ (constant_listed d one l list b) ∙ theirs (Constant b) (cell.Const b) (constant_listed d other m more b) ∙ sym is
    step_occurs_so j (steps.Net n i) reads occurs is = ap formulas occurs.0 ∙ formula_is (net_place s n i) _ (net_listed d one l list _ (net_bit_of_step d s n i (scope_there d k s c has) reads)) ∙ sym is
    step_occurs_so j (steps.Not a) reads occurs is = formula_is (Step k x j) _ occurs.1
    step_occurs_so j (steps.And a b) reads occurs is = formula_is (Step k x j) _ occurs.1
    step_occurs_so j (steps.Or a b) reads occurs is = formula_is (Step k x j) _ occurs.1
    step_occurs_so j (steps.Xor a b) reads occurs is = formula_is (Step k x j) _ occurs.1
    step_occurs_so j (steps.Mux i t e) reads occurs is = formula_is (Step k x j) _ occurs.1

    step_is : (j : ℕ) → j < length all → formulas (list.number (Step k x j)) ≡ v (Step k x j)
    step_is j there = step_occurs_so j (get_or all j (steps.Const false)) (reads_there d one lowered k s c has x fits j there) (step_occurs d one l list k s c has x fits j there) (step_made j there)

    earlier_is : (a : ℕ) → a < length all → term_formula (formulas_in u s) (term_of a) ≡ formulas (list.number (Step k x a))
    earlier_is a there = sym (step_is a there ∙ step_here d one other m more lowered also wired numbers at meets k s c has x a)

    step_meets : (j : ℕ) → j < length all → (step : BitStep) → ReadsEarlier (nets_of s.source) j step → v (Step k x j) ≡ term_formula (formulas_in u s) (step_term (nets_of s.source) step term_of)
        → IfSome (step_cell (λ a. list.number (Step k x a)) step) (λ w. IsFormulaOf numbers formulas w (v (Step k x j)))
    step_meets j there (steps.Const b) reads is = tt
    step_meets j there (steps.Net n i) reads is = tt
    step_meets j there (steps.Not a) reads is = is ∙ ap formula.Not (earlier_is a (omega (arith, reads, there)))
    step_meets j there (steps.And a b) reads is = is ∙ ap₂ formula.And (earlier_is a (omega (arith, reads.0, there))) (earlier_is b (omega (arith, reads.1, there)))
    step_meets j there (steps.Or a b) reads is = is ∙ ap₂ formula.Or (earlier_is a (omega (arith, reads.0, there))) (earlier_is b (omega (arith, reads.1, there)))
    step_meets j there (steps.Xor a b) reads is = is ∙ ap₂ formula.Xor (earlier_is a (omega (arith, reads.0, there))) (earlier_is b (omega (arith, reads.1, there)))
    step_meets j there (steps.Mux i t e) reads is =
        let first = earlier_is i (omega (arith, reads.0, there)) in
        let second = earlier_is t (omega (arith, reads.1, there)) in
        let third = earlier_is e (omega (arith, reads.2, there)) in
        is ∙ (λ q. formula.Mux (first q) (second q) (third q))

    operator_meets : (j : ℕ) → j < length all → IfSome (step_cell (λ a. list.number (Step k x a)) (get_or all j (steps.Const false))) (λ w. IsFormulaOf numbers formulas w (v (Step k x j)))
    operator_meets j there = step_meets j there (get_or all j (steps.Const false)) (reads_there d one lowered k s c has x fits j there) (step_made j there)

  module _ (k : ℕ) (s : Scope) (gate : Gate) (outs ins : List Expression) (has : Contains (enumerate_from 0 (parts d)) (k, (s, GateInstance gate outs ins))) where
    abbrev shape : (1 ≤ length ins) × All (λ e. width_of s e ≡ 1) ins
    shape = wired.gates s gate outs ins (from_numbered 0 (parts d) (k, (s, GateInstance gate outs ins)) has)

    terminal_is : (x : ℕ) → x < length ins → u (terminal_place other k x) ≡ formulas (list.number (terminal_place one k x))
    terminal_is x fits =
        let e = terminal_there s ins x fits shape.1 in
        let low = lowered_at d one lowered k s (GateInstance gate outs ins) has x e.0 1 e.1 in
        let y = enumerated_from 0 (lowered_in (s, GateInstance gate outs ins)) x (e.0, 1) e.1 in
        let there = All-contains (λ j. j < length (one k x).all) (one k x).bits (get_or (one k x).bits 0 0) low.places (Contains-get_or (one k x).bits 0 0 (omega (arith, low.width))) in
        sym (step_is k s (GateInstance gate outs ins) has x (omega (arith, y.1, y.2)) (get_or (one k x).bits 0 0) there ∙ terminal_same d one other m more lowered also wired numbers at meets k s gate outs ins has x fits)

    joined_is : (x : ℕ) → x < length ins → u (joined_place other k x) ≡ formulas (list.number (joined_place one k x))
    joined_is zero fits = terminal_is 0 fits
    joined_is (suc x) fits = sym (formula_is (Joined k (suc x)) _ (joined_listed d one l list k s gate outs ins has x (omega (arith, fits))))

    join_meets : (g : Gate) (a b p q : ℕ) (f : Formula) → at a ≡ formulas p → at b ≡ formulas q → IsFormulaOf numbers at (join_cell g a b) f → IsFormulaOf numbers formulas (join_cell g p q) f
    join_meets gates.And a b p q f first second is = is ∙ ap₂ formula.And first second
    join_meets gates.Nand a b p q f first second is = is ∙ ap₂ formula.And first second
    join_meets gates.Or a b p q f first second is = is ∙ ap₂ formula.Or first second
    join_meets gates.Nor a b p q f first second is = is ∙ ap₂ formula.Or first second
    join_meets gates.Xor a b p q f first second is = is ∙ ap₂ formula.Xor first second
    join_meets gates.Xnor a b p q f first second is = is ∙ ap₂ formula.Xor first second
    join_meets gates.Buf a b p q f first second is = is ∙ first
    join_meets gates.Not a b p q f first second is = is ∙ first

    joins_meet : (x : ℕ) → x < length ins - 1 → IsFormulaOf numbers formulas (join_cell gate (list.number (joined_place one k x)) (list.number (terminal_place one k (suc x)))) (v (Joined k (suc x)))
    joins_meet x fits = join_meets gate _ _ _ _ (u (Joined k (suc x))) (joined_is x (omega (arith, fits))) (terminal_is (suc x) (omega (arith, fits)))
        (theirs (Joined k (suc x)) _ (joined_listed d other m more k s gate outs ins has x fits))

    inverter_meets : inverts gate ≡ true → v (Inverted k) ≡ formula.Not (formulas (list.number (joined_place one k (length ins - 1))))
    inverter_meets on = theirs (Inverted k) _ (inverted_listed d other m more k s gate outs ins has on) ∙ ap formula.Not (joined_is (length ins - 1) (omega (arith, shape.0)))

  -- where something is that gives a bit, there is its formula
  abbrev IsThere : CellName → Type 0
  IsThere p = formulas (list.number p) ≡ v p

  given_is : (b : Bit) → IsThere (place_in (driving_places d one) b)
  given_is = found_holds d one l list lowered wired IsThere formula_is step_is (driving_places d one) (given_holds d one l list lowered wired IsThere formula_is step_is)

  pub data_is : (b : Bit) → IsThere (place_in (flat_map (data_at one) (enumerate_from 0 (parts d))) b)
  data_is = found_holds d one l list lowered wired IsThere formula_is step_is (flat_map (data_at one) (enumerate_from 0 (parts d))) (data_holds d one l list lowered wired IsThere formula_is step_is)

  net_meets : (b : Bit) → Contains (net_order d) b → v (NetBit b) ≡ formulas (list.number (place_in (driving_places d one) b))
  net_meets b has =
      theirs (NetBit b) _ (net_listed d other m more b has)
      ∙ sym (given_is b ∙ place_same d one other m more lowered also wired numbers at meets b (driving_places d one) (driving_places d other) (given_same d one other m more lowered also wired numbers at meets))

  -- an entry meets its equation
  abbrev Meets : Entry → Type 0
  Meets x = IsFormulaOf numbers formulas x.1 (v x.0)

  entry_meets : (x : Entry) → Contains (placed_cells d one list.number) x → Meets x
  entry_meets = each_entry d one l list Meets (record {
    constants = λ b. theirs (Constant b) (cell.Const b) (constant_listed d other m more b);
    inputs = λ i fits. theirs (Input i) (cell.Input i) (input_listed d other m more i fits);
    nets = λ b has. net_meets b has;
    steps = λ k s c has x fits j there. operator_meets k s c has x fits j there;
    joins = λ k s gate outs ins has x fits. joins_meet k s gate outs ins has x fits;
    inverters = λ k s gate outs ins has on. inverter_meets k s gate outs ins has on;
    pins = λ b s has p y pin. theirs (BoxPin b p) (cell.BoxOut b p) (pin_listed d other m more b s has p y pin);
  })

  -- the formulas meet the equations of the list
  pub formulas_meet : AreLooseFormulas l numbers formulas
  formulas_meet k fits =
      let p = listed_at d one l list k fits in
      let is : IsFormulaOf numbers formulas p.1 (v p.0) = entry_meets (p.0, p.1) p.2 in
      let same : v p.0 ≡ formulas k = sym (formula_is p.0 p.1 p.2) ∙ ap formulas p.3 in
      let cells : p.1 ≡ loose_at l k = sym (listed_cell d one l list p.0 p.1 p.2) ∙ ap (loose_at l) p.3 in
      subst (λ c. IsFormulaOf numbers formulas c (formulas k)) cells (subst (IsFormulaOf numbers formulas p.1) same is)
