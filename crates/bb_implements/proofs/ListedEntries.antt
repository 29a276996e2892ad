-- Case by case: what is listed is a constant, an input, a bit of a net, an operator of an expression or of a gate, or a pin of a box.
use Rattle.std.proofs.Common.{◌≡◌, ◌⊎◌, ℕ, suc, ◌+◌, ◌-◌, ◌<◌, Bool, true, false, if◌then◌else◌, List, [], ◌∷◌, ◌++◌, map, flat_map, length, get_or, Contains, Option, Some, None, option_map, refl, ap, ◌∙◌, subst, inl, inr, arith}
use Rattle.std.specs.Prelude.{IfSome}
use Rattle.std.specs.List.{enumerate_from, range_with_len}
use Rattle.std.proofs.lemmas.List.Elements.{Contains-append_cases}
use Rattle.bb_ast.specs.declared.module.Gate.{Gate}
use Rattle.bb_ast.specs.Syntax.{Expression}
use Rattle.bb_expr.specs.declared.step.BitStep.{BitStep}
use Rattle.bb_expr.specs.declared.step.BitStep.TheVariants as steps
use Rattle.bb_net.specs.declared.loose.LooseCell.{LooseCell}
use Rattle.bb_net.specs.declared.loose.LooseCell.TheVariants as cell
use Rattle.bb_net.specs.Loose.{LooseList}
use Rattle.bb_design.specs.Hierarchy.{Design, Scope, boxes}
use Rattle.bb_design.specs.NetBits.{Bit, net_order, output_bits}
use Rattle.bb_design.specs.Constructs.{Construct, Assignment, GateInstance, Register, SupplyNet, InputConnection, OutputConnection, BoxContents, parts}
use Rattle.bb_design.specs.GateFunctions.{inverts}
use Rattle.bb_implements.specs.Places.{CellName, Constant, Input, NetBit, Step, Joined, Inverted, BoxPin, lowered_in, Lowering, terminal_place, joined_place, step_cell, step_cells, join_cell, joining_places, inverting_place, gate_places, places_at, box_places, prefix_places, operator_places, placed_cells, driving_places, place_in, IsListOf}
use Rattle.bb_design.specs.Registers.{cut_bits}
use Rattle.bb_lemmas.proofs.Members.{from_flat, from_map, from_filter, contains_cases, none_in_nil}
use Rattle.bb_lemmas.proofs.Numbered.{enumerated_from}
use Rattle.bb_lemmas.proofs.Places.{some_same}
use Rattle.bb_lemmas.proofs.Ranges.{from_range}

abbrev pub Entry : Type 0
Entry = CellName × LooseCell

module _ (d : Design) (lowering : Lowering) (l : LooseList) (list : IsListOf d lowering l) where
  abbrev pub Part : ℕ → Scope → Construct → Type 0
  Part k s c = Contains (enumerate_from 0 (parts d)) (k, (s, c))

  -- it holds of each kind of place
  pub record Cases (P : Entry → Type 0) : Type 0 where
    pub constants : (b : Bool) → P (Constant b, cell.Const b)
    pub inputs : (i : ℕ) → i < length (cut_bits d) → P (Input i, cell.Input i)
    pub nets : (b : Bit) → Contains (net_order d) b → P (NetBit b, cell.Copy (list.number (place_in (driving_places d lowering) b)))
    pub steps : (k : ℕ) (s : Scope) (c : Construct) → Part k s c → (x : ℕ) → x < length (lowered_in (s, c)) → (j : ℕ) → j < length (lowering k x).all
        → IfSome (step_cell (λ a. list.number (Step k x a)) (get_or (lowering k x).all j (steps.Const false))) (λ u. P (Step k x j, u))
    pub joins : (k : ℕ) (s : Scope) (gate : Gate) (outs ins : List Expression) → Part k s (GateInstance gate outs ins) → (x : ℕ) → x < length ins - 1
        → P (Joined k (suc x), join_cell gate (list.number (joined_place lowering k x)) (list.number (terminal_place lowering k (suc x))))
    pub inverters : (k : ℕ) (s : Scope) (gate : Gate) (outs ins : List Expression) → Part k s (GateInstance gate outs ins) → inverts gate ≡ true → P (Inverted k, cell.Not (list.number (joined_place lowering k (length ins - 1))))
    pub pins : (b : ℕ) (s : Scope) → Contains (enumerate_from 0 (boxes d)) (b, s) → (p : ℕ) (y : Bit) → Contains (enumerate_from 0 (output_bits s)) (p, y) → P (BoxPin b p, cell.BoxOut b p)

  module _ (P : Entry → Type 0) (cases : Cases P) where
    some_case : (p : CellName) (o : Option LooseCell) (x : Entry) → IfSome o (λ u. P (p, u)) → option_map {U = Entry} (λ u. (p, u)) o ≡ Some x → P x
    some_case p None x holds e = cc e
    some_case p (Some u) x holds e = subst P (some_same (p, u) x e) holds

    step_case : (k : ℕ) (s : Scope) (c : Construct) → Part k s c → (x : Entry) → Contains (flat_map (step_cells lowering list.number k) (range_with_len 0 (length (lowered_in (s, c))))) x → P x
    step_case k s c has x at =
        let n = from_flat (step_cells lowering list.number k) (range_with_len 0 (length (lowered_in (s, c)))) x at in
        let r = from_range 0 (length (lowered_in (s, c))) n.0 n.1 in
        let all = (lowering k n.0).all in
        let place : ℕ → ℕ = λ a. list.number (Step k n.0 a) in
        let make : ℕ × BitStep → Option Entry = λ y. option_map (λ u. (Step k n.0 y.0, u)) (step_cell place y.1) in
        let y = from_filter make (enumerate_from 0 all) x n.2 in
        let j = enumerated_from 0 all y.0.0 y.0.1 y.1 in
        let step : get_or all y.0.0 (steps.Const false) ≡ y.0.1 = ap (λ i. get_or all i (steps.Const false)) (omega (arith, j.1)) ∙ j.3 (steps.Const false) in
        some_case (Step k n.0 y.0.0) (step_cell place y.0.1) x
        (subst (λ z. IfSome (step_cell place z) (λ u. P (Step k n.0 y.0.0, u))) step (cases.steps k s c has n.0 (omega (arith, r.1)) y.0.0 (omega (arith, j.1, j.2)))) y.2

    gate_case : (k : ℕ) (s : Scope) (c : Construct) → Part k s c → (x : Entry) → Contains (gate_places lowering list.number k c) x → P x
    gate_case k s (GateInstance gate outs ins) has x at = by (Contains-append_cases (joining_places lowering list.number k gate (length ins)) (inverting_place lowering list.number k gate (length ins)) x at)
      where
        inverse : (b : Bool) → inverts gate ≡ b → Contains (if b then (Inverted k, cell.Not (list.number (joined_place lowering k (length ins - 1)))) ∷ [] else []) x → P x
        inverse true on h = only (contains_cases (Inverted k, cell.Not (list.number (joined_place lowering k (length ins - 1)))) [] x h)
          where
            only : ((Inverted k, cell.Not (list.number (joined_place lowering k (length ins - 1)))) ≡ x) ⊎ Contains [] x → P x
            only (inl e) = subst P e (cases.inverters k s gate outs ins has on)
            only (inr none) = absurd (none_in_nil x none)
        inverse false off h = absurd (none_in_nil x h)

        by : Contains (joining_places lowering list.number k gate (length ins)) x ⊎ Contains (inverting_place lowering list.number k gate (length ins)) x → P x
        by (inl h) =
            let make : ℕ → Entry = λ x. (Joined k (x + 1), join_cell gate (list.number (joined_place lowering k x)) (list.number (terminal_place lowering k (x + 1)))) in
            let n = from_map make (range_with_len 0 (length ins - 1)) x h in
            let r = from_range 0 (length ins - 1) n.0 n.1 in
            let next : suc n.0 ≡ n.0 + 1 = omega arith in
            subst P n.2 (subst (λ m. P (Joined k m, join_cell gate (list.number (joined_place lowering k n.0)) (list.number (terminal_place lowering k m)))) next (cases.joins k s gate outs ins has n.0 (omega (arith, r.1))))
        by (inr h) = inverse (inverts gate) refl h
    gate_case k s (Assignment left right) has x at = absurd (none_in_nil x at)
    gate_case k s (Register r) has x at = absurd (none_in_nil x at)
    gate_case k s (SupplyNet high n) has x at = absurd (none_in_nil x at)
    gate_case k s (InputConnection i pin e) has x at = absurd (none_in_nil x at)
    gate_case k s (OutputConnection i pin e) has x at = absurd (none_in_nil x at)
    gate_case k s BoxContents has x at = absurd (none_in_nil x at)

    abbrev constants : List Entry
    constants = (Constant false, cell.Const false) ∷ (Constant true, cell.Const true) ∷ []

    abbrev inputs : List Entry
    inputs = map (λ i. (Input i, cell.Input i)) (range_with_len 0 (length (cut_bits d)))

    abbrev nets : List Entry
    nets = map (λ b. (NetBit b, cell.Copy (list.number (place_in (driving_places d lowering) b)))) (net_order d)

    prefix_case : (x : Entry) → Contains (prefix_places d lowering list.number) x → P x
    prefix_case x has = by (Contains-append_cases (constants ++ inputs) nets x has)
      where
        true_one : ((Constant true, cell.Const true) ≡ x) ⊎ Contains [] x → P x
        true_one (inl e) = subst P e (cases.constants true)
        true_one (inr none) = absurd (none_in_nil x none)

        constant : ((Constant false, cell.Const false) ≡ x) ⊎ Contains ((Constant true, cell.Const true) ∷ []) x → P x
        constant (inl e) = subst P e (cases.constants false)
        constant (inr more) = true_one (contains_cases (Constant true, cell.Const true) [] x more)

        first : Contains constants x ⊎ Contains inputs x → P x
        first (inl h) = constant (contains_cases (Constant false, cell.Const false) ((Constant true, cell.Const true) ∷ []) x h)
        first (inr h) =
            let i = from_map {B = Entry} (λ i. (Input i, cell.Input i)) (range_with_len 0 (length (cut_bits d))) x h in
            let r = from_range 0 (length (cut_bits d)) i.0 i.1 in
            subst P i.2 (cases.inputs i.0 (omega (arith, r.1)))

        by : Contains (constants ++ inputs) x ⊎ Contains nets x → P x
        by (inl h) = first (Contains-append_cases constants inputs x h)
        by (inr h) =
            let b = from_map {B = Entry} (λ b. (NetBit b, cell.Copy (list.number (place_in (driving_places d lowering) b)))) (net_order d) x h in
            subst P b.2 (cases.nets b.0 b.1)

    operator_case : (x : Entry) → Contains (operator_places d lowering list.number) x → P x
    operator_case x has = by (Contains-append_cases (flat_map box_places (enumerate_from 0 (boxes d))) (flat_map (places_at lowering list.number) (enumerate_from 0 (parts d))) x has)
      where
        part : (k : ℕ) (s : Scope) (c : Construct) → Part k s c
            → Contains (flat_map (step_cells lowering list.number k) (range_with_len 0 (length (lowered_in (s, c))))) x ⊎ Contains (gate_places lowering list.number k c) x → P x
        part k s c there (inl h) = step_case k s c there x h
        part k s c there (inr h) = gate_case k s c there x h

        by : Contains (flat_map box_places (enumerate_from 0 (boxes d))) x ⊎ Contains (flat_map (places_at lowering list.number) (enumerate_from 0 (parts d))) x → P x
        by (inl h) =
            let b = from_flat box_places (enumerate_from 0 (boxes d)) x h in
            let y = from_map {B = Entry} (λ (y : ℕ × Bit). (BoxPin b.0.0 y.0, cell.BoxOut b.0.0 y.0)) (enumerate_from 0 (output_bits b.0.1)) x b.2 in
            subst P y.2 (cases.pins b.0.0 b.0.1 b.1 y.0.0 y.0.1 y.1)
        by (inr h) =
            let p = from_flat (places_at lowering list.number) (enumerate_from 0 (parts d)) x h in
            part p.0.0 p.0.1.0 p.0.1.1 p.1 (Contains-append_cases (flat_map (step_cells lowering list.number p.0.0) (range_with_len 0 (length (lowered_in p.0.1)))) (gate_places lowering list.number p.0.0 p.0.1.1) x p.2)

    pub each_entry : (x : Entry) → Contains (placed_cells d lowering list.number) x → P x
    each_entry x has = by (Contains-append_cases (prefix_places d lowering list.number) (operator_places d lowering list.number) x has)
      where
        by : Contains (prefix_places d lowering list.number) x ⊎ Contains (operator_places d lowering list.number) x → P x
        by (inl h) = prefix_case x h
        by (inr h) = operator_case x h
