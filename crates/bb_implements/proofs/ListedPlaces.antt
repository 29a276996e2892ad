-- The places of a list of cells: which are listed and with which cell, and that what is in the list is at one of them. A step
-- of an expression is listed where it is an operator.
use Rattle.std.proofs.Common.{◌≡◌, ℕ, suc, ◌+◌, ◌-◌, ◌<◌, Bool, true, false, if◌then◌else◌, List, [], ◌∷◌, ◌++◌, map, flat_map, length, get_or, All, Contains, Option, Some, None, option_map, refl, sym, ap, ◌∙◌, subst, arith}
use Rattle.std.specs.Prelude.{IfSome}
use Rattle.std.specs.List.{enumerate_from, range_with_len}
use Rattle.std.proofs.lemmas.List.Elements.{All-contains, Contains-append_left, Contains-append_right}
use Rattle.std.proofs.lemmas.List.Sorted.{Contains-permutation, IsPermutation-sym}
use Rattle.bb_ast.specs.declared.module.Gate.{Gate}
use Rattle.bb_ast.specs.Syntax.{Expression, Plain}
use Rattle.bb_names.specs.Declarations.{range_of}
use Rattle.bb_names.specs.Nets.{nets_of}
use Rattle.bb_expr.specs.declared.step.BitStep.{BitStep}
use Rattle.bb_expr.specs.declared.step.BitStep.TheVariants as steps
use Rattle.bb_expr.specs.Lowered.{IsLowered, ReadsEarlier}
use Rattle.bb_net.specs.declared.loose.LooseCell.{LooseCell}
use Rattle.bb_net.specs.declared.loose.LooseCell.TheVariants as cell
use Rattle.bb_net.specs.Loose.{LooseList, loose_at}
use Rattle.bb_net.specs.Netlists.{box_at}
use Rattle.bb_design.specs.Hierarchy.{Design, Scope, boxes}
use Rattle.bb_design.specs.NetBits.{Bit, net_order, output_bits}
use Rattle.bb_design.specs.Constructs.{Construct, GateInstance, parts}
use Rattle.bb_design.specs.GateFunctions.{inverts}
use Rattle.bb_design.specs.Registers.{cut_bits}
use Rattle.bb_implements.specs.Places.{CellName, Constant, Input, NetBit, Step, Joined, Inverted, BoxPin, lowered_in, Lowering, IsLowering, IsLoweringOf, terminal_place, joined_place, driving_places, place_in, IsStepAt, step_cell, step_cells, AreSteps, join_cell, joining_places, inverting_place, gate_places, places_at, box_places, prefix_places, operator_places, placed_cells, pins_of, IsListOf}
use Rattle.bb_lemmas.proofs.Members.{from_map, contains-map, into_flat, into_filter, contains_here}
use Rattle.bb_lemmas.proofs.Numbered.{enumerated_from, numbered_at, mapped_enumerated}
use Rattle.bb_lemmas.proofs.Ranges.{range_there, from_range}

abbrev pub Part : Type 0
Part = ℕ × (Scope × Construct)

-- an expression of a construct is lowered
pub lowered_at : (d : Design) (lowering : Lowering) → IsLowering d lowering → (k : ℕ) (s : Scope) (c : Construct) → Contains (enumerate_from 0 (parts d)) (k, (s, c)) → (x : ℕ) (e : Expression) (w : ℕ)
    → Contains (enumerate_from 0 (lowered_in (s, c))) (x, (e, w)) → IsLowered (nets_of s.source) (range_of s.source) e w (lowering k x).all (lowering k x).bits
lowered_at d lowering lowered k s c has x e w at =
    let all = All-contains (IsLoweringOf lowering) (enumerate_from 0 (parts d)) (k, (s, c)) lowered has in
    All-contains (λ (y : ℕ × (Expression × ℕ)). IsLowered (nets_of s.source) (range_of s.source) y.1.0 y.1.1 (lowering k y.0).all (lowering k y.0).bits) (enumerate_from 0 (lowered_in (s, c))) (x, (e, w)) all at

-- a step of it reads earlier steps alone, or a bit that a net has
pub reads_there : (d : Design) (lowering : Lowering) → IsLowering d lowering → (k : ℕ) (s : Scope) (c : Construct) → Contains (enumerate_from 0 (parts d)) (k, (s, c)) → (x : ℕ) → x < length (lowered_in (s, c))
    → (j : ℕ) → j < length (lowering k x).all → ReadsEarlier (nets_of s.source) j (get_or (lowering k x).all j (steps.Const false))
reads_there d lowering lowered k s c has x fits j there =
    let e = get_or (lowered_in (s, c)) x (Plain 0, 0) in
    let all = (lowering k x).all in
    let low = lowered_at d lowering lowered k s c has x e.0 e.1 (numbered_at (lowered_in (s, c)) x (Plain 0, 0) fits) in
    All-contains (λ (z : ℕ × BitStep). ReadsEarlier (nets_of s.source) z.0 z.1) (enumerate_from 0 all) (j, get_or all j (steps.Const false)) low.earlier (numbered_at all j (steps.Const false) there)

module _ (d : Design) (lowering : Lowering) (l : LooseList) (list : IsListOf d lowering l) where
  -- the place is listed with this cell
  abbrev pub IsListed : CellName → LooseCell → Type 0
  IsListed p c = Contains (placed_cells d lowering list.number) (p, c)

  abbrev numbers : List ℕ
  numbers = map (λ (x : CellName × LooseCell). list.number x.0) (placed_cells d lowering list.number)

  pub listed_cell : (p : CellName) (c : LooseCell) → IsListed p c → loose_at l (list.number p) ≡ c
  listed_cell p c has = All-contains (λ (x : CellName × LooseCell). loose_at l (list.number x.0) ≡ x.1) (placed_cells d lowering list.number) (p, c) list.cells has

  pub listed_below : (p : CellName) (c : LooseCell) → IsListed p c → list.number p < length l.cells
  listed_below p c has =
      let r = from_range 0 (length l.cells) (list.number p) (Contains-permutation numbers (range_with_len 0 (length l.cells)) (list.number p) list.numbers (contains-map (λ (x : CellName × LooseCell). list.number x.0) (placed_cells d lowering list.number) (p, c) has)) in
      omega (arith, r.1)

  pub listed_at : (k : ℕ) → k < length l.cells → (p : CellName) × (c : LooseCell) × IsListed p c × (list.number p ≡ k)
  listed_at k fits =
      let has = Contains-permutation (range_with_len 0 (length l.cells)) numbers k (IsPermutation-sym numbers (range_with_len 0 (length l.cells)) list.numbers) (range_there 0 (length l.cells) k (omega arith) (omega (arith, fits))) in
      let x = from_map (λ (x : CellName × LooseCell). list.number x.0) (placed_cells d lowering list.number) k has in
      (x.0.0, x.0.1, x.1, x.2)

  prefix_listed : (x : CellName × LooseCell) → Contains (prefix_places d lowering list.number) x → IsListed x.0 x.1
  prefix_listed x has = Contains-append_left (prefix_places d lowering list.number) (operator_places d lowering list.number) x has

  operator_listed : (x : CellName × LooseCell) → Contains (operator_places d lowering list.number) x → IsListed x.0 x.1
  operator_listed x has = Contains-append_right (prefix_places d lowering list.number) (operator_places d lowering list.number) x has

  abbrev inputs : List (CellName × LooseCell)
  inputs = map (λ i. (Input i, cell.Input i)) (range_with_len 0 (length (cut_bits d)))

  abbrev nets : List (CellName × LooseCell)
  nets = map (λ b. (NetBit b, cell.Copy (list.number (place_in (driving_places d lowering) b)))) (net_order d)

  abbrev constants : List (CellName × LooseCell)
  constants = (Constant false, cell.Const false) ∷ (Constant true, cell.Const true) ∷ []

  pub constant_listed : (b : Bool) → IsListed (Constant b) (cell.Const b)
  constant_listed b = prefix_listed (Constant b, cell.Const b) (Contains-append_left (constants ++ inputs) nets (Constant b, cell.Const b) (Contains-append_left constants inputs (Constant b, cell.Const b) (here b)))
    where
      here : (b : Bool) → Contains constants (Constant b, cell.Const b)
      here false = (0, omega arith, refl)
      here true = (1, omega arith, refl)

  pub input_listed : (i : ℕ) → i < length (cut_bits d) → IsListed (Input i) (cell.Input i)
  input_listed i fits = prefix_listed (Input i, cell.Input i) (Contains-append_left (constants ++ inputs) nets (Input i, cell.Input i) (Contains-append_right constants inputs (Input i, cell.Input i)
      (contains-map {B = CellName × LooseCell} (λ i. (Input i, cell.Input i)) (range_with_len 0 (length (cut_bits d))) i (range_there 0 (length (cut_bits d)) i (omega arith) (omega (arith, fits))))))

  pub net_listed : (b : Bit) → Contains (net_order d) b → IsListed (NetBit b) (cell.Copy (list.number (place_in (driving_places d lowering) b)))
  net_listed b has = prefix_listed (NetBit b, cell.Copy (list.number (place_in (driving_places d lowering) b))) (Contains-append_right (constants ++ inputs) nets (NetBit b, cell.Copy (list.number (place_in (driving_places d lowering) b)))
      (contains-map {B = CellName × LooseCell} (λ b. (NetBit b, cell.Copy (list.number (place_in (driving_places d lowering) b)))) (net_order d) b has))

  abbrev pins : List (CellName × LooseCell)
  pins = flat_map box_places (enumerate_from 0 (boxes d))

  abbrev others : List (CellName × LooseCell)
  others = flat_map (places_at lowering list.number) (enumerate_from 0 (parts d))

  pub pin_listed : (b : ℕ) (s : Scope) → Contains (enumerate_from 0 (boxes d)) (b, s) → (p : ℕ) (x : Bit) → Contains (enumerate_from 0 (output_bits s)) (p, x) → IsListed (BoxPin b p) (cell.BoxOut b p)
  pin_listed b s has p x at = operator_listed (BoxPin b p, cell.BoxOut b p) (Contains-append_left pins others (BoxPin b p, cell.BoxOut b p) (into_flat box_places (enumerate_from 0 (boxes d)) (b, s) (BoxPin b p, cell.BoxOut b p) has
      (contains-map {B = CellName × LooseCell} (λ (x : ℕ × Bit). (BoxPin b x.0, cell.BoxOut b x.0)) (enumerate_from 0 (output_bits s)) (p, x) at)))

  -- where a step is: an operator at a place of its own, and another where its constant or its bit of a net is
  abbrev pub Occurs : ℕ → Scope → ℕ → ℕ → BitStep → Type 0
  Occurs k s x j step = IsStepAt list.number s step (list.number (Step k x j)) × IfSome (step_cell (λ a. list.number (Step k x a)) step) (IsListed (Step k x j))

  module _ (k : ℕ) (s : Scope) (c : Construct) (has : Contains (enumerate_from 0 (parts d)) (k, (s, c))) where
    part_listed : (x : CellName × LooseCell) → Contains (places_at lowering list.number (k, (s, c))) x → IsListed x.0 x.1
    part_listed x at = operator_listed x (Contains-append_right pins others x (into_flat (places_at lowering list.number) (enumerate_from 0 (parts d)) (k, (s, c)) x has at))

    abbrev all_steps : List (CellName × LooseCell)
    all_steps = flat_map (step_cells lowering list.number k) (range_with_len 0 (length (lowered_in (s, c))))

    pub step_occurs : (x : ℕ) → x < length (lowered_in (s, c)) → (j : ℕ) → j < length (lowering k x).all → Occurs k s x j (get_or (lowering k x).all j (steps.Const false))
    step_occurs x fits j there =
        let all = (lowering k x).all in
        let among = range_there 0 (length (lowered_in (s, c))) x (omega arith) (omega (arith, fits)) in
        let construct = All-contains (AreSteps lowering list.number) (enumerate_from 0 (parts d)) (k, (s, c)) list.steps has in
        let expression = All-contains (λ x. All (λ (y : ℕ × BitStep). IsStepAt list.number s y.1 (list.number (Step k x y.0))) (enumerate_from 0 (lowering k x).all)) (range_with_len 0 (length (lowered_in (s, c)))) x construct among in (
          All-contains (λ (y : ℕ × BitStep). IsStepAt list.number s y.1 (list.number (Step k x y.0))) (enumerate_from 0 all) (j, get_or all j (steps.Const false)) expression (numbered_at all j (steps.Const false) there),
          by (step_cell (λ a. list.number (Step k x a)) (get_or all j (steps.Const false))) refl,
        )
      where
        by : (o : Option LooseCell) → step_cell (λ a. list.number (Step k x a)) (get_or (lowering k x).all j (steps.Const false)) ≡ o → IfSome o (IsListed (Step k x j))
        by None e = tt
        by (Some u) e =
            let make : ℕ × BitStep → Option (CellName × LooseCell) = λ y. option_map (λ c. (Step k x y.0, c)) (step_cell (λ a. list.number (Step k x a)) y.1) in
            let operator = into_filter make (enumerate_from 0 (lowering k x).all) (j, get_or (lowering k x).all j (steps.Const false)) (Step k x j, u) (numbered_at (lowering k x).all j (steps.Const false) there) (ap (option_map (λ c. (Step k x j, c))) e) in
            part_listed (Step k x j, u) (Contains-append_left all_steps (gate_places lowering list.number k c) (Step k x j, u)
            (into_flat (step_cells lowering list.number k) (range_with_len 0 (length (lowered_in (s, c)))) x (Step k x j, u) (range_there 0 (length (lowered_in (s, c))) x (omega arith) (omega (arith, fits))) operator))

    gate_listed : (x : CellName × LooseCell) → Contains (gate_places lowering list.number k c) x → IsListed x.0 x.1
    gate_listed x at = part_listed x (Contains-append_right all_steps (gate_places lowering list.number k c) x at)

  module _ (k : ℕ) (s : Scope) (gate : Gate) (outs ins : List Expression) (has : Contains (enumerate_from 0 (parts d)) (k, (s, GateInstance gate outs ins))) where
    abbrev joining : List (CellName × LooseCell)
    joining = joining_places lowering list.number k gate (length ins)

    pub joined_listed : (x : ℕ) → x < length ins - 1 → IsListed (Joined k (suc x)) (join_cell gate (list.number (joined_place lowering k x)) (list.number (terminal_place lowering k (suc x))))
    joined_listed x fits = subst (λ y. IsListed (Joined k y) (join_cell gate (list.number (joined_place lowering k x)) (list.number (terminal_place lowering k y)))) (omega arith)
        (gate_listed k s (GateInstance gate outs ins) has _ (Contains-append_left joining (inverting_place lowering list.number k gate (length ins)) _
        (contains-map {B = CellName × LooseCell} (λ x. (Joined k (x + 1), join_cell gate (list.number (joined_place lowering k x)) (list.number (terminal_place lowering k (x + 1))))) (range_with_len 0 (length ins - 1)) x (range_there 0 (length ins - 1) x (omega arith) (omega (arith, fits))))))

    abbrev inverse : CellName × LooseCell
    inverse = (Inverted k, cell.Not (list.number (joined_place lowering k (length ins - 1))))

    pub inverted_listed : inverts gate ≡ true → IsListed (Inverted k) (cell.Not (list.number (joined_place lowering k (length ins - 1))))
    inverted_listed e = gate_listed k s (GateInstance gate outs ins) has inverse (Contains-append_right joining (inverting_place lowering list.number k gate (length ins)) _
        (subst (λ b. Contains (if b then inverse ∷ [] else []) inverse) (sym e) (contains_here inverse [])))

  -- the pins of a box
  pub box_is : (b : ℕ) (s : Scope) → Contains (enumerate_from 0 (boxes d)) (b, s) → box_at l.boxes b ≡ pins_of list.number (b, s)
  box_is b s has =
      let j = enumerated_from 0 (boxes d) b s has in
      ap (λ all. box_at all b) list.boxes ∙ ap (λ k. box_at (map (pins_of list.number) (enumerate_from 0 (boxes d))) k) (omega (arith, j.1))
      ∙ mapped_enumerated (pins_of list.number) 0 (boxes d) j.0 s (record { ins = []; outs = [] }) j.2 ∙ ap (λ k. pins_of list.number (k, get_or (boxes d) j.0 s)) (omega (arith, j.1)) ∙ ap (λ u. pins_of list.number (b, u)) (j.3 s)
