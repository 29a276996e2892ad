-- Two lists of cells of one design: formulas for the places of the one, made of those that meet the equations of the other. A step has
-- the formula of what it is made of, and each other place what it has in the other list.
use Rattle.std.proofs.Common.{◌≡◌, ℕ, zero, suc, ◌-◌, ◌<◌, ◌≤◌, Bool, true, false, if◌then◌else◌, List, [], ◌∷◌, ◌++◌, map, flat_map, find, zip, drop, length, get_or, All, Contains, Some, refl, sym, ap, ◌∙◌, subst, arith}
use Rattle.std.specs.List.{AllZip, enumerate_from}
use Rattle.std.specs.Option.{option_map_or}
use Rattle.bb_iso.specs.Laws.Formulas.{Formula}
use Rattle.bb_iso.specs.Laws.LooseFormulas.{AreLooseFormulas}
use Rattle.bb_ast.specs.declared.module.Gate.{Gate}
use Rattle.bb_ast.specs.Syntax.{Expression}
use Rattle.bb_names.specs.Declarations.{range_of}
use Rattle.bb_names.specs.Nets.{nets_of}
use Rattle.bb_expr.specs.Lowered.{term_at}
use Rattle.bb_net.specs.Loose.{LooseList}
use Rattle.bb_design.specs.Hierarchy.{Design, Scope, root, path_to, boxes}
use Rattle.bb_design.specs.NetBits.{Bit, same_bit, bits_named, pin_bits, output_bits, written_bits}
use Rattle.bb_design.specs.Contexts.{width_of, context_width}
use Rattle.bb_bits.specs.Bits.{low_bits}
use Rattle.bb_design.specs.Constructs.{Construct, Assignment, GateInstance, Register, SupplyNet, InputConnection, OutputConnection, BoxContents, parts}
use Rattle.bb_design.specs.GateFunctions.{inverts}
use Rattle.bb_implements.specs.Places.{CellName, Constant, Input, NetBit, Step, Joined, Inverted, BoxPin, lowered_in, Lowering, IsLowering, step_places, terminal_place, joined_place, gate_place, given_at, given_by_box, driving_places, data_at, place_in, IsListOf}
use Rattle.bb_design.specs.Registers.{cut_bits}
use Rattle.bb_lemmas.proofs.LowBits.{low-map}
use Rattle.bb_lemmas.proofs.Numbered.{enumerated_from, from_numbered}
use Rattle.bb_lemmas.proofs.Zips.{zip_append}
use Rattle.bb_implements.proofs.ListedPlaces.{lowered_at}
use Rattle.bb_implements.proofs.ListedSources.{terminal_there}
use Rattle.bb_design.specs.Laws.Wired.{IsWired}
use Rattle.bb_lemmas.proofs.Places.{only_one}
use Rattle.bb_implements.proofs.TermFormulas.{term_formula, formulas_in, made_formulas, formula_of, expression_formulas}
use Rattle.bb_lemmas.proofs.Members.{contains_here, contains_there}

module _ (d : Design) (one other : Lowering) (m : LooseList) (more : IsListOf d other m) (lowered : IsLowering d one) (also : IsLowering d other) (wired : IsWired d)
    (numbers : List ℕ) (at : ℕ → Formula) (meets : AreLooseFormulas m numbers at) where
  -- the formulas of the other list
  abbrev pub there : CellName → Formula
  there = formula_of d other m more also numbers at meets

  -- the scope of a construct
  abbrev pub scope_at : ℕ → Scope
  scope_at k = (get_or (parts d) k (root d, BoxContents)).0

  -- and those for the places of the one
  abbrev pub here : CellName → Formula
  here (Step k x j) = term_formula (formulas_in there (scope_at k)) (term_at (nets_of (scope_at k).source) (one k x).all j)
  here (Constant b) = there (Constant b)
  here (Input i) = there (Input i)
  here (NetBit b) = there (NetBit b)
  here (Joined k x) = there (Joined k x)
  here (Inverted k) = there (Inverted k)
  here (BoxPin b p) = there (BoxPin b p)

  abbrev Part : ℕ → Scope → Construct → Type 0
  Part k s c = Contains (enumerate_from 0 (parts d)) (k, (s, c))

  scope_is : (k : ℕ) (s : Scope) (c : Construct) → Part k s c → scope_at k ≡ s
  scope_is k s c has =
      let j = enumerated_from 0 (parts d) k (s, c) has in
      ap (λ i. (get_or (parts d) i (root d, BoxContents)).0) (omega (arith, j.1)) ∙ ap (λ (p : Scope × Construct). p.0) (j.3 (root d, BoxContents))

  pub step_here : (k : ℕ) (s : Scope) (c : Construct) → Part k s c → (x j : ℕ) → here (Step k x j) ≡ term_formula (formulas_in there s) (term_at (nets_of s.source) (one k x).all j)
  step_here k s c has x j = ap (λ (u : Scope). term_formula (formulas_in there u) (term_at (nets_of u.source) (one k x).all j)) (scope_is k s c has)

  -- the bits of an expression have the same formulas in both
  pub sides : (k : ℕ) (s : Scope) (c : Construct) → Part k s c → (x : ℕ) (e : Expression) (w : ℕ) → Contains (enumerate_from 0 (lowered_in (s, c))) (x, (e, w)) → map here (step_places one k x) ≡ map there (step_places other k x)
  sides k s c has x e w at_x =
      made_formulas here (formulas_in there s) one k x (nets_of s.source) (range_of s.source) e w (lowered_at d one lowered k s c has x e w at_x) (λ j fits. step_here k s c has x j)
      ∙ sym (expression_formulas d other m more also numbers at meets k s c has x e w at_x)

  low_sides : (n k : ℕ) (s : Scope) (c : Construct) → Part k s c → (x : ℕ) (e : Expression) (w : ℕ) → Contains (enumerate_from 0 (lowered_in (s, c))) (x, (e, w))
      → map here (low_bits n (step_places one k x)) ≡ map there (low_bits n (step_places other k x))
  low_sides n k s c has x e w at_x = low-map here n (step_places one k x) ∙ ap (low_bits n) (sides k s c has x e w at_x) ∙ sym (low-map there n (step_places other k x))

  -- gates

  module _ (k : ℕ) (s : Scope) (gate : Gate) (outs ins : List Expression) (has : Part k s (GateInstance gate outs ins)) where
    abbrev shape : (1 ≤ length ins) × All (λ e. width_of s e ≡ 1) ins
    shape = wired.gates s gate outs ins (from_numbered 0 (parts d) (k, (s, GateInstance gate outs ins)) has)

    pub terminal_same : (x : ℕ) → x < length ins → here (terminal_place one k x) ≡ there (terminal_place other k x)
    terminal_same x fits =
        let e = terminal_there s ins x fits shape.1 in
        let low = lowered_at d one lowered k s (GateInstance gate outs ins) has x e.0 1 e.1 in
        let low_other = lowered_at d other also k s (GateInstance gate outs ins) has x e.0 1 e.1 in
        let same : here (terminal_place one k x) ∷ [] ≡ there (terminal_place other k x) ∷ [] =
        ap (λ js. map here (map (Step k x) js)) (sym (only_one (one k x).bits 0 low.width)) ∙ sides k s (GateInstance gate outs ins) has x e.0 1 e.1 ∙ ap (λ js. map there (map (Step k x) js)) (only_one (other k x).bits 0 low_other.width) in
        ap (λ l. get_or l 0 (here (terminal_place one k x))) same

    joined_same : (x : ℕ) → x < length ins → here (joined_place one k x) ≡ there (joined_place other k x)
    joined_same zero fits = terminal_same 0 fits
    joined_same (suc x) fits = refl

    gate_same : here (gate_place one gate k (length ins)) ≡ there (gate_place other gate k (length ins))
    gate_same = by (inverts gate)
      where
        by : (b : Bool) → here (if b then Inverted k else joined_place one k (length ins - 1)) ≡ there (if b then Inverted k else joined_place other k (length ins - 1))
        by true = refl
        by false = joined_same (length ins - 1) (omega (arith, shape.0))

  -- bits with the places that give them

  -- one bit, and places of one formula
  abbrev Same : Bit × CellName → Bit × CellName → Type 0
  Same y z = (y.0 ≡ z.0) × (here y.1 ≡ there z.1)

  zipped : (bits : List Bit) (xs ys : List CellName) → map here xs ≡ map there ys → AllZip Same (zip bits xs) (zip bits ys)
  zipped [] xs ys e = tt
  zipped (b ∷ bits) [] [] e = tt
  zipped (b ∷ bits) [] (y ∷ ys) e = absurd (grind (arith, e))
  zipped (b ∷ bits) (x ∷ xs) [] e = absurd (grind (arith, e))
  zipped (b ∷ bits) (x ∷ xs) (y ∷ ys) e = ((refl, ap (λ l. get_or l 0 (here x)) e), zipped bits xs ys (ap (drop 1) e))

  mapped : {X : Type 0} (f g : X → Bit × CellName) → ((x : X) → Same (f x) (g x)) → (xs : List X) → AllZip Same (map f xs) (map g xs)
  mapped f g each [] = tt
  mapped f g each (x ∷ xs) = (each x, mapped f g each xs)

  flattened : {X : Type 0} (f g : X → List (Bit × CellName)) (xs : List X) → ((x : X) → Contains xs x → AllZip Same (f x) (g x)) → AllZip Same (flat_map f xs) (flat_map g xs)
  flattened f g [] each = tt
  flattened f g (x ∷ xs) each = zip_append Same (f x) (g x) (flat_map f xs) (flat_map g xs) (each x (contains_here x xs)) (flattened f g xs (λ y has. each y (contains_there x xs y has)))

  nets_same : (bits : List Bit) → map here (map NetBit bits) ≡ map there (map NetBit bits)
  nets_same [] = refl
  nets_same (b ∷ bits) = ap (λ l. there (NetBit b) ∷ l) (nets_same bits)

  given_at_same : (k : ℕ) (s : Scope) (c : Construct) → Part k s c → AllZip Same (given_at one (k, (s, c))) (given_at other (k, (s, c)))
  given_at_same k s (Assignment left right) has = zipped (written_bits s left) _ _ (low_sides (length (written_bits s left)) k s (Assignment left right) has 0 right (context_width s left right) (contains_here (0, (right, context_width s left right)) []))
  given_at_same k s (GateInstance gate outs ins) has =
      mapped (λ (b : Bit). (b, gate_place one gate k (length ins))) (λ (b : Bit). (b, gate_place other gate k (length ins))) (λ b. (refl, gate_same k s gate outs ins has)) (flat_map (written_bits s) outs)
  given_at_same k s (Register r) has = tt
  given_at_same k s (SupplyNet high n) has = mapped (λ (b : Bit). (b, Constant high)) (λ (b : Bit). (b, Constant high)) (λ b. (refl, refl)) (bits_named s n)
  given_at_same k s (InputConnection i pin e) has =
      zipped (pin_bits (path_to s.path i) pin) (step_places one k 0) (step_places other k 0) (sides k s (InputConnection i pin e) has 0 e (width_of s e) (contains_here (0, (e, width_of s e)) []))
  given_at_same k s (OutputConnection i pin e) has = zipped (written_bits s e) _ _ (nets_same (pin_bits (path_to s.path i) pin))
  given_at_same k s BoxContents has = tt

  abbrev inputs : List (Bit × CellName)
  inputs = map (λ x. (x.1, Input x.0)) (enumerate_from 0 (cut_bits d))

  abbrev pins : List (Bit × CellName)
  pins = flat_map given_by_box (enumerate_from 0 (boxes d))

  inputs_same : AllZip Same inputs inputs
  inputs_same = mapped (λ (x : ℕ × Bit). (x.1, Input x.0)) (λ (x : ℕ × Bit). (x.1, Input x.0)) (λ x. (refl, refl)) (enumerate_from 0 (cut_bits d))

  pins_same : (b : ℕ × Scope) → AllZip Same (given_by_box b) (given_by_box b)
  pins_same (b, s) = mapped (λ (x : ℕ × Bit). (x.1, BoxPin b x.0)) (λ (x : ℕ × Bit). (x.1, BoxPin b x.0)) (λ x. (refl, refl)) (enumerate_from 0 (output_bits s))

  pub given_same : AllZip Same (driving_places d one) (driving_places d other)
  given_same = zip_append Same (inputs ++ pins) (inputs ++ pins) (flat_map (given_at one) (enumerate_from 0 (parts d))) (flat_map (given_at other) (enumerate_from 0 (parts d)))
      (zip_append Same inputs inputs pins pins inputs_same (flattened given_by_box given_by_box (enumerate_from 0 (boxes d)) (λ b has. pins_same b)))
      (flattened (given_at one) (given_at other) (enumerate_from 0 (parts d)) (λ p has. given_at_same p.0 p.1.0 p.1.1 has))

  data_at_same : (k : ℕ) (s : Scope) (c : Construct) → Part k s c → AllZip Same (data_at one (k, (s, c))) (data_at other (k, (s, c)))
  data_at_same k s (Register r) has = zipped (written_bits s r.left) _ _ (low_sides (length (written_bits s r.left)) k s (Register r) has 0 r.right (context_width s r.left r.right) (contains_here (0, (r.right, context_width s r.left r.right)) []))
  data_at_same k s (Assignment left right) has = tt
  data_at_same k s (GateInstance gate outs ins) has = tt
  data_at_same k s (SupplyNet high n) has = tt
  data_at_same k s (InputConnection i pin e) has = tt
  data_at_same k s (OutputConnection i pin e) has = tt
  data_at_same k s BoxContents has = tt

  pub data_same : AllZip Same (flat_map (data_at one) (enumerate_from 0 (parts d))) (flat_map (data_at other) (enumerate_from 0 (parts d)))
  data_same = flattened (data_at one) (data_at other) (enumerate_from 0 (parts d)) (λ p has. data_at_same p.0 p.1.0 p.1.1 has)

  -- a bit has places of one formula in both
  pub place_same : (b : Bit) (xs ys : List (Bit × CellName)) → AllZip Same xs ys → here (place_in xs b) ≡ there (place_in ys b)
  place_same b [] [] all = refl
  place_same b [] (y ∷ ys) all = absurd all
  place_same b (x ∷ xs) [] all = absurd all
  place_same b (x ∷ xs) (y ∷ ys) all =
      subst (λ t. here (option_map_or (λ (u : Bit × CellName). u.1) (if same_bit b x.0 then Some x else find (λ (u : Bit × CellName). same_bit b u.0) xs) (Constant false)) ≡ there (option_map_or (λ (u : Bit × CellName). u.1) (if t then Some y else find (λ (u : Bit × CellName). same_bit b u.0) ys) (Constant false)))
      (ap (same_bit b) all.0.0) (by (same_bit b x.0) (place_same b xs ys all.1))
    where
      by : (t : Bool) → here (place_in xs b) ≡ there (place_in ys b)
          → here (option_map_or (λ (u : Bit × CellName). u.1) (if t then Some x else find (λ (u : Bit × CellName). same_bit b u.0) xs) (Constant false)) ≡ there (option_map_or (λ (u : Bit × CellName). u.1) (if t then Some y else find (λ (u : Bit × CellName). same_bit b u.0) ys) (Constant false))
      by true rest = all.0.1
      by false rest = rest
