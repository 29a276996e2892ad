-- Netlists that implement one design are alike: what is at a place of the one list has the formula of the same place of the other.
use Rattle.std.proofs.Common.{◌≡◌, ℕ, ◌<◌, List, [], ◌∷◌, ◌++◌, map, flat_map, length, get_or, Contains, refl, sym, ap, ap₂, ◌∙◌, subst, arith}
use Rattle.std.specs.List.{enumerate_from}
use Rattle.std.specs.List.Sorted.{IsPermutation}
use Rattle.std.proofs.lemmas.List.{map-append}
use Rattle.std.proofs.lemmas.List.Sorted.{IsPermutation-sym, IsPermutation-trans, IsPermutation-map}
use Rattle.bb_iso.specs.Laws.Formulas.{Formula, formula_at, cell_formulas, pin_formulas}
use Rattle.bb_iso.specs.Laws.LooseFormulas.{AreLooseFormulas, OrderKeepsFormulas}
use Rattle.bb_net.specs.declared.loose.LooseCell.{LooseCell}
use Rattle.bb_net.specs.Netlists.{Pins, box_at}
use Rattle.bb_net.specs.Orders.{moved_pins}
use Rattle.bb_implements.specs.Laws.IsomorphicNets.{ImplementingNetsAreIsomorphic}
use Rattle.bb_design.specs.Constructs.{parts}
use Rattle.bb_net.specs.Flats.{FlatNet}
use Rattle.bb_design.specs.Hierarchy.{Design, Scope, root, scopes, is_box, boxes}
use Rattle.bb_design.specs.Inside.Allowed.{IsAllowed}
use Rattle.bb_design.specs.NetBits.{Bit, net_order, input_bits, output_bits, top_outputs, scope_bits}
use Rattle.bb_implements.specs.Places.{CellName, NetBit, BoxPin, data_at, data_places, place_in, operator_places, placed_cells, pins_of}
use Rattle.bb_design.specs.Registers.{RegisterBit, registers}
use Rattle.bb_implements.specs.Implements.{Implements}
use Rattle.bb_implements.proofs.IsomorphicCells.{kept_formulas, operators_isomorphic}
use Rattle.bb_implements.proofs.IsomorphicEquations.{formulas, formula_is, data_is, formulas_meet}
use Rattle.bb_implements.proofs.IsomorphicPlaces.{there, here, data_same, place_same}
use Rattle.bb_implements.proofs.LooseLists.{lists_are_loose}
use Rattle.bb_lemmas.proofs.Places.{got}
use Rattle.bb_lemmas.proofs.Members.{contains_here, contains_there, kept_from, into_flat}
use Rattle.bb_implements.proofs.ContentTables.{list_count}
use Rattle.bb_lemmas.proofs.Numbered.{numbered_at, from_numbered}
use Rattle.bb_implements.proofs.KeptCells.{kept_operators, moved, one_to_one, kept_listed}
use Rattle.bb_implements.proofs.ListedEntries.{Entry}
use Rattle.bb_implements.proofs.ListedPlaces.{IsListed, listed_below, net_listed, pin_listed, box_is}
use Rattle.bb_implements.proofs.ListedSources.{data_in}
use Rattle.bb_design.specs.Laws.Wired.{IsWired}
use Rattle.bb_lemmas.proofs.Maps.{map-twice, same_by_places}
use Rattle.bb_implements.proofs.OccurringNames.{box_order}
use Rattle.bb_design.specs.Laws.DesignLaws.{DesignLaws}

module _ (of_designs : DesignLaws) (keeps : OrderKeepsFormulas) (d : Design) (f g : FlatNet) (allowed : IsAllowed d) (s : Implements d f) (t : Implements d g) where
  wires : IsWired d
  wires = of_designs.wired d allowed.bounded

  -- the formulas of each netlist, by the numbers of its list
  abbrev first : ℕ → Formula
  first k = formula_at f.net.cells (s.ordered.to k)

  abbrev second : ℕ → Formula
  second k = formula_at g.net.cells (t.ordered.to k)

  -- boxes have the same numbers in both
  meets : AreLooseFormulas t.cells s.numbers second
  meets = subst (λ n. AreLooseFormulas t.cells n second) (sym (box_order of_designs d f g allowed s t))
      ((keeps t.cells g.net t.numbers (lists_are_loose of_designs d t.lowering t.cells allowed.bounded t.lowered t.listed) t.netlist t.ordered second).1 (λ k fits. refl))

  abbrev v : CellName → Formula
  v = here d s.lowering t.lowering t.cells t.listed s.lowered t.lowered wires s.numbers second meets

  abbrev u : CellName → Formula
  u = there d s.lowering t.lowering t.cells t.listed s.lowered t.lowered wires s.numbers second meets

  -- those for the places of the one list, by its numbers
  abbrev chosen : ℕ → Formula
  chosen = formulas of_designs d s.lowering t.lowering s.cells t.cells s.listed t.listed s.lowered t.lowered wires s.numbers second meets

  -- what is at a place of the list has in its netlist the formula that comes from the other
  occurs_is : (p : CellName) → s.listed.number p < length s.cells.cells → chosen (s.listed.number p) ≡ v p → first (s.listed.number p) ≡ v p
  occurs_is p fits is =
      let same = (keeps s.cells f.net s.numbers (lists_are_loose of_designs d s.lowering s.cells allowed.bounded s.lowered s.listed) s.netlist s.ordered chosen).0
      (formulas_meet of_designs d s.lowering t.lowering s.cells t.cells s.listed t.listed s.lowered t.lowered wires s.numbers second meets) in
      sym (same (s.listed.number p) fits) ∙ is

  here_is : (p : CellName) (c : LooseCell) → IsListed d s.lowering s.cells s.listed p c → first (s.listed.number p) ≡ v p
  here_is p c has = occurs_is p (listed_below d s.lowering s.cells s.listed p c has) (formula_is of_designs d s.lowering t.lowering s.cells t.cells s.listed t.listed s.lowered t.lowered wires s.numbers second meets p c has)

  nets_isomorphic : (all : List Bit) → ((b : Bit) → Contains all b → Contains (net_order d) b) → map first (map (λ b. s.listed.number (NetBit b)) all) ≡ map second (map (λ b. t.listed.number (NetBit b)) all)
  nets_isomorphic [] known = refl
  nets_isomorphic (b ∷ all) known = ap₂ ◌∷◌ (here_is (NetBit b) _ (net_listed d s.lowering s.cells s.listed b (known b (contains_here b all)))) (nets_isomorphic all (λ c has. known c (contains_there b all c has)))

  pins_isomorphic : (b : ℕ) (q : Scope) → Contains (enumerate_from 0 (boxes d)) (b, q) → (all : List (ℕ × Bit)) → ((y : ℕ × Bit) → Contains all y → Contains (enumerate_from 0 (output_bits q)) y)
      → map first (map (λ (x : ℕ × Bit). s.listed.number (BoxPin b x.0)) all) ≡ map second (map (λ (x : ℕ × Bit). t.listed.number (BoxPin b x.0)) all)
  pins_isomorphic b q has [] sub = refl
  pins_isomorphic b q has (y ∷ all) sub =
      ap₂ ◌∷◌ (here_is (BoxPin b y.0) _ (pin_listed d s.lowering s.cells s.listed b q has y.0 y.1 (sub y (contains_here y all)))) (pins_isomorphic b q has all (λ z at. sub z (contains_there y all z at)))

  -- the outputs of the top, and the data of registers

  abbrev data_one : List (Bit × CellName)
  data_one = flat_map (data_at s.lowering) (enumerate_from 0 (parts d))

  abbrev data_other : List (Bit × CellName)
  data_other = flat_map (data_at t.lowering) (enumerate_from 0 (parts d))

  data_isomorphic : (rs : List RegisterBit) → map first (map s.listed.number (map (λ r. place_in data_one r.bit) rs)) ≡ map second (map t.listed.number (map (λ r. place_in data_other r.bit) rs))
  data_isomorphic [] = refl
  data_isomorphic (r ∷ rs) = ap₂ ◌∷◌ (occurs_is (place_in data_one r.bit) (data_in d s.lowering s.cells s.listed s.lowered wires r.bit) (data_is of_designs d s.lowering t.lowering s.cells t.cells s.listed t.listed s.lowered t.lowered wires s.numbers second meets r.bit)
      ∙ place_same d s.lowering t.lowering t.cells t.listed s.lowered t.lowered wires s.numbers second meets r.bit data_one data_other (data_same d s.lowering t.lowering t.cells t.listed s.lowered t.lowered wires s.numbers second meets)) (data_isomorphic rs)

  outs_isomorphic : map (formula_at f.net.cells) f.net.outs ≡ map (formula_at g.net.cells) g.net.outs
  outs_isomorphic =
      let known : (b : Bit) → Contains (top_outputs d) b → Contains (net_order d) b = λ b h. into_flat scope_bits (scopes d) (root d) b (contains_here (root d) _) (of_designs.of_scope (root d) _ b h) in
      ap (map (formula_at f.net.cells)) s.ordered.outs ∙ map-twice s.ordered.to (formula_at f.net.cells) s.cells.outs
      ∙ ap (map first) s.listed.outs ∙ map-append first (map (λ b. s.listed.number (NetBit b)) (top_outputs d)) (map s.listed.number (data_places d s.lowering))
      ∙ ap₂ ◌++◌ (nets_isomorphic (top_outputs d) known) (data_isomorphic (registers d))
      ∙ sym (map-append second (map (λ b. t.listed.number (NetBit b)) (top_outputs d)) (map t.listed.number (data_places d t.lowering))) ∙ ap (map second) (sym t.listed.outs)
      ∙ sym (map-twice t.ordered.to (formula_at g.net.cells) t.cells.outs) ∙ ap (map (formula_at g.net.cells)) (sym t.ordered.outs)

  -- boxes

  abbrev no_pins : Pins
  no_pins = record { ins = []; outs = [] }

  box_isomorphic : (b : ℕ) → b < length f.net.boxes → pin_formulas f.net.cells (box_at f.net.boxes b) ≡ pin_formulas g.net.cells (box_at g.net.boxes b)
  box_isomorphic b fits =
      let in_s : b < length s.cells.boxes = omega (arith, fits, s.ordered.box_count) in
      let in_t : b < length t.cells.boxes = omega (arith, in_s, list_count d f s, list_count d g t) in
      let n = get_or s.numbers b 0 in
      let one = s.ordered.boxes b in_s in
      let other = t.ordered.boxes b in_t in
      let q = get_or (boxes d) n (root d) in
      let has = numbered_at (boxes d) n (root d) (omega (arith, one.0, list_count d f s)) in
      let same : get_or t.numbers b 0 ≡ n = ap (λ all. get_or all b 0) (sym (box_order of_designs d f g allowed s t)) in
      let left : box_at f.net.boxes b ≡ moved_pins s.ordered.to (pins_of s.listed.number (n, q)) = one.1 ∙ ap (moved_pins s.ordered.to) (box_is d s.lowering s.cells s.listed n q has) in
      let right : box_at g.net.boxes b ≡ moved_pins t.ordered.to (pins_of t.listed.number (n, q)) =
      other.1 ∙ ap (λ i. moved_pins t.ordered.to (box_at t.cells.boxes i)) same ∙ ap (moved_pins t.ordered.to) (box_is d t.lowering t.cells t.listed n q has) in
      let known : (x : Bit) → Contains (input_bits q) x → Contains (net_order d) x = λ x at. into_flat scope_bits (scopes d) q x (kept_from is_box (scopes d) q (from_numbered 0 (boxes d) (n, q) has)).0 (of_designs.of_scope q _ x at) in
      let ins = map-twice s.ordered.to (formula_at f.net.cells) (map (λ x. s.listed.number (NetBit x)) (input_bits q)) ∙ nets_isomorphic (input_bits q) known
      ∙ sym (map-twice t.ordered.to (formula_at g.net.cells) (map (λ x. t.listed.number (NetBit x)) (input_bits q))) in
      let outs = map-twice s.ordered.to (formula_at f.net.cells) (map (λ (x : ℕ × Bit). s.listed.number (BoxPin n x.0)) (enumerate_from 0 (output_bits q))) ∙ pins_isomorphic n q has (enumerate_from 0 (output_bits q)) (λ y at. at)
      ∙ sym (map-twice t.ordered.to (formula_at g.net.cells) (map (λ (x : ℕ × Bit). t.listed.number (BoxPin n x.0)) (enumerate_from 0 (output_bits q)))) in
      let between : pin_formulas f.net.cells (moved_pins s.ordered.to (pins_of s.listed.number (n, q))) ≡ pin_formulas g.net.cells (moved_pins t.ordered.to (pins_of t.listed.number (n, q))) = λ i. record { ins = ins i; outs = outs i } in
      ap (pin_formulas f.net.cells) left ∙ between ∙ ap (pin_formulas g.net.cells) (sym right)

  boxes_isomorphic : map (pin_formulas f.net.cells) f.net.boxes ≡ map (pin_formulas g.net.cells) g.net.boxes
  boxes_isomorphic = same_by_places (pin_formulas f.net.cells) (pin_formulas g.net.cells) f.net.boxes g.net.boxes (s.ordered.box_count ∙ list_count d f s ∙ sym (list_count d g t) ∙ sym t.ordered.box_count) (λ b x y p q.
      let left = got f.net.boxes b x no_pins p in
      let right = got g.net.boxes b y no_pins q in
      ap (pin_formulas f.net.cells) (sym left.1) ∙ box_isomorphic b left.0 ∙ ap (pin_formulas g.net.cells) right.1)

  -- cells

  kept_same : (xs : List Entry) → ((x : Entry) → Contains xs x → Contains (placed_cells d s.lowering s.listed.number) x) → map (λ (x : Entry). first (s.listed.number x.0)) xs ≡ map (λ (x : Entry). v x.0) xs
  kept_same [] sub = refl
  kept_same (x ∷ xs) sub = ap₂ ◌∷◌ (here_is x.0 x.1 (sub x (contains_here x xs))) (kept_same xs (λ y has. sub y (contains_there x xs y has)))

  cells_isomorphic : IsPermutation (cell_formulas f.net) (cell_formulas g.net)
  cells_isomorphic =
      let one = kept_operators d s.lowering s.cells s.listed f.net s.numbers s.ordered in
      let other = kept_operators d t.lowering t.cells t.listed g.net t.numbers t.ordered in
      let to = moved d s.lowering s.cells s.listed f.net s.numbers s.ordered in
      let to_other = moved d t.lowering t.cells t.listed g.net t.numbers t.ordered in
      let left : IsPermutation (cell_formulas f.net) (kept_formulas v (operator_places d s.lowering s.listed.number)) =
      subst (IsPermutation (cell_formulas f.net)) (map-twice to (formula_at f.net.cells) one ∙ kept_same one (kept_listed d s.lowering s.cells s.listed f.net s.numbers s.ordered))
      (IsPermutation-map (formula_at f.net.cells) _ (map to one) (one_to_one d s.lowering s.cells s.listed f.net s.numbers s.ordered)) in
      let right : IsPermutation (cell_formulas g.net) (kept_formulas u (operator_places d t.lowering t.listed.number)) =
      subst (IsPermutation (cell_formulas g.net)) (map-twice to_other (formula_at g.net.cells) other)
      (IsPermutation-map (formula_at g.net.cells) _ (map to_other other) (one_to_one d t.lowering t.cells t.listed g.net t.numbers t.ordered)) in
      let between = operators_isomorphic d s.lowering t.lowering s.cells t.cells s.listed t.listed s.lowered t.lowered wires s.numbers second meets in
      IsPermutation-trans _ _ _ left (IsPermutation-trans _ _ _ between (IsPermutation-sym _ _ right))

module _ (of_designs : DesignLaws) where
  pub implementing_nets_are_isomorphic : OrderKeepsFormulas → ImplementingNetsAreIsomorphic
  implementing_nets_are_isomorphic keeps d f g allowed s t = record {
    inputs = s.ordered.inputs ∙ s.listed.inputs ∙ sym t.listed.inputs ∙ sym t.ordered.inputs;
    cells = cells_isomorphic of_designs keeps d f g allowed s t;
    boxes = boxes_isomorphic of_designs keeps d f g allowed s t;
    outs = outs_isomorphic of_designs keeps d f g allowed s t;
  }
