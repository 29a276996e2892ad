-- The list of cells of a design can be put in order.
use Rattle.std.proofs.Common.{refl, not, ◌≡◌, ◌⊎◌, ℕ, ◌-◌, ◌<◌, ◌≤◌, false, [], ◌∷◌, ◌++◌, map, flat_map, length, get_or, All, Contains, sym, ap, ◌∙◌, subst, inl, inr, suc, arith}
use Rattle.std.specs.Prelude.{IfSome}
use Rattle.std.specs.List.{enumerate_from}
use Rattle.std.proofs.lemmas.List.{length-map, get_or_past}
use Rattle.std.proofs.lemmas.List.Elements.{All-nil, All-cons, Contains-append_cases}
use Rattle.bb_ast.specs.declared.module.Gate.{Gate}
use Rattle.bb_ast.specs.declared.module.Gate.TheVariants as gates
use Rattle.bb_names.specs.Nets.{nets_of}
use Rattle.bb_expr.specs.declared.step.BitStep.{BitStep}
use Rattle.bb_expr.specs.declared.step.BitStep.TheVariants as steps
use Rattle.bb_expr.specs.Lowered.{ReadsEarlier}
use Rattle.bb_net.specs.declared.loose.LooseCell.{LooseCell}
use Rattle.bb_net.specs.declared.loose.LooseCell.TheVariants as cell
use Rattle.bb_net.specs.Loose.{LooseList, loose_at, operand_places, IsLoose}
use Rattle.bb_net.specs.Netlists.{Pins, box_at, IsPinAt}
use Rattle.bb_design.specs.Hierarchy.{Design, Scope, root, scopes, is_box, boxes}
use Rattle.bb_design.specs.NetBits.{Bit, input_bits, output_bits, top_outputs, scope_bits}
use Rattle.bb_design.specs.Constructs.{Construct, GateInstance, parts}
use Rattle.bb_design.specs.Refusals.{IsSmallDesign}
use Rattle.bb_design.specs.Registers.{RegisterBit, registers}
use Rattle.bb_implements.specs.Places.{NetBit, Step, Joined, BoxPin, lowered_in, Lowering, IsLowering, data_at, data_places, place_in, step_cell, join_cell, pins_of, IsListOf}
use Rattle.bb_lemmas.proofs.Members.{all_from, from_map, contains_here, kept_from, into_flat}
use Rattle.bb_lemmas.proofs.Orders.{less_or_not}
use Rattle.bb_lemmas.proofs.Numbered.{enumerated_from, numbered_at, mapped_enumerated, length-enumerated, from_numbered}
use Rattle.bb_implements.proofs.CellCounts.{places_few}
use Rattle.bb_implements.proofs.ListPrefixes.{lists_begin, places-length}
use Rattle.bb_implements.proofs.ListedEntries.{Entry, Cases, each_entry}
use Rattle.bb_implements.proofs.ListedPlaces.{reads_there, listed_cell, listed_below, listed_at, pin_listed, box_is}
use Rattle.bb_implements.proofs.ListedSources.{net_in, step_in, terminal_in, joined_in, given_in, data_in}
use Rattle.bb_design.specs.Laws.Wired.{IsWired}
use Rattle.std.proofs.lemmas.List.Filters.{length-filter_both}
use Rattle.bb_implements.specs.Laws.ListLaws.{ListsAreLoose}
use Rattle.bb_design.specs.Laws.DesignLaws.{DesignLaws}

module _ (of_designs : DesignLaws) (d : Design) (lowering : Lowering) (l : LooseList) (list : IsListOf d lowering l) (lowered : IsLowering d lowering) (wired : IsWired d) where
  -- a cell at a place reads places of the list, an input is one of the inputs, and a pin is one of its box
  IsFine : ℕ → LooseCell → Type 0
  IsFine n (cell.Const b) = Unit {0}
  IsFine n (cell.Input i) = i < l.inputs
  IsFine n (cell.Not a) = a < length l.cells
  IsFine n (cell.And a b) = (a < length l.cells) × (b < length l.cells)
  IsFine n (cell.Or a b) = (a < length l.cells) × (b < length l.cells)
  IsFine n (cell.Xor a b) = (a < length l.cells) × (b < length l.cells)
  IsFine n (cell.Mux c t e) = (c < length l.cells) × (t < length l.cells) × (e < length l.cells)
  IsFine n (cell.BoxOut b p) = IsPinAt l.boxes b p n
  IsFine n (cell.Copy p) = p < length l.cells

  box_there : (b : ℕ) (s : Scope) → Contains (enumerate_from 0 (boxes d)) (b, s) → Contains (scopes d) s
  box_there b s has = (kept_from is_box (scopes d) s (from_numbered 0 (boxes d) (b, s) has)).0

  -- pins of boxes
  pin_fine : (b : ℕ) (s : Scope) → Contains (enumerate_from 0 (boxes d)) (b, s) → (p : ℕ) (x : Bit) → Contains (enumerate_from 0 (output_bits s)) (p, x) → IsPinAt l.boxes b p (list.number (BoxPin b p))
  pin_fine b s has p x at =
      let j = enumerated_from 0 (output_bits s) p x at in
      let same : p ≡ j.0 = omega (arith, j.1) in
      let f : ℕ × Bit → ℕ = λ x. list.number (BoxPin b x.0) in
      let long : length (map f (enumerate_from 0 (output_bits s))) ≡ length (output_bits s) = length-map (enumerate_from 0 (output_bits s)) f ∙ length-enumerated 0 (output_bits s) in
      subst (λ (q : Pins). (p < length q.outs) × (get_or q.outs p 0 ≡ list.number (BoxPin b p))) (sym (box_is d lowering l list b s has))
      (omega (arith, j.2, same, long), ap (λ k. get_or (map f (enumerate_from 0 (output_bits s))) k 0) same ∙ mapped_enumerated f 0 (output_bits s) j.0 x 0 j.2 ∙ ap (λ k. list.number (BoxPin b k)) (sym j.1))

  step_fine : (k : ℕ) (s : Scope) (c : Construct) → Contains (enumerate_from 0 (parts d)) (k, (s, c)) → (x : ℕ) → x < length (lowered_in (s, c)) → (n j : ℕ) → j < length (lowering k x).all → (step : BitStep) → ReadsEarlier (nets_of s.source) j step
      → IfSome (step_cell (λ a. list.number (Step k x a)) step) (IsFine n)
  unfolding IsFine
  step_fine k s c has x fits n j there (steps.Const b) reads = tt
  step_fine k s c has x fits n j there (steps.Net m i) reads = tt
  step_fine k s c has x fits n j there (steps.Not a) reads = step_in d lowering l list lowered wired k s c has x fits a (omega (arith, reads, there))
  step_fine k s c has x fits n j there (steps.And a b) reads = (step_in d lowering l list lowered wired k s c has x fits a (omega (arith, reads.0, there)), step_in d lowering l list lowered wired k s c has x fits b (omega (arith, reads.1, there)))
  step_fine k s c has x fits n j there (steps.Or a b) reads = (step_in d lowering l list lowered wired k s c has x fits a (omega (arith, reads.0, there)), step_in d lowering l list lowered wired k s c has x fits b (omega (arith, reads.1, there)))
  step_fine k s c has x fits n j there (steps.Xor a b) reads = (step_in d lowering l list lowered wired k s c has x fits a (omega (arith, reads.0, there)), step_in d lowering l list lowered wired k s c has x fits b (omega (arith, reads.1, there)))
  step_fine k s c has x fits n j there (steps.Mux i t e) reads = (
    step_in d lowering l list lowered wired k s c has x fits i (omega (arith, reads.0, there)),
    step_in d lowering l list lowered wired k s c has x fits t (omega (arith, reads.1, there)),
    step_in d lowering l list lowered wired k s c has x fits e (omega (arith, reads.2, there)),
  )

  join_fine : (g : Gate) (n a b : ℕ) → a < length l.cells → b < length l.cells → IsFine n (join_cell g a b)
  unfolding IsFine
  join_fine gates.And n a b p q = (p, q)
  join_fine gates.Nand n a b p q = (p, q)
  join_fine gates.Or n a b p q = (p, q)
  join_fine gates.Nor n a b p q = (p, q)
  join_fine gates.Xor n a b p q = (p, q)
  join_fine gates.Xnor n a b p q = (p, q)
  join_fine gates.Buf n a b p q = p
  join_fine gates.Not n a b p q = p

  -- each that is listed is so
  abbrev Fine : Entry → Type 0
  Fine x = IsFine (list.number x.0) x.1

  fine_cases : Cases d lowering l list Fine
  unfolding IsFine
  fine_cases = record {
    constants = λ b. tt;
    inputs = λ i fits. omega (arith, fits, list.inputs);
    nets = λ b has. given_in d lowering l list lowered wired b;
    steps = λ k s c has x fits j there. step_fine k s c has x fits (list.number (Step k x j)) j there (get_or (lowering k x).all j (steps.Const false)) (reads_there d lowering lowered k s c has x fits j there);
    joins = λ k s gate outs ins has x fits.
        join_fine gate (list.number (Joined k (suc x))) _ _ (joined_in d lowering l list lowered wired k s gate outs ins has x (omega (arith, fits))) (terminal_in d lowering l list lowered wired k s gate outs ins has (suc x) (omega (arith, fits)));
    inverters = λ k s gate outs ins has on.
        let one = (wired.gates s gate outs ins (from_numbered 0 (parts d) (k, (s, GateInstance gate outs ins)) has)).0 in
        joined_in d lowering l list lowered wired k s gate outs ins has (length ins - 1) (omega (arith, one));
    pins = λ b s has p y at. pin_fine b s has p y at;
  }

  each_fine : (k : ℕ) → k < length l.cells → IsFine k (loose_at l k)
  each_fine k fits =
      let p = listed_at d lowering l list k fits in
      subst (λ n. IsFine n (loose_at l n)) p.3 (subst (IsFine (list.number p.0)) (sym (listed_cell d lowering l list p.0 p.1 p.2)) (each_entry d lowering l list Fine fine_cases (p.0, p.1) p.2))

  -- a box of the list is one of the design
  box_count : length l.boxes ≡ length (boxes d)
  box_count = ap length list.boxes ∙ length-map (enumerate_from 0 (boxes d)) (pins_of list.number) ∙ length-enumerated 0 (boxes d)

  no_box : (b : ℕ) → length (boxes d) ≤ b → box_at l.boxes b ≡ record { ins = []; outs = [] }
  no_box b past = get_or_past l.boxes b (record { ins = []; outs = [] }) (omega (arith, past, box_count))

  ins_there : (b : ℕ) → All (λ pin. pin < length l.cells) (box_at l.boxes b).ins
  ins_there b = by (less_or_not b (length (boxes d)))
    where
      by : (b < length (boxes d)) ⊎ (length (boxes d) ≤ b) → All (λ pin. pin < length l.cells) (box_at l.boxes b).ins
      by (inl h) =
          let s = get_or (boxes d) b (root d) in
          let has = numbered_at (boxes d) b (root d) h in
          subst (λ (q : Pins). All (λ pin. pin < length l.cells) q.ins) (sym (box_is d lowering l list b s has)) (all_from (λ pin. pin < length l.cells) (map (λ x. list.number (NetBit x)) (input_bits s)) (λ pin at.
          let x = from_map (λ x. list.number (NetBit x)) (input_bits s) pin at in
          subst (λ k. k < length l.cells) x.2 (net_in d lowering l list lowered wired x.0 (into_flat scope_bits (scopes d) s x.0 (box_there b s has) (of_designs.of_scope s _ x.0 x.1)))))
      by (inr h) = subst (λ (q : Pins). All (λ pin. pin < length l.cells) q.ins) (sym (no_box b h)) (All-nil _)

  pin_driven : (b p place : ℕ) → IsPinAt l.boxes b p place → (place < length l.cells) × (loose_at l place ≡ cell.BoxOut b p)
  pin_driven b p place is = by (less_or_not b (length (boxes d)))
    where
      by : (b < length (boxes d)) ⊎ (length (boxes d) ≤ b) → (place < length l.cells) × (loose_at l place ≡ cell.BoxOut b p)
      by (inl h) =
          let s = get_or (boxes d) b (root d) in
          let has = numbered_at (boxes d) b (root d) h in
          let f : ℕ × Bit → ℕ = λ x. list.number (BoxPin b x.0) in
          let long : length (map f (enumerate_from 0 (output_bits s))) ≡ length (output_bits s) = length-map (enumerate_from 0 (output_bits s)) f ∙ length-enumerated 0 (output_bits s) in
          let at = subst (λ (q : Pins). (p < length q.outs) × (get_or q.outs p 0 ≡ place)) (box_is d lowering l list b s has) is in
          let fits : p < length (output_bits s) = omega (arith, at.0, long) in
          let none : Bit = record { path = []; net = []; place = 0 } in
          let same : list.number (BoxPin b p) ≡ place = ap (λ k. list.number (BoxPin b k)) (omega arith) ∙ sym (mapped_enumerated f 0 (output_bits s) p none 0 fits) ∙ at.1 in
          let listed = pin_listed d lowering l list b s has p (get_or (output_bits s) p none) (numbered_at (output_bits s) p none fits) in (
            subst (λ k. k < length l.cells) same (listed_below d lowering l list (BoxPin b p) _ listed),
            subst (λ k. loose_at l k ≡ cell.BoxOut b p) same (listed_cell d lowering l list (BoxPin b p) _ listed),
          )
      by (inr h) = let at = subst (λ (q : Pins). (p < length q.outs) × (get_or q.outs p 0 ≡ place)) (no_box b h) is in absurd (omega (arith, at.0))

  one : (a : ℕ) → a < length l.cells → All (λ k. k < length l.cells) (a ∷ [])
  one a h = All-cons (λ k. k < length l.cells) a [] h (All-nil _)

  two : (a b : ℕ) → a < length l.cells → b < length l.cells → All (λ k. k < length l.cells) (a ∷ b ∷ [])
  two a b p q = All-cons (λ k. k < length l.cells) a (b ∷ []) p (one b q)

  operands_in : (n : ℕ) (c : LooseCell) → IsFine n c → All (λ k. k < length l.cells) (operand_places l.boxes c)
  unfolding IsFine
  operands_in n (cell.Const b) fine = All-nil _
  operands_in n (cell.Input i) fine = All-nil _
  operands_in n (cell.Not a) fine = one a fine
  operands_in n (cell.And a b) fine = two a b fine.0 fine.1
  operands_in n (cell.Or a b) fine = two a b fine.0 fine.1
  operands_in n (cell.Xor a b) fine = two a b fine.0 fine.1
  operands_in n (cell.Mux c t e) fine = All-cons (λ k. k < length l.cells) c (t ∷ e ∷ []) fine.0 (two t e fine.1 fine.2)
  operands_in n (cell.BoxOut b p) fine = ins_there b
  operands_in n (cell.Copy p) fine = one p fine

  outs_in : (place : ℕ) → Contains (map (λ b. list.number (NetBit b)) (top_outputs d) ++ map list.number (data_places d lowering)) place → place < length l.cells
  outs_in place has = by (Contains-append_cases (map (λ b. list.number (NetBit b)) (top_outputs d)) (map list.number (data_places d lowering)) place has)
    where
      by : Contains (map (λ b. list.number (NetBit b)) (top_outputs d)) place ⊎ Contains (map list.number (data_places d lowering)) place → place < length l.cells
      by (inl h) =
          let b = from_map (λ b. list.number (NetBit b)) (top_outputs d) place h in
          subst (λ k. k < length l.cells) b.2 (net_in d lowering l list lowered wired b.0 (into_flat scope_bits (scopes d) (root d) b.0 (contains_here (root d) _) (of_designs.of_scope (root d) _ b.0 b.1)))
      by (inr h) =
          let p = from_map list.number (data_places d lowering) place h in
          let r = from_map (λ (r : RegisterBit). place_in (flat_map (data_at lowering) (enumerate_from 0 (parts d))) r.bit) (registers d) p.0 p.1 in
          subst (λ k. k < length l.cells) p.2 (subst (λ q. list.number q < length l.cells) r.2 (data_in d lowering l list lowered wired r.0.bit))

  pub loose : IsSmallDesign d → IsLoose l
  unfolding IsFine
  loose small = record {
    prefix = lists_begin d lowering l list;
    there = λ place fits. operands_in place (loose_at l place) (each_fine place fits);
    inputs_there = λ place i fits e. subst (IsFine place) e (each_fine place fits);
    outs_there = all_from (λ place. place < length l.cells) l.outs (λ place has. outs_in place (subst (λ o. Contains o place) list.outs has));
    pins_there = ins_there;
    listed = λ place b p fits e. subst (IsFine place) e (each_fine place fits);
    driven = pin_driven;
    cells_fit = omega (arith, places-length d lowering l list, places_few d lowering list.number lowered wired, small.0, small.1);
    boxes_fit = omega (arith, box_count, length-filter_both is_box (λ s. not (is_box s)) (λ s. refl) (scopes d), small.0);
  }

module _ (of_designs : DesignLaws) where
  pub lists_are_loose : ListsAreLoose
  lists_are_loose d lowering l bounded lowered list = loose of_designs d lowering l list lowered (of_designs.wired d bounded) bounded.small
