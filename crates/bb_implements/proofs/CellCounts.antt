-- The list of cells of a design has no more places than the design has cells and bits of nets, and a netlist that implements it no more
-- cells than the design.
use Rattle.std.proofs.Common.{◌≡◌, ◌⊎◌, ℕ, suc, ◌+◌, ◌-◌, ◌<◌, ◌≤◌, ◌==◌, Bool, true, false, if◌then◌else◌, List, [], ◌∷◌, ◌++◌, map, filter, flat_map, filter_map, length, Contains, Some, None, option_map, refl, sym, ap, ◌∙◌, subst, inl, inr, arith, length-append}
use Rattle.std.specs.Prelude.{sum_by}
use Rattle.std.specs.Set.{is_member}
use Rattle.std.specs.List.{enumerate_from, range_with_len}
use Rattle.std.proofs.lemmas.Bool.Decides.{Decides-eqb}
use Rattle.std.proofs.lemmas.Cmp.{nat_eq_equiv}
use Rattle.std.proofs.lemmas.Map.Made.{length-le_from_is_member, is_member-Decides}
use Rattle.std.proofs.lemmas.List.{length-map}
use Rattle.std.proofs.lemmas.List.Sums.{sum_by-cons, sum_by-append}
use Rattle.std.proofs.lemmas.List.Sorted.{length_permutation}
use Rattle.bb_ast.specs.declared.module.Gate.{Gate}
use Rattle.bb_ast.specs.Syntax.{Expression}
use Rattle.bb_names.specs.Declarations.{range_of}
use Rattle.bb_names.specs.Nets.{nets_of}
use Rattle.bb_expr.specs.declared.step.BitStep.{BitStep}
use Rattle.bb_expr.specs.declared.step.BitStep.TheVariants as steps
use Rattle.bb_expr.specs.Lowered.{is_operator, operators, term_at, IsLowered}
use Rattle.bb_expr.specs.Terms.{Term}
use Rattle.bb_net.specs.declared.loose.LooseCell.{LooseCell}
use Rattle.bb_net.specs.declared.loose.LooseCell.TheVariants as cell
use Rattle.bb_net.specs.Loose.{loose_at}
use Rattle.bb_net.specs.Orders.{IsNoCopy}
use Rattle.bb_net.specs.Flats.{FlatNet}
use Rattle.bb_implements.specs.Laws.ListLaws.{NetsAreNoLarger, PlacesAreFew}
use Rattle.bb_design.specs.Inside.Allowed.{IsBounded}
use Rattle.bb_implements.specs.Implements.{Implements}
use Rattle.bb_design.specs.Hierarchy.{Design, Scope, boxes, scopes, is_box}
use Rattle.bb_design.specs.NetBits.{Bit, net_order, output_bits}
use Rattle.bb_design.specs.Contexts.{made_in, width_of, context_width}
use Rattle.bb_design.specs.Constructs.{Construct, Assignment, GateInstance, Register, SupplyNet, InputConnection, OutputConnection, BoxContents, body_constructs, constructs_at, parts}
use Rattle.bb_design.specs.Drivers.{terminal_terms}
use Rattle.bb_design.specs.GateFunctions.{inverts, joins, on_terms, joined_after, gate_gives, gate_cells}
use Rattle.bb_implements.specs.Places.{Constant, Input, NetBit, Step, Inverted, BoxPin, Numbering, lowered_in, Lowering, IsLowering, step_cell, step_cells, joined_place, joining_places, inverting_place, gate_places, places_at, box_places, prefix_places, operator_places, placed_cells, driving_places, place_in}
use Rattle.bb_design.specs.Reading.{cells_at}
use Rattle.bb_design.specs.Registers.{cut_bits}
use Rattle.bb_design.specs.Sizes.{cell_count_at, cells_in}
use Rattle.bb_lemmas.proofs.Numbered.{length-enumerated, from_numbered}
use Rattle.bb_implements.proofs.ListPrefixes.{prefix-length}
use Rattle.bb_implements.proofs.ListNumbers.{range_distinct}
use Rattle.bb_implements.proofs.ListedEntries.{Entry}
use Rattle.bb_implements.proofs.ListedPlaces.{lowered_at, listed_at, listed_cell}
use Rattle.bb_design.specs.Laws.Wired.{IsWired}
use Rattle.bb_implements.proofs.GateTerms.{input_term, terminals_are}
use Rattle.bb_lemmas.proofs.Ranges.{from_range, length-range}
use Rattle.bb_lemmas.proofs.Members.{contains-map, contains_here, contains_there, contains_cases, none_in_nil}
use Rattle.bb_design.specs.Laws.DesignLaws.{DesignLaws}

-- it is no copy
abbrev pub is_kept : LooseCell → Bool
is_kept (cell.Copy p) = false
is_kept (cell.Const b) = true
is_kept (cell.Input i) = true
is_kept (cell.Not a) = true
is_kept (cell.And a b) = true
is_kept (cell.Or a b) = true
is_kept (cell.Xor a b) = true
is_kept (cell.Mux c t e) = true
is_kept (cell.BoxOut b p) = true

pub kept_is : (c : LooseCell) → IsNoCopy c → is_kept c ≡ true
kept_is (cell.Const b) h = refl
kept_is (cell.Input i) h = refl
kept_is (cell.Not a) h = refl
kept_is (cell.And a b) h = refl
kept_is (cell.Or a b) h = refl
kept_is (cell.Xor a b) h = refl
kept_is (cell.Mux c t e) h = refl
kept_is (cell.BoxOut b p) h = refl
kept_is (cell.Copy p) h = absurd h

abbrev weight : Entry → ℕ
weight x = if is_kept x.1 then 1 else 0

-- how many entries are no copies
abbrev pub kept : List Entry → ℕ
kept xs = sum_by weight xs

weight_small : (b : Bool) → (if b then 1 else 0) ≤ 1
weight_small true = omega arith
weight_small false = omega arith

kept-length : (xs : List Entry) → kept xs ≤ length xs
kept-length [] = omega arith
kept-length (x ∷ xs) = omega (arith, sum_by-cons weight x xs, weight_small (is_kept x.1), kept-length xs)

pub kept-filter : (xs : List Entry) → length (filter (λ x. is_kept x.1) xs) ≡ kept xs
kept-filter [] = refl
kept-filter (x ∷ xs) = by (is_kept x.1) (kept-filter xs) ∙ sym (sum_by-cons weight x xs)
  where
    by : (b : Bool) → length (filter (λ y. is_kept y.1) xs) ≡ kept xs → length (if b then x ∷ filter (λ y. is_kept y.1) xs else filter (λ y. is_kept y.1) xs) ≡ (if b then 1 else 0) + kept xs
    by true same = omega (arith, same)
    by false same = omega (arith, same)

-- pieces one after another are at most as long as the sum of bounds of the pieces
flat_below : {A : Type 0} (f : A → List Entry) (g : A → ℕ) (xs : List A) → ((x : A) → Contains xs x → length (f x) ≤ g x) → length (flat_map f xs) ≤ sum_by g xs
flat_below f g [] each = omega arith
flat_below f g (x ∷ xs) each = omega (arith, length-append (f x) (flat_map f xs), sum_by-cons g x xs, each x (contains_here x xs), flat_below f g xs (λ y has. each y (contains_there x xs y has)))

sum-enumerated : {A : Type 0} (g : A → ℕ) (a : ℕ) (xs : List A) → sum_by (λ (x : ℕ × A). g x.1) (enumerate_from a xs) ≡ sum_by g xs
sum-enumerated g a [] = refl
sum-enumerated g a (x ∷ xs) = sum_by-cons (λ (y : ℕ × _). g y.1) (a, x) (enumerate_from (a + 1) xs) ∙ ap (λ n. g x + n) (sum-enumerated g (a + 1) xs) ∙ sym (sum_by-cons g x xs)

-- the operators among steps, with the numbers of the steps from one on: their entries, and what they are made of
abbrev pub operator_entries : Numbering → ℕ → ℕ → ℕ → List BitStep → List Entry
operator_entries number k x a all = filter_map (λ (y : ℕ × BitStep). option_map (λ u. (Step k x y.0, u)) (step_cell (λ i. number (Step k x i)) y.1)) (enumerate_from a all)

abbrev pub operators_from : (ℕ → Term) → ℕ → List BitStep → List Term
operators_from term a all = filter_map (λ (y : ℕ × BitStep). if is_operator y.1 then Some (term y.0) else None) (enumerate_from a all)

module _ (lowering : Lowering) (number : Numbering) where
  -- there are as many of the one as of the other
  operators_listed : (term : ℕ → Term) (k x a : ℕ) (all : List BitStep) → length (operator_entries number k x a all) ≡ length (operators_from term a all)
  operators_listed term k x a [] = refl
  operators_listed term k x a (b ∷ all) = by b (operators_listed term k x (a + 1) all)
    where
      by : (b : BitStep) → length (operator_entries number k x (a + 1) all) ≡ length (operators_from term (a + 1) all) → length (operator_entries number k x a (b ∷ all)) ≡ length (operators_from term a (b ∷ all))
      by (steps.Const v) same = same
      by (steps.Net n i) same = same
      by (steps.Not p) same = ap suc same
      by (steps.And p q) same = ap suc same
      by (steps.Or p q) same = ap suc same
      by (steps.Xor p q) same = ap suc same
      by (steps.Mux p q r) same = ap suc same

  expressions_listed : (k : ℕ) (s : Scope) (a : ℕ) (all : List (Expression × ℕ)) → ((x : ℕ) (e : Expression) (w : ℕ) → Contains (enumerate_from a all) (x, (e, w)) → IsLowered (nets_of s.source) (range_of s.source) e w (lowering k x).all (lowering k x).bits)
      → length (flat_map (step_cells lowering number k) (range_with_len a (length all))) ≡ length (flat_map (λ (y : Expression × ℕ). (made_in s y.0 y.1).cells) all)
  expressions_listed k s a [] each = refl
  expressions_listed k s a (y ∷ all) each =
      let low = each a y.0 y.1 (contains_here (a, y) (enumerate_from (a + 1) all)) in
      let terms = term_at (nets_of s.source) (lowering k a).all in
      let same : length (operators_from terms 0 (lowering k a).all) ≡ length (made_in s y.0 y.1).cells = length_permutation (made_in s y.0 y.1).cells (operators (nets_of s.source) (lowering k a).all) low.cells in
      let here : length (step_cells lowering number k a) ≡ length (made_in s y.0 y.1).cells = operators_listed terms k a 0 (lowering k a).all ∙ same in
      let rest = expressions_listed k s (a + 1) all (λ x e w has. each x e w (contains_there (a, y) (enumerate_from (a + 1) all) (x, (e, w)) has)) in
      omega (
        arith,
        length-append (step_cells lowering number k a) (flat_map (step_cells lowering number k) (range_with_len (a + 1) (length all))),
        length-append (made_in s y.0 y.1).cells (flat_map (λ (y : Expression × ℕ). (made_in s y.0 y.1).cells) all),
        here,
        rest,
      )

module _ (d : Design) (lowering : Lowering) (number : Numbering) (lowered : IsLowering d lowering) (wired : IsWired d) where
  gate-length : (ins : List Term) (gate : Gate) → 1 ≤ length ins → length (gate_cells gate ins) ≡ (length ins - 1) + (if inverts gate then 1 else 0)
  gate-length [] gate one = absurd (omega (arith, one))
  gate-length (a ∷ rest) gate one = length-append (joined_after (joins on_terms gate) a rest) (if inverts gate then gate_gives on_terms gate (a ∷ rest) ∷ [] else []) ∙ by (inverts gate) (after a rest)
    where
      after : (a : Term) (rest : List Term) → length (joined_after (joins on_terms gate) a rest) ≡ length rest
      after a [] = refl
      after a (b ∷ rest) = ap suc (after (joins on_terms gate a b) rest)

      by : (b : Bool) → length (joined_after (joins on_terms gate) a rest) ≡ length rest
          → length (joined_after (joins on_terms gate) a rest) + length (if b then gate_gives on_terms gate (a ∷ rest) ∷ [] else []) ≡ (length (a ∷ rest) - 1) + (if b then 1 else 0)
      by true same = omega (arith, same)
      by false same = omega (arith, same)

  mapped_cells : (s : Scope) (ins : List Expression) → flat_map (λ (y : Expression × ℕ). (made_in s y.0 y.1).cells) (map (λ e. (e, width_of s e)) ins) ≡ flat_map (λ e. (made_in s e (width_of s e)).cells) ins
  mapped_cells s [] = refl
  mapped_cells s (e ∷ ins) = ap (λ r. (made_in s e (width_of s e)).cells ++ r) (mapped_cells s ins)

  module _ (k : ℕ) (s : Scope) (c : Construct) (has : Contains (enumerate_from 0 (parts d)) (k, (s, c))) where
    abbrev step_entries : List Entry
    step_entries = flat_map (step_cells lowering number k) (range_with_len 0 (length (lowered_in (s, c))))

    steps_long : length step_entries ≡ length (flat_map (λ (y : Expression × ℕ). (made_in s y.0 y.1).cells) (lowered_in (s, c)))
    steps_long = expressions_listed lowering number k s 0 (lowered_in (s, c)) (λ x e w at. lowered_at d lowering lowered k s c has x e w at)

    whole : length (places_at lowering number (k, (s, c))) ≡ length step_entries + length (gate_places lowering number k c)
    whole = length-append step_entries (gate_places lowering number k c)

  part_within : (k : ℕ) (s : Scope) (c : Construct) → Contains (enumerate_from 0 (parts d)) (k, (s, c)) → length (places_at lowering number (k, (s, c))) ≤ length (cells_at (s, c))
  part_within k s (Assignment left right) has = omega (arith, whole k s (Assignment left right) has, steps_long k s (Assignment left right) has, length-append (made_in s right (context_width s left right)).cells [])
  part_within k s (GateInstance gate outs ins) has =
      let ts = terminal_terms s ins in
      let long : length ts ≡ length ins = ap length (terminals_are d lowering lowered wired k s gate outs ins has) ∙ length-map (range_with_len 0 (length ins)) (input_term d lowering lowered wired k s gate outs ins has) ∙ length-range 0 (length ins) in
      let one = (wired.gates s gate outs ins (from_numbered 0 (parts d) (k, (s, GateInstance gate outs ins)) has)).0 in
      let joins = joining_places lowering number k gate (length ins) in
      let inverse = inverting_place lowering number k gate (length ins) in
      omega (
        arith,
        whole k s (GateInstance gate outs ins) has,
        steps_long k s (GateInstance gate outs ins) has,
        ap length (mapped_cells s ins),
        gate-length ts gate (omega (arith, long, one)),
        long,
        length-append (flat_map (λ e. (made_in s e (width_of s e)).cells) ins) (gate_cells gate ts),
        length-append joins inverse,
        joins_long,
        inverse_long (inverts gate),
      )
    where
      joins_long : length (joining_places lowering number k gate (length ins)) ≡ length ins - 1
      joins_long = length-map (range_with_len 0 (length ins - 1)) _ ∙ length-range 0 (length ins - 1)

      inverter : Entry
      inverter = (Inverted k, cell.Not (number (joined_place lowering k (length ins - 1))))

      inverse_long : (b : Bool) → length (if b then inverter ∷ [] else []) ≡ (if b then 1 else 0)
      inverse_long true = refl
      inverse_long false = refl
  part_within k s (Register r) has = omega (arith, whole k s (Register r) has, steps_long k s (Register r) has, length-append (made_in s r.right (context_width s r.left r.right)).cells [])
  part_within k s (SupplyNet high n) has = omega arith
  part_within k s (InputConnection i pin e) has = omega (arith, whole k s (InputConnection i pin e) has, steps_long k s (InputConnection i pin e) has, length-append (made_in s e (width_of s e)).cells [])
  part_within k s (OutputConnection i pin e) has = omega arith
  part_within k s BoxContents has = omega arith

  abbrev cell_count : Scope × Construct → ℕ
  cell_count x = length (cells_at x)

  abbrev in_scope : Scope → List (Scope × Construct)
  in_scope s = map (λ c. (s, c)) (constructs_at d.text s)

  count_at : (x : Scope × Construct) → cell_count x ≤ cell_count_at x
  count_at (s, Assignment left right) = omega arith
  count_at (s, GateInstance gate outs ins) = omega arith
  count_at (s, Register r) = omega arith
  count_at (s, SupplyNet high n) = omega arith
  count_at (s, InputConnection i pin e) = omega arith
  count_at (s, OutputConnection i pin e) = omega arith
  count_at (s, BoxContents) = omega arith

  counts_at : (xs : List (Scope × Construct)) → sum_by cell_count xs ≤ sum_by cell_count_at xs
  counts_at [] = omega arith
  counts_at (x ∷ xs) = omega (arith, sum_by-cons cell_count x xs, sum_by-cons cell_count_at x xs, count_at x, counts_at xs)

  abbrev outs : Scope → ℕ
  outs s = length (output_bits s)

  kept_cons : (s : Scope) (ss : List Scope) → sum_by outs (filter is_box (s ∷ ss)) ≡ (if is_box s then outs s else 0) + sum_by outs (filter is_box ss)
  kept_cons s ss = by (is_box s)
    where
      by : (b : Bool) → sum_by outs (if b then s ∷ filter is_box ss else filter is_box ss) ≡ (if b then outs s else 0) + sum_by outs (filter is_box ss)
      by true = sum_by-cons outs s (filter is_box ss)
      by false = omega arith

  -- a box counts its pins, and has no other cells
  scope_counts : (s : Scope) → sum_by cell_count (in_scope s) + (if is_box s then outs s else 0) ≤ sum_by cell_count_at (in_scope s)
  scope_counts s = by (is_box s)
    where
      others : List Construct
      others = flat_map (λ item. body_constructs d.text item.body) s.source.items

      by : (b : Bool) → sum_by cell_count (map (λ c. (s, c)) (if b then BoxContents ∷ [] else others)) + (if b then outs s else 0) ≤ sum_by cell_count_at (map (λ c. (s, c)) (if b then BoxContents ∷ [] else others))
      by true = omega arith
      by false = omega (arith, counts_at (map (λ c. (s, c)) others))

  scopes_count : (ss : List Scope) → sum_by cell_count (flat_map in_scope ss) + sum_by outs (filter is_box ss) ≤ sum_by cell_count_at (flat_map in_scope ss)
  scopes_count [] = omega arith
  scopes_count (s ∷ ss) = omega (arith, sum_by-append cell_count (in_scope s) (flat_map in_scope ss), sum_by-append cell_count_at (in_scope s) (flat_map in_scope ss), kept_cons s ss, scope_counts s, scopes_count ss)

  box_long : (y : ℕ × Scope) → length (box_places y) ≤ outs y.1
  box_long (b, s) = omega (arith, length-map {B = Entry} (enumerate_from 0 (output_bits s)) (λ x. (BoxPin b x.0, cell.BoxOut b x.0)), length-enumerated 0 (output_bits s))

  -- the operators of the list are at most those of the design
  operators_few : (2 + length (cut_bits d)) + length (operator_places d lowering number) ≤ cells_in d
  operators_few = omega (
    arith,
    length-append (flat_map box_places (enumerate_from 0 (boxes d))) (flat_map (places_at lowering number) (enumerate_from 0 (parts d))),
    flat_below box_places (λ (y : ℕ × Scope). outs y.1) (enumerate_from 0 (boxes d)) (λ y has. box_long y),
    sum-enumerated outs 0 (boxes d),
    flat_below (places_at lowering number) (λ (y : ℕ × (Scope × Construct)). cell_count y.1) (enumerate_from 0 (parts d)) (λ y has. part_within y.0 y.1.0 y.1.1 has),
    sum-enumerated cell_count 0 (parts d),
    scopes_count (scopes d),
  )

  pub places_few : length (placed_cells d lowering number) ≤ cells_in d + length (net_order d)
  places_few = omega (arith, length-append (prefix_places d lowering number) (operator_places d lowering number), prefix-length d lowering number, operators_few)

  abbrev inputs : List Entry
  inputs = map (λ i. (Input i, cell.Input i)) (range_with_len 0 (length (cut_bits d)))

  abbrev nets : List Bit → List Entry
  nets bits = map (λ b. (NetBit b, cell.Copy (number (place_in (driving_places d lowering) b)))) bits

  nets_kept : (bits : List Bit) → kept (nets bits) ≡ 0
  nets_kept [] = refl
  nets_kept (b ∷ bits) = omega (arith, sum_by-cons weight (NetBit b, cell.Copy (number (place_in (driving_places d lowering) b))) (nets bits), nets_kept bits)

  abbrev constants : List Entry
  constants = (Constant false, cell.Const false) ∷ (Constant true, cell.Const true) ∷ []

  prefix_kept : kept (prefix_places d lowering number) ≤ 2 + length (cut_bits d)
  prefix_kept = omega (arith, sum_by-append weight (constants ++ inputs) (nets (net_order d)), sum_by-append weight constants inputs, kept-length constants, kept-length inputs, nets_kept (net_order d), length-map {B = Entry} (range_with_len 0 (length (cut_bits d))) (λ i. (Input i, cell.Input i)), length-range 0 (length (cut_bits d)))

  -- the kept cells of the list are at most those of the design
  pub kept_within : kept (placed_cells d lowering number) ≤ cells_in d
  kept_within = omega (arith, sum_by-append weight (prefix_places d lowering number) (operator_places d lowering number), prefix_kept, kept-length (operator_places d lowering number), operators_few)

-- a list in which all numbers below n are is at least as long
at_least : (ks : List ℕ) (n : ℕ) → ((k : ℕ) → k < n → Contains ks k) → n ≤ length ks
at_least ks n each = omega (arith, length-le_from_is_member nat_eq_equiv (range_with_len 0 n) ks (range_distinct 0 n) (λ q has. member q (each q (below q has))), length-range 0 n)
  where
    member : (q : ℕ) → Contains ks q → is_member ◌==◌ ks q ≡ true
    member q has = (is_member-Decides Decides-eqb ks q).1 has

    below : (q : ℕ) → is_member ◌==◌ (range_with_len 0 n) q ≡ true → q < n
    below q has = let r = from_range 0 n q ((is_member-Decides Decides-eqb (range_with_len 0 n) q).0 has) in omega (arith, r.1)

module _ (of_designs : DesignLaws) (d : Design) (f : FlatNet) (bounded : IsBounded d) (occurs : Implements d f) where
  abbrev number : Numbering
  number = occurs.listed.number

  abbrev all : List Entry
  all = placed_cells d occurs.lowering number

  abbrev kept_entries : List Entry
  kept_entries = filter (λ x. is_kept x.1) all

  abbrev to : Entry → ℕ
  to x = occurs.ordered.to (number x.0)

  filtered : (xs : List Entry) (x : Entry) → Contains xs x → is_kept x.1 ≡ true → Contains (filter (λ y. is_kept y.1) xs) x
  filtered [] x has on = absurd (none_in_nil x has)
  filtered (y ∷ ys) x has on = by (contains_cases y ys x has) (filtered ys x)
    where
      Rest : Type 0
      Rest = Contains ys x → is_kept x.1 ≡ true → Contains (filter (λ y. is_kept y.1) ys) x

      here : y ≡ x → (b : Bool) → is_kept y.1 ≡ b → Contains (if b then y ∷ filter (λ z. is_kept z.1) ys else filter (λ z. is_kept z.1) ys) x
      here same true e = subst (Contains (y ∷ filter (λ z. is_kept z.1) ys)) same (contains_here y (filter (λ z. is_kept z.1) ys))
      here same false e = let off : is_kept x.1 ≡ false = sym (ap (λ (z : Entry). is_kept z.1) same) ∙ e in grind (arith, on, off)

      later : (b : Bool) → Contains (filter (λ z. is_kept z.1) ys) x → Contains (if b then y ∷ filter (λ z. is_kept z.1) ys else filter (λ z. is_kept z.1) ys) x
      later true h = contains_there y (filter (λ z. is_kept z.1) ys) x h
      later false h = h

      by : (y ≡ x) ⊎ Contains ys x → Rest → Contains (if is_kept y.1 then y ∷ filter (λ z. is_kept z.1) ys else filter (λ z. is_kept z.1) ys) x
      by (inl same) rest = here same (is_kept y.1) refl
      by (inr h) rest = later (is_kept y.1) (rest h on)

  -- each place of the netlist is that of a kept cell
  reached : (k : ℕ) → k < length f.net.cells → Contains (map to kept_entries) k
  reached k fits =
      let r = occurs.ordered.all k fits in
      let p = listed_at d occurs.lowering occurs.cells occurs.listed r.0 r.1 in
      let is : loose_at occurs.cells r.0 ≡ p.1 = ap (loose_at occurs.cells) (sym p.3) ∙ listed_cell d occurs.lowering occurs.cells occurs.listed p.0 p.1 p.2 in
      let on = kept_is p.1 (subst IsNoCopy is r.2) in
      subst (Contains (map to kept_entries)) (ap occurs.ordered.to p.3 ∙ r.3) (contains-map to kept_entries (p.0, p.1) (filtered all (p.0, p.1) p.2 on))

  pub no_larger : length f.net.cells ≤ cells_in d
  no_larger = omega (arith, at_least (map to kept_entries) (length f.net.cells) reached, length-map kept_entries to, kept-filter all, kept_within d occurs.lowering number occurs.lowered (of_designs.wired d bounded))

module _ (of_designs : DesignLaws) where
  pub nets_are_no_larger : NetsAreNoLarger
  nets_are_no_larger d f bounded occurs = no_larger of_designs d f bounded occurs

  pub places_are_few : PlacesAreFew
  places_are_few d lowering number bounded lowered = places_few d lowering number lowered (of_designs.wired d bounded)
