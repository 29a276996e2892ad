-- The cells of a design are those of its top and of all its instances, each as many as its module has.
use Rattle.std.proofs.Common.{◌≡◌, ◌⊎◌, ℕ, zero, suc, ◌+◌, ◌<◌, ◌≤◌, Bool, true, false, not, ◌&&◌, List, [], ◌∷◌, map, filter, length, All, Contains, Option, Some, None, refl, sym, ap, ◌∙◌, subst, inl, inr, arith, length-append}
use Rattle.std.specs.Prelude.{if◌then◌else◌, nat_lt, min, sum_by, option_map, slice_get, slice_index_or}
use Rattle.std.specs.List.{flat_map}
use Rattle.std.proofs.lemmas.List.{length-map, get_or_past}
use Rattle.std.proofs.lemmas.List.Sums.{sum_by-cons}
use Rattle.bb_ast.specs.Syntax.{PlainItem, PlainModule}
use Rattle.bb_names.specs.Declarations.{range_of}
use Rattle.bb_names.specs.Faults.{IsSound}
use Rattle.bb_names.specs.Nets.{nets_of, is_empty}
use Rattle.bb_names.specs.Sites.{module_named}
use Rattle.bb_expr.specs.Laws.FitLaws.{AssignableIsNets}
use Rattle.bb_expr.specs.Laws.{CellsAreCounted, MadeHasValue, ValuesHaveWidth}
use Rattle.bb_design.specs.Constructs.{BoxContents, body_constructs, constructs_at, parts}
use Rattle.bb_design.specs.Hierarchy.{Path, Design, Scope, root, is_top, is_box, path_to, children, below, instances, instances_of, scopes, too_low}
use Rattle.bb_design.specs.Laws.{HasNamesApart}
use Rattle.bb_design.specs.NetBits.{output_bits, top_inputs}
use Rattle.bb_design.specs.Refusals.{design_on}
use Rattle.bb_design.specs.Registers.{RegisterBit, registers, cut_bits}
use Rattle.bb_design.specs.Sizes.{cell_count_at, cells_in, bits_and_instances}
use Rattle.bb_hier.specs.Inside.Weights.{net_width, is_input_net, is_output_net, bit_count, item_cells, construct_cells, instance_cells, total_below}
use Rattle.bb_lemmas.proofs.Places.{there_at}
use Rattle.bb_lemmas.proofs.Members.{from_flat, mapped_there, contains_here, contains_there, contains_cases, none_in_nil, from_filter_map}
use Rattle.bb_lemmas.proofs.Orders.{less_or_not}
use Rattle.bb_hier.proofs.CellSums.{sum_flat}
use Rattle.bb_hier.proofs.ConstructCounts.{sum_items}
use Rattle.bb_hier.proofs.HierarchySums.{weight_or, sum_map, sum_same, sum_both, sum_below, long_nets, weight_at, bits_counted, got_map, total_capped_where}
use Rattle.bb_design.specs.Inside.Callees.{called}
use Rattle.bb_hier.proofs.RegisterCounts.{registers_of, registers_inside, registers_in_box, registers_counted}
use Rattle.bb_design.specs.Laws.DesignLaws.{DesignLaws}

-- an instance is not the top

longer_not_top : (p : Path) (n : List ℕ) → is_top (path_to p n) ≡ false
longer_not_top [] n = refl
longer_not_top (x ∷ p) n = refl

child_not_top : (text : List PlainModule) (s c : Scope) → Contains (children text s) c → is_top c.path ≡ false
child_not_top text s c has =
    let i = from_filter_map (λ i. option_map (λ m. record { path = path_to s.path i.name; source = m }) (module_named text i.target)) (instances_of s.source) c has in
    let m = mapped_there (λ m. record { path = path_to s.path i.0.name; source = m }) (module_named text i.0.target) c i.2 in
    sym (ap (λ (z : Scope). is_top z.path) m.2) ∙ longer_not_top s.path i.0.name

below_not_top : (n : ℕ) (text : List PlainModule) (s c : Scope) → Contains (below n text s) c → is_top c.path ≡ false
unfolding below
below_not_top zero text s c has = absurd (none_in_nil c has)
below_not_top (suc n) text s c has =
    let k = from_flat (λ c. c ∷ below n text c) (children text s) c has in
    by k.0 (child_not_top text s k.0 k.1) (contains_cases k.0 (below n text k.0) c k.2) (below_not_top n text k.0 c)
  where
    by : (k : Scope) → is_top k.path ≡ false → (k ≡ c) ⊎ Contains (below n text k) c → (Contains (below n text k) c → is_top c.path ≡ false) → is_top c.path ≡ false
    by k here (inl same) rest = sym (ap (λ (z : Scope). is_top z.path) same) ∙ here
    by k here (inr more) rest = rest more

module _ (of_designs : DesignLaws) (counted : CellsAreCounted) (made_value : MadeHasValue) (long_value : ValuesHaveWidth) (assignable : AssignableIsNets) (d : Design) (sound : IsSound d.text) (top : Contains d.text d.top) where
  apart : All HasNamesApart d.text
  apart = of_designs.names_apart d.text sound

  abbrev cells_of : Scope → ℕ
  cells_of s = sum_by cell_count_at (map (λ c. (s, c)) (constructs_at d.text s))

  regs : Scope → ℕ
  regs s = registers_of of_designs d top apart s

  -- a scope that is no box
  inside_cells : (s : Scope) → Contains (scopes d) s → is_box s ≡ false → regs s + cells_of s ≡ construct_cells s.source
  unfolding regs
  inside_cells s has no_box =
      let here = of_designs.of_text d s top has in
      let made : cells_of s ≡ sum_by (λ (item : PlainItem). item_cells (range_of s.source) item.body) s.source.items =
      sum_map cell_count_at (λ c. (s, c)) (constructs_at d.text s)
      ∙ ap (λ b. sum_by (λ c. cell_count_at (s, c)) (if b then BoxContents ∷ [] else flat_map (λ (item : PlainItem). body_constructs d.text item.body) s.source.items)) no_box
      ∙ sum_items of_designs counted made_value long_value assignable d.text sound s here in
      omega (arith, registers_inside of_designs d top apart s has no_box, made)

  box_cells : (s : Scope) → Contains (scopes d) s → is_box s ≡ true → regs s + cells_of s ≡ sum_by net_width (filter is_output_net (nets_of s.source))
  unfolding regs
  box_cells s has box =
      let made : cells_of s ≡ sum_by net_width (filter is_output_net (nets_of s.source)) =
      sum_map cell_count_at (λ c. (s, c)) (constructs_at d.text s)
      ∙ ap (λ b. sum_by (λ c. cell_count_at (s, c)) (if b then BoxContents ∷ [] else flat_map (λ (item : PlainItem). body_constructs d.text item.body) s.source.items)) box
      ∙ one (length (output_bits s)) ∙ long_nets s.path (filter is_output_net (nets_of s.source)) in
      omega (arith, registers_in_box of_designs d top apart s has box, made)
    where
      one : (n : ℕ) → 0 + n ≡ n
      one n = omega arith

  instance_is : (s : Scope) → Contains (instances d) s → regs s + cells_of s ≡ instance_cells s.source
  instance_is s has = by (is_empty s.source) refl
    where
      there : Contains (scopes d) s
      there = contains_there (root d) (instances d) s has

      boxed : is_box s ≡ is_empty s.source
      boxed = ap (λ b. not b && is_empty s.source) (below_not_top too_low d.text (root d) s has)

      by : (b : Bool) → is_empty s.source ≡ b → regs s + cells_of s ≡ instance_cells s.source
      by true e = box_cells s there (boxed ∙ e) ∙ sym (ap (λ b. if b then sum_by net_width (filter is_output_net (nets_of s.source)) else construct_cells s.source) e)
      by false e = inside_cells s there (boxed ∙ e) ∙ sym (ap (λ b. if b then sum_by net_width (filter is_output_net (nets_of s.source)) else construct_cells s.source) e)

  pub cells_whole : cells_in d ≡ (2 + sum_by net_width (filter is_input_net (nets_of d.top))) + (construct_cells d.top + sum_by (λ s. instance_cells s.source) (instances d))
  unfolding regs
  cells_whole =
      let made : sum_by cell_count_at (parts d) ≡ sum_by cells_of (scopes d) = sum_flat cell_count_at (λ s. map (λ c. (s, c)) (constructs_at d.text s)) (scopes d) in
      let cut : length (cut_bits d) ≡ length (top_inputs d) + length (registers d) = length-append (top_inputs d) (map (λ r. r.bit) (registers d)) ∙ ap (λ n. length (top_inputs d) + n) (length-map (registers d) (λ (r : RegisterBit). r.bit)) in
      let ins : length (top_inputs d) ≡ sum_by net_width (filter is_input_net (nets_of d.top)) = long_nets [] (filter is_input_net (nets_of d.top)) in
      let all : length (registers d) + sum_by cell_count_at (parts d) ≡ sum_by (λ s. regs s + cells_of s) (scopes d) =
      ap (λ n. n + sum_by cell_count_at (parts d)) (registers_counted of_designs d top apart) ∙ ap (λ n. sum_by (registers_of of_designs d top apart) (scopes d) + n) made ∙ sum_both (registers_of of_designs d top apart) cells_of (scopes d) in
      let split : sum_by (λ s. regs s + cells_of s) (scopes d) ≡ (regs (root d) + cells_of (root d)) + sum_by (λ s. regs s + cells_of s) (instances d) = sum_by-cons (λ s. regs s + cells_of s) (root d) (instances d) in
      let first = inside_cells (root d) (contains_here (root d) (instances d)) refl in
      let others = sum_same (λ s. regs s + cells_of s) (λ (s : Scope). instance_cells s.source) (instances d) instance_is in
      omega (arith, cut, ins, all, split, first, others)

-- the numbers that the code has

sum_there : (m k i r constructs inputs first own below sum whole : ℕ) → 2 ≤ m → constructs ≡ min m k → inputs ≡ min m i → first ≡ min (constructs + inputs) m → own ≡ min (first + 2) m → below ≡ min m r → sum ≡ min (own + below) m
    → whole ≡ (2 + i) + (k + r) → sum ≡ min m whole
sum_there m k i r constructs inputs first own below sum whole le a b c e f g all = omega (arith, le, a, b, c, e, f, g, all)

reported_past : (m limit sum whole : ℕ) → limit < m → sum ≡ min m whole → nat_lt limit sum ≡ nat_lt limit whole
reported_past m limit sum whole room is = by (less_or_not limit whole)
  where
    by : (limit < whole) ⊎ (whole ≤ limit) → nat_lt limit sum ≡ nat_lt limit whole
    by (inl h) = let lt : limit < sum = omega (arith, room, is, h) in grind (arith, lt, h)
    by (inr h) = let le : sum ≤ limit = omega (arith, room, is, h) in grind (arith, le, h)

module _ (of_designs : DesignLaws) (m limit : ℕ) (room : limit + 1 < m) (text : List PlainModule) (sound : IsSound text) (top : ℕ) (t : PlainModule) (at : slice_get text top ≡ Some t) (bits constructs instances : List ℕ) (are : bits ≡ map (λ x. min m (bit_count x + 1)) text)
    (made : (k : ℕ) (x : PlainModule) → slice_get text k ≡ Some x → slice_index_or bits k 0 ≤ limit + 1 → slice_index_or constructs k 0 ≡ min m (construct_cells x))
    (called_made : (k : ℕ) (x : PlainModule) → slice_get text k ≡ Some x → slice_index_or constructs k 0 ≡ min m (construct_cells x) → slice_index_or instances k 0 ≡ min m (instance_cells x))
    (long : length instances ≡ length text) (few : bits_and_instances (design_on text t) ≤ limit) where
  abbrev bit_weight : ℕ → ℕ
  bit_weight = weight_at (λ x. bit_count x + 1) text

  few_below : bit_count t + total_below (called text) bit_weight 64 top ≤ limit
  few_below = omega (arith, few, bits_counted (design_on text t), sum_below of_designs text sound (λ x. bit_count x + 1) 64 (root (design_on text t)) top at)

  weight_reported : (k : ℕ) → bit_weight k ≤ limit → min m (slice_index_or instances k 0) ≡ min m (weight_at instance_cells text k)
  weight_reported k le = by (slice_get text k) refl
    where
      past : slice_get text k ≡ None → length text ≤ k
      past none = not_there text k none
        where
          not_there : (xs : List PlainModule) (k : ℕ) → slice_get xs k ≡ None → length xs ≤ k
          not_there [] k e = omega arith
          not_there (x ∷ xs) zero e = cc
          not_there (x ∷ xs) (suc k) e = omega (arith, not_there xs k e)

      twice : (m a : ℕ) → min m (min m a) ≡ min m a
      twice m a = omega arith

      by : (o : Option PlainModule) → slice_get text k ≡ o → min m (slice_index_or instances k 0) ≡ min m (weight_at instance_cells text k)
      by None e = ap (min m) (get_or_past instances k 0 (omega (arith, long, past e))) ∙ ap (λ o. min m (weight_or instance_cells o)) (sym e)
      by (Some x) e =
          let small : bit_count x + 1 ≤ limit = subst (λ o. weight_or (λ x. bit_count x + 1) o ≤ limit) e le in
          let reported : slice_index_or bits k 0 ≤ limit + 1 = omega (arith, small, ap (λ l. slice_index_or l k 0) are ∙ got_map (λ x. min m (bit_count x + 1)) text k x e) in
          ap (min m) (called_made k x e (made k x e reported)) ∙ twice m (instance_cells x) ∙ ap (λ o. min m (weight_or instance_cells o)) (sym e)

  pub many_cells : CellsAreCounted → MadeHasValue → ValuesHaveWidth → AssignableIsNets → (limit2 inputs first own below sum : ℕ) → limit2 < m → inputs ≡ min m (sum_by net_width (filter is_input_net (nets_of t)))
      → first ≡ min (slice_index_or constructs top 0 + inputs) m → own ≡ min (first + 2) m → below ≡ min m (total_below (called text) (λ j. slice_index_or instances j 0) 64 top) → sum ≡ min (own + below) m
      → nat_lt limit2 sum ≡ nat_lt limit2 (cells_in (design_on text t))
  many_cells counted made_value long_value assignable limit2 inputs first own below sum room2 a b c e f =
      let reported : slice_index_or bits top 0 ≤ limit + 1 = omega (arith, few_below, ap (λ l. slice_index_or l top 0) are ∙ got_map (λ x. min m (bit_count x + 1)) text top t at) in
      reported_past m limit2 sum (cells_in (design_on text t)) room2
      (sum_there m (construct_cells t) (sum_by net_width (filter is_input_net (nets_of t))) (total_below (called text) (weight_at instance_cells text) 64 top) (slice_index_or constructs top 0) inputs first own below sum (cells_in (design_on text t)) (omega (arith, room, room2))
      (made top t at reported) a b c
      (e ∙ total_capped_where m limit (called text) bit_weight (λ j. slice_index_or instances j 0) (weight_at instance_cells text) weight_reported 64 top (omega (arith, few_below))) f
      (cells_whole of_designs counted made_value long_value assignable (design_on text t) sound (there_at text top t at)
      ∙ ap (λ n. (2 + sum_by net_width (filter is_input_net (nets_of t))) + (construct_cells t + n)) (sum_below of_designs text sound instance_cells 64 (root (design_on text t)) top at)))
