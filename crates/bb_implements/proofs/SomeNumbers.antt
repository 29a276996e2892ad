-- A numbering of the places of a design: constants, inputs, bits of nets, pins of boxes, and then what constructs make, one after
-- another. A step that is no operator has the number of its constant or of its bit.
use Rattle.std.proofs.Common.{◌≡◌, ℕ, zero, suc, ◌+◌, ◌-◌, Bool, true, false, if◌then◌else◌, List, [], ◌∷◌, ◌++◌, map, flat_map, take, length, Contains, Option, Some, option_map, refl, sym, ap, ◌∙◌, subst, arith, true≢false, length-append}
use Rattle.std.specs.Prelude.{slice_get, slice_index_or, All}
use Rattle.std.specs.List.{enumerate_from, filter_map, range_with_len}
use Rattle.std.specs.Option.{option_map_or}
use Rattle.std.proofs.lemmas.List.{length-map}
use Rattle.bb_names.specs.Nets.{nets_of}
use Rattle.bb_expr.specs.declared.step.BitStep.{BitStep}
use Rattle.bb_expr.specs.declared.step.BitStep.TheVariants as steps
use Rattle.bb_expr.specs.Lowered.{name_at, is_operator}
use Rattle.bb_net.specs.declared.loose.LooseCell.{LooseCell}
use Rattle.bb_net.specs.declared.loose.LooseCell.TheVariants as cell
use Rattle.bb_ast.specs.Syntax.{Expression}
use Rattle.bb_ast.specs.declared.module.Gate.{Gate}
use Rattle.bb_bits.specs.Closures.{IsDistinct}
use Rattle.bb_design.specs.Laws.BitLaws.{BitsAreDistinguished}
use Rattle.bb_design.specs.Hierarchy.{Design, Scope, root, boxes}
use Rattle.bb_design.specs.NetBits.{Bit, same_bit, net_order, output_bits}
use Rattle.bb_design.specs.Constructs.{Construct, Assignment, GateInstance, Register, SupplyNet, InputConnection, OutputConnection, BoxContents, parts}
use Rattle.bb_design.specs.GateFunctions.{inverts}
use Rattle.bb_design.specs.Registers.{cut_bits}
use Rattle.bb_implements.specs.Places.{CellName, Constant, Input, NetBit, Step, Joined, Inverted, BoxPin, Numbering, Lowering, lowered_in, step_cell, step_cells, joined_place, terminal_place, join_cell, gate_places, places_at, box_places, prefix_places, placed_cells, place_in, driving_places, IsStepAt, AreSteps}
use Rattle.bb_lemmas.proofs.Members.{all_from}
use Rattle.bb_lemmas.proofs.Numbered.{length-enumerated, placed-at}
use Rattle.bb_lemmas.proofs.Places.{got, some_same, there_at}
use Rattle.bb_lemmas.proofs.Ranges.{length-range}
use Rattle.bb_implements.proofs.InRow.{AreInRow, no_row, next_row, both_rows, mapped_row, flat_row, before, before-next, numbered-got, range-got}
use Rattle.bb_implements.proofs.ListPrefixes.{prefix-length}

-- ---- bits

abbrev bit_index : List Bit → Bit → ℕ
bit_index [] b = 0
bit_index (c ∷ cs) b = if same_bit c b then 0 else 1 + bit_index cs b

index-at : BitsAreDistinguished → (bits : List Bit) → IsDistinct bits → (k : ℕ) (b : Bit) → slice_get bits k ≡ Some b → bit_index bits b ≡ k
index-at reported [] apart k b e = cc e
index-at reported (c ∷ cs) apart zero b e = ap (λ t. if t then 0 else 1 + bit_index cs b) ((reported c b).1 (some_same c b e))
index-at reported (c ∷ cs) apart (suc k) b e = other (same_bit c b) refl (index-at reported cs apart.1 k b e)
  where
    other : (t : Bool) → same_bit c b ≡ t → bit_index cs b ≡ k → bit_index (c ∷ cs) b ≡ suc k
    other true is rest = absurd (apart.0 (subst (Contains cs) (sym ((reported c b).0 is)) (there_at cs k b e)))
    other false is rest = ap (λ t. if t then 0 else 1 + bit_index cs b) is ∙ omega (arith, rest)

-- ---- steps

-- how many of them are operators
abbrev operator_count : List BitStep → ℕ
operator_count [] = 0
operator_count (step ∷ all) = (if is_operator step then 1 else 0) + operator_count all

module _ (d : Design) (lowering : Lowering) where
  abbrev pins_start : ℕ
  pins_start = (2 + length (cut_bits d)) + length (net_order d)

  -- the cells of the expressions of a construct before one
  abbrev expressions_before : ℕ → ℕ → ℕ
  expressions_before k zero = 0
  expressions_before k (suc x) = expressions_before k x + operator_count (lowering k x).all

  abbrev gate_size : Construct → ℕ
  gate_size (GateInstance gate outs ins) = (length ins - 1) + (if inverts gate then 1 else 0)
  gate_size c = 0

  abbrev part_size : ℕ × (Scope × Construct) → ℕ
  part_size z = expressions_before z.0 (length (lowered_in z.1)) + gate_size z.1.1

  abbrev box_size : ℕ × Scope → ℕ
  box_size z = length (output_bits z.1)

  abbrev box_start : ℕ → ℕ
  box_start b = pins_start + before box_size b (enumerate_from 0 (boxes d))

  abbrev part_start : ℕ → ℕ
  part_start k = box_start (length (enumerate_from 0 (boxes d))) + before part_size k (enumerate_from 0 (parts d))

  abbrev part_at : ℕ → Scope × Construct
  part_at k = option_map_or (λ p. p) (slice_get (parts d) k) (root d, BoxContents)

  abbrev gate_start : ℕ → ℕ
  gate_start k = part_start k + expressions_before k (length (lowered_in (part_at k)))

  abbrev input_count : Construct → ℕ
  input_count (GateInstance gate outs ins) = length ins
  input_count c = 0

  abbrev constant_number : Bool → ℕ
  constant_number b = if b then 1 else 0

  abbrev net_number : Bit → ℕ
  net_number b = (2 + length (cut_bits d)) + bit_index (net_order d) b

  abbrev step_number : ℕ → ℕ → ℕ → BitStep → ℕ
  step_number k x y (steps.Const b) = constant_number b
  step_number k x y (steps.Net n i) = net_number (record { path = (part_at k).0.path; net = name_at (nets_of (part_at k).0.source) n; place = i })
  step_number k x y step = (part_start k + expressions_before k x) + operator_count (take y (lowering k x).all)

  abbrev pub number : Numbering
  number (Constant b) = constant_number b
  number (Input i) = 2 + i
  number (NetBit b) = net_number b
  number (Step k x y) = step_number k x y (slice_index_or (lowering k x).all y (steps.Const false))
  number (Joined k x) = gate_start k + (x - 1)
  number (Inverted k) = gate_start k + (input_count (part_at k).1 - 1)
  number (BoxPin b p) = box_start b + p

  abbrev Entry : Type 0
  Entry = CellName × LooseCell

  abbrev pub entry_number : Entry → ℕ
  entry_number z = number z.0

  -- ---- the front

  prefix_row : BitsAreDistinguished → IsDistinct (net_order d) → AreInRow entry_number 0 (prefix_places d lowering number)
  prefix_row reported apart =
      let n : ℕ = length (cut_bits d) in
      let inputs : List Entry = map (λ i. (Input i, cell.Input i)) (range_with_len 0 n) in
      let nets : List Entry = map (λ b. (NetBit b, cell.Copy (number (place_in (driving_places d lowering) b)))) (net_order d) in
      let long : length inputs ≡ n = length-map {B = Entry} (range_with_len 0 n) (λ i. (Input i, cell.Input i)) ∙ length-range 0 n in
      let low : AreInRow entry_number 2 inputs = mapped_row entry_number (λ i. (Input i, cell.Input i)) (range_with_len 0 n) 2 (λ k x e. let r = range-got 0 n k x e in omega (arith, r)) in
      let first : AreInRow entry_number 0 ((Constant false, cell.Const false) ∷ (Constant true, cell.Const true) ∷ inputs)
      = next_row entry_number 0 (Constant false, cell.Const false) ((Constant true, cell.Const true) ∷ inputs) refl (next_row entry_number 1 (Constant true, cell.Const true) inputs refl low) in
      both_rows entry_number 0 ((Constant false, cell.Const false) ∷ (Constant true, cell.Const true) ∷ inputs) nets first
      (mapped_row entry_number (λ b. (NetBit b, cell.Copy (number (place_in (driving_places d lowering) b)))) (net_order d) _ (λ k b e. let at = index-at reported (net_order d) apart k b e in omega (arith, at, long)))

  -- ---- pins of boxes

  pins_row : AreInRow entry_number (box_start 0) (flat_map box_places (enumerate_from 0 (boxes d))) × (box_start (length (enumerate_from 0 (boxes d))) ≡ box_start 0 + length (flat_map box_places (enumerate_from 0 (boxes d))))
  pins_row = flat_row entry_number box_places (enumerate_from 0 (boxes d)) box_start (λ n z e. box_row n z e)
    where
      box_row : (n : ℕ) (z : ℕ × Scope) → slice_get (enumerate_from 0 (boxes d)) n ≡ Some z → AreInRow entry_number (box_start n) (box_places z) × (box_start (suc n) ≡ box_start n + length (box_places z))
      box_row n (b, s) e =
          let is = numbered-got 0 (boxes d) n (b, s) e in
          let same : n ≡ b = omega (arith, is.0) in
          let long : length (box_places (b, s)) ≡ length (output_bits s) = length-map {B = Entry} (enumerate_from 0 (output_bits s)) (λ x. (BoxPin b x.0, cell.BoxOut b x.0)) ∙ length-enumerated 0 (output_bits s) in (
            subst (λ j. AreInRow entry_number (box_start j) (box_places (b, s))) (sym same)
                (mapped_row entry_number (λ x. (BoxPin b x.0, cell.BoxOut b x.0)) (enumerate_from 0 (output_bits s)) (box_start b) (λ k x f. let r = (numbered-got 0 (output_bits s) k x f).0 in omega (arith, r))),
            omega (arith, before-next box_size n (enumerate_from 0 (boxes d)) (b, s) e, long),
          )

  -- ---- steps that are operators

  module _ (k x : ℕ) where
    abbrev make : ℕ × BitStep → Option Entry
    make y = option_map (λ c. (Step k x y.0, c)) (step_cell (λ a. number (Step k x a)) y.1)

    -- operators from a number on
    abbrev Numbered : ℕ → ℕ → List BitStep → Type 0
    Numbered i a rest = (j : ℕ) (s : BitStep) → slice_get rest j ≡ Some s → is_operator s ≡ true → number (Step k x (i + j)) ≡ a + operator_count (take j rest)

    abbrev StepRow : ℕ → ℕ → List BitStep → Type 0
    StepRow i a rest = AreInRow entry_number a (filter_map make (enumerate_from i rest)) × (length (filter_map make (enumerate_from i rest)) ≡ operator_count rest)

    moved : (i j : ℕ) → number (Step k x ((i + 1) + j)) ≡ number (Step k x (i + suc j))
    moved i j = let e : (i + 1) + j ≡ i + suc j = omega arith in ap (λ y. number (Step k x y)) e

    later : (i a : ℕ) (s : BitStep) (rest : List BitStep) → Numbered i a (s ∷ rest) → Numbered (i + 1) (a + (if is_operator s then 1 else 0)) rest
    later i a s rest h j t at is = moved i j ∙ h (suc j) t at is ∙ omega arith

    here : (i a : ℕ) (s : BitStep) (rest : List BitStep) → Numbered i a (s ∷ rest) → is_operator s ≡ true → number (Step k x i) ≡ a
    here i a s rest h is = let e : i + 0 ≡ i = omega arith in ap (λ y. number (Step k x y)) (sym e) ∙ h 0 s refl is ∙ omega arith

    keep : (i a : ℕ) (s : BitStep) (rest : List BitStep) (c : LooseCell) → Numbered i a (s ∷ rest) → is_operator s ≡ true → StepRow (i + 1) (a + 1) rest
        → AreInRow entry_number a ((Step k x i, c) ∷ filter_map make (enumerate_from (i + 1) rest)) × (suc (length (filter_map make (enumerate_from (i + 1) rest))) ≡ 1 + operator_count rest)
    keep i a s rest c h is more = (next_row entry_number a (Step k x i, c) (filter_map make (enumerate_from (i + 1) rest)) (here i a s rest h is) more.0, omega (arith, more.1))

    skip : (i a : ℕ) (rest : List BitStep) → StepRow (i + 1) (a + 0) rest → AreInRow entry_number a (filter_map make (enumerate_from (i + 1) rest)) × (length (filter_map make (enumerate_from (i + 1) rest)) ≡ 0 + operator_count rest)
    skip i a rest more = let e : a + 0 ≡ a = omega arith in (subst (λ b. AreInRow entry_number b (filter_map make (enumerate_from (i + 1) rest))) e more.0, omega (arith, more.1))

    step_row : (rest : List BitStep) (i a : ℕ) → Numbered i a rest → StepRow i a rest
    step_row [] i a h = (no_row entry_number a, refl)
    step_row (steps.Const b ∷ rest) i a h = skip i a rest (step_row rest (i + 1) (a + 0) (later i a (steps.Const b) rest h))
    step_row (steps.Net n m ∷ rest) i a h = skip i a rest (step_row rest (i + 1) (a + 0) (later i a (steps.Net n m) rest h))
    step_row (steps.Not u ∷ rest) i a h = keep i a (steps.Not u) rest _ h refl (step_row rest (i + 1) (a + 1) (later i a (steps.Not u) rest h))
    step_row (steps.And u v ∷ rest) i a h = keep i a (steps.And u v) rest _ h refl (step_row rest (i + 1) (a + 1) (later i a (steps.And u v) rest h))
    step_row (steps.Or u v ∷ rest) i a h = keep i a (steps.Or u v) rest _ h refl (step_row rest (i + 1) (a + 1) (later i a (steps.Or u v) rest h))
    step_row (steps.Xor u v ∷ rest) i a h = keep i a (steps.Xor u v) rest _ h refl (step_row rest (i + 1) (a + 1) (later i a (steps.Xor u v) rest h))
    step_row (steps.Mux u v w ∷ rest) i a h = keep i a (steps.Mux u v w) rest _ h refl (step_row rest (i + 1) (a + 1) (later i a (steps.Mux u v w) rest h))

    operator_number : (y : ℕ) (s : BitStep) → is_operator s ≡ true → step_number k x y s ≡ (part_start k + expressions_before k x) + operator_count (take y (lowering k x).all)
    operator_number y (steps.Const b) is = absurd (true≢false (sym is))
    operator_number y (steps.Net n m) is = absurd (true≢false (sym is))
    operator_number y (steps.Not u) is = refl
    operator_number y (steps.And u v) is = refl
    operator_number y (steps.Or u v) is = refl
    operator_number y (steps.Xor u v) is = refl
    operator_number y (steps.Mux u v w) is = refl

    step_got : (y : ℕ) (s : BitStep) → slice_get (lowering k x).all y ≡ Some s → number (Step k x y) ≡ step_number k x y s
    step_got y s e = ap (step_number k x y) (got (lowering k x).all y s (steps.Const false) e).1

    expression_row : StepRow 0 (part_start k + expressions_before k x) (lowering k x).all
    expression_row = step_row (lowering k x).all 0 (part_start k + expressions_before k x) (λ j s at is.
        let e : 0 + j ≡ j = omega arith in ap (λ y. number (Step k x y)) e ∙ step_got j s at ∙ operator_number j s is)

  -- ---- constructs

  expressions_row : (k m : ℕ) → AreInRow entry_number (part_start k) (flat_map (step_cells lowering number k) (range_with_len 0 m)) × (length (flat_map (step_cells lowering number k) (range_with_len 0 m)) ≡ expressions_before k m)
  expressions_row k m =
      let start : ℕ → ℕ = λ x. part_start k + expressions_before k x in
      let all = flat_row entry_number (step_cells lowering number k) (range_with_len 0 m) start (λ n x e.
      let is : n ≡ x = (let r = range-got 0 m n x e in omega (arith, r)) in
      let row = expression_row k n in
      (subst (λ y. AreInRow entry_number (start n) (step_cells lowering number k y)) is row.0, (let long = ap (λ y. length (step_cells lowering number k y)) is in omega (arith, row.1, long)))) in
      let zero_more : part_start k + 0 ≡ part_start k = omega arith in
      let long = ap (expressions_before k) (length-range 0 m) in
      (subst (λ a. AreInRow entry_number a (flat_map (step_cells lowering number k) (range_with_len 0 m))) zero_more all.0, omega (arith, all.1, long))

  module _ (k : ℕ) (s : Scope) (gate : Gate) (outs ins : List Expression) (at : part_at k ≡ (s, GateInstance gate outs ins)) where
    abbrev join : ℕ → Entry
    join x = (Joined k (x + 1), join_cell gate (number (joined_place lowering k x)) (number (terminal_place lowering k (x + 1))))

    abbrev joins : List Entry
    joins = map join (range_with_len 0 (length ins - 1))

    joins-long : length joins ≡ length ins - 1
    joins-long = length-map (range_with_len 0 (length ins - 1)) join ∙ length-range 0 (length ins - 1)

    joins-row : AreInRow entry_number (gate_start k) joins
    joins-row = mapped_row entry_number join (range_with_len 0 (length ins - 1)) (gate_start k) (λ i x e. let r = range-got 0 (length ins - 1) i x e in omega (arith, r))

    counted : input_count (part_at k).1 ≡ length ins
    counted = ap (λ (p : Scope × Construct). input_count p.1) at

    abbrev inversion : Entry
    inversion = (Inverted k, cell.Not (number (joined_place lowering k (length ins - 1))))

    inverted-row : (b : Bool) → AreInRow entry_number (gate_start k) (joins ++ (if b then inversion ∷ [] else [])) × (length (joins ++ (if b then inversion ∷ [] else [])) ≡ (length ins - 1) + (if b then 1 else 0))
    inverted-row true = (
      both_rows entry_number (gate_start k) joins (inversion ∷ []) joins-row (next_row entry_number (gate_start k + length joins) inversion [] (omega (arith, counted, joins-long)) (no_row entry_number (gate_start k + length joins + 1))),
      omega (arith, joins-long, length-append joins (inversion ∷ [])),
    )
    inverted-row false = (both_rows entry_number (gate_start k) joins [] joins-row (no_row entry_number (gate_start k + length joins)), omega (arith, joins-long, length-append joins []))

  gate_row : (k : ℕ) (s : Scope) (c : Construct) → part_at k ≡ (s, c) → AreInRow entry_number (gate_start k) (gate_places lowering number k c) × (length (gate_places lowering number k c) ≡ gate_size c)
  gate_row k s (GateInstance gate outs ins) at = inverted-row k s gate outs ins at (inverts gate)
  gate_row k s (Assignment left right) at = (no_row entry_number (gate_start k), refl)
  gate_row k s (Register r) at = (no_row entry_number (gate_start k), refl)
  gate_row k s (SupplyNet high n) at = (no_row entry_number (gate_start k), refl)
  gate_row k s (InputConnection i pin e) at = (no_row entry_number (gate_start k), refl)
  gate_row k s (OutputConnection i pin e) at = (no_row entry_number (gate_start k), refl)
  gate_row k s BoxContents at = (no_row entry_number (gate_start k), refl)

  part_row : (k : ℕ) (s : Scope) (c : Construct) → slice_get (parts d) k ≡ Some (s, c) → AreInRow entry_number (part_start k) (places_at lowering number (k, (s, c))) × (length (places_at lowering number (k, (s, c))) ≡ part_size (k, (s, c)))
  part_row k s c e =
      let at : part_at k ≡ (s, c) = ap (λ o. option_map_or (λ p. p) o (root d, BoxContents)) e in
      let m : ℕ = length (lowered_in (s, c)) in
      let made : List Entry = flat_map (step_cells lowering number k) (range_with_len 0 m) in
      let first = expressions_row k m in
      let gate = gate_row k s c at in
      let where_gate : gate_start k ≡ part_start k + length made = (let same = ap (λ (p : Scope × Construct). expressions_before k (length (lowered_in p))) at in omega (arith, same, first.1)) in (
        both_rows entry_number (part_start k) made (gate_places lowering number k c) first.0 (subst (λ a. AreInRow entry_number a (gate_places lowering number k c)) where_gate gate.0),
        omega (arith, first.1, gate.1, length-append made (gate_places lowering number k c)),
      )

  parts_row : AreInRow entry_number (part_start 0) (flat_map (places_at lowering number) (enumerate_from 0 (parts d)))
  parts_row = (flat_row entry_number (places_at lowering number) (enumerate_from 0 (parts d)) part_start (λ n z e. each n z e)).0
    where
      each : (n : ℕ) (z : ℕ × (Scope × Construct)) → slice_get (enumerate_from 0 (parts d)) n ≡ Some z → AreInRow entry_number (part_start n) (places_at lowering number z) × (part_start (suc n) ≡ part_start n + length (places_at lowering number z))
      each n (k, (s, c)) e =
          let is = numbered-got 0 (parts d) n (k, (s, c)) e in
          let same : k ≡ n = omega (arith, is.0) in
          let row = part_row k s c (ap (slice_get (parts d)) same ∙ is.1) in
          (subst (λ j. AreInRow entry_number (part_start j) (places_at lowering number (k, (s, c)))) same row.0, omega (arith, before-next part_size n (enumerate_from 0 (parts d)) (k, (s, c)) e, row.1))

  -- ---- all places, and the steps that are no operators

  pub places_row : BitsAreDistinguished → IsDistinct (net_order d) → AreInRow entry_number 0 (prefix_places d lowering number) × AreInRow entry_number 0 (placed_cells d lowering number)
  places_row reported apart =
      let prefix = prefix_row reported apart in
      let boxed : List Entry = flat_map box_places (enumerate_from 0 (boxes d)) in
      let made : List Entry = flat_map (places_at lowering number) (enumerate_from 0 (parts d)) in
      let pins = pins_row in
      let long = prefix-length d lowering number in
      let pins_at : box_start 0 ≡ 0 + length (prefix_places d lowering number) = omega (arith, long) in
      let parts_at : part_start 0 ≡ (0 + length (prefix_places d lowering number)) + length boxed = omega (arith, pins.1, pins_at) in (
        prefix,
        both_rows entry_number 0 (prefix_places d lowering number) (boxed ++ made) prefix
            (both_rows entry_number (0 + length (prefix_places d lowering number)) boxed made (subst (λ a. AreInRow entry_number a boxed) pins_at pins.0) (subst (λ a. AreInRow entry_number a made) parts_at parts_row)),
      )

  pub steps_occur : All (AreSteps lowering number) (enumerate_from 0 (parts d))
  steps_occur = all_from (AreSteps lowering number) (enumerate_from 0 (parts d)) (λ z has. each z has)
    where
      occurs : (k : ℕ) (s : Scope) (c : Construct) → slice_get (parts d) k ≡ Some (s, c) → (x y : ℕ) (step : BitStep) → slice_get (lowering k x).all y ≡ Some step → IsStepAt number s step (number (Step k x y))
      occurs k s c at x y (steps.Const b) e = step_got k x y (steps.Const b) e
      occurs k s c at x y (steps.Net n i) e =
          step_got k x y (steps.Net n i) e ∙ ap (λ o. (let p = option_map_or (λ (p : Scope × Construct). p) o (root d, BoxContents) in net_number (record { path = p.0.path; net = name_at (nets_of p.0.source) n; place = i }))) at
      occurs k s c at x y (steps.Not u) e = tt
      occurs k s c at x y (steps.And u v) e = tt
      occurs k s c at x y (steps.Or u v) e = tt
      occurs k s c at x y (steps.Xor u v) e = tt
      occurs k s c at x y (steps.Mux u v w) e = tt

      each : (z : ℕ × (Scope × Construct)) → Contains (enumerate_from 0 (parts d)) z → AreSteps lowering number z
      each (k, (s, c)) has =
          let p = placed-at 0 (parts d) (k, (s, c)) has in
          let same : p.0 ≡ k = omega (arith, p.1) in
          let at : slice_get (parts d) k ≡ Some (s, c) = ap (slice_get (parts d)) (sym same) ∙ p.2 in
          all_from (λ x. All (λ y. IsStepAt number s y.1 (number (Step k x y.0))) (enumerate_from 0 (lowering k x).all)) (range_with_len 0 (length (lowered_in (s, c)))) (λ x in_range.
          all_from (λ y. IsStepAt number s y.1 (number (Step k x y.0))) (enumerate_from 0 (lowering k x).all) (λ y has_step.
          let q = placed-at 0 (lowering k x).all y has_step in
          let is : q.0 ≡ y.0 = omega (arith, q.1) in
          occurs k s c at x y.0 y.1 (ap (slice_get (lowering k x).all) (sym is) ∙ q.2)))
