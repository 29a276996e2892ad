-- What is at the places of a list of cells, where bits meet the equations of the list: steps of expressions have the bits of
-- what they are made of, and the place of a gate has what the gate gives.
use Rattle.std.proofs.Common.{◌≡◌, ℕ, zero, suc, ◌+◌, ◌-◌, ◌<◌, ◌≤◌, Bool, true, false, not, ◌&&◌, ◌||◌, if◌then◌else◌, List, [], ◌∷◌, ◌++◌, map, fold, length, get_or, All, Contains, refl, sym, ap, ap₂, ◌∙◌, subst, arith}
use Rattle.std.specs.List.{enumerate_from, range_with_len}
use Rattle.std.proofs.lemmas.List.{map-append}
use Rattle.std.proofs.lemmas.List.Elements.{All-head, All-tail}
use Rattle.bb_ast.specs.declared.module.Gate.{Gate}
use Rattle.bb_ast.specs.declared.module.Gate.TheVariants as gates
use Rattle.bb_ast.specs.Syntax.{Expression}
use Rattle.bb_bits.specs.Contents.{Contents, output_bit}
use Rattle.bb_names.specs.Nets.{nets_of}
use Rattle.bb_expr.specs.declared.step.BitStep.{BitStep}
use Rattle.bb_expr.specs.declared.step.BitStep.TheVariants as steps
use Rattle.bb_expr.specs.Lowered.{ReadsEarlier, step_term, term_within, term_at}
use Rattle.bb_expr.specs.Terms.{Term, term_bit}
use Rattle.bb_expr.specs.Terms as term
use Rattle.bb_net.specs.declared.loose.LooseCell.{LooseCell}
use Rattle.bb_net.specs.declared.loose.LooseCell.TheVariants as cell
use Rattle.bb_net.specs.Loose.{LooseList, loose_gate, IsLooseValue}
use Rattle.bb_net.specs.Netlists.{Pins, box_at}
use Rattle.bb_net.specs.Values.{bit_of}
use Rattle.bb_design.specs.Hierarchy.{Design, Scope, root, boxes}
use Rattle.bb_design.specs.NetBits.{Bit, net_order, input_bits, output_bits, pin_bits}
use Rattle.bb_design.specs.Contexts.{width_of, made_in}
use Rattle.bb_design.specs.Constructs.{Construct, GateInstance, parts}
use Rattle.bb_design.specs.Drivers.{terminal_terms}
use Rattle.bb_design.specs.GateFunctions.{on_bits, joins, joined, inverts, gate_gives}
use Rattle.bb_implements.specs.Laws.ListLaws.{vector_bits, given_by_contents, world_at}
use Rattle.bb_implements.specs.Places.{CellName, Constant, Input, NetBit, Step, Joined, Inverted, BoxPin, lowered_in, Lowering, IsLowering, step_places, terminal_place, joined_place, gate_place, driving_places, place_in, join_cell, IsListOf}
use Rattle.bb_design.specs.Registers.{cut_bits}
use Rattle.bb_implements.specs.Implements.{box_number}
use Rattle.bb_design.specs.Texts.{path_text}
use Rattle.bb_design.specs.Worlds.{World, Vector, bits_in}
use Rattle.bb_lemmas.proofs.Numbered.{enumerated_from, from_numbered}
use Rattle.bb_implements.proofs.ListedPlaces.{IsListed, Occurs, lowered_at, reads_there, listed_cell, listed_below, constant_listed, input_listed, net_listed, pin_listed, step_occurs, joined_listed, inverted_listed, box_is}
use Rattle.bb_implements.proofs.ListedSources.{terminal_there}
use Rattle.bb_design.specs.Laws.Wired.{IsWired}
use Rattle.bb_names.specs.Sites.{Pin}
use Rattle.bb_lemmas.proofs.Places.{only_one}

module _ (d : Design) (lowering : Lowering) (l : LooseList) (list : IsListOf d lowering l) (lowered : IsLowering d lowering) (wired : IsWired d)
    (contents : Contents) (x : Vector) (bits : List Bool) (value : IsLooseValue l (vector_bits d x) (given_by_contents d contents) bits) where
  -- the bit at a place
  abbrev pub at : CellName → Bool
  at p = bit_of bits (list.number p)

  abbrev pub world : World
  world = world_at list.number bits

  abbrev gives : LooseCell → Bool
  gives c = loose_gate l.boxes (vector_bits d x) (given_by_contents d contents) (bit_of bits) c

  equation : (p : CellName) (c : LooseCell) → IsListed d lowering l list p c → at p ≡ gives c
  equation p c has = value.each (list.number p) (listed_below d lowering l list p c has) ∙ ap gives (listed_cell d lowering l list p c has)

  pub constant_value : (b : Bool) → at (Constant b) ≡ b
  constant_value b = equation (Constant b) (cell.Const b) (constant_listed d lowering l list b)

  pub input_value : (i : ℕ) → i < length (cut_bits d) → at (Input i) ≡ get_or (vector_bits d x) i false
  input_value i fits = equation (Input i) (cell.Input i) (input_listed d lowering l list i fits)

  pub net_value : (b : Bit) → Contains (net_order d) b → at (NetBit b) ≡ at (place_in (driving_places d lowering) b)
  net_value b has = equation (NetBit b) _ (net_listed d lowering l list b has)

  net_bits : (all : List Bit) → map (bit_of bits) (map (λ b. list.number (NetBit b)) all) ≡ bits_in world all
  net_bits [] = refl
  net_bits (b ∷ all) = ap (λ r. at (NetBit b) ∷ r) (net_bits all)

  -- an output pin of a box has the bit of its contents
  pub pin_value : (b : ℕ) (s : Scope) → Contains (enumerate_from 0 (boxes d)) (b, s) → (p : ℕ) (y : Bit) → Contains (enumerate_from 0 (output_bits s)) (p, y)
      → at (BoxPin b p) ≡ output_bit (contents (path_text s.path)) (bits_in world (input_bits s)) p
  pin_value b s has p y there =
      let j = enumerated_from 0 (boxes d) b s has in
      let scope : box_number d b ≡ s = ap (λ k. get_or (boxes d) k (root d)) (omega (arith, j.1)) ∙ j.3 (root d) in
      let ins : map (bit_of bits) (box_at l.boxes b).ins ≡ bits_in world (input_bits s) = ap (λ (q : Pins). map (bit_of bits) q.ins) (box_is d lowering l list b s has) ∙ net_bits (input_bits s) in
      equation (BoxPin b p) (cell.BoxOut b p) (pin_listed d lowering l list b s has p y there)
      ∙ ap (λ (u : Scope). output_bit (contents (path_text u.path)) (map (bit_of bits) (box_at l.boxes b).ins) p) scope
      ∙ ap (λ i. output_bit (contents (path_text s.path)) i p) ins

  -- the pins of a connection have the bits that they have in the world
  pub pins_same : (path : List (List ℕ)) (pin : Pin) → map at (map NetBit (pin_bits path pin)) ≡ map (term_bit (world path)) (map (λ (b : Bit). term.Net b.net b.place) (pin_bits path pin))
  pins_same path pin = from (range_with_len 0 pin.width)
    where
      from : (ks : List ℕ) → map at (map NetBit (map (λ k. record { path = path; net = pin.name; place = k }) ks))
          ≡ map (term_bit (world path)) (map (λ (b : Bit). term.Net b.net b.place) (map (λ k. record { path = path; net = pin.name; place = k }) ks))
      from [] = refl
      from (k ∷ ks) = ap (λ r. world path pin.name k ∷ r) (from ks)

  module _ (k : ℕ) (s : Scope) (c : Construct) (has : Contains (enumerate_from 0 (parts d)) (k, (s, c))) (n : ℕ) where
    -- a step has the bit of what it is made of, where the steps that it reads have theirs
    step_value : (term : ℕ → Term) (j : ℕ) → ((a : ℕ) → a < j → at (Step k n a) ≡ term_bit (world s.path) (term a)) → (step : BitStep) → ReadsEarlier (nets_of s.source) j step → Occurs d lowering l list k s n j step
        → at (Step k n j) ≡ term_bit (world s.path) (step_term (nets_of s.source) step term)
    step_value term j earlier (steps.Const b) reads occurs = ap (bit_of bits) occurs.0 ∙ constant_value b
    step_value term j earlier (steps.Net m i) reads occurs = ap (bit_of bits) occurs.0
    step_value term j earlier (steps.Not a) reads occurs = equation (Step k n j) _ occurs.1 ∙ ap not (earlier a reads)
    step_value term j earlier (steps.And a b) reads occurs = equation (Step k n j) _ occurs.1 ∙ ap₂ ◌&&◌ (earlier a reads.0) (earlier b reads.1)
    step_value term j earlier (steps.Or a b) reads occurs = equation (Step k n j) _ occurs.1 ∙ ap₂ ◌||◌ (earlier a reads.0) (earlier b reads.1)
    step_value term j earlier (steps.Xor a b) reads occurs = equation (Step k n j) _ occurs.1 ∙ ap₂ (λ p q. if p then not q else q) (earlier a reads.0) (earlier b reads.1)
    step_value term j earlier (steps.Mux i t e) reads occurs =
        let first = earlier i reads.0 in
        let second = earlier t reads.1 in
        let third = earlier e reads.2 in
        equation (Step k n j) _ occurs.1 ∙ (λ q. if first q then second q else third q)

    module _ (e : Expression) (w : ℕ) (there : Contains (enumerate_from 0 (lowered_in (s, c))) (n, (e, w))) where
      abbrev all : List BitStep
      all = (lowering k n).all

      within_value : (m j : ℕ) → j < m → j < length all → at (Step k n j) ≡ term_bit (world s.path) (term_within (nets_of s.source) all m j)
      unfolding term_within
      within_value zero j below fits = absurd (omega (arith, below))
      within_value (suc m) j below fits =
          let y = enumerated_from 0 (lowered_in (s, c)) n (e, w) there in
          let within : n < length (lowered_in (s, c)) = omega (arith, y.1, y.2) in
          step_value (term_within (nets_of s.source) all m) j (λ a lt. within_value m a (omega (arith, lt, below)) (omega (arith, lt, fits))) (get_or all j (steps.Const false))
          (reads_there d lowering lowered k s c has n within j fits) (step_occurs d lowering l list k s c has n within j fits)

      each_value : (js : List ℕ) → All (λ j. j < length all) js → map at (map (Step k n) js) ≡ map (term_bit (world s.path)) (map (term_at (nets_of s.source) all) js)
      each_value [] fits = refl
      each_value (j ∷ js) fits = ap₂ ◌∷◌ (within_value (j + 1) j (omega arith) (All-head (λ j. j < length all) j js fits)) (each_value js (All-tail (λ j. j < length all) j js fits))

      -- the steps of an expression have its bits
      pub expression_value : map at (step_places lowering k n) ≡ map (term_bit (world s.path)) (made_in s e w).bits
      expression_value = let low = lowered_at d lowering lowered k s c has n e w there in each_value (lowering k n).bits low.places ∙ ap (map (term_bit (world s.path))) low.terms

  module _ (k : ℕ) (s : Scope) (gate : Gate) (outs ins : List Expression) (has : Contains (enumerate_from 0 (parts d)) (k, (s, GateInstance gate outs ins))) where
    abbrev shape : (1 ≤ length ins) × All (λ e. width_of s e ≡ 1) ins
    shape = wired.gates s gate outs ins (from_numbered 0 (parts d) (k, (s, GateInstance gate outs ins)) has)

    -- the bit of an input
    abbrev input : ℕ → Bool
    input n = at (terminal_place lowering k n)

    one_input : (n : ℕ) → n < length ins → (e : Expression) × (get_or ins n e ≡ e) × (map (term_bit (world s.path)) (made_in s e (width_of s e)).bits ≡ input n ∷ [])
    one_input n fits =
        let e = terminal_there s ins n fits shape.1 in
        let low = lowered_at d lowering lowered k s (GateInstance gate outs ins) has n e.0 1 e.1 in
        let width : width_of s e.0 ≡ 1 = subst (λ u. width_of s u ≡ 1) e.2 (shape.1 n e.0 fits) in (
          e.0,
          e.2,
          ap (λ w. map (term_bit (world s.path)) (made_in s e.0 w).bits) width ∙ sym (expression_value k s (GateInstance gate outs ins) has n e.0 1 e.1) ∙ ap (λ js. map at (map (Step k n) js)) (only_one (lowering k n).bits 0 low.width),
        )

    inputs_from : (a : ℕ) (es : List Expression) → ((i : ℕ) → i < length es → (e : Expression) × (get_or es i e ≡ e) × (map (term_bit (world s.path)) (made_in s e (width_of s e)).bits ≡ input (a + i) ∷ []))
        → map (term_bit (world s.path)) (terminal_terms s es) ≡ map input (range_with_len a (length es))
    inputs_from a [] each = refl
    inputs_from a (e ∷ es) each =
        let first = each 0 (omega arith) in
        map-append (term_bit (world s.path)) (made_in s e (width_of s e)).bits (terminal_terms s es)
        ∙ ap₂ ◌++◌ (ap (λ u. map (term_bit (world s.path)) (made_in s u (width_of s u)).bits) first.1 ∙ first.2 ∙ ap (λ n. input n ∷ []) (omega arith))
        (inputs_from (a + 1) es (λ i fits. let y = each (suc i) (omega (arith, fits)) in (y.0, y.1, y.2 ∙ ap (λ n. input n ∷ []) (omega arith))))

    join_value : (g : Gate) (p q : ℕ) → gives (join_cell g p q) ≡ joins on_bits g (bit_of bits p) (bit_of bits q)
    join_value gates.And p q = refl
    join_value gates.Nand p q = refl
    join_value gates.Or p q = refl
    join_value gates.Nor p q = refl
    join_value gates.Xor p q = refl
    join_value gates.Xnor p q = refl
    join_value gates.Buf p q = refl
    join_value gates.Not p q = refl

    joined_value : (m a : ℕ) → a + m < length ins → at (joined_place lowering k (a + m)) ≡ fold (joins on_bits gate) (at (joined_place lowering k a)) (map input (range_with_len (a + 1) m))
    joined_value zero a fits = ap (λ n. at (joined_place lowering k n)) (omega arith)
    joined_value (suc m) a fits =
        let one : a + 1 ≡ suc a = omega arith in
        let further : a + suc m ≡ a + 1 + m = omega arith in
        let next : at (joined_place lowering k (a + 1)) ≡ joins on_bits gate (at (joined_place lowering k a)) (input (a + 1)) =
        ap (λ n. at (joined_place lowering k n)) one ∙ equation (Joined k (suc a)) _ (joined_listed d lowering l list k s gate outs ins has a (omega (arith, fits))) ∙ join_value gate _ _ ∙ ap (λ n. joins on_bits gate (at (joined_place lowering k a)) (input n)) (sym one) in
        ap (λ n. at (joined_place lowering k n)) further ∙ joined_value m (a + 1) (omega (arith, fits)) ∙ ap (λ b. fold (joins on_bits gate) b (map input (range_with_len (a + 1 + 1) m))) next

    all_joined : (n : ℕ) → n ≡ length ins → 1 ≤ n → at (joined_place lowering k (n - 1)) ≡ joined on_bits gate (map input (range_with_len 0 n))
    all_joined zero e one = absurd (omega (arith, one))
    all_joined (suc m) e one = ap (λ n. at (joined_place lowering k n)) (omega arith) ∙ joined_value m 0 (omega (arith, e)) ∙ ap (λ a. fold (joins on_bits gate) (input 0) (map input (range_with_len a m))) (omega arith)

    -- the place of a gate has what the gate gives
    pub gate_value : at (gate_place lowering gate k (length ins)) ≡ gate_gives on_bits gate (map (term_bit (world s.path)) (terminal_terms s ins))
    gate_value = by (inverts gate) refl ∙ ap (gate_gives on_bits gate) (sym (inputs_from 0 ins (λ i fits. let y = one_input i fits in (y.0, y.1, y.2 ∙ ap (λ n. input n ∷ []) (omega arith)))))
      where
        joined_all : at (joined_place lowering k (length ins - 1)) ≡ joined on_bits gate (map input (range_with_len 0 (length ins)))
        joined_all = all_joined (length ins) refl shape.0

        by : (b : Bool) → inverts gate ≡ b → at (if b then Inverted k else joined_place lowering k (length ins - 1))
            ≡ (if b then not (joined on_bits gate (map input (range_with_len 0 (length ins)))) else joined on_bits gate (map input (range_with_len 0 (length ins))))
        by true e = equation (Inverted k) _ (inverted_listed d lowering l list k s gate outs ins has e) ∙ ap not joined_all
        by false e = joined_all
