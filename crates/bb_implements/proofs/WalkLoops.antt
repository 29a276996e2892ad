-- A walk in the list of cells from the place of a bit to that of another leads along dependence.
use Rattle.std.proofs.Common.{◌≡◌, ◌⊎◌, ℕ, zero, suc, ◌+◌, ◌-◌, ◌<◌, ◌≤◌, Bool, true, false, if◌then◌else◌, List, [], ◌∷◌, ◌++◌, map, flat_map, find, fold, zip, length, get_or, Contains, Option, Some, None, refl, sym, ap, ◌∙◌, subst, inl, inr, arith}
use Rattle.std.specs.List.{enumerate_from, range_with_len}
use Rattle.std.specs.Option.{option_map_or}
use Rattle.std.proofs.lemmas.List.Elements.{All-contains, Contains-get_or, Contains-append_cases, Contains-append_left, Contains-append_right}
use Rattle.bb_ast.specs.declared.module.Gate.{Gate}
use Rattle.bb_ast.specs.declared.module.Gate.TheVariants as gates
use Rattle.bb_ast.specs.Syntax.{Expression}
use Rattle.bb_names.specs.Nets.{nets_of}
use Rattle.bb_expr.specs.declared.step.BitStep.{BitStep}
use Rattle.bb_expr.specs.declared.step.BitStep.TheVariants as steps
use Rattle.bb_expr.specs.Lowered.{ReadsEarlier, step_term, term_within, name_at}
use Rattle.bb_expr.specs.Terms.{Term}
use Rattle.bb_expr.specs.Terms as term
use Rattle.bb_net.specs.declared.loose.LooseCell.{LooseCell}
use Rattle.bb_net.specs.declared.loose.LooseCell.TheVariants as cell
use Rattle.bb_net.specs.Loose.{LooseList, operand_places, Reaches}
use Rattle.bb_net.specs.Netlists.{Pins}
use Rattle.bb_bits.specs.Closures.{Leads, One, More}
use Rattle.bb_design.specs.Hierarchy.{Design, Scope, boxes, scopes, is_box, path_to}
use Rattle.bb_design.specs.NetBits.{Bit, same_bit, net_order, bits_named, pin_bits, input_bits, output_bits, written_bits, scope_bits}
use Rattle.bb_design.specs.Contexts.{width_of, context_width}
use Rattle.bb_bits.specs.Bits.{low_bits}
use Rattle.bb_implements.specs.Laws.LoopLaws.{ListWalksAreLoops}
use Rattle.bb_design.specs.Constructs.{Construct, Assignment, GateInstance, Register, SupplyNet, InputConnection, OutputConnection, BoxContents, parts}
use Rattle.bb_design.specs.Dependence.{bits_below, needed, dependences}
use Rattle.bb_design.specs.Drivers.{MadeOf, Box, Drive, driven, driven_by, terminal_terms, drives_at, drives}
use Rattle.bb_design.specs.GateFunctions.{on_terms, joins, joined, inverts, gate_gives}
use Rattle.bb_implements.specs.Places.{CellName, Constant, Input, NetBit, Step, Joined, Inverted, BoxPin, lowered_in, Lowering, IsLowering, step_places, given_at, given_by_box, driving_places, place_in, terminal_place, joined_place, gate_place, join_cell, IsListOf}
use Rattle.bb_design.specs.Registers.{cut_bits}
use Rattle.bb_implements.proofs.DependenceWalks.{loop_walk}
use Rattle.bb_lemmas.proofs.Numbered.{enumerated_from, from_numbered}
use Rattle.bb_lemmas.proofs.Members.{from_drop, contains-map, into_flat, from_flat, from_map, contains_here, contains_cases, none_in_nil, kept_from, from_find}
use Rattle.bb_implements.proofs.GivenDrives.{term_of, box_part, part_driven, whole_terms, low_terms, pin_terms, sides_meet}
use Rattle.bb_lemmas.proofs.Zips.{zip_parts}
use Rattle.bb_names.specs.Sites.{Pin}
use Rattle.bb_implements.proofs.ListedPlaces.{IsListed, Occurs, lowered_at, reads_there, listed_cell, constant_listed, input_listed, net_listed, pin_listed, step_occurs, joined_listed, inverted_listed, box_is}
use Rattle.bb_implements.proofs.ListedSources.{net_bit_of_step, scope_there, terminal_there}
use Rattle.bb_design.specs.Laws.Wired.{IsWired}
use Rattle.bb_implements.proofs.ListNumbers.{one_place_listed}
use Rattle.bb_implements.proofs.GateTerms.{input_term, terminals_are}
use Rattle.bb_design.specs.Laws.DesignLaws.{DesignLaws}

-- whether a place is that of a bit, and the bit
abbrev is_net : CellName → Bool
is_net (NetBit b) = true
is_net (Constant b) = false
is_net (Input i) = false
is_net (Step k x j) = false
is_net (Joined k x) = false
is_net (Inverted k) = false
is_net (BoxPin b p) = false

not_net : (p : CellName) (b : Bit) → is_net p ≡ false → p ≡ NetBit b → ⊥
not_net p b off e = let on : is_net p ≡ true = ap is_net e in grind (arith, off, on)

bit_at : CellName → Bit → Bit
bit_at (NetBit b) c = b
bit_at (Constant b) c = c
bit_at (Input i) c = c
bit_at (Step k x j) c = c
bit_at (Joined k x) c = c
bit_at (Inverted k) c = c
bit_at (BoxPin b p) c = c

net_same : (b c : Bit) → NetBit b ≡ NetBit c → b ≡ c
unfolding bit_at
net_same b c e = ap (λ p. bit_at p b) e

module _ (of_designs : DesignLaws) (d : Design) (lowering : Lowering) (l : LooseList) (list : IsListOf d lowering l) (lowered : IsLowering d lowering) (wired : IsWired d) (e : Bit) (there : Contains (net_order d) e) where
  abbrev pub place : Bit → ℕ
  place b = list.number (NetBit b)

  -- some steps of the list lead to the place of the bit
  abbrev pub Walk : ℕ → ℕ → Type 0
  Walk n k = Reaches n l k (place e)

  -- the bit, or one that depends on it
  abbrev pub Tail : Bit → Type 0
  Tail b = (b ≡ e) ⊎ Leads (dependences d) b e

  abbrev pub Below : List Bit → Type 0
  Below low = (c : Bit) × Contains low c × Tail c

  below_left : (xs ys : List Bit) → Below xs → Below (xs ++ ys)
  below_left xs ys h = (h.0, Contains-append_left xs ys h.0 h.1, h.2)

  below_right : (xs ys : List Bit) → Below ys → Below (xs ++ ys)
  below_right xs ys h = (h.0, Contains-append_right xs ys h.0 h.1, h.2)

  -- a place that is no bit's is not the last
  not_last : (p : CellName) (u : LooseCell) → IsListed d lowering l list p u → is_net p ≡ false → list.number p ≡ place e → ⊥
  not_last p u listed off same = not_net p e off (one_place_listed d lowering l list p (NetBit e) u _ listed (net_listed d lowering l list e there) same)

  -- the first step of a walk
  first_step : (n : ℕ) (p : CellName) (u : LooseCell) → IsListed d lowering l list p u → Walk (suc n) (list.number p) → (k : ℕ) × Contains (operand_places l.boxes u) k × Walk n k
  first_step n p u listed walk = (walk.0, subst (λ x. Contains (operand_places l.boxes x) walk.0) (listed_cell d lowering l list p u listed) walk.1, walk.2)

  module _ (n : ℕ) {T : Type 0} where
    -- a step to one place, to one of two, to one of three
    one_of : (a : ℕ) → (Walk n a → T) → (k : ℕ) → Contains (a ∷ []) k → Walk n k → T
    one_of a f k has walk = by (contains_cases a [] k has)
      where
        by : (a ≡ k) ⊎ Contains [] k → T
        by (inl same) = f (subst (Walk n) (sym same) walk)
        by (inr none) = absurd (none_in_nil k none)

    two_of : (a b : ℕ) → (Walk n a → T) → (Walk n b → T) → (k : ℕ) → Contains (a ∷ b ∷ []) k → Walk n k → T
    two_of a b f g k has walk = by (contains_cases a (b ∷ []) k has)
      where
        by : (a ≡ k) ⊎ Contains (b ∷ []) k → T
        by (inl same) = f (subst (Walk n) (sym same) walk)
        by (inr more) = one_of b g k more walk

    three_of : (a b c : ℕ) → (Walk n a → T) → (Walk n b → T) → (Walk n c → T) → (k : ℕ) → Contains (a ∷ b ∷ c ∷ []) k → Walk n k → T
    three_of a b c f g h k has walk = by (contains_cases a (b ∷ c ∷ []) k has)
      where
        by : (a ≡ k) ⊎ Contains (b ∷ c ∷ []) k → T
        by (inl same) = f (subst (Walk n) (sym same) walk)
        by (inr more) = two_of b c g h k more walk

  -- constants and inputs lead nowhere
  pub constant_ends : (n : ℕ) (b : Bool) → Walk n (list.number (Constant b)) → ⊥
  constant_ends zero b walk = not_last (Constant b) _ (constant_listed d lowering l list b) refl walk
  constant_ends (suc n) b walk = let s = first_step n (Constant b) _ (constant_listed d lowering l list b) walk in none_in_nil s.0 s.1

  pub input_ends : (n : ℕ) (i : ℕ) → i < length (cut_bits d) → Walk n (list.number (Input i)) → ⊥
  input_ends zero i fits walk = not_last (Input i) _ (input_listed d lowering l list i fits) refl walk
  input_ends (suc n) i fits walk = let s = first_step n (Input i) _ (input_listed d lowering l list i fits) walk in none_in_nil s.0 s.1

  abbrev pub Nets : ℕ → Type 0
  Nets n = (b : Bit) → Contains (net_order d) b → Walk n (place b) → Tail b

  abbrev pub Part : ℕ → Scope → Construct → Type 0
  Part k s c = Contains (enumerate_from 0 (parts d)) (k, (s, c))

  abbrev pub Steps : ℕ → Type 0
  Steps n = (k : ℕ) (s : Scope) (c : Construct) → Part k s c → (x : ℕ) → x < length (lowered_in (s, c)) → (j : ℕ) → j < length (lowering k x).all → (m : ℕ) → j < m → Walk n (list.number (Step k x j))
      → Below (bits_below s.path (term_within (nets_of s.source) (lowering k x).all m j))

  -- a walk from a place that is listed and is no bit's has a first step
  further : (n : ℕ) (p : CellName) (u : LooseCell) → IsListed d lowering l list p u → is_net p ≡ false → Walk n (list.number p) → (m : ℕ) × (n ≡ suc m) × (k : ℕ) × Contains (operand_places l.boxes u) k × Walk m k
  further zero p u listed off walk = absurd (not_last p u listed off walk)
  further (suc n) p u listed off walk = let f = first_step n p u listed walk in (n, refl, f.0, f.1, f.2)

  module _ (n : ℕ) (nets : Nets n) (k : ℕ) (s : Scope) (c : Construct) (has : Part k s c) (x : ℕ) where
    step_below : (term : ℕ → Term) (j : ℕ) → ((m : ℕ) → n ≡ suc m → (a : ℕ) → a < j → Walk m (list.number (Step k x a)) → Below (bits_below s.path (term a))) → (step : BitStep) → ReadsEarlier (nets_of s.source) j step → Occurs d lowering l list k s x j step
        → Walk n (list.number (Step k x j)) → Below (bits_below s.path (step_term (nets_of s.source) step term))
    step_below term j before (steps.Const b) reads occurs walk = absurd (constant_ends n b (subst (Walk n) occurs.0 walk))
    step_below term j before (steps.Net m i) reads occurs walk =
        let b : Bit = record { path = s.path; net = name_at (nets_of s.source) m; place = i } in
        (b, contains_here b [], nets b (net_bit_of_step d s m i (scope_there d k s c has) reads) (subst (Walk n) occurs.0 walk))
    step_below term j before (steps.Not a) reads occurs walk =
        let f = further n (Step k x j) _ occurs.1 refl walk in
        one_of f.0 (list.number (Step k x a)) (before f.0 f.1 a reads) f.2 f.3 f.4
    step_below term j before (steps.And a b) reads occurs walk =
        let f = further n (Step k x j) _ occurs.1 refl walk in
        two_of f.0 (list.number (Step k x a)) (list.number (Step k x b))
        (λ h. below_left (bits_below s.path (term a)) (bits_below s.path (term b)) (before f.0 f.1 a reads.0 h)) (λ h. below_right (bits_below s.path (term a)) (bits_below s.path (term b)) (before f.0 f.1 b reads.1 h)) f.2 f.3 f.4
    step_below term j before (steps.Or a b) reads occurs walk =
        let f = further n (Step k x j) _ occurs.1 refl walk in
        two_of f.0 (list.number (Step k x a)) (list.number (Step k x b))
        (λ h. below_left (bits_below s.path (term a)) (bits_below s.path (term b)) (before f.0 f.1 a reads.0 h)) (λ h. below_right (bits_below s.path (term a)) (bits_below s.path (term b)) (before f.0 f.1 b reads.1 h)) f.2 f.3 f.4
    step_below term j before (steps.Xor a b) reads occurs walk =
        let f = further n (Step k x j) _ occurs.1 refl walk in
        two_of f.0 (list.number (Step k x a)) (list.number (Step k x b))
        (λ h. below_left (bits_below s.path (term a)) (bits_below s.path (term b)) (before f.0 f.1 a reads.0 h)) (λ h. below_right (bits_below s.path (term a)) (bits_below s.path (term b)) (before f.0 f.1 b reads.1 h)) f.2 f.3 f.4
    step_below term j before (steps.Mux i t r) reads occurs walk =
        let f = further n (Step k x j) _ occurs.1 refl walk in
        three_of f.0 (list.number (Step k x i)) (list.number (Step k x t)) (list.number (Step k x r))
        (λ h. below_left (bits_below s.path (term i) ++ bits_below s.path (term t)) (bits_below s.path (term r)) (below_left (bits_below s.path (term i)) (bits_below s.path (term t)) (before f.0 f.1 i reads.0 h)))
        (λ h. below_left (bits_below s.path (term i) ++ bits_below s.path (term t)) (bits_below s.path (term r)) (below_right (bits_below s.path (term i)) (bits_below s.path (term t)) (before f.0 f.1 t reads.1 h)))
        (λ h. below_right (bits_below s.path (term i) ++ bits_below s.path (term t)) (bits_below s.path (term r)) (before f.0 f.1 r reads.2 h)) f.2 f.3 f.4

  pub steps_at : (n : ℕ) → Nets n → ((m : ℕ) → n ≡ suc m → Steps m) → Steps n
  unfolding term_within
  steps_at n nets before k s c has x fits j at zero less walk = absurd (omega (arith, less))
  steps_at n nets before k s c has x fits j at (suc t) less walk =
      step_below n nets k s c has x (term_within (nets_of s.source) (lowering k x).all t) j (λ m same a lt h. before m same k s c has x fits a (omega (arith, lt, at)) t (omega (arith, lt, less)) h) (get_or (lowering k x).all j (steps.Const false))
      (reads_there d lowering lowered k s c has x fits j at) (step_occurs d lowering l list k s c has x fits j at) walk

  module _ (k : ℕ) (s : Scope) (gate : Gate) (outs ins : List Expression) (has : Part k s (GateInstance gate outs ins)) where
    abbrev term_in : ℕ → Term
    term_in x = input_term d lowering lowered wired k s gate outs ins has x

    -- the inputs up to one of them, joined
    abbrev prefix : ℕ → Term
    prefix zero = term_in 0
    prefix (suc x) = joins on_terms gate (prefix x) (term_in (suc x))

    abbrev Joins : ℕ → Type 0
    Joins n = (x : ℕ) → x < length ins → Walk n (list.number (joined_place lowering k x)) → Below (bits_below s.path (prefix x))

    input_below : (n : ℕ) → Steps n → (x : ℕ) → x < length ins → Walk n (list.number (terminal_place lowering k x)) → Below (bits_below s.path (term_in x))
    input_below n steps_n x fits walk =
        let y = terminal_there s ins x fits (wired.gates s gate outs ins (from_numbered 0 (parts d) (k, (s, GateInstance gate outs ins)) has)).1 in
        let lower = lowered_at d lowering lowered k s (GateInstance gate outs ins) has x y.0 1 y.1 in
        let i = enumerated_from 0 (lowered_in (s, GateInstance gate outs ins)) x (y.0, 1) y.1 in
        let j = get_or (lowering k x).bits 0 0 in
        let at = All-contains (λ j. j < length (lowering k x).all) (lowering k x).bits j lower.places (Contains-get_or (lowering k x).bits 0 0 (omega (arith, lower.width))) in
        steps_n k s (GateInstance gate outs ins) has x (omega (arith, i.1, i.2)) j at (j + 1) (omega arith) walk

    join_below : (n : ℕ) (g : Gate) (p q : ℕ) (t u : Term) → (Walk n p → Below (bits_below s.path t)) → (Walk n q → Below (bits_below s.path u)) → (to : ℕ) → Contains (operand_places l.boxes (join_cell g p q)) to → Walk n to
        → Below (bits_below s.path (joins on_terms g t u))
    join_below n gates.And p q t u f h = two_of n p q (λ w. below_left (bits_below s.path t) (bits_below s.path u) (f w)) (λ w. below_right (bits_below s.path t) (bits_below s.path u) (h w))
    join_below n gates.Nand p q t u f h = two_of n p q (λ w. below_left (bits_below s.path t) (bits_below s.path u) (f w)) (λ w. below_right (bits_below s.path t) (bits_below s.path u) (h w))
    join_below n gates.Or p q t u f h = two_of n p q (λ w. below_left (bits_below s.path t) (bits_below s.path u) (f w)) (λ w. below_right (bits_below s.path t) (bits_below s.path u) (h w))
    join_below n gates.Nor p q t u f h = two_of n p q (λ w. below_left (bits_below s.path t) (bits_below s.path u) (f w)) (λ w. below_right (bits_below s.path t) (bits_below s.path u) (h w))
    join_below n gates.Xor p q t u f h = two_of n p q (λ w. below_left (bits_below s.path t) (bits_below s.path u) (f w)) (λ w. below_right (bits_below s.path t) (bits_below s.path u) (h w))
    join_below n gates.Xnor p q t u f h = two_of n p q (λ w. below_left (bits_below s.path t) (bits_below s.path u) (f w)) (λ w. below_right (bits_below s.path t) (bits_below s.path u) (h w))
    join_below n gates.Buf p q t u f h = one_of n p f
    join_below n gates.Not p q t u f h = one_of n p f

    joins_zero : Steps 0 → Joins 0
    joins_zero now zero fits walk = input_below 0 now 0 fits walk
    joins_zero now (suc x) fits walk = absurd (not_last (Joined k (suc x)) _ (joined_listed d lowering l list k s gate outs ins has x (omega (arith, fits))) refl walk)

    joins_more : (n : ℕ) → Steps n → Steps (suc n) → Joins n → Joins (suc n)
    joins_more n now next before zero fits walk = input_below (suc n) next 0 fits walk
    joins_more n now next before (suc x) fits walk =
        let f = first_step n (Joined k (suc x)) _ (joined_listed d lowering l list k s gate outs ins has x (omega (arith, fits))) walk in
        join_below n gate (list.number (joined_place lowering k x)) (list.number (terminal_place lowering k (suc x))) (prefix x) (term_in (suc x)) (before x (omega (arith, fits))) (input_below n now (suc x) fits) f.0 f.1 f.2

    prefix_is : (m a : ℕ) → fold (joins on_terms gate) (prefix a) (map term_in (range_with_len (a + 1) m)) ≡ prefix (a + m)
    prefix_is zero a = let same : a ≡ a + 0 = omega arith in ap prefix same
    prefix_is (suc m) a =
        let one : a + 1 ≡ suc a = omega arith in
        let further : a + 1 + m ≡ a + suc m = omega arith in
        let next : joins on_terms gate (prefix a) (term_in (a + 1)) ≡ prefix (a + 1) = ap (λ z. joins on_terms gate (prefix a) (term_in z)) one ∙ ap prefix (sym one) in
        ap (λ t. fold (joins on_terms gate) t (map term_in (range_with_len (a + 1 + 1) m))) next ∙ prefix_is m (a + 1) ∙ ap prefix further

    whole_is : (n : ℕ) → n ≡ length ins → 1 ≤ n → prefix (n - 1) ≡ joined on_terms gate (map term_in (range_with_len 0 n))
    whole_is zero same one = absurd (omega (arith, one))
    whole_is (suc m) same one = let place : suc m - 1 ≡ 0 + m = omega arith in ap prefix place ∙ sym (prefix_is m 0)

    gate_below : (n : ℕ) → Joins n → ((m : ℕ) → n ≡ suc m → Joins m) → Walk n (list.number (gate_place lowering gate k (length ins))) → Below (bits_below s.path (gate_gives on_terms gate (terminal_terms s ins)))
    gate_below n now before walk = subst (λ ts. Below (bits_below s.path (gate_gives on_terms gate ts))) (sym (terminals_are d lowering lowered wired k s gate outs ins has)) (by (inverts gate) refl n now before walk)
      where
        one : 1 ≤ length ins
        one = (wired.gates s gate outs ins (from_numbered 0 (parts d) (k, (s, GateInstance gate outs ins)) has)).0

        inside : Term
        inside = joined on_terms gate (map term_in (range_with_len 0 (length ins)))

        whole : (n : ℕ) → Joins n → Walk n (list.number (joined_place lowering k (length ins - 1))) → Below (bits_below s.path inside)
        whole n joins_n walk = subst (λ t. Below (bits_below s.path t)) (whole_is (length ins) refl one) (joins_n (length ins - 1) (omega (arith, one)) walk)

        by : (o : Bool) → inverts gate ≡ o → (n : ℕ) → Joins n → ((m : ℕ) → n ≡ suc m → Joins m) → Walk n (list.number (if o then Inverted k else joined_place lowering k (length ins - 1))) → Below (bits_below s.path (if o then term.Not inside else inside))
        by true on zero now before walk = absurd (not_last (Inverted k) _ (inverted_listed d lowering l list k s gate outs ins has on) refl walk)
        by true on (suc n) now before walk =
            let f = first_step n (Inverted k) _ (inverted_listed d lowering l list k s gate outs ins has on) walk in
            one_of n (list.number (joined_place lowering k (length ins - 1))) (whole n (before n refl)) f.0 f.1 f.2
        by false off n now before walk = whole n now walk

  abbrev pub BoxPins : ℕ → Type 0
  BoxPins n = (i : ℕ) (s : Scope) → Contains (enumerate_from 0 (boxes d)) (i, s) → (p : ℕ) (y : Bit) → Contains (enumerate_from 0 (output_bits s)) (p, y) → Walk n (list.number (BoxPin i p)) → Below (input_bits s)

  pins_zero : BoxPins 0
  pins_zero i s has p y at walk = absurd (not_last (BoxPin i p) _ (pin_listed d lowering l list i s has p y at) refl walk)

  pins_more : (n : ℕ) → Nets n → BoxPins (suc n)
  pins_more n nets i s has p y at walk =
      let f = first_step n (BoxPin i p) _ (pin_listed d lowering l list i s has p y at) walk in
      let u = from_map (λ x. list.number (NetBit x)) (input_bits s) f.0 (subst (λ (q : Pins). Contains q.ins f.0) (box_is d lowering l list i s has) f.1) in
      let scope = (kept_from is_box (scopes d) s (from_numbered 0 (boxes d) (i, s) has)).0 in
      (u.0, u.1, nets u.0 (into_flat scope_bits (scopes d) s u.0 scope (of_designs.of_scope s _ u.0 u.1)) (subst (Walk n) (sym u.2) f.2))

  -- what holds of walks of one length
  pub record Claims (n : ℕ) : Type 0 where
    pub nets : Nets n
    pub steps : Steps n
    pub joins : (k : ℕ) (s : Scope) (gate : Gate) (outs ins : List Expression) (has : Part k s (GateInstance gate outs ins)) → Joins k s gate outs ins has n
    pub gates : (k : ℕ) (s : Scope) (gate : Gate) (outs ins : List Expression) → Part k s (GateInstance gate outs ins) → Walk n (list.number (gate_place lowering gate k (length ins))) → Below (bits_below s.path (gate_gives on_terms gate (terminal_terms s ins)))
    pub pins : BoxPins n

  -- a drive of the bit of an entry whose source needs a bit that the walk passes
  abbrev Passes : List Drive → Bit × CellName → Type 0
  Passes all y = (z : Drive) × Contains all z × ((z.bit ≡ y.0) × Below (needed z.source))

  module _ (n : ℕ) (claims : Claims n) where
    sides : (k : ℕ) (s : Scope) (c : Construct) → Part k s c → (x : ℕ) (f : Expression) (w : ℕ) → Contains (enumerate_from 0 (lowered_in (s, c))) (x, (f, w)) → (all : List Bit) (places : List CellName) (terms : List Term) → map (term_of lowering s) places ≡ terms
        → ((p : CellName) → Contains places p → Contains (step_places lowering k x) p) → (y : Bit × CellName) → Contains (zip all places) y → Walk n (list.number y.1) → Passes (driven_by s.path all terms) y
    sides k s c has x f w at all places terms same sub y here walk =
        let lower = lowered_at d lowering lowered k s c has x f w at in
        let i = enumerated_from 0 (lowered_in (s, c)) x (f, w) at in
        let j = from_map (Step k x) (lowering k x).bits y.1 (sub y.1 (zip_parts all places y here).1) in
        let fits = All-contains (λ j. j < length (lowering k x).all) (lowering k x).bits j.0 lower.places j.1 in
        let low = claims.steps k s c has x (omega (arith, i.1, i.2)) j.0 fits (j.0 + 1) (omega arith) (subst (λ p. Walk n (list.number p)) (sym j.2) walk) in
        (driven (MadeOf s.path (term_of lowering s y.1)) y.0, sides_meet of_designs d lowering lowered s s.path all places terms same y here, (refl, subst (λ p. Below (bits_below s.path (term_of lowering s p))) j.2 low))

    pins_pass : (s : Scope) (path : List (List ℕ)) (pin : Pin) → ((b : Bit) → Contains (pin_bits path pin) b → Contains (net_order d) b) → (p : CellName) → Contains (map NetBit (pin_bits path pin)) p → Walk n (list.number p) → Below (bits_below path (term_of lowering s p))
    pins_pass s path pin inside p has walk =
        let q = from_map NetBit (pin_bits path pin) p has in
        let k = from_map (λ k. record { path = path; net = pin.name; place = k }) (range_with_len 0 pin.width) q.0 q.1 in
        let tail = claims.nets q.0 (inside q.0 q.1) (subst (λ p. Walk n (list.number p)) (sym q.2) walk) in
        let bit : Bit = record { path = path; net = pin.name; place = k.0 } in
        subst (λ p. Below (bits_below path (term_of lowering s p))) q.2 (subst (λ (u : Bit). Below (bits_below path (term.Net u.net u.place))) k.2 (bit, contains_here bit [], subst Tail (sym k.2) tail))

    part_passes : (k : ℕ) (s : Scope) (c : Construct) → Part k s c → (y : Bit × CellName) → Contains (given_at lowering (k, (s, c))) y → Walk n (list.number y.1) → Passes (drives_at (s, c)) y
    part_passes k s (Assignment left right) has y here walk =
        let m = length (written_bits s left) in
        let at = contains_here (0, (right, context_width s left right)) [] in
        sides k s (Assignment left right) has 0 right (context_width s left right) at (written_bits s left) (low_bits m (step_places lowering k 0)) _ (low_terms of_designs d lowering lowered k s (Assignment left right) has m 0 right (context_width s left right) at) (from_drop _ (step_places lowering k 0)) y here walk
    part_passes k s (GateInstance gate outs ins) has y here walk =
        let t = gate_gives on_terms gate (terminal_terms s ins) in
        let b = from_map {B = Bit × CellName} (λ b. (b, gate_place lowering gate k (length ins))) (flat_map (written_bits s) outs) y here in
        (driven (MadeOf s.path t) b.0, contains-map (driven (MadeOf s.path t)) (flat_map (written_bits s) outs) b.0 b.1, (ap (λ (u : Bit × CellName). u.0) b.2, claims.gates k s gate outs ins has (subst (λ (u : Bit × CellName). Walk n (list.number u.1)) (sym b.2) walk)))
    part_passes k s (Register r) has y here walk = absurd (none_in_nil y here)
    part_passes k s (SupplyNet high m) has y here walk =
        let b = from_map {B = Bit × CellName} (λ b. (b, Constant high)) (bits_named s m) y here in
        absurd (constant_ends n high (subst (λ (u : Bit × CellName). Walk n (list.number u.1)) (sym b.2) walk))
    part_passes k s (InputConnection i pin f) has y here walk =
        let at = contains_here (0, (f, width_of s f)) [] in
        sides k s (InputConnection i pin f) has 0 f (width_of s f) at (pin_bits (path_to s.path i) pin) (step_places lowering k 0) _ (whole_terms of_designs d lowering lowered k s (InputConnection i pin f) has 0 f (width_of s f) at) (λ p h. h) y here walk
    part_passes k s (OutputConnection i pin f) has y here walk =
        let path = path_to s.path i in
        let all : List CellName = map NetBit (pin_bits path pin) in
        let inside = wired.pins s i pin f (from_numbered 0 (parts d) (k, (s, OutputConnection i pin f)) has) in
        (driven (MadeOf path (term_of lowering s y.1)) y.0, sides_meet of_designs d lowering lowered s path (written_bits s f) all _ (pin_terms lowering s path pin) y here, (refl, pins_pass s path pin inside y.1 (zip_parts (written_bits s f) all y here).1 walk))
    part_passes k s BoxContents has y here walk = absurd (none_in_nil y here)

    abbrev inputs : List (Bit × CellName)
    inputs = map (λ x. (x.1, Input x.0)) (enumerate_from 0 (cut_bits d))

    abbrev box_pins : List (Bit × CellName)
    box_pins = flat_map given_by_box (enumerate_from 0 (boxes d))

    abbrev others : List (Bit × CellName)
    others = flat_map (given_at lowering) (enumerate_from 0 (parts d))

    passes : (y : Bit × CellName) → Contains (driving_places d lowering) y → Walk n (list.number y.1) → Passes (drives d) y
    passes y has walk = by (Contains-append_cases (inputs ++ box_pins) others y has)
      where
        first : Contains inputs y ⊎ Contains box_pins y → Passes (drives d) y
        first (inl h) =
            let i = from_map {B = Bit × CellName} (λ x. (x.1, Input x.0)) (enumerate_from 0 (cut_bits d)) y h in
            let j = enumerated_from 0 (cut_bits d) i.0.0 i.0.1 i.1 in
            absurd (input_ends n i.0.0 (omega (arith, j.1, j.2)) (subst (λ (u : Bit × CellName). Walk n (list.number u.1)) (sym i.2) walk))
        first (inr h) =
            let b = from_flat given_by_box (enumerate_from 0 (boxes d)) y h in
            let s = b.0.1 in
            let p = from_map {B = Bit × CellName} (λ (x : ℕ × Bit). (x.1, BoxPin b.0.0 x.0)) (enumerate_from 0 (output_bits s)) y b.2 in
            let low = claims.pins b.0.0 s b.1 p.0.0 p.0.1 p.1 (subst (λ (u : Bit × CellName). Walk n (list.number u.1)) (sym p.2) walk) in
            (driven (Box s p.0.0) p.0.1, part_driven of_designs d (s, BoxContents) (box_part of_designs d s (from_numbered 0 (boxes d) b.0 b.1)) (driven (Box s p.0.0) p.0.1) (contains-map (λ (x : ℕ × Bit). driven (Box s x.0) x.1) (enumerate_from 0 (output_bits s)) p.0 p.1), (ap (λ (u : Bit × CellName). u.0) p.2, low))

        by : Contains (inputs ++ box_pins) y ⊎ Contains others y → Passes (drives d) y
        by (inl h) = first (Contains-append_cases inputs box_pins y h)
        by (inr h) =
            let p = from_flat (given_at lowering) (enumerate_from 0 (parts d)) y h in
            let z = part_passes p.0.0 p.0.1.0 p.0.1.1 p.1 y p.2 walk in
            (z.0, part_driven of_designs d p.0.1 (from_numbered 0 (parts d) p.0 p.1) z.0 z.1, z.2)

    -- a step or more from the place of a bit lead along dependence
    pub net_leads : (b : Bit) → Contains (net_order d) b → Walk (suc n) (place b) → Leads (dependences d) b e
    net_leads b has walk =
        let f = first_step n (NetBit b) (cell.Copy (list.number (place_in (driving_places d lowering) b))) (net_listed d lowering l list b has) walk in
        one_of n (list.number (place_in (driving_places d lowering) b)) (found (find (λ (y : Bit × CellName). same_bit b y.0) (driving_places d lowering)) refl) f.0 f.1 f.2
      where
        leads : (c : Bit) → Contains (dependences d) (b, c) → Tail c → Leads (dependences d) b e
        leads c step (inl same) = One (subst (λ u. Contains (dependences d) (b, u)) same step)
        leads c step (inr rest) = More step rest

        found : (o : Option (Bit × CellName)) → find (λ (y : Bit × CellName). same_bit b y.0) (driving_places d lowering) ≡ o → Walk n (list.number (option_map_or (λ (u : Bit × CellName). u.1) o (Constant false))) → Leads (dependences d) b e
        found None is walk = absurd (constant_ends n false walk)
        found (Some y) is walk =
            let at = from_find (λ (y : Bit × CellName). same_bit b y.0) (driving_places d lowering) y is in
            let z = passes y at.0 walk in
            let bit : z.0.bit ≡ b = z.2.0 ∙ sym ((of_designs.distinguished b y.0).0 at.1) in
            let c = z.2.1 in
            leads c.0 (subst (λ u. Contains (dependences d) (u, c.0)) bit (into_flat (λ (z : Drive). map (λ e. (z.bit, e)) (needed z.source)) (drives d) z.0 (z.0.bit, c.0) z.1 (contains-map {B = Bit × Bit} (λ e. (z.0.bit, e)) (needed z.0.source) c.0 c.1))) c.2

  -- those of one length, by those of the length before
  claimed : (n : ℕ) → Nets n → ((m : ℕ) → n ≡ suc m → Steps m) → ((k : ℕ) (s : Scope) (gate : Gate) (outs ins : List Expression) (has : Part k s (GateInstance gate outs ins)) → Steps n → Joins k s gate outs ins has n)
      → ((k : ℕ) (s : Scope) (gate : Gate) (outs ins : List Expression) (has : Part k s (GateInstance gate outs ins)) (m : ℕ) → n ≡ suc m → Joins k s gate outs ins has m) → BoxPins n → Claims n
  claimed n nets before joins joined pins =
      let now = steps_at n nets before in
      record {
        nets = nets;
        steps = now;
        joins = λ k s gate outs ins has. joins k s gate outs ins has now;
        gates = λ k s gate outs ins has. gate_below k s gate outs ins has n (joins k s gate outs ins has now) (joined k s gate outs ins has);
        pins = pins;
      }

  pub claims : (n : ℕ) → Claims n
  claims zero = claimed 0
      (λ b has walk. inl (net_same b e (one_place_listed d lowering l list (NetBit b) (NetBit e) _ _ (net_listed d lowering l list b has) (net_listed d lowering l list e there) walk)))
      (λ m none. absurd (omega (arith, none)))
      (λ k s gate outs ins has now. joins_zero k s gate outs ins has now)
      (λ k s gate outs ins has m none. absurd (omega (arith, none)))
      pins_zero
  claims (suc n) =
      let c = claims n in
      claimed (suc n)
      (λ b has walk. inr (net_leads n c b has walk))
      (λ m same. subst Steps (omega (arith, same)) c.steps)
      (λ k s gate outs ins has now. joins_more k s gate outs ins has n c.steps now (c.joins k s gate outs ins has))
      (λ k s gate outs ins has m same. subst (Joins k s gate outs ins has) (omega (arith, same)) (c.joins k s gate outs ins has))
      (pins_more n c.nets)

module _ (of_designs : DesignLaws) where
  pub list_walks_are_loops : ListWalksAreLoops
  list_walks_are_loops d lowering l bounded once lowered list b has = (
    (λ walk. net_leads of_designs d lowering l list lowered (of_designs.wired d bounded) b has walk.1 (claims of_designs d lowering l list lowered (of_designs.wired d bounded) b has walk.1) b has walk.2),
    (λ loop. loop_walk of_designs d lowering l list lowered (of_designs.wired d bounded) (of_designs.bits_there d bounded) once b loop),
  )
