-- Copies in the list of cells from the place of a bit to that of another lead along copies of bits.
use Rattle.std.proofs.Common.{◌≡◌, ◌⊎◌, ℕ, zero, suc, ◌+◌, ◌-◌, ◌<◌, ◌≤◌, Bool, true, false, if◌then◌else◌, List, [], ◌∷◌, ◌++◌, map, flat_map, find, fold, zip, length, get_or, Contains, Option, Some, None, refl, sym, ap, ◌∙◌, subst, inl, inr, arith}
use Rattle.std.specs.List.{enumerate_from, range_with_len}
use Rattle.std.specs.Option.{option_map_or}
use Rattle.std.specs.Prelude.{IfSome}
use Rattle.std.proofs.lemmas.Option.{IfSome_then}
use Rattle.std.proofs.lemmas.List.Elements.{All-contains, Contains-get_or, Contains-append_cases, Contains-append_left, Contains-append_right}
use Rattle.bb_ast.specs.declared.module.Gate.{Gate}
use Rattle.bb_ast.specs.declared.module.Gate.TheVariants as gates
use Rattle.bb_ast.specs.Syntax.{Expression, Plain}
use Rattle.bb_names.specs.Nets.{nets_of}
use Rattle.bb_expr.specs.declared.step.BitStep.{BitStep}
use Rattle.bb_expr.specs.declared.step.BitStep.TheVariants as steps
use Rattle.bb_expr.specs.Lowered.{ReadsEarlier, step_term, term_within, term_at, name_at, is_operator, operators}
use Rattle.bb_expr.specs.Terms.{Term}
use Rattle.bb_expr.specs.Terms as term
use Rattle.bb_net.specs.declared.loose.LooseCell.{LooseCell}
use Rattle.bb_net.specs.declared.loose.LooseCell.TheVariants as cell
use Rattle.bb_net.specs.Loose.{LooseList, loose_at}
use Rattle.bb_net.specs.Netlists.{Pins}
use Rattle.bb_bits.specs.Closures.{Leads, One, More}
use Rattle.bb_design.specs.Hierarchy.{Design, Scope, boxes, path_to}
use Rattle.bb_design.specs.NetBits.{Bit, same_bit, net_order, bits_named, pin_bits, input_bits, output_bits, written_bits, top_outputs}
use Rattle.bb_design.specs.Contexts.{width_of, context_width, made_in}
use Rattle.bb_bits.specs.Bits.{low_bits}
use Rattle.bb_design.specs.Constructs.{Construct, Assignment, GateInstance, Register, SupplyNet, InputConnection, OutputConnection, BoxContents, parts}
use Rattle.bb_design.specs.Reading.{bit_itself, copied, copied_bits, cells_at, operand_terms, read_at, read_beside, read_directly, IsReadBit}
use Rattle.bb_implements.specs.Inside.ReadPlaces.{read_by, read_places, copy_steps, FollowsAt, IsReadPlace}
use Rattle.bb_implements.specs.Laws.CopyLaws.{CopiesAreListed}
use Rattle.bb_implements.specs.Implements.{IsCopyOf}
use Rattle.bb_implements.proofs.CopySteps.{copy_from, copies_one}
use Rattle.std.proofs.lemmas.List.Sorted.{Contains-permutation, IsPermutation-sym}
use Rattle.bb_lemmas.proofs.Members.{into_filter, from_drop, contains-map, into_flat, from_flat, from_map, contains_here, contains_there, contains_cases, none_in_nil, from_find}
use Rattle.std.proofs.lemmas.List.{get_or_default}
use Rattle.bb_design.specs.Laws.{BitsAreThere}
use Rattle.bb_implements.proofs.CopyWalks.{follows_at}
use Rattle.bb_design.specs.Drivers.{MadeOf, Drive, driven, driven_by, terminal_terms, drives_at, drives}
use Rattle.bb_design.specs.GateFunctions.{on_terms, joins, joined, joined_after, joining_cells, gate_cells, inverts, gate_gives}
use Rattle.bb_implements.specs.Places.{CellName, Constant, Input, NetBit, Step, Joined, Inverted, BoxPin, lowered_in, Lowering, IsLowering, step_places, given_at, given_by_box, driving_places, place_in, terminal_place, joined_place, gate_place, step_cell, join_cell, placed_cells, pins_of, data_at, data_places, IsListOf}
use Rattle.bb_design.specs.Registers.{RegisterBit, registers, cut_bits, data_terms}
use Rattle.bb_lemmas.proofs.Numbered.{enumerated_from, numbered_at, from_numbered}
use Rattle.bb_implements.proofs.GivenDrives.{term_of, box_part, part_driven, whole_terms, low_terms, pin_terms, sides_meet}
use Rattle.bb_lemmas.proofs.Zips.{zip_parts}
use Rattle.bb_names.specs.Sites.{Pin}
use Rattle.bb_implements.proofs.ListedEntries.{Entry, each_entry}
use Rattle.bb_implements.proofs.ListedPlaces.{IsListed, Occurs, lowered_at, reads_there, listed_at, listed_cell, constant_listed, input_listed, net_listed, pin_listed, step_occurs, joined_listed, inverted_listed}
use Rattle.bb_implements.proofs.ListedSources.{net_bit_of_step, scope_there, terminal_there}
use Rattle.bb_design.specs.Laws.Wired.{IsWired}
use Rattle.bb_implements.proofs.ListNumbers.{one_place_listed}
use Rattle.bb_implements.proofs.GateTerms.{input_term, terminals_are}
use Rattle.bb_implements.specs.Laws.CellLaws.{ReadPlacesAreReadBits}
use Rattle.bb_design.specs.Laws.DesignLaws.{DesignLaws}

-- whether a place is neither that of a bit of a net nor that of an input
abbrev pub is_plain : CellName → Bool
is_plain (NetBit b) = false
is_plain (Input i) = false
is_plain (Constant b) = true
is_plain (Step k x j) = true
is_plain (Joined k x) = true
is_plain (Inverted k) = true
is_plain (BoxPin b p) = true

pub not_plain : (p q : CellName) → is_plain p ≡ true → is_plain q ≡ false → p ≡ q → ⊥
not_plain p q on off e = let same : true ≡ false = sym on ∙ ap is_plain e ∙ off in grind (arith, same)

bit_at : CellName → Bit → Bit
bit_at (NetBit b) c = b
bit_at (Constant b) c = c
bit_at (Input i) c = c
bit_at (Step k x j) c = c
bit_at (Joined k x) c = c
bit_at (Inverted k) c = c
bit_at (BoxPin b p) c = c

pub net_same : (b c : Bit) → NetBit b ≡ NetBit c → b ≡ c
unfolding bit_at
net_same b c e = ap (λ p. bit_at p b) e

-- the cells of an expression are cells of its construct
pub lowered_cell : (s : Scope) (c : Construct) (e : Expression) (w : ℕ) → Contains (lowered_in (s, c)) (e, w) → (t : Term) → Contains (made_in s e w).cells t → Contains (cells_at (s, c)) t
lowered_cell s (Assignment left right) e w has t made = by (contains_cases (right, context_width s left right) [] (e, w) has)
  where
    by : (◌≡◌ {A = Expression × ℕ} (right, context_width s left right) (e, w)) ⊎ Contains {X = Expression × ℕ} [] (e, w) → Contains (made_in s right (context_width s left right)).cells t
    by (inl same) = subst (λ (z : Expression × ℕ). Contains (made_in s z.0 z.1).cells t) (sym same) made
    by (inr none) = absurd (none_in_nil (e, w) none)
lowered_cell s (GateInstance gate outs ins) e w has t made =
    let y = from_map {B = Expression × ℕ} (λ e. (e, width_of s e)) ins (e, w) has in
    Contains-append_left (flat_map (λ e. (made_in s e (width_of s e)).cells) ins) (gate_cells gate (terminal_terms s ins)) t
    (into_flat (λ e. (made_in s e (width_of s e)).cells) ins y.0 t y.1 (subst (λ (z : Expression × ℕ). Contains (made_in s z.0 z.1).cells t) (sym y.2) made))
lowered_cell s (Register r) e w has t made = by (contains_cases (r.right, context_width s r.left r.right) [] (e, w) has)
  where
    by : (◌≡◌ {A = Expression × ℕ} (r.right, context_width s r.left r.right) (e, w)) ⊎ Contains {X = Expression × ℕ} [] (e, w) → Contains (made_in s r.right (context_width s r.left r.right)).cells t
    by (inl same) = subst (λ (z : Expression × ℕ). Contains (made_in s z.0 z.1).cells t) (sym same) made
    by (inr none) = absurd (none_in_nil (e, w) none)
lowered_cell s (SupplyNet high m) e w has t made = absurd (none_in_nil (e, w) has)
lowered_cell s (InputConnection i pin f) e w has t made = by (contains_cases (f, width_of s f) [] (e, w) has)
  where
    by : (◌≡◌ {A = Expression × ℕ} (f, width_of s f) (e, w)) ⊎ Contains {X = Expression × ℕ} [] (e, w) → Contains (made_in s f (width_of s f)).cells t
    by (inl same) = subst (λ (z : Expression × ℕ). Contains (made_in s z.0 z.1).cells t) (sym same) made
    by (inr none) = absurd (none_in_nil (e, w) none)
lowered_cell s (OutputConnection i pin f) e w has t made = absurd (none_in_nil (e, w) has)
lowered_cell s BoxContents e w has t made = absurd (none_in_nil (e, w) has)

-- copies that lead to a place, which is that of a bit or of an input, and the bits from which they lead there
module _ (of_designs : DesignLaws) (d : Design) (lowering : Lowering) (l : LooseList) (list : IsListOf d lowering l) (lowered : IsLowering d lowering) (wired : IsWired d) (goal : ℕ) (Tail : Bit → Type 0)
    (not_last : (p : CellName) (u : LooseCell) → IsListed d lowering l list p u → is_plain p ≡ true → list.number p ≡ goal → ⊥)
    (at_net : (b : Bit) → Contains (net_order d) b → list.number (NetBit b) ≡ goal → Tail b)
    (at_input : (i : ℕ) (b : Bit) → Contains (enumerate_from 0 (cut_bits d)) (i, b) → list.number (Input i) ≡ goal → Tail b)
    (closed : (b c : Bit) → Contains (copied_bits d) (b, c) → Tail c → Tail b) where
  abbrev pub place : Bit → ℕ
  place b = list.number (NetBit b)

  -- so many copies lead from a place to that one
  abbrev pub Walk : ℕ → ℕ → Type 0
  Walk zero k = k ≡ goal
  Walk (suc n) k = (q : ℕ) × Contains (copy_steps l.cells) (k, q) × Walk n q

  abbrev pub Below : List Bit → Type 0
  Below low = (c : Bit) × Contains low c × Tail c

  -- the first step of a walk
  first_step : (n : ℕ) (p : CellName) (u : LooseCell) → IsListed d lowering l list p u → Walk (suc n) (list.number p) → (q : ℕ) × (u ≡ cell.Copy q) × Walk n q
  first_step n p u listed walk = let f = copy_from l.cells (list.number p) walk.0 (cell.Const false) walk.1 in (walk.0, sym (listed_cell d lowering l list p u listed) ∙ f.1, walk.2)

  no_walk : (n : ℕ) (p : CellName) (u : LooseCell) → IsListed d lowering l list p u → is_plain p ≡ true → ((q : ℕ) → u ≡ cell.Copy q → ⊥) → Walk n (list.number p) → ⊥
  no_walk zero p u listed off none walk = not_last p u listed off walk
  no_walk (suc n) p u listed off none walk = let f = first_step n p u listed walk in none f.0 f.1

  -- constants lead nowhere
  pub constant_ends : (n : ℕ) (b : Bool) → Walk n (list.number (Constant b)) → ⊥
  constant_ends n b walk = no_walk n (Constant b) _ (constant_listed d lowering l list b) refl (λ q e. cc) walk

  input_only : (n : ℕ) (i : ℕ) (b : Bit) → Contains (enumerate_from 0 (cut_bits d)) (i, b) → Walk n (list.number (Input i)) → Tail b
  input_only zero i b has walk = at_input i b has walk
  input_only (suc n) i b has walk =
      let j = enumerated_from 0 (cut_bits d) i b has in
      let f = first_step n (Input i) _ (input_listed d lowering l list i (omega (arith, j.1, j.2))) walk in cc

  abbrev pub Nets : ℕ → Type 0
  Nets n = (b : Bit) → Contains (net_order d) b → Walk n (place b) → Tail b

  abbrev pub Part : ℕ → Scope → Construct → Type 0
  Part k s c = Contains (enumerate_from 0 (parts d)) (k, (s, c))

  abbrev pub Steps : ℕ → Type 0
  Steps n = (k : ℕ) (s : Scope) (c : Construct) → Part k s c → (x : ℕ) → x < length (lowered_in (s, c)) → (j : ℕ) → j < length (lowering k x).all → (m : ℕ) → j < m → Walk n (list.number (Step k x j))
      → Below (bit_itself s.path (term_within (nets_of s.source) (lowering k x).all m j))

  module _ (n : ℕ) (nets : Nets n) (k : ℕ) (s : Scope) (c : Construct) (has : Part k s c) (x : ℕ) where
    step_below : (term : ℕ → Term) (j : ℕ) (step : BitStep) → ReadsEarlier (nets_of s.source) j step → Occurs d lowering l list k s x j step → Walk n (list.number (Step k x j)) → Below (bit_itself s.path (step_term (nets_of s.source) step term))
    step_below term j (steps.Const b) reads occurs walk = absurd (constant_ends n b (subst (Walk n) occurs.0 walk))
    step_below term j (steps.Net m i) reads occurs walk =
        let b : Bit = record { path = s.path; net = name_at (nets_of s.source) m; place = i } in
        (b, contains_here b [], nets b (net_bit_of_step d s m i (scope_there d k s c has) reads) (subst (Walk n) occurs.0 walk))
    step_below term j (steps.Not a) reads occurs walk = absurd (no_walk n (Step k x j) _ occurs.1 refl (λ q e. cc) walk)
    step_below term j (steps.And a b) reads occurs walk = absurd (no_walk n (Step k x j) _ occurs.1 refl (λ q e. cc) walk)
    step_below term j (steps.Or a b) reads occurs walk = absurd (no_walk n (Step k x j) _ occurs.1 refl (λ q e. cc) walk)
    step_below term j (steps.Xor a b) reads occurs walk = absurd (no_walk n (Step k x j) _ occurs.1 refl (λ q e. cc) walk)
    step_below term j (steps.Mux i t f) reads occurs walk = absurd (no_walk n (Step k x j) _ occurs.1 refl (λ q e. cc) walk)

  pub steps_at : (n : ℕ) → Nets n → Steps n
  unfolding term_within
  steps_at n nets k s c has x fits j at zero less walk = absurd (omega (arith, less))
  steps_at n nets k s c has x fits j at (suc m) less walk =
      step_below n nets k s c has x (term_within (nets_of s.source) (lowering k x).all m) j (get_or (lowering k x).all j (steps.Const false))
      (reads_there d lowering lowered k s c has x fits j at) (step_occurs d lowering l list k s c has x fits j at) walk

  module _ (k : ℕ) (s : Scope) (gate : Gate) (outs ins : List Expression) (has : Part k s (GateInstance gate outs ins)) where
    abbrev pub term_in : ℕ → Term
    term_in x = input_term d lowering lowered wired k s gate outs ins has x

    -- the inputs up to one of them, joined
    abbrev pub prefix : ℕ → Term
    prefix zero = term_in 0
    prefix (suc x) = joins on_terms gate (prefix x) (term_in (suc x))

    abbrev pub Joins : ℕ → Type 0
    Joins n = (x : ℕ) → x < length ins → Walk n (list.number (joined_place lowering k x)) → Below (bit_itself s.path (prefix x))

    pub input_below : (n : ℕ) → Steps n → (x : ℕ) → x < length ins → Walk n (list.number (terminal_place lowering k x)) → Below (bit_itself s.path (term_in x))
    input_below n steps_n x fits walk =
        let y = terminal_there s ins x fits (wired.gates s gate outs ins (from_numbered 0 (parts d) (k, (s, GateInstance gate outs ins)) has)).1 in
        let lower = lowered_at d lowering lowered k s (GateInstance gate outs ins) has x y.0 1 y.1 in
        let i = enumerated_from 0 (lowered_in (s, GateInstance gate outs ins)) x (y.0, 1) y.1 in
        let j = get_or (lowering k x).bits 0 0 in
        let at = All-contains (λ j. j < length (lowering k x).all) (lowering k x).bits j lower.places (Contains-get_or (lowering k x).bits 0 0 (omega (arith, lower.width))) in
        steps_n k s (GateInstance gate outs ins) has x (omega (arith, i.1, i.2)) j at (j + 1) (omega arith) walk

    join_below : (n : ℕ) (g : Gate) (p r : ℕ) (t u : Term) → (Walk n p → Below (bit_itself s.path t)) → (q : ℕ) → join_cell g p r ≡ cell.Copy q → Walk n q → Below (bit_itself s.path (joins on_terms g t u))
    join_below n gates.And p r t u f q at walk = cc
    join_below n gates.Nand p r t u f q at walk = cc
    join_below n gates.Or p r t u f q at walk = cc
    join_below n gates.Nor p r t u f q at walk = cc
    join_below n gates.Xor p r t u f q at walk = cc
    join_below n gates.Xnor p r t u f q at walk = cc
    join_below n gates.Buf p r t u f q at walk = f (subst (Walk n) (sym (copies_one p q at)) walk)
    join_below n gates.Not p r t u f q at walk = f (subst (Walk n) (sym (copies_one p q at)) walk)

    joins_zero : Steps 0 → Joins 0
    joins_zero now zero fits walk = input_below 0 now 0 fits walk
    joins_zero now (suc x) fits walk = absurd (not_last (Joined k (suc x)) _ (joined_listed d lowering l list k s gate outs ins has x (omega (arith, fits))) refl walk)

    joins_more : (n : ℕ) → Steps (suc n) → Joins n → Joins (suc n)
    joins_more n next before zero fits walk = input_below (suc n) next 0 fits walk
    joins_more n next before (suc x) fits walk =
        let f = first_step n (Joined k (suc x)) _ (joined_listed d lowering l list k s gate outs ins has x (omega (arith, fits))) walk in
        join_below n gate (list.number (joined_place lowering k x)) (list.number (terminal_place lowering k (suc x))) (prefix x) (term_in (suc x)) (before x (omega (arith, fits))) f.0 f.1 f.2

    prefix_is : (m a : ℕ) → fold (joins on_terms gate) (prefix a) (map term_in (range_with_len (a + 1) m)) ≡ prefix (a + m)
    prefix_is zero a = let same : a ≡ a + 0 = omega arith in ap prefix same
    prefix_is (suc m) a =
        let one : a + 1 ≡ suc a = omega arith in
        let further : a + 1 + m ≡ a + suc m = omega arith in
        let next : joins on_terms gate (prefix a) (term_in (a + 1)) ≡ prefix (a + 1) = ap (λ z. joins on_terms gate (prefix a) (term_in z)) one ∙ ap prefix (sym one) in
        ap (λ t. fold (joins on_terms gate) t (map term_in (range_with_len (a + 1 + 1) m))) next ∙ prefix_is m (a + 1) ∙ ap prefix further

    pub whole_is : (n : ℕ) → n ≡ length ins → 1 ≤ n → prefix (n - 1) ≡ joined on_terms gate (map term_in (range_with_len 0 n))
    whole_is zero same one = absurd (omega (arith, one))
    whole_is (suc m) same one = let place : suc m - 1 ≡ 0 + m = omega arith in ap prefix place ∙ sym (prefix_is m 0)

    gate_below : (n : ℕ) → Joins n → Walk n (list.number (gate_place lowering gate k (length ins))) → Below (bit_itself s.path (gate_gives on_terms gate (terminal_terms s ins)))
    gate_below n now walk = subst (λ ts. Below (bit_itself s.path (gate_gives on_terms gate ts))) (sym (terminals_are d lowering lowered wired k s gate outs ins has)) (by (inverts gate) refl walk)
      where
        one : 1 ≤ length ins
        one = (wired.gates s gate outs ins (from_numbered 0 (parts d) (k, (s, GateInstance gate outs ins)) has)).0

        inside : Term
        inside = joined on_terms gate (map term_in (range_with_len 0 (length ins)))

        by : (o : Bool) → inverts gate ≡ o → Walk n (list.number (if o then Inverted k else joined_place lowering k (length ins - 1))) → Below (bit_itself s.path (if o then term.Not inside else inside))
        by true on walk = absurd (no_walk n (Inverted k) _ (inverted_listed d lowering l list k s gate outs ins has on) refl (λ q e. cc) walk)
        by false off walk = subst (λ t. Below (bit_itself s.path t)) (whole_is (length ins) refl one) (now (length ins - 1) (omega (arith, one)) walk)

  pins_end : (n : ℕ) (i : ℕ) (s : Scope) → Contains (enumerate_from 0 (boxes d)) (i, s) → (p : ℕ) (y : Bit) → Contains (enumerate_from 0 (output_bits s)) (p, y) → Walk n (list.number (BoxPin i p)) → ⊥
  pins_end n i s has p y at walk = no_walk n (BoxPin i p) _ (pin_listed d lowering l list i s has p y at) refl (λ q e. cc) walk

  -- what holds of walks of one length
  pub record Claims (n : ℕ) : Type 0 where
    pub nets : Nets n
    pub steps : Steps n
    pub joins : (k : ℕ) (s : Scope) (gate : Gate) (outs ins : List Expression) (has : Part k s (GateInstance gate outs ins)) → Joins k s gate outs ins has n

  -- a drive of the bit of an entry that is a copy of a bit that the walk passes
  abbrev Passes : List Drive → Bit × CellName → Type 0
  Passes all y = (z : Drive) × Contains all z × ((z.bit ≡ y.0) × Below (copied z.source))

  module _ (n : ℕ) (claims : Claims n) where
    sides : (k : ℕ) (s : Scope) (c : Construct) → Part k s c → (x : ℕ) (f : Expression) (w : ℕ) → Contains (enumerate_from 0 (lowered_in (s, c))) (x, (f, w)) → (all : List Bit) (placed_cells : List CellName) (terms : List Term) → map (term_of lowering s) placed_cells ≡ terms
        → ((p : CellName) → Contains placed_cells p → Contains (step_places lowering k x) p) → (y : Bit × CellName) → Contains (zip all placed_cells) y → Walk n (list.number y.1) → Passes (driven_by s.path all terms) y
    sides k s c has x f w at all placed_cells terms same sub y here walk =
        let lower = lowered_at d lowering lowered k s c has x f w at in
        let i = enumerated_from 0 (lowered_in (s, c)) x (f, w) at in
        let j = from_map (Step k x) (lowering k x).bits y.1 (sub y.1 (zip_parts all placed_cells y here).1) in
        let fits = All-contains (λ j. j < length (lowering k x).all) (lowering k x).bits j.0 lower.places j.1 in
        let low = claims.steps k s c has x (omega (arith, i.1, i.2)) j.0 fits (j.0 + 1) (omega arith) (subst (λ p. Walk n (list.number p)) (sym j.2) walk) in
        (driven (MadeOf s.path (term_of lowering s y.1)) y.0, sides_meet of_designs d lowering lowered s s.path all placed_cells terms same y here, (refl, subst (λ p. Below (bit_itself s.path (term_of lowering s p))) j.2 low))

    pins_pass : (s : Scope) (path : List (List ℕ)) (pin : Pin) → ((b : Bit) → Contains (pin_bits path pin) b → Contains (net_order d) b) → (p : CellName) → Contains (map NetBit (pin_bits path pin)) p → Walk n (list.number p) → Below (bit_itself path (term_of lowering s p))
    pins_pass s path pin inside p has walk =
        let q = from_map NetBit (pin_bits path pin) p has in
        let k = from_map (λ k. record { path = path; net = pin.name; place = k }) (range_with_len 0 pin.width) q.0 q.1 in
        let tail = claims.nets q.0 (inside q.0 q.1) (subst (λ p. Walk n (list.number p)) (sym q.2) walk) in
        let bit : Bit = record { path = path; net = pin.name; place = k.0 } in
        subst (λ p. Below (bit_itself path (term_of lowering s p))) q.2 (subst (λ (u : Bit). Below (bit_itself path (term.Net u.net u.place))) k.2 (bit, contains_here bit [], subst Tail (sym k.2) tail))

    part_passes : (k : ℕ) (s : Scope) (c : Construct) → Part k s c → (y : Bit × CellName) → Contains (given_at lowering (k, (s, c))) y → Walk n (list.number y.1) → Passes (drives_at (s, c)) y
    part_passes k s (Assignment left right) has y here walk =
        let m = length (written_bits s left) in
        let at = contains_here (0, (right, context_width s left right)) [] in
        sides k s (Assignment left right) has 0 right (context_width s left right) at (written_bits s left) (low_bits m (step_places lowering k 0)) _ (low_terms of_designs d lowering lowered k s (Assignment left right) has m 0 right (context_width s left right) at) (from_drop _ (step_places lowering k 0)) y here walk
    part_passes k s (GateInstance gate outs ins) has y here walk =
        let t = gate_gives on_terms gate (terminal_terms s ins) in
        let b = from_map {B = Bit × CellName} (λ b. (b, gate_place lowering gate k (length ins))) (flat_map (written_bits s) outs) y here in
        (driven (MadeOf s.path t) b.0, contains-map (driven (MadeOf s.path t)) (flat_map (written_bits s) outs) b.0 b.1, (ap (λ (u : Bit × CellName). u.0) b.2, gate_below k s gate outs ins has n (claims.joins k s gate outs ins has) (subst (λ (u : Bit × CellName). Walk n (list.number u.1)) (sym b.2) walk)))
    part_passes k s (Register r) has y here walk = absurd (none_in_nil y here)
    part_passes k s (SupplyNet high m) has y here walk =
        let b = from_map {B = Bit × CellName} (λ b. (b, Constant high)) (bits_named s m) y here in
        absurd (constant_ends n high (subst (λ (u : Bit × CellName). Walk n (list.number u.1)) (sym b.2) walk))
    part_passes k s (InputConnection i pin f) has y here walk =
        let at = contains_here (0, (f, width_of s f)) [] in
        sides k s (InputConnection i pin f) has 0 f (width_of s f) at (pin_bits (path_to s.path i) pin) (step_places lowering k 0) _ (whole_terms of_designs d lowering lowered k s (InputConnection i pin f) has 0 f (width_of s f) at) (λ p h. h) y here walk
    part_passes k s (OutputConnection i pin f) has y here walk =
        let path = path_to s.path i in
        let all : List CellName = map NetBit (pin_bits path pin) in
        let inside = wired.pins s i pin f (from_numbered 0 (parts d) (k, (s, OutputConnection i pin f)) has) in
        (driven (MadeOf path (term_of lowering s y.1)) y.0, sides_meet of_designs d lowering lowered s path (written_bits s f) all _ (pin_terms lowering s path pin) y here, (refl, pins_pass s path pin inside y.1 (zip_parts (written_bits s f) all y here).1 walk))
    part_passes k s BoxContents has y here walk = absurd (none_in_nil y here)

    abbrev inputs : List (Bit × CellName)
    inputs = map (λ x. (x.1, Input x.0)) (enumerate_from 0 (cut_bits d))

    abbrev box_pins : List (Bit × CellName)
    box_pins = flat_map given_by_box (enumerate_from 0 (boxes d))

    abbrev others : List (Bit × CellName)
    others = flat_map (given_at lowering) (enumerate_from 0 (parts d))

    passes : (y : Bit × CellName) → Contains (driving_places d lowering) y → Walk n (list.number y.1) → Passes (drives d) y ⊎ Tail y.0
    passes y has walk = by (Contains-append_cases (inputs ++ box_pins) others y has)
      where
        first : Contains inputs y ⊎ Contains box_pins y → Passes (drives d) y ⊎ Tail y.0
        first (inl h) =
            let i = from_map {B = Bit × CellName} (λ x. (x.1, Input x.0)) (enumerate_from 0 (cut_bits d)) y h in
            inr (subst (λ (u : Bit × CellName). Tail u.0) i.2 (input_only n i.0.0 i.0.1 i.1 (subst (λ (u : Bit × CellName). Walk n (list.number u.1)) (sym i.2) walk)))
        first (inr h) =
            let b = from_flat given_by_box (enumerate_from 0 (boxes d)) y h in
            let s = b.0.1 in
            let p = from_map {B = Bit × CellName} (λ (x : ℕ × Bit). (x.1, BoxPin b.0.0 x.0)) (enumerate_from 0 (output_bits s)) y b.2 in
            absurd (pins_end n b.0.0 s b.1 p.0.0 p.0.1 p.1 (subst (λ (u : Bit × CellName). Walk n (list.number u.1)) (sym p.2) walk))

        by : Contains (inputs ++ box_pins) y ⊎ Contains others y → Passes (drives d) y ⊎ Tail y.0
        by (inl h) = first (Contains-append_cases inputs box_pins y h)
        by (inr h) =
            let p = from_flat (given_at lowering) (enumerate_from 0 (parts d)) y h in
            let z = part_passes p.0.0 p.0.1.0 p.0.1.1 p.1 y p.2 walk in
            inl (z.0, part_driven of_designs d p.0.1 (from_numbered 0 (parts d) p.0 p.1) z.0 z.1, z.2)

    -- a step or more from the place of a bit lead along copies
    net_leads : (b : Bit) → Contains (net_order d) b → Walk (suc n) (place b) → Tail b
    net_leads b has walk =
        let f = first_step n (NetBit b) (cell.Copy (list.number (place_in (driving_places d lowering) b))) (net_listed d lowering l list b has) walk in
        found (find (λ (y : Bit × CellName). same_bit b y.0) (driving_places d lowering)) refl (subst (Walk n) (sym (copies_one (list.number (place_in (driving_places d lowering) b)) f.0 f.1)) f.2)
      where
        found : (o : Option (Bit × CellName)) → find (λ (y : Bit × CellName). same_bit b y.0) (driving_places d lowering) ≡ o → Walk n (list.number (option_map_or (λ (u : Bit × CellName). u.1) o (Constant false))) → Tail b
        found None is walk = absurd (constant_ends n false walk)
        found (Some y) is walk =
            let at = from_find (λ (y : Bit × CellName). same_bit b y.0) (driving_places d lowering) y is in
            from (passes y at.0 walk) ((of_designs.distinguished b y.0).0 at.1)
          where
            from : Passes (drives d) y ⊎ Tail y.0 → b ≡ y.0 → Tail b
            from (inr tail) same = subst Tail (sym same) tail
            from (inl z) same =
                let bit : z.0.bit ≡ b = z.2.0 ∙ sym same in
                let c = z.2.1 in
                closed b c.0 (subst (λ u. Contains (copied_bits d) (u, c.0)) bit (into_flat (λ (z : Drive). map (λ e. (z.bit, e)) (copied z.source)) (drives d) z.0 (z.0.bit, c.0) z.1 (contains-map {B = Bit × Bit} (λ e. (z.0.bit, e)) (copied z.0.source) c.0 c.1))) c.2

  pub claims : (n : ℕ) → Claims n
  claims zero =
      let now = steps_at 0 at_net in
      record {
        nets = at_net;
        steps = now;
        joins = λ k s gate outs ins has. joins_zero k s gate outs ins has now;
      }
  claims (suc n) =
      let c = claims n in
      let next = steps_at (suc n) (net_leads n c) in
      record {
        nets = net_leads n c;
        steps = next;
        joins = λ k s gate outs ins has. joins_more k s gate outs ins has n next (c.joins k s gate outs ins has);
      }

  walk_of : (k : ℕ) → Leads (copy_steps l.cells) k goal → (n : ℕ) × Walk n k
  walk_of k (One has) = (1, (goal, has, refl))
  walk_of k (More {y = y} has rest) = let r = walk_of y rest in (suc r.0, (y, has, r.1))

  pub walk_from : (k : ℕ) → FollowsAt l.cells k goal → (n : ℕ) × Walk n k
  walk_from k (inl same) = (0, same)
  walk_from k (inr leads) = walk_of k leads

  -- copies in the list are copies of bits
  pub followed : (b : Bit) → Contains (net_order d) b → FollowsAt l.cells (place b) goal → Tail b
  followed b has follows = let w = walk_from (place b) follows in (claims w.0).nets b has w.1

  -- what is read leads to a bit that is read as it is

  below_more : (low more : List Bit) → ((c : Bit) → Contains low c → Contains more c) → Below low → Below more
  below_more low more sub h = (h.0, sub h.0 h.1, h.2)

  part_read : (s : Scope) (c : Construct) → Contains (parts d) (s, c) → (b : Bit) → Contains (read_at (s, c)) b → Contains (read_directly d) b
  part_read s c here b has = Contains-append_right (top_outputs d) (flat_map read_at (parts d)) b (into_flat read_at (parts d) (s, c) b here has)

  cell_read : (s : Scope) (c : Construct) → Contains (parts d) (s, c) → (u t : Term) → Contains (cells_at (s, c)) u → Contains (operand_terms u) t → Below (bit_itself s.path t) → Below (read_directly d)
  cell_read s c here u t made operand low = below_more (bit_itself s.path t) (read_directly d) (λ b has. part_read s c here b
      (Contains-append_left (flat_map (λ cell. flat_map (bit_itself s.path) (operand_terms cell)) (cells_at (s, c))) (read_beside (s, c)) b
      (into_flat (λ cell. flat_map (bit_itself s.path) (operand_terms cell)) (cells_at (s, c)) u b made (into_flat (bit_itself s.path) (operand_terms u) t b operand has)))) low

  beside_read : (s : Scope) (c : Construct) → Contains (parts d) (s, c) → (low : List Bit) → ((b : Bit) → Contains low b → Contains (read_beside (s, c)) b) → Below low → Below (read_directly d)
  beside_read s c here low sub h = below_more low (read_directly d) (λ b has. part_read s c here b (Contains-append_right (flat_map (λ cell. flat_map (bit_itself s.path) (operand_terms cell)) (cells_at (s, c))) (read_beside (s, c)) b (sub b has))) h

  one_case : {T : Type 0} (a q : ℕ) → Contains (a ∷ []) q → (a ≡ q → T) → T
  one_case {T = T} a q has f = by (contains_cases a [] q has)
    where
      by : (a ≡ q) ⊎ Contains [] q → T
      by (inl same) = f same
      by (inr none) = absurd (none_in_nil q none)

  two_cases : {T : Type 0} (a b q : ℕ) → Contains (a ∷ b ∷ []) q → (a ≡ q → T) → (b ≡ q → T) → T
  two_cases {T = T} a b q has f g = by (contains_cases a (b ∷ []) q has)
    where
      by : (a ≡ q) ⊎ Contains (b ∷ []) q → T
      by (inl same) = f same
      by (inr more) = one_case b q more g

  three_cases : {T : Type 0} (a b c q : ℕ) → Contains (a ∷ b ∷ c ∷ []) q → (a ≡ q → T) → (b ≡ q → T) → (c ≡ q → T) → T
  three_cases {T = T} a b c q has f g h = by (contains_cases a (b ∷ c ∷ []) q has)
    where
      by : (a ≡ q) ⊎ Contains (b ∷ c ∷ []) q → T
      by (inl same) = f same
      by (inr more) = two_cases b c q more g h

  -- an operand of an operator, and what it leads to
  abbrev Operand : List (List ℕ) → Term → Type 0
  Operand path u = (t : Term) × Contains (operand_terms u) t × Below (bit_itself path t)

  module _ (n : ℕ) (claims : Claims n) where
    module _ (k : ℕ) (s : Scope) (c : Construct) (has : Part k s c) (x : ℕ) where
      -- what a step reads, where it is an operator, is an operand of what it is made of
      step_operand : (term : ℕ → Term) (j : ℕ) → ((a : ℕ) → a < j → Walk n (list.number (Step k x a)) → Below (bit_itself s.path (term a))) → (step : BitStep) → ReadsEarlier (nets_of s.source) j step
          → IfSome (step_cell (λ a. list.number (Step k x a)) step) (λ u. (q : ℕ) → Contains (read_by u) q → Walk n q → Operand s.path (step_term (nets_of s.source) step term) × (is_operator step ≡ true))
      step_operand term j earlier (steps.Const b) reads = tt
      step_operand term j earlier (steps.Net m i) reads = tt
      step_operand term j earlier (steps.Not a) reads = λ q at walk. one_case (list.number (Step k x a)) q at (λ same. ((term a, (0, omega arith, refl), earlier a reads (subst (Walk n) (sym same) walk)), refl))
      step_operand term j earlier (steps.And a b) reads = λ q at walk. two_cases (list.number (Step k x a)) (list.number (Step k x b)) q at
          (λ same. ((term a, (0, omega arith, refl), earlier a reads.0 (subst (Walk n) (sym same) walk)), refl)) (λ same. ((term b, (1, omega arith, refl), earlier b reads.1 (subst (Walk n) (sym same) walk)), refl))
      step_operand term j earlier (steps.Or a b) reads = λ q at walk. two_cases (list.number (Step k x a)) (list.number (Step k x b)) q at
          (λ same. ((term a, (0, omega arith, refl), earlier a reads.0 (subst (Walk n) (sym same) walk)), refl)) (λ same. ((term b, (1, omega arith, refl), earlier b reads.1 (subst (Walk n) (sym same) walk)), refl))
      step_operand term j earlier (steps.Xor a b) reads = λ q at walk. two_cases (list.number (Step k x a)) (list.number (Step k x b)) q at
          (λ same. ((term a, (0, omega arith, refl), earlier a reads.0 (subst (Walk n) (sym same) walk)), refl)) (λ same. ((term b, (1, omega arith, refl), earlier b reads.1 (subst (Walk n) (sym same) walk)), refl))
      step_operand term j earlier (steps.Mux i t f) reads = λ q at walk. three_cases (list.number (Step k x i)) (list.number (Step k x t)) (list.number (Step k x f)) q at
          (λ same. ((term i, (0, omega arith, refl), earlier i reads.0 (subst (Walk n) (sym same) walk)), refl)) (λ same. ((term t, (1, omega arith, refl), earlier t reads.1 (subst (Walk n) (sym same) walk)), refl))
          (λ same. ((term f, (2, omega arith, refl), earlier f reads.2 (subst (Walk n) (sym same) walk)), refl))

    step_read : (k : ℕ) (s : Scope) (c : Construct) → Part k s c → (x : ℕ) → x < length (lowered_in (s, c)) → (j : ℕ) → j < length (lowering k x).all
        → IfSome (step_cell (λ a. list.number (Step k x a)) (get_or (lowering k x).all j (steps.Const false))) (λ u. (q : ℕ) → Contains (read_by u) q → Walk n q → Below (read_directly d))
    unfolding term_within
    step_read k s c has x fits j at =
        let y = get_or (lowered_in (s, c)) x (Plain 0, 0) in
        let entry = numbered_at (lowered_in (s, c)) x (Plain 0, 0) fits in
        let lower = lowered_at d lowering lowered k s c has x y.0 y.1 entry in
        let all = (lowering k x).all in
        let step = get_or all j (steps.Const false) in
        let nets = nets_of s.source in
        let one : suc j ≡ j + 1 = omega arith in
        let read : Operand s.path (step_term nets step (term_within nets all j)) × (is_operator step ≡ true) → Below (read_directly d) = λ o.
        let operator : Contains (operators nets all) (term_at nets all j) =
        into_filter (λ (z : ℕ × BitStep). if is_operator z.1 then Some (term_at nets all z.0) else None) (enumerate_from 0 all) (j, step) (term_at nets all j) (numbered_at all j (steps.Const false) at) (ap (λ b. if b then Some (term_at nets all j) else None) o.1) in
        let made = Contains-permutation (operators nets all) (made_in s y.0 y.1).cells (term_at nets all j) (IsPermutation-sym (made_in s y.0 y.1).cells (operators nets all) lower.cells) operator in
        cell_read s c (from_numbered 0 (parts d) (k, (s, c)) has) (term_at nets all j) o.0.0 (lowered_cell s c y.0 y.1 (from_numbered 0 (lowered_in (s, c)) (x, y) entry) (term_at nets all j) made)
        (subst (λ m. Contains (operand_terms (term_within nets all m j)) o.0.0) one o.0.1) o.0.2 in
        IfSome_then (step_cell (λ a. list.number (Step k x a)) step)
        (step_operand k s c has x (term_within nets all j) j (λ a lt w. claims.steps k s c has x fits a (omega (arith, lt, at)) j lt w) step (reads_there d lowering lowered k s c has x fits j at))
        (λ u operand q has_q walk. read (operand q has_q walk))

    module _ (k : ℕ) (s : Scope) (gate : Gate) (outs ins : List Expression) (has : Part k s (GateInstance gate outs ins)) where
      abbrev tin : ℕ → Term
      tin x = term_in k s gate outs ins has x

      abbrev pre : ℕ → Term
      pre x = prefix k s gate outs ins has x

      part_here : Contains (parts d) (s, GateInstance gate outs ins)
      part_here = from_numbered 0 (parts d) (k, (s, GateInstance gate outs ins)) has

      join_operand : (g : Gate) (p r : ℕ) (t u : Term) → (Walk n p → Below (bit_itself s.path t)) → (Walk n r → Below (bit_itself s.path u)) → (q : ℕ) → Contains (read_by (join_cell g p r)) q → Walk n q → Operand s.path (joins on_terms g t u)
      join_operand gates.And p r t u f h q at walk = two_cases p r q at (λ same. (t, (0, omega arith, refl), f (subst (Walk n) (sym same) walk))) (λ same. (u, (1, omega arith, refl), h (subst (Walk n) (sym same) walk)))
      join_operand gates.Nand p r t u f h q at walk = two_cases p r q at (λ same. (t, (0, omega arith, refl), f (subst (Walk n) (sym same) walk))) (λ same. (u, (1, omega arith, refl), h (subst (Walk n) (sym same) walk)))
      join_operand gates.Or p r t u f h q at walk = two_cases p r q at (λ same. (t, (0, omega arith, refl), f (subst (Walk n) (sym same) walk))) (λ same. (u, (1, omega arith, refl), h (subst (Walk n) (sym same) walk)))
      join_operand gates.Nor p r t u f h q at walk = two_cases p r q at (λ same. (t, (0, omega arith, refl), f (subst (Walk n) (sym same) walk))) (λ same. (u, (1, omega arith, refl), h (subst (Walk n) (sym same) walk)))
      join_operand gates.Xor p r t u f h q at walk = two_cases p r q at (λ same. (t, (0, omega arith, refl), f (subst (Walk n) (sym same) walk))) (λ same. (u, (1, omega arith, refl), h (subst (Walk n) (sym same) walk)))
      join_operand gates.Xnor p r t u f h q at walk = two_cases p r q at (λ same. (t, (0, omega arith, refl), f (subst (Walk n) (sym same) walk))) (λ same. (u, (1, omega arith, refl), h (subst (Walk n) (sym same) walk)))
      join_operand gates.Buf p r t u f h q at walk = absurd (none_in_nil q at)
      join_operand gates.Not p r t u f h q at walk = absurd (none_in_nil q at)

      next_is : (a : ℕ) → joins on_terms gate (pre a) (tin (a + 1)) ≡ pre (suc a)
      next_is a = let one : a + 1 ≡ suc a = omega arith in ap (λ z. joins on_terms gate (pre a) (tin z)) one

      cell_after : (m a i : ℕ) → i < m → Contains (joined_after (joins on_terms gate) (pre a) (map tin (range_with_len (a + 1) m))) (pre (suc (a + i)))
      cell_after zero a i lt = absurd (omega (arith, lt))
      cell_after (suc m) a zero lt = let same : suc a ≡ suc (a + 0) = omega arith in subst (Contains (joined_after (joins on_terms gate) (pre a) (map tin (range_with_len (a + 1) (suc m))))) (next_is a ∙ ap pre same) (contains_here _ _)
      cell_after (suc m) a (suc i) lt =
          let same : suc (suc a + i) ≡ suc (a + suc i) = omega arith in
          let one : a + 1 ≡ suc a = omega arith in
          contains_there _ _ _ (subst (λ t. Contains (joined_after (joins on_terms gate) t (map tin (range_with_len (a + 1 + 1) m))) (pre (suc (a + suc i)))) (sym (next_is a))
          (subst (λ z. Contains (joined_after (joins on_terms gate) (pre (suc a)) (map tin (range_with_len (a + 1 + 1) m))) (pre z)) same
          (subst (λ z. Contains (joined_after (joins on_terms gate) (pre (suc a)) (map tin (range_with_len (z + 1) m))) (pre (suc (suc a + i)))) (sym one) (cell_after m (suc a) i (omega (arith, lt))))))

      all_joined : (len x : ℕ) → x < len - 1 → Contains (joining_cells gate (map tin (range_with_len 0 len))) (pre (suc x))
      all_joined zero x lt = absurd (omega (arith, lt))
      all_joined (suc m) x lt =
          let same : suc (0 + x) ≡ suc x = omega arith in
          subst (λ z. Contains (joined_after (joins on_terms gate) (pre 0) (map tin (range_with_len (0 + 1) m))) (pre z)) same (cell_after m 0 x (omega (arith, lt)))

      gate_cell : (u : Term) → Contains (gate_cells gate (map tin (range_with_len 0 (length ins)))) u → Contains (cells_at (s, GateInstance gate outs ins)) u
      gate_cell u has_u = Contains-append_right (flat_map (λ e. (made_in s e (width_of s e)).cells) ins) (gate_cells gate (terminal_terms s ins)) u
          (subst (λ ts. Contains (gate_cells gate ts) u) (sym (terminals_are d lowering lowered wired k s gate outs ins has)) has_u)

      inside : Term
      inside = joined on_terms gate (map tin (range_with_len 0 (length ins)))

      shape : 1 ≤ length ins
      shape = (wired.gates s gate outs ins part_here).0

      joined_read : (x : ℕ) → x < length ins - 1 → (q : ℕ) → Contains (read_by (join_cell gate (list.number (joined_place lowering k x)) (list.number (terminal_place lowering k (suc x))))) q → Walk n q → Below (read_directly d)
      joined_read x fits q at walk =
          let o = join_operand gate (list.number (joined_place lowering k x)) (list.number (terminal_place lowering k (suc x))) (pre x) (tin (suc x))
          (claims.joins k s gate outs ins has x (omega (arith, fits))) (input_below k s gate outs ins has n claims.steps (suc x) (omega (arith, fits))) q at walk in
          cell_read s (GateInstance gate outs ins) part_here (pre (suc x)) o.0
          (gate_cell (pre (suc x)) (Contains-append_left (joining_cells gate (map tin (range_with_len 0 (length ins)))) _ (pre (suc x)) (all_joined (length ins) x fits))) o.1 o.2

      inverted_read : inverts gate ≡ true → (q : ℕ) → Contains (list.number (joined_place lowering k (length ins - 1)) ∷ []) q → Walk n q → Below (read_directly d)
      unfolding inside
      inverted_read on q at walk =
          let low = one_case (list.number (joined_place lowering k (length ins - 1))) q at (λ same. claims.joins k s gate outs ins has (length ins - 1) (omega (arith, shape)) (subst (Walk n) (sym same) walk)) in
          cell_read s (GateInstance gate outs ins) part_here (term.Not inside) inside
          (gate_cell (term.Not inside) (Contains-append_right (joining_cells gate (map tin (range_with_len 0 (length ins)))) _ (term.Not inside)
          (subst (λ (b : Bool). Contains (if b then (if b then term.Not inside else inside) ∷ [] else []) (term.Not inside)) (sym on) (contains_here (term.Not inside) []))))
          (contains_here inside []) (subst (λ t. Below (bit_itself s.path t)) (whole_is k s gate outs ins has (length ins) refl shape) low)

    -- what is listed, if it reads something
    abbrev ReadsOn : Entry → Type 0
    ReadsOn x = (q : ℕ) → Contains (read_by x.1) q → Walk n q → Below (read_directly d)

    listed_read : (x : Entry) → Contains (placed_cells d lowering list.number) x → ReadsOn x
    listed_read = each_entry d lowering l list ReadsOn (record {
      constants = λ b q at walk. absurd (none_in_nil q at);
      inputs = λ i fits q at walk. absurd (none_in_nil q at);
      nets = λ b has q at walk. absurd (none_in_nil q at);
      steps = step_read;
      joins = λ k s gate outs ins has x fits q at walk. joined_read k s gate outs ins has x fits q at walk;
      inverters = λ k s gate outs ins has on q at walk. inverted_read k s gate outs ins has on q at walk;
      pins = λ b s has p y there q at walk. absurd (none_in_nil q at);
    })

    cells_read : (q : ℕ) → Contains (flat_map read_by l.cells) q → Walk n q → Below (read_directly d)
    cells_read q at walk =
        let u = from_flat read_by l.cells q at in
        let x = listed_at d lowering l list u.1.0 u.1.1 in
        let same : x.1 ≡ u.0 = sym (listed_cell d lowering l list x.0 x.1 x.2) ∙ ap (loose_at l) x.3 ∙ get_or_default l.cells u.1.0 (cell.Const false) u.0 u.1.1 ∙ u.1.2 in
        listed_read (x.0, x.1) x.2 q (subst (λ v. Contains (read_by v) q) (sym same) u.2) walk

    module _ (inside : BitsAreThere d) where
      bit_read : (b : Bit) → Contains (read_directly d) b → Walk n (place b) → Below (read_directly d)
      bit_read b direct walk = (b, direct, claims.nets b (inside.read b (inl direct)) walk)

      pins_read : (q : ℕ) → Contains (flat_map (λ (b : Pins). b.ins) l.boxes) q → Walk n q → Below (read_directly d)
      pins_read q at walk =
          let b = from_flat (λ (b : Pins). b.ins) l.boxes q at in
          let x = from_map (pins_of list.number) (enumerate_from 0 (boxes d)) b.0 (subst (λ all. Contains all b.0) list.boxes b.1) in
          let s = x.0.1 in
          let y = from_map (λ z. list.number (NetBit z)) (input_bits s) q (subst (λ (z : Pins). Contains z.ins q) (sym x.2) b.2) in
          let here = box_part of_designs d s (from_numbered 0 (boxes d) x.0 x.1) in
          bit_read y.0 (part_read s BoxContents here y.0 (Contains-append_right (flat_map (λ cell. flat_map (bit_itself s.path) (operand_terms cell)) (cells_at (s, BoxContents))) (input_bits s) y.0 y.1)) (subst (Walk n) (sym y.2) walk)

      data_read : (y : Bit × CellName) → Contains (flat_map (data_at lowering) (enumerate_from 0 (parts d))) y → Walk n (list.number y.1) → Below (read_directly d)
      data_read y at walk = let p = from_flat (data_at lowering) (enumerate_from 0 (parts d)) y at in by p.0.0 p.0.1.0 p.0.1.1 p.1 p.2
        where
          by : (k : ℕ) (s : Scope) (c : Construct) → Part k s c → Contains (data_at lowering (k, (s, c))) y → Below (read_directly d)
          by k s (Register a) has here =
              let m = length (written_bits s a.left) in
              let w = context_width s a.left a.right in
              let at_0 = contains_here (0, (a.right, w)) [] in
              let low = (zip_parts (written_bits s a.left) (low_bits m (step_places lowering k 0)) y here).1 in
              let lower = lowered_at d lowering lowered k s (Register a) has 0 a.right w at_0 in
              let j = from_map (Step k 0) (lowering k 0).bits y.1 (from_drop _ (step_places lowering k 0) y.1 low) in
              let fits = All-contains (λ j. j < length (lowering k 0).all) (lowering k 0).bits j.0 lower.places j.1 in
              let h = claims.steps k s (Register a) has 0 (omega arith) j.0 fits (j.0 + 1) (omega arith) (subst (λ p. Walk n (list.number p)) (sym j.2) walk) in
              let term : Contains (data_terms s a) (term_of lowering s y.1) = subst (λ l. Contains l (term_of lowering s y.1)) (low_terms of_designs d lowering lowered k s (Register a) has m 0 a.right w at_0) (contains-map (term_of lowering s) (low_bits m (step_places lowering k 0)) y.1 low) in
              beside_read s (Register a) (from_numbered 0 (parts d) (k, (s, Register a)) has) (bit_itself s.path (term_of lowering s y.1))
              (λ b has_b. Contains-append_right (written_bits s a.clock) (flat_map (bit_itself s.path) (data_terms s a)) b (into_flat (bit_itself s.path) (data_terms s a) (term_of lowering s y.1) b term has_b))
              (subst (λ p. Below (bit_itself s.path (term_of lowering s p))) j.2 h)
          by k s (Assignment left right) has here = absurd (none_in_nil y here)
          by k s (GateInstance gate outs ins) has here = absurd (none_in_nil y here)
          by k s (SupplyNet high m) has here = absurd (none_in_nil y here)
          by k s (InputConnection i pin f) has here = absurd (none_in_nil y here)
          by k s (OutputConnection i pin f) has here = absurd (none_in_nil y here)
          by k s BoxContents has here = absurd (none_in_nil y here)

      abbrev all_data : List (Bit × CellName)
      all_data = flat_map (data_at lowering) (enumerate_from 0 (parts d))

      outs_read : (q : ℕ) → Contains l.outs q → Walk n q → Below (read_directly d)
      outs_read q at walk = by (Contains-append_cases (map (λ b. list.number (NetBit b)) (top_outputs d)) (map list.number (data_places d lowering)) q (subst (λ all. Contains all q) list.outs at))
        where
          found : (o : Option (Bit × CellName)) (b : Bit) → find (λ (x : Bit × CellName). same_bit b x.0) all_data ≡ o → Walk n (list.number (option_map_or (λ (x : Bit × CellName). x.1) o (Constant false))) → Below (read_directly d)
          found None b is w = absurd (constant_ends n false w)
          found (Some y) b is w = data_read y (from_find (λ (x : Bit × CellName). same_bit b x.0) all_data y is).0 w

          by : Contains (map (λ b. list.number (NetBit b)) (top_outputs d)) q ⊎ Contains (map list.number (data_places d lowering)) q → Below (read_directly d)
          by (inl h) = let b = from_map (λ b. list.number (NetBit b)) (top_outputs d) q h in bit_read b.0 (Contains-append_left (top_outputs d) (flat_map read_at (parts d)) b.0 b.1) (subst (Walk n) (sym b.2) walk)
          by (inr h) =
              let p = from_map list.number (data_places d lowering) q h in
              let r = from_map (λ (r : RegisterBit). place_in all_data r.bit) (registers d) p.0 p.1 in
              found (find (λ (x : Bit × CellName). same_bit r.0.bit x.0) all_data) r.0.bit refl (subst (Walk n) (sym (ap list.number r.2 ∙ p.2)) walk)

      places_read : (clocks : List ℕ) → ((q : ℕ) → Contains clocks q → (b : Bit) × (list.number (NetBit b) ≡ q) × Contains (read_directly d) b) → (q : ℕ) → Contains (read_places l clocks) q → Walk n q → Below (read_directly d)
      places_read clocks timed q at walk = by (Contains-append_cases (flat_map read_by l.cells) (flat_map (λ (b : Pins). b.ins) l.boxes ++ (l.outs ++ clocks)) q at)
        where
          last : Contains l.outs q ⊎ Contains clocks q → Below (read_directly d)
          last (inl h) = outs_read q h walk
          last (inr h) = let b = timed q h in bit_read b.0 b.2 (subst (Walk n) (sym b.1) walk)

          after : Contains (flat_map (λ (b : Pins). b.ins) l.boxes) q ⊎ Contains (l.outs ++ clocks) q → Below (read_directly d)
          after (inl h) = pins_read q h walk
          after (inr h) = last (Contains-append_cases l.outs clocks q h)

          by : Contains (flat_map read_by l.cells) q ⊎ Contains (flat_map (λ (b : Pins). b.ins) l.boxes ++ (l.outs ++ clocks)) q → Below (read_directly d)
          by (inl h) = cells_read q h walk
          by (inr h) = after (Contains-append_cases (flat_map (λ (b : Pins). b.ins) l.boxes) (l.outs ++ clocks) q h)

  -- a place that is read leads from a bit that is read as it is
  pub read_from : BitsAreThere d → (clocks : List ℕ) → ((q : ℕ) → Contains clocks q → (b : Bit) × (list.number (NetBit b) ≡ q) × Contains (read_directly d) b) → (q : ℕ) → Contains (read_places l clocks) q → FollowsAt l.cells q goal → Below (read_directly d)
  read_from inside clocks timed q at follows = let w = walk_from q follows in places_read w.0 (claims w.0) inside clocks timed q at w.1

module _ (of_designs : DesignLaws) (d : Design) (lowering : Lowering) (l : LooseList) (list : IsListOf d lowering l) (lowered : IsLowering d lowering) (wired : IsWired d) where
  copy_closed : (e b c : Bit) → Contains (copied_bits d) (b, c) → IsCopyOf d c e → IsCopyOf d b e
  copy_closed e b c step (inl same) = inr (One (subst (λ u. Contains (copied_bits d) (b, u)) same step))
  copy_closed e b c step (inr rest) = inr (More step rest)

  -- to the place of a bit
  pub bits_followed : (e : Bit) → Contains (net_order d) e → (b : Bit) → Contains (net_order d) b → FollowsAt l.cells (list.number (NetBit b)) (list.number (NetBit e)) → IsCopyOf d b e
  bits_followed e there = followed of_designs d lowering l list lowered wired (list.number (NetBit e)) (λ b. IsCopyOf d b e)
      (λ p u listed on same. not_plain p (NetBit e) on refl (one_place_listed d lowering l list p (NetBit e) u _ listed (net_listed d lowering l list e there) same))
      (λ b has same. inl (net_same b e (one_place_listed d lowering l list (NetBit b) (NetBit e) _ _ (net_listed d lowering l list b has) (net_listed d lowering l list e there) same)))
      (λ i b has same. let j = enumerated_from 0 (cut_bits d) i b has in let no = one_place_listed d lowering l list (Input i) (NetBit e) _ _ (input_listed d lowering l list i (omega (arith, j.1, j.2))) (net_listed d lowering l list e there) same in cc)
      (copy_closed e)

  -- a bit whose place is read is read
  pub reads_followed : BitsAreThere d → (clocks : List ℕ) → ((q : ℕ) → Contains clocks q → (b : Bit) × (list.number (NetBit b) ≡ q) × Contains (read_directly d) b) → (e : Bit) → Contains (net_order d) e → IsReadPlace l clocks (list.number (NetBit e)) → IsReadBit d e
  reads_followed inside clocks timed e there read = from (read_from of_designs d lowering l list lowered wired (list.number (NetBit e)) (λ b. IsCopyOf d b e)
      (λ p u listed on same. not_plain p (NetBit e) on refl (one_place_listed d lowering l list p (NetBit e) u _ listed (net_listed d lowering l list e there) same))
      (λ b has same. inl (net_same b e (one_place_listed d lowering l list (NetBit b) (NetBit e) _ _ (net_listed d lowering l list b has) (net_listed d lowering l list e there) same)))
      (λ i b has same. let j = enumerated_from 0 (cut_bits d) i b has in let no = one_place_listed d lowering l list (Input i) (NetBit e) _ _ (input_listed d lowering l list i (omega (arith, j.1, j.2))) (net_listed d lowering l list e there) same in cc)
      (copy_closed e) inside clocks timed read.0 read.1 read.2)
    where
      by : (c : Bit) → Contains (read_directly d) c → IsCopyOf d c e → IsReadBit d e
      by c direct (inl same) = inl (subst (Contains (read_directly d)) same direct)
      by c direct (inr leads) = inr (c, direct, leads)

      from : (c : Bit) × Contains (read_directly d) c × IsCopyOf d c e → IsReadBit d e
      from h = by h.0 h.1 h.2

  -- to the place of an input
  pub inputs_followed : (i : ℕ) (e : Bit) → Contains (enumerate_from 0 (cut_bits d)) (i, e) → (b : Bit) → Contains (net_order d) b → FollowsAt l.cells (list.number (NetBit b)) (list.number (Input i)) → IsCopyOf d b e
  inputs_followed i e there =
      let j = enumerated_from 0 (cut_bits d) i e there in
      let listed_there = input_listed d lowering l list i (omega (arith, j.1, j.2)) in
      followed of_designs d lowering l list lowered wired (list.number (Input i)) (λ b. IsCopyOf d b e)
      (λ p u listed on same. not_plain p (Input i) on refl (one_place_listed d lowering l list p (Input i) u _ listed listed_there same))
      (λ b has same. let no = one_place_listed d lowering l list (NetBit b) (Input i) _ _ (net_listed d lowering l list b has) listed_there same in cc)
      (λ k b has same.
      let m = enumerated_from 0 (cut_bits d) k b has in
      let one = one_place_listed d lowering l list (Input k) (Input i) _ _ (input_listed d lowering l list k (omega (arith, m.1, m.2))) listed_there same in
      let number : k ≡ i = grind (arith, one) in
      let place : m.0 ≡ j.0 = omega (arith, number, m.1, j.1) in
      inl (sym (m.3 b) ∙ ap (λ n. get_or (cut_bits d) n b) place ∙ j.3 b))
      (copy_closed e)

module _ (of_designs : DesignLaws) where
  pub copies_are_listed : CopiesAreListed
  copies_are_listed d lowering l bounded once lowered list b c has there = (
    (λ at. bits_followed of_designs d lowering l list lowered (of_designs.wired d bounded) c there b has at),
    (λ follows. follows_at of_designs d lowering l list lowered (of_designs.wired d bounded) (of_designs.bits_there d bounded) once b c follows),
  )

  pub read_places_are_read : ReadPlacesAreReadBits
  read_places_are_read d lowering l list lowered bounded = reads_followed of_designs d lowering l list lowered (of_designs.wired d bounded) (of_designs.bits_there d bounded)
