-- Where a bit depends on another, a walk in the list of cells leads from the one to the other.
use Rattle.std.proofs.Common.{◌≡◌, ◌⊎◌, ℕ, zero, suc, ◌+◌, ◌-◌, ◌<◌, ◌≤◌, Bool, true, false, if◌then◌else◌, List, [], ◌∷◌, ◌++◌, map, fold, length, get_or, All, Contains, refl, sym, ap, ◌∙◌, subst, inl, inr, arith}
use Rattle.std.specs.List.{enumerate_from, range_with_len}
use Rattle.std.proofs.lemmas.List.Elements.{All-contains, Contains-get_or, Contains-append_cases}
use Rattle.bb_ast.specs.declared.module.Gate.{Gate}
use Rattle.bb_ast.specs.declared.module.Gate.TheVariants as gates
use Rattle.bb_ast.specs.Syntax.{Expression}
use Rattle.bb_names.specs.Nets.{nets_of}
use Rattle.bb_expr.specs.declared.step.BitStep.{BitStep}
use Rattle.bb_expr.specs.declared.step.BitStep.TheVariants as steps
use Rattle.bb_expr.specs.Lowered.{ReadsEarlier, step_term, term_within, term_at, name_at}
use Rattle.bb_expr.specs.Terms.{Term}
use Rattle.bb_expr.specs.Terms as term
use Rattle.bb_net.specs.declared.loose.LooseCell.{LooseCell}
use Rattle.bb_net.specs.declared.loose.LooseCell.TheVariants as cell
use Rattle.bb_net.specs.Loose.{LooseList, operand_places, Reaches}
use Rattle.bb_net.specs.Netlists.{Pins}
use Rattle.bb_design.specs.Hierarchy.{Design, Scope, boxes}
use Rattle.bb_design.specs.NetBits.{Bit, input_bits, output_bits}
use Rattle.bb_design.specs.Contexts.{width_of}
use Rattle.bb_design.specs.Constructs.{Construct, GateInstance, parts}
use Rattle.bb_design.specs.Dependence.{bits_below}
use Rattle.bb_design.specs.Drivers.{terminal_terms}
use Rattle.bb_design.specs.GateFunctions.{on_terms, joins, joined, inverts, gate_gives}
use Rattle.bb_implements.specs.Places.{CellName, NetBit, Step, Joined, Inverted, BoxPin, lowered_in, Lowering, IsLowering, terminal_place, joined_place, gate_place, join_cell, IsListOf}
use Rattle.bb_lemmas.proofs.Numbered.{enumerated_from, from_numbered}
use Rattle.bb_lemmas.proofs.Members.{contains-map, contains_here, contains_cases, none_in_nil}
use Rattle.bb_implements.proofs.ListedPlaces.{IsListed, Occurs, lowered_at, reads_there, listed_cell, pin_listed, step_occurs, joined_listed, inverted_listed, box_is}
use Rattle.bb_implements.proofs.GateTerms.{input_term, terminals_are}
use Rattle.bb_implements.proofs.ListedSources.{terminal_there}
use Rattle.bb_design.specs.Laws.Wired.{IsWired}

module _ (d : Design) (lowering : Lowering) (l : LooseList) (list : IsListOf d lowering l) (lowered : IsLowering d lowering) (wired : IsWired d) where
  -- some steps of the list lead from a place to that of a bit
  abbrev pub WalkTo : CellName → Bit → Type 0
  WalkTo p b = (m : ℕ) × Reaches m l (list.number p) (list.number (NetBit b))

  pub walk_on : (p q : CellName) (u : LooseCell) → IsListed d lowering l list p u → Contains (operand_places l.boxes u) (list.number q) → (b : Bit) → WalkTo q b → WalkTo p b
  walk_on p q u has reads b walk = (suc walk.0, (list.number q, subst (λ x. Contains (operand_places l.boxes x) (list.number q)) (sym (listed_cell d lowering l list p u has)) reads, walk.1))

  pub arrived : (p : CellName) (b : Bit) → p ≡ NetBit b → WalkTo p b
  arrived p b e = (0, ap list.number e)

  module _ (k : ℕ) (s : Scope) (c : Construct) (has : Contains (enumerate_from 0 (parts d)) (k, (s, c))) (n : ℕ) (fits : n < length (lowered_in (s, c))) where
    abbrev all : List BitStep
    all = (lowering k n).all

    abbrev Earlier : (ℕ → Term) → ℕ → Bit → Type 0
    Earlier term j b = (a : ℕ) → a < j → Contains (bits_below s.path (term a)) b → WalkTo (Step k n a) b

    -- from a step to what its operator is made of
    step_walk : (term : ℕ → Term) (j : ℕ) (b : Bit) → Earlier term j b → (step : BitStep) → Occurs d lowering l list k s n j step → ReadsEarlier (nets_of s.source) j step
        → Contains (bits_below s.path (step_term (nets_of s.source) step term)) b → WalkTo (Step k n j) b
    step_walk term j b earlier (steps.Const t) occurs reads low = absurd (none_in_nil b low)
    step_walk term j b earlier (steps.Net m i) occurs reads low = by (contains_cases (record { path = s.path; net = name_at (nets_of s.source) m; place = i }) [] b low)
      where
        by : (record { path = s.path; net = name_at (nets_of s.source) m; place = i } ≡ b) ⊎ Contains [] b → WalkTo (Step k n j) b
        by (inl e) = (0, occurs.0 ∙ ap (λ u. list.number (NetBit u)) e)
        by (inr none) = absurd (none_in_nil b none)
    step_walk term j b earlier (steps.Not a) occurs reads low = walk_on (Step k n j) (Step k n a) _ occurs.1 (contains_here (list.number (Step k n a)) []) b (earlier a reads low)
    step_walk term j b earlier (steps.And x y) occurs reads low = by (Contains-append_cases (bits_below s.path (term x)) (bits_below s.path (term y)) b low)
      where
        by : Contains (bits_below s.path (term x)) b ⊎ Contains (bits_below s.path (term y)) b → WalkTo (Step k n j) b
        by (inl h) = walk_on (Step k n j) (Step k n x) _ occurs.1 (0, omega arith, refl) b (earlier x reads.0 h)
        by (inr h) = walk_on (Step k n j) (Step k n y) _ occurs.1 (1, omega arith, refl) b (earlier y reads.1 h)
    step_walk term j b earlier (steps.Or x y) occurs reads low = by (Contains-append_cases (bits_below s.path (term x)) (bits_below s.path (term y)) b low)
      where
        by : Contains (bits_below s.path (term x)) b ⊎ Contains (bits_below s.path (term y)) b → WalkTo (Step k n j) b
        by (inl h) = walk_on (Step k n j) (Step k n x) _ occurs.1 (0, omega arith, refl) b (earlier x reads.0 h)
        by (inr h) = walk_on (Step k n j) (Step k n y) _ occurs.1 (1, omega arith, refl) b (earlier y reads.1 h)
    step_walk term j b earlier (steps.Xor x y) occurs reads low = by (Contains-append_cases (bits_below s.path (term x)) (bits_below s.path (term y)) b low)
      where
        by : Contains (bits_below s.path (term x)) b ⊎ Contains (bits_below s.path (term y)) b → WalkTo (Step k n j) b
        by (inl h) = walk_on (Step k n j) (Step k n x) _ occurs.1 (0, omega arith, refl) b (earlier x reads.0 h)
        by (inr h) = walk_on (Step k n j) (Step k n y) _ occurs.1 (1, omega arith, refl) b (earlier y reads.1 h)
    step_walk term j b earlier (steps.Mux i t e) occurs reads low = by (Contains-append_cases (bits_below s.path (term i) ++ bits_below s.path (term t)) (bits_below s.path (term e)) b low)
      where
        first : Contains (bits_below s.path (term i)) b ⊎ Contains (bits_below s.path (term t)) b → WalkTo (Step k n j) b
        first (inl h) = walk_on (Step k n j) (Step k n i) _ occurs.1 (0, omega arith, refl) b (earlier i reads.0 h)
        first (inr h) = walk_on (Step k n j) (Step k n t) _ occurs.1 (1, omega arith, refl) b (earlier t reads.1 h)

        by : Contains (bits_below s.path (term i) ++ bits_below s.path (term t)) b ⊎ Contains (bits_below s.path (term e)) b → WalkTo (Step k n j) b
        by (inl h) = first (Contains-append_cases (bits_below s.path (term i)) (bits_below s.path (term t)) b h)
        by (inr h) = walk_on (Step k n j) (Step k n e) _ occurs.1 (2, omega arith, refl) b (earlier e reads.2 h)

    within_walk : (m j : ℕ) → j < m → j < length all → (b : Bit) → Contains (bits_below s.path (term_within (nets_of s.source) all m j)) b → WalkTo (Step k n j) b
    unfolding term_within
    within_walk zero j below there b low = absurd (omega (arith, below))
    within_walk (suc m) j below there b low =
        step_walk (term_within (nets_of s.source) all m) j b (λ a lt h. within_walk m a (omega (arith, lt, below)) (omega (arith, lt, there)) b h) (get_or all j (steps.Const false))
        (step_occurs d lowering l list k s c has n fits j there) (reads_there d lowering lowered k s c has n fits j there) low

    -- from a step to each bit of which it is made
    pub steps_walk : (j : ℕ) → j < length all → (b : Bit) → Contains (bits_below s.path (term_at (nets_of s.source) all j)) b → WalkTo (Step k n j) b
    steps_walk j there b low = within_walk (j + 1) j (omega arith) there b low

  module _ (k : ℕ) (s : Scope) (gate : Gate) (outs ins : List Expression) (has : Contains (enumerate_from 0 (parts d)) (k, (s, GateInstance gate outs ins))) where
    abbrev shape : (1 ≤ length ins) × All (λ e. width_of s e ≡ 1) ins
    shape = wired.gates s gate outs ins (from_numbered 0 (parts d) (k, (s, GateInstance gate outs ins)) has)

    abbrev input : ℕ → Term
    input n = input_term d lowering lowered wired k s gate outs ins has n

    input_walk : (n : ℕ) → n < length ins → (b : Bit) → Contains (bits_below s.path (input n)) b → WalkTo (terminal_place lowering k n) b
    input_walk n fits b low =
        let e = terminal_there s ins n fits shape.1 in
        let lower = lowered_at d lowering lowered k s (GateInstance gate outs ins) has n e.0 1 e.1 in
        let there = All-contains (λ j. j < length (lowering k n).all) (lowering k n).bits (get_or (lowering k n).bits 0 0) lower.places (Contains-get_or (lowering k n).bits 0 0 (omega (arith, lower.width))) in
        let y = enumerated_from 0 (lowered_in (s, GateInstance gate outs ins)) n (e.0, 1) e.1 in
        steps_walk k s (GateInstance gate outs ins) has n (omega (arith, y.1, y.2)) (get_or (lowering k n).bits 0 0) there b low

    -- from an operator of the gate to what it joins
    two_walk : (x : ℕ) (p q : CellName) (t u : Term) (b : Bit) (joins : LooseCell) → operand_places l.boxes joins ≡ list.number p ∷ list.number q ∷ [] → IsListed d lowering l list (Joined k x) joins
        → (Contains (bits_below s.path t) b → WalkTo p b) → (Contains (bits_below s.path u) b → WalkTo q b) → Contains (bits_below s.path t ++ bits_below s.path u) b → WalkTo (Joined k x) b
    two_walk x p q t u b joins reads listed first second low = by (Contains-append_cases (bits_below s.path t) (bits_below s.path u) b low)
      where
        by : Contains (bits_below s.path t) b ⊎ Contains (bits_below s.path u) b → WalkTo (Joined k x) b
        by (inl h) = walk_on (Joined k x) p joins listed (subst (λ r. Contains r (list.number p)) (sym reads) (0, omega arith, refl)) b (first h)
        by (inr h) = walk_on (Joined k x) q joins listed (subst (λ r. Contains r (list.number q)) (sym reads) (1, omega arith, refl)) b (second h)

    join_walk : (g : Gate) (x : ℕ) (p q : CellName) (t u : Term) (b : Bit) → IsListed d lowering l list (Joined k x) (join_cell g (list.number p) (list.number q)) → (Contains (bits_below s.path t) b → WalkTo p b)
        → (Contains (bits_below s.path u) b → WalkTo q b) → Contains (bits_below s.path (joins on_terms g t u)) b → WalkTo (Joined k x) b
    join_walk gates.And x p q t u b listed first second low = two_walk x p q t u b (cell.And (list.number p) (list.number q)) refl listed first second low
    join_walk gates.Nand x p q t u b listed first second low = two_walk x p q t u b (cell.And (list.number p) (list.number q)) refl listed first second low
    join_walk gates.Or x p q t u b listed first second low = two_walk x p q t u b (cell.Or (list.number p) (list.number q)) refl listed first second low
    join_walk gates.Nor x p q t u b listed first second low = two_walk x p q t u b (cell.Or (list.number p) (list.number q)) refl listed first second low
    join_walk gates.Xor x p q t u b listed first second low = two_walk x p q t u b (cell.Xor (list.number p) (list.number q)) refl listed first second low
    join_walk gates.Xnor x p q t u b listed first second low = two_walk x p q t u b (cell.Xor (list.number p) (list.number q)) refl listed first second low
    join_walk gates.Buf x p q t u b listed first second low = walk_on (Joined k x) p (cell.Copy (list.number p)) listed (0, omega arith, refl) b (first low)
    join_walk gates.Not x p q t u b listed first second low = walk_on (Joined k x) p (cell.Copy (list.number p)) listed (0, omega arith, refl) b (first low)

    joined_walk : (m a : ℕ) (t : Term) → a + m < length ins → (b : Bit) → (Contains (bits_below s.path t) b → WalkTo (joined_place lowering k a) b)
        → Contains (bits_below s.path (fold (joins on_terms gate) t (map input (range_with_len (a + 1) m)))) b → WalkTo (joined_place lowering k (a + m)) b
    joined_walk zero a t fits b first low = let same : a ≡ a + 0 = omega arith in subst (λ n. WalkTo (joined_place lowering k n) b) same (first low)
    joined_walk (suc m) a t fits b first low =
        let one : a + 1 ≡ suc a = omega arith in
        let further : a + 1 + m ≡ a + suc m = omega arith in
        let next : Contains (bits_below s.path (joins on_terms gate t (input (a + 1)))) b → WalkTo (joined_place lowering k (a + 1)) b = λ h.
        subst (λ n. WalkTo (joined_place lowering k n) b) (sym one) (join_walk gate (suc a) (joined_place lowering k a) (terminal_place lowering k (suc a)) t (input (suc a)) b (joined_listed d lowering l list k s gate outs ins has a (omega (arith, fits))) first
        (input_walk (suc a) (omega (arith, fits)) b) (subst (λ n. Contains (bits_below s.path (joins on_terms gate t (input n))) b) one h)) in
        subst (λ n. WalkTo (joined_place lowering k n) b) further (joined_walk m (a + 1) (joins on_terms gate t (input (a + 1))) (omega (arith, fits)) b next low)

    all_walk : (n : ℕ) → n ≡ length ins → 1 ≤ n → (b : Bit) → Contains (bits_below s.path (joined on_terms gate (map input (range_with_len 0 n)))) b → WalkTo (joined_place lowering k (n - 1)) b
    all_walk zero e one b low = absurd (omega (arith, one))
    all_walk (suc m) e one b low =
        let place : 0 + m ≡ suc m - 1 = omega arith in
        let from : 1 ≡ 0 + 1 = omega arith in
        subst (λ n. WalkTo (joined_place lowering k n) b) place (joined_walk m 0 (input 0) (omega (arith, e)) b (input_walk 0 (omega (arith, e)) b)
        (subst (λ a. Contains (bits_below s.path (fold (joins on_terms gate) (input 0) (map input (range_with_len a m)))) b) from low))

    -- from the place of a gate to each bit of which it is made
    pub gate_walk : (b : Bit) → Contains (bits_below s.path (gate_gives on_terms gate (terminal_terms s ins))) b → WalkTo (gate_place lowering gate k (length ins)) b
    gate_walk b low = by (inverts gate) refl (subst (λ ts. Contains (bits_below s.path (gate_gives on_terms gate ts)) b) (terminals_are d lowering lowered wired k s gate outs ins has) low)
      where
        inside : Term
        inside = joined on_terms gate (map input (range_with_len 0 (length ins)))

        by : (o : Bool) → inverts gate ≡ o → Contains (bits_below s.path (if o then term.Not inside else inside)) b → WalkTo (if o then Inverted k else joined_place lowering k (length ins - 1)) b
        by true e h = walk_on (Inverted k) (joined_place lowering k (length ins - 1)) _ (inverted_listed d lowering l list k s gate outs ins has e) (0, omega arith, refl) b (all_walk (length ins) refl shape.0 b h)
        by false e h = all_walk (length ins) refl shape.0 b h

  -- from an output pin of a box to its input pins
  pub pin_walk : (i : ℕ) (s : Scope) → Contains (enumerate_from 0 (boxes d)) (i, s) → (p : ℕ) (y : Bit) → Contains (enumerate_from 0 (output_bits s)) (p, y) → (b : Bit) → Contains (input_bits s) b → WalkTo (BoxPin i p) b
  pin_walk i s has p y at b low = walk_on (BoxPin i p) (NetBit b) (cell.BoxOut i p) (pin_listed d lowering l list i s has p y at)
      (subst (λ (q : Pins). Contains q.ins (list.number (NetBit b))) (sym (box_is d lowering l list i s has)) (contains-map (λ x. list.number (NetBit x)) (input_bits s) b low)) b (arrived (NetBit b) b refl)
