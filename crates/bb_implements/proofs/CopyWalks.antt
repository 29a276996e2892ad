-- Where a bit is a copy of another, copies in the list of cells lead from the one to the other.
use Rattle.std.proofs.Common.{◌≡◌, ◌⊎◌, ℕ, zero, suc, ◌+◌, ◌-◌, ◌<◌, ◌≤◌, Bool, true, false, if◌then◌else◌, List, [], ◌++◌, map, flat_map, fold, zip, length, get_or, All, Contains, refl, sym, ap, ◌∙◌, subst, inl, inr, arith}
use Rattle.std.specs.List.{enumerate_from, range_with_len}
use Rattle.std.specs.Option.{option_map_or}
use Rattle.std.proofs.lemmas.List.Elements.{All-contains, Contains-append_cases, Contains-get_or}
use Rattle.bb_ast.specs.declared.module.Gate.{Gate}
use Rattle.bb_ast.specs.declared.module.Gate.TheVariants as gates
use Rattle.bb_ast.specs.Syntax.{Expression}
use Rattle.bb_names.specs.Nets.{nets_of}
use Rattle.bb_names.specs.Sites.{Pin}
use Rattle.bb_expr.specs.declared.step.BitStep.{BitStep}
use Rattle.bb_expr.specs.declared.step.BitStep.TheVariants as steps
use Rattle.bb_expr.specs.Lowered.{step_term, term_within, term_at, name_at}
use Rattle.bb_expr.specs.Terms.{Term}
use Rattle.bb_expr.specs.Terms as term
use Rattle.bb_net.specs.declared.loose.LooseCell.TheVariants as cell
use Rattle.bb_net.specs.Loose.{LooseList}
use Rattle.bb_bits.specs.Closures.{Leads, One, More}
use Rattle.bb_design.specs.Constructs.{Construct, Assignment, GateInstance, Register, SupplyNet, InputConnection, OutputConnection, BoxContents, parts}
use Rattle.bb_design.specs.Contexts.{width_of, context_width}
use Rattle.bb_bits.specs.Bits.{low_bits}
use Rattle.bb_design.specs.Drivers.{Free, MadeOf, Box, Drive, driven, driven_by, terminal_terms, drives_at, drives, driven_bits}
use Rattle.bb_design.specs.GateFunctions.{on_terms, joins, joined, inverts, gate_gives}
use Rattle.bb_design.specs.Hierarchy.{Design, Scope, path_to, boxes}
use Rattle.bb_design.specs.Laws.{BitsAreThere}
use Rattle.bb_design.specs.NetBits.{Bit, same_bit, net_order, bits_named, pin_bits, output_bits, written_bits}
use Rattle.bb_implements.specs.Places.{CellName, Constant, Input, NetBit, Step, Joined, Inverted, BoxPin, lowered_in, Lowering, IsLowering, step_places, terminal_place, joined_place, gate_place, given_at, given_by_box, driving_places, place_in, join_cell, IsListOf}
use Rattle.bb_design.specs.Reading.{bit_itself, copied, copied_bits}
use Rattle.bb_implements.specs.Inside.ReadPlaces.{copy_steps, FollowsAt}
use Rattle.bb_design.specs.Refusals.{AreDrivenOnce}
use Rattle.bb_design.specs.Registers.{cut_bits}
use Rattle.bb_implements.specs.Implements.{IsCopyOf}
use Rattle.bb_lemmas.proofs.Members.{from_flat, from_map, from_drop, contains-map, contains_here, contains_cases, none_in_nil, find_there}
use Rattle.bb_implements.proofs.CopySteps.{copy_to}
use Rattle.bb_lemmas.proofs.Numbered.{enumerated_from, from_numbered}
use Rattle.bb_implements.proofs.GivenDrives.{term_of, cut_driven, box_part, part_driven, whole_terms, low_terms, pin_terms, sides_meet, found}
use Rattle.bb_implements.proofs.ListedPlaces.{IsListed, Occurs, lowered_at, listed_cell, listed_below, net_listed, step_occurs, joined_listed}
use Rattle.bb_implements.proofs.ListedSources.{terminal_there}
use Rattle.bb_design.specs.Laws.Wired.{IsWired}
use Rattle.bb_implements.proofs.GateTerms.{input_term, terminals_are}
use Rattle.bb_lemmas.proofs.Zips.{zip_parts}
use Rattle.bb_lemmas.proofs.Apart.{one_by}
use Rattle.bb_design.specs.Laws.DesignLaws.{DesignLaws}

-- only a bit of a net is a bit itself
pub no_bit : (path : List (List ℕ)) (g : Gate) (t u : Term) (b : Bit) → Contains (bit_itself path (joins on_terms g t u)) b → Contains (bit_itself path t) b × (joins on_terms g t u ≡ t) × ((p q : ℕ) → join_cell g p q ≡ cell.Copy p)
no_bit path gates.And t u b has = absurd (none_in_nil b has)
no_bit path gates.Nand t u b has = absurd (none_in_nil b has)
no_bit path gates.Or t u b has = absurd (none_in_nil b has)
no_bit path gates.Nor t u b has = absurd (none_in_nil b has)
no_bit path gates.Xor t u b has = absurd (none_in_nil b has)
no_bit path gates.Xnor t u b has = absurd (none_in_nil b has)
no_bit path gates.Buf t u b has = (has, refl, λ p q. refl)
no_bit path gates.Not t u b has = (has, refl, λ p q. refl)

module _ (of_designs : DesignLaws) (d : Design) (lowering : Lowering) (l : LooseList) (list : IsListOf d lowering l) (lowered : IsLowering d lowering) (wired : IsWired d) where
  -- copies lead from a place to that of a bit
  abbrev pub To : CellName → Bit → Type 0
  To p b = FollowsAt l.cells (list.number p) (list.number (NetBit b))

  pub copy_on : (p q : CellName) → IsListed d lowering l list p (cell.Copy (list.number q)) → (b : Bit) → To q b → To p b
  copy_on p q listed b (inl same) = inr (One (subst (λ k. Contains {X = ℕ × ℕ} (copy_steps l.cells) (list.number p, k)) same (copy_to l.cells (list.number p) (list.number q) (cell.Const false) (listed_below d lowering l list p _ listed) (listed_cell d lowering l list p _ listed))))
  copy_on p q listed b (inr leads) = inr (More (copy_to l.cells (list.number p) (list.number q) (cell.Const false) (listed_below d lowering l list p _ listed) (listed_cell d lowering l list p _ listed)) leads)

  module _ (k : ℕ) (s : Scope) (c : Construct) (has : Contains (enumerate_from 0 (parts d)) (k, (s, c))) (n : ℕ) (fits : n < length (lowered_in (s, c))) where
    abbrev all : List BitStep
    all = (lowering k n).all

    step_copies : (term : ℕ → Term) (j : ℕ) (b : Bit) (step : BitStep) → Occurs d lowering l list k s n j step → Contains (bit_itself s.path (step_term (nets_of s.source) step term)) b → To (Step k n j) b
    step_copies term j b (steps.Const t) occurs has = absurd (none_in_nil b has)
    step_copies term j b (steps.Net m i) occurs has = by (contains_cases (record { path = s.path; net = name_at (nets_of s.source) m; place = i }) [] b has)
      where
        by : (record { path = s.path; net = name_at (nets_of s.source) m; place = i } ≡ b) ⊎ Contains [] b → To (Step k n j) b
        by (inl e) = inl (occurs.0 ∙ ap (λ u. list.number (NetBit u)) e)
        by (inr none) = absurd (none_in_nil b none)
    step_copies term j b (steps.Not a) occurs has = absurd (none_in_nil b has)
    step_copies term j b (steps.And x y) occurs has = absurd (none_in_nil b has)
    step_copies term j b (steps.Or x y) occurs has = absurd (none_in_nil b has)
    step_copies term j b (steps.Xor x y) occurs has = absurd (none_in_nil b has)
    step_copies term j b (steps.Mux i t e) occurs has = absurd (none_in_nil b has)

    pub within_copies : (m j : ℕ) → j < m → j < length all → (b : Bit) → Contains (bit_itself s.path (term_within (nets_of s.source) all m j)) b → To (Step k n j) b
    unfolding term_within
    within_copies zero j below there b has = absurd (omega (arith, below))
    within_copies (suc m) j below there b low = step_copies (term_within (nets_of s.source) all m) j b (get_or all j (steps.Const false)) (step_occurs d lowering l list k s c has n fits j there) low

    -- from a step that is a bit of a net to that bit
    pub steps_copies : (j : ℕ) → j < length all → (b : Bit) → Contains (bit_itself s.path (term_at (nets_of s.source) all j)) b → To (Step k n j) b
    steps_copies j there b low = within_copies (j + 1) j (omega arith) there b low

  module _ (k : ℕ) (s : Scope) (gate : Gate) (outs ins : List Expression) (has : Contains (enumerate_from 0 (parts d)) (k, (s, GateInstance gate outs ins))) where
    abbrev shape : (1 ≤ length ins) × All (λ e. width_of s e ≡ 1) ins
    shape = wired.gates s gate outs ins (from_numbered 0 (parts d) (k, (s, GateInstance gate outs ins)) has)

    abbrev term_in : ℕ → Term
    term_in x = input_term d lowering lowered wired k s gate outs ins has x

    pub input_copies : (n : ℕ) → n < length ins → (b : Bit) → Contains (bit_itself s.path (term_in n)) b → To (terminal_place lowering k n) b
    input_copies n fits b low =
        let e = terminal_there s ins n fits shape.1 in
        let lower = lowered_at d lowering lowered k s (GateInstance gate outs ins) has n e.0 1 e.1 in
        let there = All-contains (λ j. j < length (lowering k n).all) (lowering k n).bits (get_or (lowering k n).bits 0 0) lower.places (Contains-get_or (lowering k n).bits 0 0 (omega (arith, lower.width))) in
        let y = enumerated_from 0 (lowered_in (s, GateInstance gate outs ins)) n (e.0, 1) e.1 in
        steps_copies k s (GateInstance gate outs ins) has n (omega (arith, y.1, y.2)) (get_or (lowering k n).bits 0 0) there b low

    joined_copies : (m a : ℕ) (t : Term) → a + m < length ins → (b : Bit) → (Contains (bit_itself s.path t) b → To (joined_place lowering k a) b)
        → Contains (bit_itself s.path (fold (joins on_terms gate) t (map term_in (range_with_len (a + 1) m)))) b → To (joined_place lowering k (a + m)) b
    joined_copies zero a t fits b first low = let same : a ≡ a + 0 = omega arith in subst (λ n. To (joined_place lowering k n) b) same (first low)
    joined_copies (suc m) a t fits b first low =
        let one : a + 1 ≡ suc a = omega arith in
        let further : a + 1 + m ≡ a + suc m = omega arith in
        let next : Contains (bit_itself s.path (joins on_terms gate t (term_in (a + 1)))) b → To (joined_place lowering k (a + 1)) b = λ h.
        let bit = no_bit s.path gate t (term_in (a + 1)) b h in
        subst (λ n. To (joined_place lowering k n) b) (sym one) (copy_on (Joined k (suc a)) (joined_place lowering k a)
        (subst (IsListed d lowering l list (Joined k (suc a))) (bit.2 (list.number (joined_place lowering k a)) (list.number (terminal_place lowering k (suc a)))) (joined_listed d lowering l list k s gate outs ins has a (omega (arith, fits)))) b (first bit.0)) in
        subst (λ n. To (joined_place lowering k n) b) further (joined_copies m (a + 1) (joins on_terms gate t (term_in (a + 1))) (omega (arith, fits)) b next low)

    all_copies : (n : ℕ) → n ≡ length ins → 1 ≤ n → (b : Bit) → Contains (bit_itself s.path (joined on_terms gate (map term_in (range_with_len 0 n)))) b → To (joined_place lowering k (n - 1)) b
    all_copies zero e one b low = absurd (omega (arith, one))
    all_copies (suc m) e one b low =
        let place : 0 + m ≡ suc m - 1 = omega arith in
        let from : 1 ≡ 0 + 1 = omega arith in
        subst (λ n. To (joined_place lowering k n) b) place (joined_copies m 0 (term_in 0) (omega (arith, e)) b (input_copies 0 (omega (arith, e)) b)
        (subst (λ a. Contains (bit_itself s.path (fold (joins on_terms gate) (term_in 0) (map term_in (range_with_len a m)))) b) from low))

    pub gate_copies : (b : Bit) → Contains (bit_itself s.path (gate_gives on_terms gate (terminal_terms s ins))) b → To (gate_place lowering gate k (length ins)) b
    gate_copies b low = by (inverts gate) refl (subst (λ ts. Contains (bit_itself s.path (gate_gives on_terms gate ts)) b) (terminals_are d lowering lowered wired k s gate outs ins has) low)
      where
        inside : Term
        inside = joined on_terms gate (map term_in (range_with_len 0 (length ins)))

        by : (o : Bool) → inverts gate ≡ o → Contains (bit_itself s.path (if o then term.Not inside else inside)) b → To (if o then Inverted k else joined_place lowering k (length ins - 1)) b
        by true e h = absurd (none_in_nil b h)
        by false e h = all_copies (length ins) refl shape.0 b h

  -- a drive of the bit of an entry, from whose place copies lead to the bit of which it is a copy
  abbrev Given : List Drive → Bit × CellName → Type 0
  Given all y = (z : Drive) × Contains all z × ((z.bit ≡ y.0) × ((b : Bit) → Contains (copied z.source) b → To y.1 b))

  sides : (k : ℕ) (s : Scope) (c : Construct) → Contains (enumerate_from 0 (parts d)) (k, (s, c)) → (n : ℕ) (e : Expression) (w : ℕ) → Contains (enumerate_from 0 (lowered_in (s, c))) (n, (e, w))
      → (all : List Bit) (places : List CellName) (terms : List Term) → map (term_of lowering s) places ≡ terms → ((p : CellName) → Contains places p → Contains (step_places lowering k n) p)
      → (y : Bit × CellName) → Contains (zip all places) y → Given (driven_by s.path all terms) y
  sides k s c has n e w at all places terms same sub y here =
      let lower = lowered_at d lowering lowered k s c has n e w at in
      let i = enumerated_from 0 (lowered_in (s, c)) n (e, w) at in
      let j = from_map (Step k n) (lowering k n).bits y.1 (sub y.1 (zip_parts all places y here).1) in
      let fits = All-contains (λ j. j < length (lowering k n).all) (lowering k n).bits j.0 lower.places j.1 in (
        driven (MadeOf s.path (term_of lowering s y.1)) y.0,
        sides_meet of_designs d lowering lowered s s.path all places terms same y here,
        (refl, subst (λ p. (b : Bit) → Contains (bit_itself s.path (term_of lowering s p)) b → To p b) j.2 (steps_copies k s c has n (omega (arith, i.1, i.2)) j.0 fits)),
      )

  -- the pins of an output connection are bits of nets themselves
  pins_copies : (s : Scope) (path : List (List ℕ)) (pin : Pin) (p : CellName) → Contains (map NetBit (pin_bits path pin)) p → (b : Bit) → Contains (bit_itself path (term_of lowering s p)) b → To p b
  pins_copies s path pin p has =
      let q = from_map NetBit (pin_bits path pin) p has in
      let k = from_map (λ k. record { path = path; net = pin.name; place = k }) (range_with_len 0 pin.width) q.0 q.1 in
      subst (λ p. (b : Bit) → Contains (bit_itself path (term_of lowering s p)) b → To p b) q.2
      (subst (λ (u : Bit). (b : Bit) → Contains (bit_itself path (term.Net u.net u.place)) b → To (NetBit u) b) k.2 (λ b low. by b k.0 (contains_cases (record { path = path; net = pin.name; place = k.0 }) [] b low)))
    where
      by : (b : Bit) (k : ℕ) → (record { path = path; net = pin.name; place = k } ≡ b) ⊎ Contains [] b → To (NetBit (record { path = path; net = pin.name; place = k })) b
      by b k (inl e) = inl (ap (λ u. list.number (NetBit u)) e)
      by b k (inr none) = absurd (none_in_nil b none)

  part_given : (k : ℕ) (s : Scope) (c : Construct) → Contains (enumerate_from 0 (parts d)) (k, (s, c)) → (y : Bit × CellName) → Contains (given_at lowering (k, (s, c))) y → Given (drives_at (s, c)) y
  part_given k s (Assignment left right) has y here =
      let n = length (written_bits s left) in
      let at = contains_here (0, (right, context_width s left right)) [] in
      sides k s (Assignment left right) has 0 right (context_width s left right) at (written_bits s left) (low_bits n (step_places lowering k 0)) _ (low_terms of_designs d lowering lowered k s (Assignment left right) has n 0 right (context_width s left right) at) (from_drop _ (step_places lowering k 0)) y here
  part_given k s (GateInstance gate outs ins) has y here =
      let t = gate_gives on_terms gate (terminal_terms s ins) in
      let b = from_map {B = Bit × CellName} (λ b. (b, gate_place lowering gate k (length ins))) (flat_map (written_bits s) outs) y here in (
        driven (MadeOf s.path t) b.0,
        contains-map (driven (MadeOf s.path t)) (flat_map (written_bits s) outs) b.0 b.1,
        (ap (λ (u : Bit × CellName). u.0) b.2, λ c low. subst (λ (u : Bit × CellName). To u.1 c) b.2 (gate_copies k s gate outs ins has c low)),
      )
  part_given k s (Register r) has y here = absurd (none_in_nil y here)
  part_given k s (SupplyNet high n) has y here =
      let b = from_map {B = Bit × CellName} (λ b. (b, Constant high)) (bits_named s n) y here in
      (driven (MadeOf s.path (term.Const high)) b.0, contains-map (driven (MadeOf s.path (term.Const high))) (bits_named s n) b.0 b.1, (ap (λ (u : Bit × CellName). u.0) b.2, λ c low. absurd (none_in_nil c low)))
  part_given k s (InputConnection i pin e) has y here =
      let at = contains_here (0, (e, width_of s e)) [] in
      sides k s (InputConnection i pin e) has 0 e (width_of s e) at (pin_bits (path_to s.path i) pin) (step_places lowering k 0) _ (whole_terms of_designs d lowering lowered k s (InputConnection i pin e) has 0 e (width_of s e) at) (λ p h. h) y here
  part_given k s (OutputConnection i pin e) has y here =
      let path = path_to s.path i in
      let pins : List CellName = map NetBit (pin_bits path pin) in (
        driven (MadeOf path (term_of lowering s y.1)) y.0,
        sides_meet of_designs d lowering lowered s path (written_bits s e) pins _ (pin_terms lowering s path pin) y here,
        (refl, pins_copies s path pin y.1 (zip_parts (written_bits s e) pins y here).1),
      )
  part_given k s BoxContents has y here = absurd (none_in_nil y here)

  abbrev inputs : List (Bit × CellName)
  inputs = map (λ x. (x.1, Input x.0)) (enumerate_from 0 (cut_bits d))

  abbrev pins : List (Bit × CellName)
  pins = flat_map given_by_box (enumerate_from 0 (boxes d))

  abbrev others : List (Bit × CellName)
  others = flat_map (given_at lowering) (enumerate_from 0 (parts d))

  each_given : (y : Bit × CellName) → Contains (driving_places d lowering) y → Given (drives d) y
  each_given y has = by (Contains-append_cases (inputs ++ pins) others y has)
    where
      first : Contains inputs y ⊎ Contains pins y → Given (drives d) y
      first (inl h) =
          let i = from_map {B = Bit × CellName} (λ x. (x.1, Input x.0)) (enumerate_from 0 (cut_bits d)) y h in
          (driven Free i.0.1, cut_driven of_designs d i.0.1 (from_numbered 0 (cut_bits d) i.0 i.1), (ap (λ (u : Bit × CellName). u.0) i.2, λ c low. absurd (none_in_nil c low)))
      first (inr h) =
          let b = from_flat given_by_box (enumerate_from 0 (boxes d)) y h in
          let s = b.0.1 in
          let p = from_map {B = Bit × CellName} (λ (x : ℕ × Bit). (x.1, BoxPin b.0.0 x.0)) (enumerate_from 0 (output_bits s)) y b.2 in (
            driven (Box s p.0.0) p.0.1,
            part_driven of_designs d (s, BoxContents) (box_part of_designs d s (from_numbered 0 (boxes d) b.0 b.1)) (driven (Box s p.0.0) p.0.1) (contains-map (λ (x : ℕ × Bit). driven (Box s x.0) x.1) (enumerate_from 0 (output_bits s)) p.0 p.1),
            (ap (λ (u : Bit × CellName). u.0) p.2, λ c low. absurd (none_in_nil c low)),
          )

      by : Contains (inputs ++ pins) y ⊎ Contains others y → Given (drives d) y
      by (inl h) = first (Contains-append_cases inputs pins y h)
      by (inr h) =
          let p = from_flat (given_at lowering) (enumerate_from 0 (parts d)) y h in
          let z = part_given p.0.0 p.0.1.0 p.0.1.1 p.1 y p.2 in
          (z.0, part_driven of_designs d p.0.1 (from_numbered 0 (parts d) p.0 p.1) z.0 z.1, z.2)

  abbrev place : Bit → ℕ
  place b = list.number (NetBit b)

  module _ (there : BitsAreThere d) (once : AreDrivenOnce d) where
    bit_there : (b c : Bit) → Contains (copied_bits d) (b, c) → Contains (net_order d) b
    bit_there b c has =
        let x = from_flat (λ (z : Drive). map (λ e. (z.bit, e)) (copied z.source)) (drives d) (b, c) has in
        let e = from_map {B = Bit × Bit} (λ e. (x.0.bit, e)) (copied x.0.source) (b, c) x.2 in
        All-contains (Contains (net_order d)) (driven_bits d) b there.driven (subst (Contains (driven_bits d)) (ap (λ (z : Bit × Bit). z.0) e.2) (contains-map (λ (z : Drive). z.bit) (drives d) x.0 x.1))

    step_leads : (b c : Bit) → Contains (copied_bits d) (b, c) → Leads (copy_steps l.cells) (place b) (place c)
    step_leads b c has =
        let x = from_flat (λ (z : Drive). map (λ e. (z.bit, e)) (copied z.source)) (drives d) (b, c) has in
        let e = from_map {B = Bit × Bit} (λ e. (x.0.bit, e)) (copied x.0.source) (b, c) x.2 in
        let bit : x.0.bit ≡ b = ap (λ (z : Bit × Bit). z.0) e.2 in
        let low : Contains (copied x.0.source) c = subst (Contains (copied x.0.source)) (ap (λ (z : Bit × Bit). z.1) e.2) e.1 in
        let y = found of_designs d lowering lowered wired there x.0 x.1 in
        let test : same_bit b y.0.0 ≡ true = ap (same_bit b) (y.2 ∙ bit) ∙ ((of_designs.distinguished b b).1 refl) in
        let f = find_there (λ (u : Bit × CellName). same_bit b u.0) (driving_places d lowering) y.0 y.1 test in
        let z = each_given f.0 f.3 in
        let same : x.0 ≡ z.0 = one_by (λ (u : Drive). u.bit) (drives d) once x.0 z.0 x.1 z.1 (bit ∙ (of_designs.distinguished b f.0.0).0 f.2 ∙ sym z.2.0) in
        let walk = z.2.1 c (subst (λ (u : Drive). Contains (copied u.source) c) same low) in
        let from : place_in (driving_places d lowering) b ≡ f.0.1 = ap (λ o. option_map_or (λ (u : Bit × CellName). u.1) o (Constant false)) f.1 in
        let q = place_in (driving_places d lowering) b in
        let listed = net_listed d lowering l list b (bit_there b c has) in
        let step : Contains {X = ℕ × ℕ} (copy_steps l.cells) (place b, list.number q) = copy_to l.cells (place b) (list.number q) (cell.Const false) (listed_below d lowering l list (NetBit b) _ listed) (listed_cell d lowering l list (NetBit b) _ listed) in
        on (list.number q) step (subst (λ p. To p c) (sym from) walk)
      where
        on : (k : ℕ) → Contains {X = ℕ × ℕ} (copy_steps l.cells) (place b, k) → FollowsAt l.cells k (place c) → Leads (copy_steps l.cells) (place b) (place c)
        on k step (inl same) = One (subst (λ j. Contains {X = ℕ × ℕ} (copy_steps l.cells) (place b, j)) same step)
        on k step (inr leads) = More step leads

    join : (j k m : ℕ) → Leads (copy_steps l.cells) j k → Leads (copy_steps l.cells) k m → Leads (copy_steps l.cells) j m
    join j k m (One step) rest = More step rest
    join j k m (More {y = y} step more) rest = More step (join y k m more rest)

    copies_lead : (b c : Bit) → Leads (copied_bits d) b c → Leads (copy_steps l.cells) (place b) (place c)
    copies_lead b c (One has) = step_leads b c has
    copies_lead b c (More {y = y} has rest) = join (place b) (place y) (place c) (step_leads b y has) (copies_lead y c rest)

    -- copies of bits are copies in the list
    pub follows_at : (b c : Bit) → IsCopyOf d b c → FollowsAt l.cells (place b) (place c)
    follows_at b c (inl same) = inl (ap place same)
    follows_at b c (inr leads) = inr (copies_lead b c leads)
