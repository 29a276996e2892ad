-- A loop of dependence is a closed walk in the list of cells.
use Rattle.std.proofs.Common.{◌≡◌, ◌⊎◌, ℕ, zero, suc, ◌<◌, true, false, List, [], ◌++◌, map, flat_map, zip, length, Contains, refl, sym, ap, ◌∙◌, subst, inl, inr, arith}
use Rattle.std.specs.List.{enumerate_from, range_with_len}
use Rattle.std.specs.Option.{option_map_or}
use Rattle.std.proofs.lemmas.List.Elements.{All-contains, Contains-append_cases}
use Rattle.bb_ast.specs.Syntax.{Expression}
use Rattle.bb_names.specs.Sites.{Pin}
use Rattle.bb_expr.specs.Terms.{Term}
use Rattle.bb_expr.specs.Terms as term
use Rattle.bb_net.specs.declared.loose.LooseCell.TheVariants as cell
use Rattle.bb_net.specs.Loose.{LooseList, loose_at, operand_places, Reaches, IsOnClosedWalk}
use Rattle.bb_bits.specs.Closures.{Leads, One, More}
use Rattle.bb_design.specs.Hierarchy.{Design, Scope, path_to, boxes}
use Rattle.bb_design.specs.NetBits.{Bit, same_bit, net_order, bits_named, pin_bits, output_bits, written_bits}
use Rattle.bb_design.specs.Contexts.{width_of, context_width}
use Rattle.bb_bits.specs.Bits.{low_bits}
use Rattle.bb_design.specs.Constructs.{Construct, Assignment, GateInstance, Register, SupplyNet, InputConnection, OutputConnection, BoxContents, parts}
use Rattle.bb_design.specs.Dependence.{bits_below, needed, dependences, IsOnLoop}
use Rattle.bb_design.specs.Drivers.{Free, MadeOf, Box, Drive, driven, driven_by, terminal_terms, drives_at, drives, driven_bits}
use Rattle.bb_design.specs.GateFunctions.{on_terms, gate_gives}
use Rattle.bb_design.specs.Laws.{BitsAreThere}
use Rattle.bb_implements.specs.Laws.LoopLaws.{ListsWithoutWalks}
use Rattle.bb_implements.specs.Places.{CellName, Constant, Input, NetBit, Step, BoxPin, lowered_in, Lowering, IsLowering, step_places, gate_place, given_at, given_by_box, driving_places, place_in, IsListOf}
use Rattle.bb_design.specs.Refusals.{Cycle, IsAbsentInDesign, IsReportedOfDesign, AreDrivenOnce, IsAcyclic}
use Rattle.bb_design.specs.Registers.{cut_bits}
use Rattle.bb_lemmas.proofs.Members.{from_flat, from_map, from_drop, contains-map, contains_here, contains_cases, none_in_nil, find_there}
use Rattle.bb_lemmas.proofs.Numbered.{enumerated_from, from_numbered}
use Rattle.bb_implements.proofs.GivenDrives.{term_of, cut_driven, box_part, part_driven, whole_terms, low_terms, pin_terms, sides_meet, found}
use Rattle.bb_implements.proofs.ListedPlaces.{lowered_at, listed_cell, listed_below, net_listed}
use Rattle.bb_design.specs.Laws.Wired.{IsWired}
use Rattle.bb_implements.proofs.ListWalks.{WalkTo, arrived, steps_walk, gate_walk, pin_walk}
use Rattle.bb_lemmas.proofs.Zips.{zip_parts}
use Rattle.bb_lemmas.proofs.Apart.{one_by}
use Rattle.bb_design.specs.Laws.DesignLaws.{DesignLaws}

module _ (of_designs : DesignLaws) (d : Design) (lowering : Lowering) (l : LooseList) (list : IsListOf d lowering l) (lowered : IsLowering d lowering) (wired : IsWired d) where
  abbrev To : CellName → Bit → Type 0
  To p b = WalkTo d lowering l list lowered wired p b

  -- a drive of the bit of an entry, from whose place walks lead to all that its source needs
  abbrev Given : List Drive → Bit × CellName → Type 0
  Given all y = (z : Drive) × Contains all z × ((z.bit ≡ y.0) × ((b : Bit) → Contains (needed z.source) b → To y.1 b))

  sides : (k : ℕ) (s : Scope) (c : Construct) → Contains (enumerate_from 0 (parts d)) (k, (s, c)) → (n : ℕ) (e : Expression) (w : ℕ) → Contains (enumerate_from 0 (lowered_in (s, c))) (n, (e, w))
      → (all : List Bit) (places : List CellName) (terms : List Term) → map (term_of lowering s) places ≡ terms → ((p : CellName) → Contains places p → Contains (step_places lowering k n) p)
      → (y : Bit × CellName) → Contains (zip all places) y → Given (driven_by s.path all terms) y
  sides k s c has n e w at all places terms same sub y here =
      let lower = lowered_at d lowering lowered k s c has n e w at in
      let i = enumerated_from 0 (lowered_in (s, c)) n (e, w) at in
      let j = from_map (Step k n) (lowering k n).bits y.1 (sub y.1 (zip_parts all places y here).1) in
      let fits = All-contains (λ j. j < length (lowering k n).all) (lowering k n).bits j.0 lower.places j.1 in (
        driven (MadeOf s.path (term_of lowering s y.1)) y.0,
        sides_meet of_designs d lowering lowered s s.path all places terms same y here,
        (refl, subst (λ p. (b : Bit) → Contains (bits_below s.path (term_of lowering s p)) b → To p b) j.2 (steps_walk d lowering l list lowered wired k s c has n (omega (arith, i.1, i.2)) j.0 fits)),
      )

  -- the pins of an output connection are bits of nets themselves
  pins_walk : (s : Scope) (path : List (List ℕ)) (pin : Pin) (p : CellName) → Contains (map NetBit (pin_bits path pin)) p → (b : Bit) → Contains (bits_below path (term_of lowering s p)) b → To p b
  pins_walk s path pin p has =
      let q = from_map NetBit (pin_bits path pin) p has in
      let k = from_map (λ k. record { path = path; net = pin.name; place = k }) (range_with_len 0 pin.width) q.0 q.1 in
      subst (λ p. (b : Bit) → Contains (bits_below path (term_of lowering s p)) b → To p b) q.2
      (subst (λ (u : Bit). (b : Bit) → Contains (bits_below path (term.Net u.net u.place)) b → To (NetBit u) b) k.2 (λ b low. by b k.0 (contains_cases (record { path = path; net = pin.name; place = k.0 }) [] b low)))
    where
      by : (b : Bit) (k : ℕ) → (record { path = path; net = pin.name; place = k } ≡ b) ⊎ Contains [] b → To (NetBit (record { path = path; net = pin.name; place = k })) b
      by b k (inl e) = arrived d lowering l list lowered wired (NetBit (record { path = path; net = pin.name; place = k })) b (ap NetBit e)
      by b k (inr none) = absurd (none_in_nil b none)

  part_given : (k : ℕ) (s : Scope) (c : Construct) → Contains (enumerate_from 0 (parts d)) (k, (s, c)) → (y : Bit × CellName) → Contains (given_at lowering (k, (s, c))) y → Given (drives_at (s, c)) y
  part_given k s (Assignment left right) has y here =
      let n = length (written_bits s left) in
      let at = contains_here (0, (right, context_width s left right)) [] in
      sides k s (Assignment left right) has 0 right (context_width s left right) at (written_bits s left) (low_bits n (step_places lowering k 0)) _ (low_terms of_designs d lowering lowered k s (Assignment left right) has n 0 right (context_width s left right) at) (from_drop _ (step_places lowering k 0)) y here
  part_given k s (GateInstance gate outs ins) has y here =
      let t = gate_gives on_terms gate (terminal_terms s ins) in
      let b = from_map {B = Bit × CellName} (λ b. (b, gate_place lowering gate k (length ins))) (flat_map (written_bits s) outs) y here in (
        driven (MadeOf s.path t) b.0,
        contains-map (driven (MadeOf s.path t)) (flat_map (written_bits s) outs) b.0 b.1,
        (ap (λ (u : Bit × CellName). u.0) b.2, λ c low. subst (λ (u : Bit × CellName). To u.1 c) b.2 (gate_walk d lowering l list lowered wired k s gate outs ins has c low)),
      )
  part_given k s (Register r) has y here = absurd (none_in_nil y here)
  part_given k s (SupplyNet high n) has y here =
      let b = from_map {B = Bit × CellName} (λ b. (b, Constant high)) (bits_named s n) y here in
      (driven (MadeOf s.path (term.Const high)) b.0, contains-map (driven (MadeOf s.path (term.Const high))) (bits_named s n) b.0 b.1, (ap (λ (u : Bit × CellName). u.0) b.2, λ c low. absurd (none_in_nil c low)))
  part_given k s (InputConnection i pin e) has y here =
      let at = contains_here (0, (e, width_of s e)) [] in
      sides k s (InputConnection i pin e) has 0 e (width_of s e) at (pin_bits (path_to s.path i) pin) (step_places lowering k 0) _ (whole_terms of_designs d lowering lowered k s (InputConnection i pin e) has 0 e (width_of s e) at) (λ p h. h) y here
  part_given k s (OutputConnection i pin e) has y here =
      let path = path_to s.path i in
      let pins : List CellName = map NetBit (pin_bits path pin) in (
        driven (MadeOf path (term_of lowering s y.1)) y.0,
        sides_meet of_designs d lowering lowered s path (written_bits s e) pins _ (pin_terms lowering s path pin) y here,
        (refl, pins_walk s path pin y.1 (zip_parts (written_bits s e) pins y here).1),
      )
  part_given k s BoxContents has y here = absurd (none_in_nil y here)

  abbrev inputs : List (Bit × CellName)
  inputs = map (λ x. (x.1, Input x.0)) (enumerate_from 0 (cut_bits d))

  abbrev pins : List (Bit × CellName)
  pins = flat_map given_by_box (enumerate_from 0 (boxes d))

  abbrev others : List (Bit × CellName)
  others = flat_map (given_at lowering) (enumerate_from 0 (parts d))

  each_given : (y : Bit × CellName) → Contains (driving_places d lowering) y → Given (drives d) y
  each_given y has = by (Contains-append_cases (inputs ++ pins) others y has)
    where
      first : Contains inputs y ⊎ Contains pins y → Given (drives d) y
      first (inl h) =
          let i = from_map {B = Bit × CellName} (λ x. (x.1, Input x.0)) (enumerate_from 0 (cut_bits d)) y h in
          (driven Free i.0.1, cut_driven of_designs d i.0.1 (from_numbered 0 (cut_bits d) i.0 i.1), (ap (λ (u : Bit × CellName). u.0) i.2, λ c low. absurd (none_in_nil c low)))
      first (inr h) =
          let b = from_flat given_by_box (enumerate_from 0 (boxes d)) y h in
          let s = b.0.1 in
          let p = from_map {B = Bit × CellName} (λ (x : ℕ × Bit). (x.1, BoxPin b.0.0 x.0)) (enumerate_from 0 (output_bits s)) y b.2 in (
            driven (Box s p.0.0) p.0.1,
            part_driven of_designs d (s, BoxContents) (box_part of_designs d s (from_numbered 0 (boxes d) b.0 b.1)) (driven (Box s p.0.0) p.0.1) (contains-map (λ (x : ℕ × Bit). driven (Box s x.0) x.1) (enumerate_from 0 (output_bits s)) p.0 p.1),
            (ap (λ (u : Bit × CellName). u.0) p.2, λ c low. subst (λ (u : Bit × CellName). To u.1 c) p.2 (pin_walk d lowering l list lowered wired b.0.0 s b.1 p.0.0 p.0.1 p.1 c low)),
          )

      by : Contains (inputs ++ pins) y ⊎ Contains others y → Given (drives d) y
      by (inl h) = first (Contains-append_cases inputs pins y h)
      by (inr h) =
          let p = from_flat (given_at lowering) (enumerate_from 0 (parts d)) y h in
          let z = part_given p.0.0 p.0.1.0 p.0.1.1 p.1 y p.2 in
          (z.0, part_driven of_designs d p.0.1 (from_numbered 0 (parts d) p.0 p.1) z.0 z.1, z.2)

  -- one step or more of the list
  abbrev pub Steps : ℕ → ℕ → Type 0
  Steps a b = (m : ℕ) × Reaches (suc m) l a b

  further : (m a b c : ℕ) → Reaches (suc m) l a b → Steps b c → Steps a c
  further zero a b c walk rest = (suc rest.0, (walk.0, walk.1, subst (λ x. Reaches (suc rest.0) l x c) (sym walk.2) rest.1))
  further (suc m) a b c walk rest = let more = further m walk.0 b c walk.2 rest in (suc more.0, (walk.0, walk.1, more.1))

  abbrev pub place : Bit → ℕ
  place b = list.number (NetBit b)

  module _ (there : BitsAreThere d) (once : AreDrivenOnce d) where
    bit_there : (b c : Bit) → Contains (dependences d) (b, c) → Contains (net_order d) b
    bit_there b c has = All-contains (Contains (net_order d)) (driven_bits d) b there.driven (of_designs.dependent_driven d b c has)

    step_walk : (b c : Bit) → Contains (dependences d) (b, c) → Steps (place b) (place c)
    step_walk b c has =
        let x = from_flat (λ (z : Drive). map (λ e. (z.bit, e)) (needed z.source)) (drives d) (b, c) has in
        let e = from_map {B = Bit × Bit} (λ e. (x.0.bit, e)) (needed x.0.source) (b, c) x.2 in
        let bit : x.0.bit ≡ b = ap (λ (z : Bit × Bit). z.0) e.2 in
        let low : Contains (needed x.0.source) c = subst (Contains (needed x.0.source)) (ap (λ (z : Bit × Bit). z.1) e.2) e.1 in
        let y = found of_designs d lowering lowered wired there x.0 x.1 in
        let test : same_bit b y.0.0 ≡ true = ap (same_bit b) (y.2 ∙ bit) ∙ ((of_designs.distinguished b b).1 refl) in
        let f = find_there (λ (u : Bit × CellName). same_bit b u.0) (driving_places d lowering) y.0 y.1 test in
        let z = each_given f.0 f.3 in
        let same : x.0 ≡ z.0 = one_by (λ (u : Drive). u.bit) (drives d) once x.0 z.0 x.1 z.1 (bit ∙ (of_designs.distinguished b f.0.0).0 f.2 ∙ sym z.2.0) in
        let walk = z.2.1 c (subst (λ (u : Drive). Contains (needed u.source) c) same low) in
        let from : place_in (driving_places d lowering) b ≡ f.0.1 = ap (λ o. option_map_or (λ (u : Bit × CellName). u.1) o (Constant false)) f.1 in
        let q = place_in (driving_places d lowering) b in
        let reads : Contains (operand_places l.boxes (loose_at l (place b))) (list.number q) = subst (λ u. Contains (operand_places l.boxes u) (list.number q)) (sym (listed_cell d lowering l list (NetBit b) (cell.Copy (list.number q)) (net_listed d lowering l list b (bit_there b c has)))) (contains_here (list.number q) []) in
        let rest = subst (λ p. To p c) (sym from) walk in
        (rest.0, (list.number q, reads, rest.1))

    pub leads_walk : (b c : Bit) → Leads (dependences d) b c → Steps (place b) (place c)
    leads_walk b c (One has) = step_walk b c has
    leads_walk b c (More {y = y} has rest) = let first = step_walk b y has in further first.0 (place b) (place y) (place c) first.1 (leads_walk y c rest)

    starts : (b c : Bit) → Leads (dependences d) b c → Contains (net_order d) b
    starts b c (One has) = bit_there b c has
    starts b c (More {y = y} has rest) = bit_there b y has

    -- a bit on a loop has a place on a closed walk
    pub loop_walk : (b : Bit) → IsOnLoop d b → IsOnClosedWalk l (place b)
    loop_walk b loop =
        let walk = leads_walk b b loop in
        (listed_below d lowering l list (NetBit b) _ (net_listed d lowering l list b (starts b b loop)), walk.0, walk.1)

module _ (of_designs : DesignLaws) where
  pub lists_without_walks : ListsWithoutWalks
  lists_without_walks d lowering l bounded once lowered list none = by (of_designs.cycle d (of_designs.bits_there d bounded))
    where
      by : IsAbsentInDesign d Cycle ⊎ ((n : List ℕ) × IsReportedOfDesign d Cycle n) → IsAcyclic d
      by (inl h) = h
      by (inr reported) = absurd (none (list.number (NetBit reported.1.0)) (loop_walk of_designs d lowering l list lowered (of_designs.wired d bounded) (of_designs.bits_there d bounded) once reported.1.0 reported.1.1.holds))
