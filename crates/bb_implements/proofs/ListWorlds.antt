-- Bits that meet the equations of the list of cells of a design make a world of it: each driven bit has what its source gives.
use Rattle.std.proofs.Common.{◌≡◌, ◌≢◌, ◌⊎◌, ℕ, ◌<◌, Bool, true, false, if◌then◌else◌, List, [], ◌∷◌, ◌++◌, map, flat_map, length, get_or, zip, AllPairs, Contains, refl, sym, ap, ap₂, ◌∙◌, subst, inl, inr, arith}
use Rattle.std.specs.List.{enumerate_from, list_any}
use Rattle.std.specs.Option.{option_map_or}
use Rattle.std.proofs.lemmas.List.{map-append, get_or-map}
use Rattle.std.proofs.lemmas.List.Elements.{All-contains, Contains-append_cases, Contains-append_right}
use Rattle.bb_ast.specs.Syntax.{Expression}
use Rattle.bb_bits.specs.Contents.{Contents, output_bit}
use Rattle.bb_expr.specs.Terms.{Term, term_bit}
use Rattle.bb_expr.specs.Terms as term
use Rattle.bb_net.specs.Loose.{LooseList, IsLooseValue}
use Rattle.bb_design.specs.Hierarchy.{Design, Scope, path_to, boxes}
use Rattle.bb_design.specs.NetBits.{Bit, same_bit, net_order, bits_named, pin_bits, input_bits, output_bits, top_inputs, written_bits}
use Rattle.bb_design.specs.Contexts.{width_of, context_width, made_in}
use Rattle.bb_bits.specs.Bits.{low_bits}
use Rattle.bb_design.specs.Constructs.{Construct, Assignment, GateInstance, Register, SupplyNet, InputConnection, OutputConnection, BoxContents, parts}
use Rattle.bb_design.specs.Drivers.{DrivingSource, Free, MadeOf, Box, Drive, driven, driven_by, terminal_terms, drives_at, drives, driven_bits}
use Rattle.bb_design.specs.Laws.DrivenWorlds.{Gives, IsGiven, IsDrivenWorld, ConstructsHoldBitByBit}
use Rattle.bb_design.specs.GateFunctions.{on_terms, gate_gives}
use Rattle.bb_design.specs.Laws.{BitsAreThere}
use Rattle.bb_implements.specs.Laws.ListLaws.{vector_bits, given_by_contents, ListsGiveWorlds}
use Rattle.bb_implements.specs.Places.{CellName, Constant, Input, BoxPin, lowered_in, Lowering, IsLowering, step_places, gate_place, given_at, given_by_box, driving_places, IsListOf}
use Rattle.bb_design.specs.Refusals.{TwoDrivers, Cycle, AreDrivenOnce, IsAcyclic}
use Rattle.bb_design.specs.Registers.{RegisterBit, registers, cut_bits}
use Rattle.bb_design.specs.Texts.{path_text, bit_text}
use Rattle.bb_design.specs.Worlds.{World, Vector, HasVector, bit_in, bits_in}
use Rattle.bb_net.specs.CutPoints.{TopInput, State}
use Rattle.bb_lemmas.proofs.LowBits.{low-map}
use Rattle.bb_lemmas.proofs.Members.{all_from, from_flat, from_map, contains-map, contains_here, contains_there, none_in_nil, find_there}
use Rattle.bb_lemmas.proofs.Numbered.{enumerated_from, from_numbered}
use Rattle.bb_lemmas.proofs.Zips.{zip_across}
use Rattle.bb_implements.proofs.GivenDrives.{top_driven, state_driven, cut_driven, box_part, part_driven, found}
use Rattle.bb_design.specs.Laws.Wired.{IsWired}
use Rattle.bb_implements.proofs.ListValues.{at, world, constant_value, input_value, net_value, pin_value, expression_value, gate_value, pins_same}
use Rattle.bb_lemmas.proofs.Apart.{apart_append, one_by}
use Rattle.bb_design.specs.Laws.DesignLaws.{DesignLaws}

module _ (of_designs : DesignLaws) (d : Design) (lowering : Lowering) (l : LooseList) (list : IsListOf d lowering l) (lowered : IsLowering d lowering) (wired : IsWired d)
    (contents : Contents) (x : Vector) (bits : List Bool) (value : IsLooseValue l (vector_bits d x) (given_by_contents d contents) bits) where
  abbrev v : CellName → Bool
  v = at d lowering l list lowered wired contents x bits value

  abbrev pub w : World
  w = world d lowering l list lowered wired contents x bits value

  -- the bit that the vector has for a bit without source
  abbrev cut_value : Bit → Bool
  cut_value b = if list_any (same_bit b) (top_inputs d) then x (TopInput (bit_text d b)) else x (State (bit_text d b))

  -- what a source gives, also where nothing in the design does
  SourceGives : DrivingSource → Bit → Bool → Type 0
  SourceGives Free b bit = bit ≡ cut_value b
  SourceGives (MadeOf path t) b bit = bit ≡ term_bit (w path) t
  SourceGives (Box s pin) b bit = bit ≡ output_bit (contents (path_text s.path)) (bits_in w (input_bits s)) pin

  -- a place that gives a bit is that of a drive
  abbrev Meets : Bit × CellName → Drive → Type 0
  Meets y z = (z.bit ≡ y.0) × SourceGives z.source y.0 (v y.1)

  module _ (k : ℕ) (s : Scope) (c : Construct) (has : Contains (enumerate_from 0 (parts d)) (k, (s, c))) where
    -- bits side by side with places and with terms of the same bits
    sides_meet : (path : List (List ℕ)) (all : List Bit) (places : List CellName) (terms : List Term) → map v places ≡ map (term_bit (w path)) terms → (y : Bit × CellName) → Contains (zip all places) y
        → (z : Drive) × Contains (driven_by path all terms) z × Meets y z
    unfolding SourceGives
    sides_meet path all places terms same y here =
        let t = zip_across v (term_bit (w path)) all places terms same y.0 y.1 here in
        (driven (MadeOf path t.0) y.0, contains-map {B = Drive} (λ (x : Bit × Term). driven (MadeOf path x.1) x.0) (zip all terms) (y.0, t.0) t.1, (refl, t.2))

    -- an expression and the steps into which it is lowered
    whole_same : (n : ℕ) (e : Expression) (width : ℕ) → Contains (enumerate_from 0 (lowered_in (s, c))) (n, (e, width)) → map v (step_places lowering k n) ≡ map (term_bit (w s.path)) (made_in s e width).bits
    whole_same n e width there = expression_value d lowering l list lowered wired contents x bits value k s c has n e width there

    pub low_same : (m n : ℕ) (e : Expression) (width : ℕ) → Contains (enumerate_from 0 (lowered_in (s, c))) (n, (e, width)) → map v (low_bits m (step_places lowering k n)) ≡ map (term_bit (w s.path)) (low_bits m (made_in s e width).bits)
    low_same m n e width there = low-map v m (step_places lowering k n) ∙ ap (low_bits m) (whole_same n e width there) ∙ sym (low-map (term_bit (w s.path)) m (made_in s e width).bits)

  -- what gives a bit of a construct is what drives it
  given_meets : (k : ℕ) (s : Scope) (c : Construct) → Contains (enumerate_from 0 (parts d)) (k, (s, c)) → (y : Bit × CellName) → Contains (given_at lowering (k, (s, c))) y → (z : Drive) × Contains (drives_at (s, c)) z × Meets y z
  unfolding SourceGives
  given_meets k s (Assignment left right) has y here = sides_meet k s (Assignment left right) has s.path (written_bits s left) _ _
      (low_same k s (Assignment left right) has (length (written_bits s left)) 0 right (context_width s left right) (contains_here (0, (right, context_width s left right)) [])) y here
  given_meets k s (GateInstance gate outs ins) has y here =
      let place = gate_place lowering gate k (length ins) in
      let t = gate_gives on_terms gate (terminal_terms s ins) in
      let b = from_map {B = Bit × CellName} (λ b. (b, place)) (flat_map (written_bits s) outs) y here in
      let same : v place ≡ term_bit (w s.path) t = gate_value d lowering l list lowered wired contents x bits value k s gate outs ins has ∙ sym (of_designs.gates (w s.path) gate (terminal_terms s ins)) in
      (driven (MadeOf s.path t) b.0, contains-map (driven (MadeOf s.path t)) (flat_map (written_bits s) outs) b.0 b.1, (ap (λ (u : Bit × CellName). u.0) b.2, ap (λ (u : Bit × CellName). v u.1) (sym b.2) ∙ same))
  given_meets k s (Register r) has y here = absurd (none_in_nil y here)
  given_meets k s (SupplyNet high n) has y here =
      let b = from_map {B = Bit × CellName} (λ b. (b, Constant high)) (bits_named s n) y here in
      (driven (MadeOf s.path (term.Const high)) b.0, contains-map (driven (MadeOf s.path (term.Const high))) (bits_named s n) b.0 b.1, (ap (λ (u : Bit × CellName). u.0) b.2, ap (λ (u : Bit × CellName). v u.1) (sym b.2) ∙ constant_value d lowering l list lowered wired contents x bits value high))
  given_meets k s (InputConnection i pin e) has y here = sides_meet k s (InputConnection i pin e) has s.path (pin_bits (path_to s.path i) pin) _ _
      (whole_same k s (InputConnection i pin e) has 0 e (width_of s e) (contains_here (0, (e, width_of s e)) [])) y here
  given_meets k s (OutputConnection i pin e) has y here = sides_meet k s (OutputConnection i pin e) has (path_to s.path i) (written_bits s e) _ _ (pins_same d lowering l list lowered wired contents x bits value (path_to s.path i) pin) y here
  given_meets k s BoxContents has y here = absurd (none_in_nil y here)

  module _ (there : BitsAreThere d) (once : AreDrivenOnce d) (acyclic : IsAcyclic d) where
    abbrev part_drives : List Drive
    part_drives = flat_map drives_at (parts d)

    top_value : (b : Bit) → Contains (top_inputs d) b → cut_value b ≡ x (TopInput (bit_text d b))
    top_value b has = ap (λ t. if t then x (TopInput (bit_text d b)) else x (State (bit_text d b))) ((of_designs.found b (top_inputs d)).1 has)

    not_top : (b : Bit) → Contains part_drives (driven Free b) → list_any (same_bit b) (top_inputs d) ≡ false
    not_top b has = by (list_any (same_bit b) (top_inputs d)) refl
      where
        by : (t : Bool) → list_any (same_bit b) (top_inputs d) ≡ t → list_any (same_bit b) (top_inputs d) ≡ false
        by false e = e
        by true e = absurd (apart_append (top_inputs d) (map (λ (u : Drive). u.bit) part_drives) b (subst (AllPairs ◌≢◌) ((of_designs.tops_driven d)) once) ((of_designs.found b (top_inputs d)).0 e)
            (contains-map (λ (u : Drive). u.bit) part_drives (driven Free b) has))

    state_value : (r : RegisterBit) → Contains (registers d) r → cut_value r.bit ≡ x (State (bit_text d r.bit))
    state_value r has = ap (λ t. if t then x (TopInput (bit_text d r.bit)) else x (State (bit_text d r.bit))) (not_top r.bit (state_driven of_designs d r has))

    -- the inputs of the list have the bits of the vector
    cut_same : vector_bits d x ≡ map cut_value (cut_bits d)
    cut_same = ap₂ ◌++◌ (tops (top_inputs d) (λ b has. has)) (states (registers d) (λ r has. has)) ∙ sym (map-append cut_value (top_inputs d) (map (λ r. r.bit) (registers d)))
      where
        tops : (all : List Bit) → ((b : Bit) → Contains all b → Contains (top_inputs d) b) → map (λ b. x (TopInput (bit_text d b))) all ≡ map cut_value all
        tops [] sub = refl
        tops (b ∷ all) sub = ap₂ ◌∷◌ (sym (top_value b (sub b (contains_here b all)))) (tops all (λ c has. sub c (contains_there b all c has)))

        states : (all : List RegisterBit) → ((r : RegisterBit) → Contains all r → Contains (registers d) r) → map (λ r. x (State (bit_text d r.bit))) all ≡ map cut_value (map (λ r. r.bit) all)
        states [] sub = refl
        states (r ∷ all) sub = ap₂ ◌∷◌ (sym (state_value r (sub r (contains_here r all)))) (states all (λ c has. sub c (contains_there r all c has)))

    abbrev inputs : List (Bit × CellName)
    inputs = map (λ x. (x.1, Input x.0)) (enumerate_from 0 (cut_bits d))

    abbrev pins : List (Bit × CellName)
    pins = flat_map given_by_box (enumerate_from 0 (boxes d))

    abbrev others : List (Bit × CellName)
    others = flat_map (given_at lowering) (enumerate_from 0 (parts d))

    -- what gives a bit of the list is what drives it in the design
    meets : (y : Bit × CellName) → Contains (driving_places d lowering) y → (z : Drive) × Contains (drives d) z × Meets y z
    unfolding SourceGives
    meets y has = by (Contains-append_cases (inputs ++ pins) others y has)
      where
        input : Contains inputs y → (z : Drive) × Contains (drives d) z × Meets y z
        input h =
            let i = from_map {B = Bit × CellName} (λ x. (x.1, Input x.0)) (enumerate_from 0 (cut_bits d)) y h in
            let j = enumerated_from 0 (cut_bits d) i.0.0 i.0.1 i.1 in
            let fits : i.0.0 < length (cut_bits d) = omega (arith, j.1, j.2) in
            let place : i.0.0 ≡ j.0 = omega (arith, j.1) in
            let same : v (Input i.0.0) ≡ cut_value i.0.1 = input_value d lowering l list lowered wired contents x bits value i.0.0 fits ∙ ap (λ all. get_or all i.0.0 false) cut_same
            ∙ get_or-map cut_value (cut_bits d) i.0.0 i.0.1 false fits ∙ ap (λ k. cut_value (get_or (cut_bits d) k i.0.1)) place ∙ ap cut_value (j.3 i.0.1) in
            (driven Free i.0.1, cut_driven of_designs d i.0.1 (from_numbered 0 (cut_bits d) i.0 i.1), (ap (λ (u : Bit × CellName). u.0) i.2, subst (λ (u : Bit × CellName). v u.1 ≡ cut_value u.0) i.2 same))

        pin : Contains pins y → (z : Drive) × Contains (drives d) z × Meets y z
        pin h =
            let b = from_flat given_by_box (enumerate_from 0 (boxes d)) y h in
            let s = b.0.1 in
            let p = from_map {B = Bit × CellName} (λ (x : ℕ × Bit). (x.1, BoxPin b.0.0 x.0)) (enumerate_from 0 (output_bits s)) y b.2 in
            let same = pin_value d lowering l list lowered wired contents x bits value b.0.0 s b.1 p.0.0 p.0.1 p.1 in (
              driven (Box s p.0.0) p.0.1,
              part_driven of_designs d (s, BoxContents) (box_part of_designs d s (from_numbered 0 (boxes d) b.0 b.1)) (driven (Box s p.0.0) p.0.1) (contains-map (λ (x : ℕ × Bit). driven (Box s x.0) x.1) (enumerate_from 0 (output_bits s)) p.0 p.1),
              (ap (λ (u : Bit × CellName). u.0) p.2, ap (λ (u : Bit × CellName). v u.1) (sym p.2) ∙ same),
            )

        first : Contains inputs y ⊎ Contains pins y → (z : Drive) × Contains (drives d) z × Meets y z
        first (inl h) = input h
        first (inr h) = pin h

        by : Contains (inputs ++ pins) y ⊎ Contains others y → (z : Drive) × Contains (drives d) z × Meets y z
        by (inl h) = first (Contains-append_cases inputs pins y h)
        by (inr h) =
            let p = from_flat (given_at lowering) (enumerate_from 0 (parts d)) y h in
            let z = given_meets p.0.0 p.0.1.0 p.0.1.1 p.1 y p.2 in
            (z.0, part_driven of_designs d p.0.1 (from_numbered 0 (parts d) p.0 p.1) z.0 z.1, z.2)

    -- each driven bit has what its source gives
    gives : (z : Drive) → Contains (drives d) z → SourceGives z.source z.bit (bit_in w z.bit)
    gives z has =
        let y = found of_designs d lowering lowered wired there z has in
        let f = find_there (λ (u : Bit × CellName). same_bit z.bit u.0) (driving_places d lowering) y.0 y.1 (subst (λ b. same_bit z.bit b ≡ true) (sym y.2) (((of_designs.distinguished z.bit z.bit).1 refl))) in
        let bit : z.bit ≡ f.0.0 = (of_designs.distinguished z.bit f.0.0).0 f.2 in
        let m = meets f.0 f.3 in
        let same : m.0 ≡ z = one_by (λ (u : Drive). u.bit) (drives d) once m.0 z m.1 has (m.2.0 ∙ sym bit) in
        let inside : Contains (net_order d) z.bit = All-contains (Contains (net_order d)) (driven_bits d) z.bit there.driven (contains-map (λ (u : Drive). u.bit) (drives d) z has) in
        let value_is : bit_in w z.bit ≡ v f.0.1 = net_value d lowering l list lowered wired contents x bits value z.bit inside ∙ ap (λ o. v (option_map_or (λ (u : Bit × CellName). u.1) o (Constant false))) f.1 in
        subst (SourceGives z.source z.bit) (sym value_is) (subst (λ b. SourceGives z.source b (v f.0.1)) (sym bit) (subst (λ (u : Drive). SourceGives u.source f.0.0 (v f.0.1)) same m.2.1))

    plain : (s : DrivingSource) (b : Bit) → SourceGives s b (bit_in w b) → Gives contents w s (bit_in w b)
    unfolding SourceGives
    plain Free b h = tt
    plain (MadeOf path t) b h = h
    plain (Box s pin) b h = h

    pub driven_world : IsDrivenWorld d contents w
    driven_world = all_from (IsGiven contents w) (drives d) (λ z has. plain z.source z.bit (gives z has))

    pub has_vector : HasVector d x w
    unfolding SourceGives
    has_vector = record {
      inputs = all_from _ (top_inputs d) (λ b has. gives (driven Free b) (top_driven of_designs d b has) ∙ top_value b has);
      states = all_from _ (registers d) (λ r has. gives (driven Free r.bit) (Contains-append_right (map (driven Free) (top_inputs d)) part_drives (driven Free r.bit) (state_driven of_designs d r has)) ∙ state_value r has);
    }

module _ (of_designs : DesignLaws) where
  pub lists_give_worlds : ConstructsHoldBitByBit → ListsGiveWorlds
  lists_give_worlds law d lowering l allowed lowered list contents x bits fit value =
      let wires = of_designs.wired d allowed.bounded in
      let in_design = of_designs.bits_there d allowed.bounded in
      let world_driven = driven_world of_designs d lowering l list lowered wires contents x bits value in_design (allowed.sound TwoDrivers) (allowed.sound Cycle) in (
        (of_designs.driven_worlds d contents _ (of_designs.ends d allowed.bounded) allowed.bounded.shallow (of_designs.legal d allowed.bounded contents fit)).1 world_driven,
        has_vector of_designs d lowering l list lowered wires contents x bits value in_design (allowed.sound TwoDrivers) (allowed.sound Cycle),
      )
