-- Each driven bit of a design is given in its list of cells.
use Rattle.std.proofs.Common.{if◌then◌else◌, find, ◌≡◌, ◌⊎◌, ℕ, false, List, [], ◌∷◌, ◌++◌, map, flat_map, zip, length, Contains, refl, sym, ap, ◌∙◌, subst, inl, inr}
use Rattle.std.specs.List.{enumerate_from, range_with_len}
use Rattle.std.proofs.lemmas.List.{map-id}
use Rattle.std.proofs.lemmas.List.Elements.{All-contains, Contains-append_cases, Contains-append_left, Contains-append_right}
use Rattle.bb_ast.specs.Syntax.{Expression}
use Rattle.bb_names.specs.Nets.{nets_of}
use Rattle.bb_names.specs.Sites.{Pin}
use Rattle.bb_expr.specs.Lowered.{term_at}
use Rattle.bb_expr.specs.Terms.{Term}
use Rattle.bb_expr.specs.Terms as term
use Rattle.bb_design.specs.Hierarchy.{Design, Scope, path_to, scopes, is_box, boxes}
use Rattle.bb_design.specs.NetBits.{Bit, same_bit, net_order, bits_named, pin_bits, output_bits, top_inputs, written_bits}
use Rattle.bb_design.specs.Contexts.{width_of, context_width, made_in}
use Rattle.bb_bits.specs.Bits.{low_bits}
use Rattle.bb_design.specs.Constructs.{Construct, Assignment, GateInstance, Register, SupplyNet, InputConnection, OutputConnection, BoxContents, body_constructs, constructs_at, parts}
use Rattle.bb_design.specs.Drivers.{Free, MadeOf, Box, Drive, driven, driven_by, terminal_terms, drives_at, drives, driven_bits}
use Rattle.bb_design.specs.GateFunctions.{on_terms, gate_gives}
use Rattle.bb_design.specs.Laws.{BitsAreThere}
use Rattle.bb_implements.specs.Places.{CellName, Constant, Input, NetBit, Step, Joined, Inverted, BoxPin, lowered_in, Lowering, IsLowering, step_places, gate_place, given_at, given_by_box, driving_places}
use Rattle.bb_design.specs.Registers.{RegisterBit, stored_at, stored, registers, cut_bits}
use Rattle.bb_lemmas.proofs.LowBits.{low-map}
use Rattle.bb_lemmas.proofs.Members.{from_flat, from_map, contains-map, into_flat, contains_here, kept_from, from_find, from_filter_map}
use Rattle.bb_lemmas.proofs.Zips.{zip_across}
use Rattle.bb_implements.proofs.ListedPlaces.{lowered_at}
use Rattle.bb_design.specs.Laws.Wired.{IsWired}
use Rattle.bb_lemmas.proofs.Numbered.{numbered_there}
use Rattle.bb_design.specs.Laws.DesignLaws.{DesignLaws}

-- what the place of a step or of a net's bit is made of in a scope
abbrev pub term_of : Lowering → Scope → CellName → Term
term_of lowering s (Constant b) = term.Const b
term_of lowering s (Input i) = term.Const false
term_of lowering s (NetBit b) = term.Net b.net b.place
term_of lowering s (Step k x j) = term_at (nets_of s.source) (lowering k x).all j
term_of lowering s (Joined k x) = term.Const false
term_of lowering s (Inverted k) = term.Const false
term_of lowering s (BoxPin b p) = term.Const false

pub pin_terms : (lowering : Lowering) (s : Scope) (path : List (List ℕ)) (pin : Pin) → map (term_of lowering s) (map NetBit (pin_bits path pin)) ≡ map (λ (b : Bit). term.Net b.net b.place) (pin_bits path pin)
pin_terms lowering s path pin = from (range_with_len 0 pin.width)
  where
    from : (ks : List ℕ) → map (term_of lowering s) (map NetBit (map (λ k. record { path = path; net = pin.name; place = k }) ks)) ≡ map (λ (b : Bit). term.Net b.net b.place) (map (λ k. record { path = path; net = pin.name; place = k }) ks)
    from [] = refl
    from (k ∷ ks) = ap (λ l. term.Net pin.name k ∷ l) (from ks)

module _ (of_designs : DesignLaws) (d : Design) where
  abbrev part_drives : List Drive
  part_drives = flat_map drives_at (parts d)

  -- what is driven without source: inputs of the top, and registers
  pub top_driven : (b : Bit) → Contains (top_inputs d) b → Contains (drives d) (driven Free b)
  top_driven b has = Contains-append_left (map (driven Free) (top_inputs d)) part_drives (driven Free b) (contains-map (driven Free) (top_inputs d) b has)

  pub state_driven : (r : RegisterBit) → Contains (registers d) r → Contains (flat_map drives_at (parts d)) (driven Free r.bit)
  state_driven r has =
      let b = from_filter_map (λ b. find (λ q. same_bit b q.bit) (stored d)) (net_order d) r has in
      let at = from_find (λ q. same_bit b.0 q.bit) (stored d) r b.2 in
      let part = from_flat stored_at (parts d) r at.0 in
      into_flat drives_at (parts d) part.0 (driven Free r.bit) part.1 ((of_designs.stores part.0).driven r part.2)

  pub cut_driven : (b : Bit) → Contains (cut_bits d) b → Contains (drives d) (driven Free b)
  cut_driven b has = by (Contains-append_cases (top_inputs d) (map (λ r. r.bit) (registers d)) b has)
    where
      by : Contains (top_inputs d) b ⊎ Contains (map (λ r. r.bit) (registers d)) b → Contains (drives d) (driven Free b)
      by (inl h) = top_driven b h
      by (inr h) =
          let r = from_map (λ (r : RegisterBit). r.bit) (registers d) b h in
          subst (λ c. Contains (drives d) (driven Free c)) r.2 (Contains-append_right (map (driven Free) (top_inputs d)) part_drives (driven Free r.0.bit) (state_driven r.0 r.1))

  pub box_part : (s : Scope) → Contains (boxes d) s → Contains (parts d) (s, BoxContents)
  box_part s has =
      let k = kept_from is_box (scopes d) s has in
      let here : Contains (constructs_at d.text s) BoxContents = subst (λ b. Contains (if b then BoxContents ∷ [] else flat_map (λ item. body_constructs d.text item.body) s.source.items) BoxContents) (sym k.1) (contains_here BoxContents []) in
      into_flat (λ s. map (λ c. (s, c)) (constructs_at d.text s)) (scopes d) s (s, BoxContents) k.0 (contains-map {B = Scope × Construct} (λ c. (s, c)) (constructs_at d.text s) BoxContents here)

  pub part_driven : (part : Scope × Construct) → Contains (parts d) part → (z : Drive) → Contains (drives_at part) z → Contains (drives d) z
  part_driven part has z here = Contains-append_right (map (driven Free) (top_inputs d)) part_drives z (into_flat drives_at (parts d) part z has here)

module _ (of_designs : DesignLaws) (d : Design) (lowering : Lowering) (lowered : IsLowering d lowering) where
  module _ (k : ℕ) (s : Scope) (c : Construct) (has : Contains (enumerate_from 0 (parts d)) (k, (s, c))) where
    -- the steps of an expression are made of what it is made of
    pub whole_terms : (n : ℕ) (e : Expression) (width : ℕ) → Contains (enumerate_from 0 (lowered_in (s, c))) (n, (e, width)) → map (term_of lowering s) (step_places lowering k n) ≡ (made_in s e width).bits
    whole_terms n e width there = from (lowering k n).bits ∙ (lowered_at d lowering lowered k s c has n e width there).terms
      where
        from : (js : List ℕ) → map (term_of lowering s) (map (Step k n) js) ≡ map (term_at (nets_of s.source) (lowering k n).all) js
        from [] = refl
        from (j ∷ js) = ap (λ l. term_at (nets_of s.source) (lowering k n).all j ∷ l) (from js)

    pub low_terms : (m n : ℕ) (e : Expression) (width : ℕ) → Contains (enumerate_from 0 (lowered_in (s, c))) (n, (e, width)) → map (term_of lowering s) (low_bits m (step_places lowering k n)) ≡ low_bits m (made_in s e width).bits
    low_terms m n e width there = low-map (term_of lowering s) m (step_places lowering k n) ∙ ap (low_bits m) (whole_terms n e width there)

  -- bits side by side with places and with what these are made of
  pub sides_meet : (s : Scope) (path : List (List ℕ)) (all : List Bit) (places : List CellName) (terms : List Term) → map (term_of lowering s) places ≡ terms → (y : Bit × CellName) → Contains (zip all places) y
      → Contains (driven_by path all terms) (driven (MadeOf path (term_of lowering s y.1)) y.0)
  sides_meet s path all places terms same y here =
      let t = zip_across (term_of lowering s) (λ (u : Term). u) all places terms (same ∙ sym (map-id terms)) y.0 y.1 here in
      contains-map {B = Drive} (λ (x : Bit × Term). driven (MadeOf path x.1) x.0) (zip all terms) (y.0, term_of lowering s y.1) (subst (λ (u : Term). Contains (zip all terms) (y.0, u)) (sym t.2) t.1)

  sides_found : (s : Scope) (path : List (List ℕ)) (all : List Bit) (places : List CellName) (terms : List Term) → map (term_of lowering s) places ≡ terms → (z : Drive) → Contains (driven_by path all terms) z
      → (y : Bit × CellName) × Contains (zip all places) y × (y.0 ≡ z.bit)
  sides_found s path all places terms same z here =
      let t = from_map {B = Drive} (λ (x : Bit × Term). driven (MadeOf path x.1) x.0) (zip all terms) z here in
      let p = zip_across (λ (u : Term). u) (term_of lowering s) all terms places (map-id terms ∙ sym same) t.0.0 t.0.1 t.1 in
      ((t.0.0, p.0), p.1, ap (λ (u : Drive). u.bit) t.2)

  -- what a construct drives is given, but for registers and boxes
  given_found : (k : ℕ) (s : Scope) (c : Construct) → Contains (enumerate_from 0 (parts d)) (k, (s, c)) → (z : Drive) → Contains (drives_at (s, c)) z
      → ((y : Bit × CellName) × Contains (given_at lowering (k, (s, c))) y × (y.0 ≡ z.bit)) ⊎ ((z.source ≡ Free) ⊎ (c ≡ BoxContents))
  given_found k s (Assignment left right) has z here = inl (sides_found s s.path (written_bits s left) _ _
      (low_terms k s (Assignment left right) has (length (written_bits s left)) 0 right (context_width s left right) (contains_here (0, (right, context_width s left right)) [])) z here)
  given_found k s (GateInstance gate outs ins) has z here =
      let place = gate_place lowering gate k (length ins) in
      let b = from_map (driven (MadeOf s.path (gate_gives on_terms gate (terminal_terms s ins)))) (flat_map (written_bits s) outs) z here in
      inl ((b.0, place), contains-map {B = Bit × CellName} (λ b. (b, place)) (flat_map (written_bits s) outs) b.0 b.1, ap (λ (u : Drive). u.bit) b.2)
  given_found k s (Register r) has z here = let b = from_map (driven Free) (written_bits s r.left) z here in inr (inl (ap (λ (u : Drive). u.source) (sym b.2)))
  given_found k s (SupplyNet high n) has z here =
      let b = from_map (driven (MadeOf s.path (term.Const high))) (bits_named s n) z here in
      inl ((b.0, Constant high), contains-map {B = Bit × CellName} (λ b. (b, Constant high)) (bits_named s n) b.0 b.1, ap (λ (u : Drive). u.bit) b.2)
  given_found k s (InputConnection i pin e) has z here = inl (sides_found s s.path (pin_bits (path_to s.path i) pin) _ _
      (whole_terms k s (InputConnection i pin e) has 0 e (width_of s e) (contains_here (0, (e, width_of s e)) [])) z here)
  given_found k s (OutputConnection i pin e) has z here = inl (sides_found s (path_to s.path i) (written_bits s e) _ _ (pin_terms lowering s (path_to s.path i) pin) z here)
  given_found k s BoxContents has z here = inr (inr refl)

  abbrev inputs : List (Bit × CellName)
  inputs = map (λ x. (x.1, Input x.0)) (enumerate_from 0 (cut_bits d))

  abbrev pins : List (Bit × CellName)
  pins = flat_map given_by_box (enumerate_from 0 (boxes d))

  abbrev others : List (Bit × CellName)
  others = flat_map (given_at lowering) (enumerate_from 0 (parts d))

  abbrev IsFound : Bit → Type 0
  IsFound b = (y : Bit × CellName) × Contains (driving_places d lowering) y × (y.0 ≡ b)

  cut_found : (b : Bit) → Contains (cut_bits d) b → IsFound b
  cut_found b has =
      let k = numbered_there 0 (cut_bits d) b has in
      ((b, Input k.0), Contains-append_left (inputs ++ pins) others (b, Input k.0) (Contains-append_left inputs pins (b, Input k.0) (contains-map {B = Bit × CellName} (λ x. (x.1, Input x.0)) (enumerate_from 0 (cut_bits d)) (k.0, b) k.1)), refl)

  box_found : (s : Scope) → Contains (boxes d) s → (z : Drive) → Contains (drives_at (s, BoxContents)) z → IsFound z.bit
  box_found s has z here =
      let p = from_map (λ (x : ℕ × Bit). driven (Box s x.0) x.1) (enumerate_from 0 (output_bits s)) z here in
      let k = numbered_there 0 (boxes d) s has in
      let entry : Bit × CellName = (p.0.1, BoxPin k.0 p.0.0) in (
        entry,
        Contains-append_left (inputs ++ pins) others entry (Contains-append_right inputs pins entry (into_flat given_by_box (enumerate_from 0 (boxes d)) (k.0, s) entry k.1
            (contains-map {B = Bit × CellName} (λ (x : ℕ × Bit). (x.1, BoxPin k.0 x.0)) (enumerate_from 0 (output_bits s)) p.0 p.1))),
        ap (λ (u : Drive). u.bit) p.2,
      )

  -- each driven bit is given in the list
  pub found : IsWired d → BitsAreThere d → (z : Drive) → Contains (drives d) z → IsFound z.bit
  found wired there z has = by (Contains-append_cases (map (driven Free) (top_inputs d)) (flat_map drives_at (parts d)) z has)
    where
      in_part : (k : ℕ) (s : Scope) (c : Construct) → Contains (enumerate_from 0 (parts d)) (k, (s, c)) → Contains (parts d) (s, c) → Contains (drives_at (s, c)) z
          → ((y : Bit × CellName) × Contains (given_at lowering (k, (s, c))) y × (y.0 ≡ z.bit)) ⊎ ((z.source ≡ Free) ⊎ (c ≡ BoxContents)) → IsFound z.bit
      in_part k s c there_k there_p here (inl y) = (y.0, Contains-append_right (inputs ++ pins) others y.0 (into_flat (given_at lowering) (enumerate_from 0 (parts d)) (k, (s, c)) y.0 there_k y.1), y.2)
      in_part k s c there_k there_p here (inr (inl free)) =
          let r = (of_designs.stores (s, c)).stored z here free in
          let inside : Contains (net_order d) r.0.bit = subst (Contains (net_order d)) (sym r.2) (All-contains (Contains (net_order d)) (driven_bits d) z.bit there.driven (contains-map (λ (u : Drive). u.bit) (drives d) z has)) in
          let q = of_designs.stored_register d r.0 (into_flat stored_at (parts d) (s, c) r.0 there_p r.1) inside in
          let y = cut_found q.0.bit (Contains-append_right (top_inputs d) (map (λ r. r.bit) (registers d)) q.0.bit (contains-map (λ (r : RegisterBit). r.bit) (registers d) q.0 q.1)) in
          (y.0, y.1, y.2 ∙ q.2 ∙ r.2)
      in_part k s c there_k there_p here (inr (inr box)) = box_found s (wired.boxed s (subst (λ u. Contains (parts d) (s, u)) box there_p)) z (subst (λ u. Contains (drives_at (s, u)) z) box here)

      by : Contains (map (driven Free) (top_inputs d)) z ⊎ Contains (flat_map drives_at (parts d)) z → IsFound z.bit
      by (inl h) =
          let b = from_map (driven Free) (top_inputs d) z h in
          let y = cut_found b.0 (Contains-append_left (top_inputs d) (map (λ r. r.bit) (registers d)) b.0 b.1) in
          (y.0, y.1, y.2 ∙ ap (λ (u : Drive). u.bit) b.2)
      by (inr h) =
          let p = from_flat drives_at (parts d) z h in
          let k = numbered_there 0 (parts d) p.0 p.1 in
          in_part k.0 p.0.0 p.0.1 k.1 p.1 p.2 (given_found k.0 p.0.0 p.0.1 k.1 z p.2)
