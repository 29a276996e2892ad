-- Boxes are in a netlist in the order of their dependence: a box needs another in the list of cells exactly where it depends on it,
-- since walks from bit to bit go along dependence, and an output bit of a box is a copy of its pin.
use Rattle.std.proofs.Common.{◌≡◌, ◌≢◌, ◌⊎◌, ℕ, suc, ◌+◌, ◌<◌, Bool, true, false, List, ◌++◌, map, flat_map, find, length, get_or, AllPairs, Contains, Option, Some, None, refl, sym, ap, ◌∙◌, subst, inl, inr, arith}
use Rattle.std.specs.List.{enumerate_from}
use Rattle.std.specs.Option.{option_map_or}
use Rattle.std.proofs.lemmas.List.{get_or-map, length-map}
use Rattle.std.proofs.lemmas.List.Elements.{All-contains, Contains-append_cases, Contains-append_right}
use Rattle.bb_net.specs.Loose.{LooseList, Reaches, NeedsBox}
use Rattle.bb_bits.specs.Closures.{Leads}
use Rattle.bb_design.specs.Inside.Allowed.{IsBounded}
use Rattle.bb_design.specs.Constructs.{BoxContents}
use Rattle.bb_design.specs.Dependence.{dependences}
use Rattle.bb_design.specs.Laws.DesignLaws.{DesignLaws}
use Rattle.bb_design.specs.Drivers.{DrivingSource, Free, MadeOf, Box, Drive, driven, drives, driven_bits}
use Rattle.bb_design.specs.Hierarchy.{Design, Scope, root, boxes}
use Rattle.bb_design.specs.NetBits.{Bit, same_bit, net_order, output_bits}
use Rattle.bb_design.specs.Refusals.{AreDrivenOnce, box_paths}
use Rattle.bb_design.specs.Registers.{cut_bits}
use Rattle.bb_design.specs.Texts.{path_text}
use Rattle.bb_design.specs.Laws.Wired.{IsWired}
use Rattle.bb_implements.specs.BoxOrders.{DependsOnBox}
use Rattle.bb_implements.specs.Places.{CellName, Constant, Input, NetBit, BoxPin, Lowering, IsLowering, given_by_box, driving_places, place_in, IsListOf}
use Rattle.bb_implements.specs.Implements.{box_number}
use Rattle.bb_lemmas.proofs.Apart.{one_by}
use Rattle.bb_lemmas.proofs.Members.{from_flat, from_map, from_find, contains-map, into_flat, find_there}
use Rattle.bb_lemmas.proofs.Numbered.{enumerated_from, numbered_at, numbered_there, from_numbered}
use Rattle.bb_lemmas.proofs.Orders.{less_or_same}
use Rattle.bb_implements.proofs.BoxNeeds.{ends, copy_step, box_there, input_pin, pin_input, input_known, output_pin}
use Rattle.bb_implements.proofs.DependenceWalks.{leads_walk}
use Rattle.bb_implements.proofs.GivenDrives.{box_part, cut_driven, part_driven}
use Rattle.bb_implements.proofs.GivenPins.{found_first, first_found}
use Rattle.bb_implements.proofs.ListedPlaces.{listed_cell, listed_below, pin_listed}
use Rattle.bb_implements.proofs.LoopPlaces.{walk_joined}
use Rattle.bb_implements.proofs.LooseLists.{lists_are_loose}
use Rattle.bb_implements.proofs.WalkLoops.{claims}

-- the scope of the box that drives, where one does
abbrev box_of : DrivingSource → Option Scope
box_of Free = None
box_of (MadeOf path t) = None
box_of (Box s pin) = Some s

-- the number of the box at a pin
abbrev pin_box : CellName → Option ℕ
pin_box (Constant b) = None
pin_box (Input i) = None
pin_box (NetBit b) = None
pin_box (CellName.Step k x i) = None
pin_box (CellName.Joined k x) = None
pin_box (CellName.Inverted k) = None
pin_box (BoxPin b p) = Some b

none_is_some : {A : Type 0} (x : A) → None ≡ Some x → ⊥
none_is_some x e = cc e

module _ (d : Design) where
  abbrev pub numbered : ℕ → Scope → Type 0
  numbered c s = Contains (enumerate_from 0 (boxes d)) (c, s)

  -- the box with a number
  pub is_numbered : (c : ℕ) (s : Scope) → numbered c s → (c < length (boxes d)) × (box_number d c ≡ s)
  is_numbered c s has =
      let n = enumerated_from 0 (boxes d) c s has in
      let same : c ≡ n.0 = omega (arith, n.1) in
      (omega (arith, n.1, n.2), ap (λ k. get_or (boxes d) k (root d)) same ∙ n.3 (root d))

  -- a box has one number
  pub one_number : AllPairs ◌≢◌ (box_paths d) → (b c : ℕ) (s : Scope) → numbered b s → numbered c s → b ≡ c
  one_number apart b c s has also = by (less_or_same b c)
    where
      seen : (k : ℕ) → numbered k s → get_or (box_paths d) k (path_text s.path) ≡ path_text s.path
      seen k at =
          let n = is_numbered k s at in
          get_or-map (λ (t : Scope). path_text t.path) (boxes d) k (root d) (path_text s.path) n.0 ∙ ap (λ (t : Scope). path_text t.path) n.1

      within : (k : ℕ) → numbered k s → k < length (box_paths d)
      within k at = omega (arith, (is_numbered k s at).0, length-map (boxes d) (λ (t : Scope). path_text t.path))

      by : (b < c) ⊎ ((c < b) ⊎ (b ≡ c)) → b ≡ c
      by (inl lt) = absurd (apart b c (path_text s.path) lt (within c also) (seen b has ∙ sym (seen c also)))
      by (inr (inl lt)) = absurd (apart c b (path_text s.path) lt (within b has) (seen c also ∙ sym (seen b has)))
      by (inr (inr same)) = same

module _ (of_designs : DesignLaws) (d : Design) (bounded : IsBounded d) (once : AreDrivenOnce d) (apart : AllPairs ◌≢◌ (box_paths d))
    (lowering : Lowering) (l : LooseList) (lowered : IsLowering d lowering) (list : IsListOf d lowering l) where
  abbrev wired : IsWired d
  wired = of_designs.wired d bounded

  abbrev inputs : List (Bit × CellName)
  inputs = map (λ x. (x.1, Input x.0)) (enumerate_from 0 (cut_bits d))

  abbrev pins : List (Bit × CellName)
  pins = flat_map given_by_box (enumerate_from 0 (boxes d))

  abbrev test : Bit → Bit × CellName → Bool
  test b x = same_bit b x.0

  -- what gives a bit at a pin
  record PinOf (b : ℕ) (x : Bit × CellName) : Type 0 where
    pub scope : Scope
    pub pin : ℕ
    pub number : numbered d b scope
    pub listed : Contains (enumerate_from 0 (output_bits scope)) (pin, x.0)
    pub is : x.1 ≡ BoxPin b pin

  pin_of : (x : Bit × CellName) → Contains pins x → (b : ℕ) × PinOf b x
  pin_of x has =
      let b = from_flat given_by_box (enumerate_from 0 (boxes d)) x has in
      let p = from_map {B = Bit × CellName} (λ (y : ℕ × Bit). (y.1, BoxPin b.0.0 y.0)) (enumerate_from 0 (output_bits b.0.1)) x b.2 in
      let bit : p.0.1 ≡ x.0 = ap (λ (u : Bit × CellName). u.0) p.2 in (
        b.0.0,
        record { scope = b.0.1; pin = p.0.0; number = b.1; listed = subst (λ y. Contains (enumerate_from 0 (output_bits b.0.1)) (p.0.0, y)) bit p.1; is = sym (ap (λ (u : Bit × CellName). u.1) p.2) },
      )

  -- the box drives the bits of its outputs
  box_drives : (s : Scope) → Contains (boxes d) s → (p : ℕ) (y : Bit) → Contains (enumerate_from 0 (output_bits s)) (p, y) → Contains (drives d) (driven (Box s p) y)
  box_drives s has p y at =
      part_driven of_designs d (s, BoxContents) (box_part of_designs d s has) (driven (Box s p) y) (contains-map (λ (x : ℕ × Bit). driven (Box s x.0) x.1) (enumerate_from 0 (output_bits s)) (p, y) at)

  -- an output bit of a box is given by a pin of the box
  pin_given : (b : ℕ) (t : Scope) → numbered d b t → (y : Bit) → Contains (output_bits t) y → (p : ℕ) × (place_in (driving_places d lowering) y ≡ BoxPin b p) × Contains (enumerate_from 0 (output_bits t)) (p, y)
  pin_given b t has y at =
      by (Contains-append_cases inputs pins found.0 found.3)
    where
      at_pin : (p : ℕ) × Contains (enumerate_from 0 (output_bits t)) (p, y)
      at_pin = numbered_there 0 (output_bits t) y at

      entry : Contains pins (y, BoxPin b at_pin.0)
      entry = into_flat given_by_box (enumerate_from 0 (boxes d)) (b, t) (y, BoxPin b at_pin.0) has
          (contains-map {B = Bit × CellName} (λ (x : ℕ × Bit). (x.1, BoxPin b x.0)) (enumerate_from 0 (output_bits t)) (at_pin.0, y) at_pin.1)

      found : (x : Bit × CellName) × (find (test y) (inputs ++ pins) ≡ Some x) × (test y x ≡ true) × Contains (inputs ++ pins) x
      found = find_there (test y) (inputs ++ pins) (y, BoxPin b at_pin.0) (Contains-append_right inputs pins (y, BoxPin b at_pin.0) entry) ((of_designs.distinguished y y).1 refl)

      bit : y ≡ found.0.0
      bit = (of_designs.distinguished y found.0.0).0 found.2

      from_box : Contains (drives d) (driven (Box t at_pin.0) y)
      from_box = box_drives t (from_numbered 0 (boxes d) (b, t) has) at_pin.0 y at_pin.1

      -- what drives the bit too is that box
      also : (z : Drive) → Contains (drives d) z → z.bit ≡ y → Some t ≡ box_of z.source
      also z there same = ap (λ (u : Drive). box_of u.source) (one_by (λ (u : Drive). u.bit) (drives d) once (driven (Box t at_pin.0) y) z from_box there (sym same))

      given_there : (p : ℕ) → found.0.1 ≡ BoxPin b p → place_in (driving_places d lowering) y ≡ BoxPin b p
      given_there p is = first_found y b p (inputs ++ pins) _ (ap (λ o. option_map_or (λ (x : Bit × CellName). x.1) o (Constant false)) found.1 ∙ is)

      by : Contains inputs found.0 ⊎ Contains pins found.0 → (p : ℕ) × (place_in (driving_places d lowering) y ≡ BoxPin b p) × Contains (enumerate_from 0 (output_bits t)) (p, y)
      by (inl h) =
          let i = from_map {B = Bit × CellName} (λ x. (x.1, Input x.0)) (enumerate_from 0 (cut_bits d)) found.0 h in
          let same : i.0.1 ≡ y = ap (λ (u : Bit × CellName). u.0) i.2 ∙ sym bit in
          absurd (none_is_some t (sym (also (driven Free i.0.1) (cut_driven of_designs d i.0.1 (from_numbered 0 (cut_bits d) i.0 i.1)) same)))
      by (inr h) =
          let r = pin_of found.0 h in
          let q = r.1 in
          let drive = box_drives q.scope (from_numbered 0 (boxes d) (r.0, q.scope) q.number) q.pin found.0.0 q.listed in
          let scope : t ≡ q.scope = cc (also (driven (Box q.scope q.pin) found.0.0) drive (sym bit)) in
          let number : r.0 ≡ b = one_number d apart r.0 b q.scope q.number (subst (numbered d b) scope has) in
          (q.pin, given_there q.pin (q.is ∙ ap (λ k. BoxPin k q.pin) number), subst (λ u. Contains (enumerate_from 0 (output_bits t)) (q.pin, u)) (sym bit) (subst (λ s. Contains (enumerate_from 0 (output_bits s)) (q.pin, found.0.0)) (sym scope) q.listed))

  -- and what a pin of a box gives is an output bit of the box
  given_pin : (e : Bit) (b p : ℕ) → place_in (driving_places d lowering) e ≡ BoxPin b p → (t : Scope) × numbered d b t × Contains (output_bits t) e
  given_pin e b p is = by (find (test e) (inputs ++ pins)) refl (found_first d lowering e b p is)
    where
      at : (x : Bit × CellName) → (e ≡ x.0) → x.1 ≡ BoxPin b p → Contains inputs x ⊎ Contains pins x → (t : Scope) × numbered d b t × Contains (output_bits t) e
      at x bit there (inl h) =
          let i = from_map {B = Bit × CellName} (λ x. (x.1, Input x.0)) (enumerate_from 0 (cut_bits d)) x h in
          absurd (none_is_some b (ap (λ (u : Bit × CellName). pin_box u.1) i.2 ∙ ap pin_box there))
      at x bit there (inr h) =
          let r = pin_of x h in
          let number : r.0 ≡ b = cc (ap pin_box (sym r.1.is ∙ there)) in
          (r.1.scope, subst (λ k. numbered d k r.1.scope) number r.1.number, subst (Contains (output_bits r.1.scope)) (sym bit) (from_numbered 0 (output_bits r.1.scope) (r.1.pin, x.0) r.1.listed))

      by : (o : Option (Bit × CellName)) → find (test e) (inputs ++ pins) ≡ o → option_map_or (λ (x : Bit × CellName). x.1) o (Constant false) ≡ BoxPin b p → (t : Scope) × numbered d b t × Contains (output_bits t) e
      by None same there = absurd (none_is_some b (ap pin_box there))
      by (Some x) same there = let f = from_find (test e) (inputs ++ pins) x same in at x ((of_designs.distinguished e x.0).0 f.1) there (Contains-append_cases inputs pins x f.0)

  -- a box that needs another depends on it
  pub needs_depends : (c b : ℕ) → NeedsBox l c b → (s t : Scope) × numbered d c s × numbered d b t × DependsOnBox d s t
  needs_depends c b (pin, at, n, p, has, walk, fits, is) =
      let s = get_or (boxes d) c (root d) in
      let num = numbered_at (boxes d) c (root d) (box_there of_designs d lowering l list lowered wired c pin has) in
      let x = input_pin of_designs d lowering l list lowered wired c s num pin has in
      let known = input_known of_designs d lowering l list lowered wired c s num x.0 x.1 in
      let out = output_pin of_designs d lowering l list lowered wired (lists_are_loose of_designs d lowering l bounded lowered list) at b p fits is in
      let listed = pin_listed d lowering l list b out.0 out.1 p out.2 out.3 in
      let to_pin : Reaches n l (list.number (NetBit x.0)) (list.number (BoxPin b p)) = subst (λ k. Reaches n l k (list.number (BoxPin b p))) (sym x.2) (subst (Reaches n l pin) (sym out.4) walk) in
      let e = ends of_designs d lowering l list lowered wired b p _ listed (suc n) n (omega arith) x.0 known to_pin in
      let tail = (claims of_designs d lowering l list lowered wired e.0 e.2 e.1).nets x.0 known e.3 in
      let t = given_pin e.0 b p e.4 in
      (s, t.0, num, t.1, record { input = x.0; output = e.0; of_one = x.1; of_other = t.2; depends = tail })

  -- and a box that depends on another needs it
  pub depends_needs : (c b : ℕ) (s t : Scope) → numbered d c s → numbered d b t → DependsOnBox d s t → NeedsBox l c b
  depends_needs c b s t num also on =
      let pin = pin_given b t also on.output on.of_other in
      let there = pin_listed d lowering l list b t also pin.0 on.output pin.2 in
      let known = output_known in
      let to_bit = across on.depends in
      let last : Reaches 1 l (list.number (NetBit on.output)) (list.number (BoxPin b pin.0)) =
      (list.number (place_in (driving_places d lowering) on.output), copy_step of_designs d lowering l list lowered wired on.output known, ap list.number pin.1) in (
        list.number (NetBit on.input),
        list.number (BoxPin b pin.0),
        to_bit.0 + 1,
        pin.0,
        pin_input of_designs d lowering l list lowered wired c s num on.input on.of_one,
        walk_joined of_designs d lowering l list lowered wired to_bit.0 1 (to_bit.0 + 1) _ (list.number (NetBit on.output)) _ refl to_bit.1 last,
        listed_below d lowering l list (BoxPin b pin.0) _ there,
        listed_cell d lowering l list (BoxPin b pin.0) _ there,
      )
    where
      output_known : Contains (net_order d) on.output
      output_known =
          let at = numbered_there 0 (output_bits t) on.output on.of_other in
          let drive = box_drives t (from_numbered 0 (boxes d) (b, t) also) at.0 on.output at.1 in
          All-contains (Contains (net_order d)) (driven_bits d) on.output (of_designs.bits_there d bounded).driven (contains-map (λ (u : Drive). u.bit) (drives d) (driven (Box t at.0) on.output) drive)

      across : (on.input ≡ on.output) ⊎ Leads (dependences d) on.input on.output → (i : ℕ) × Reaches i l (list.number (NetBit on.input)) (list.number (NetBit on.output))
      across (inl same) = (0, ap (λ x. list.number (NetBit x)) same)
      across (inr leads) = let walk = leads_walk of_designs d lowering l list lowered wired (of_designs.bits_there d bounded) once on.input on.output leads in (suc walk.0, walk.1)
