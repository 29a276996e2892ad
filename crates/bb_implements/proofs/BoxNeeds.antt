-- Which boxes a box needs does not depend on how the cells of a design are listed: a walk from an input pin to an output pin of another
-- box passes the bit that is a copy of that pin, and walks from bit to bit go along dependence.
use Rattle.std.proofs.Common.{◌≡◌, ◌⊎◌, ℕ, zero, suc, ◌+◌, ◌<◌, ◌≤◌, false, [], ◌∷◌, map, length, get_or, Contains, refl, sym, ap, ◌∙◌, subst, inl, inr, arith}
use Rattle.std.specs.List.{enumerate_from}
use Rattle.std.proofs.lemmas.List.{get_or_past, length-map}
use Rattle.bb_net.specs.declared.loose.LooseCell.{LooseCell}
use Rattle.bb_net.specs.declared.loose.LooseCell.TheVariants as cell
use Rattle.bb_net.specs.Loose.{LooseList, loose_at, operand_places, Reaches, NeedsBox, IsLoose}
use Rattle.bb_net.specs.Netlists.{Pins, box_at}
use Rattle.bb_bits.specs.Closures.{Leads}
use Rattle.bb_design.specs.Dependence.{dependences}
use Rattle.bb_design.specs.Hierarchy.{Design, Scope, root, boxes, scopes, is_box}
use Rattle.bb_design.specs.Inside.Allowed.{IsBounded}
use Rattle.bb_implements.specs.Laws.NamingLaws.{BoxNeedsAreOne}
use Rattle.bb_design.specs.NetBits.{Bit, net_order, input_bits, output_bits, scope_bits}
use Rattle.bb_implements.specs.Places.{CellName, NetBit, BoxPin, Lowering, IsLowering, driving_places, place_in, pins_of, IsListOf}
use Rattle.bb_design.specs.Refusals.{AreDrivenOnce}
use Rattle.bb_implements.proofs.LooseLists.{lists_are_loose}
use Rattle.bb_lemmas.proofs.Members.{from_map, contains-map, contains_here, contains_cases, none_in_nil, kept_from, into_flat}
use Rattle.bb_lemmas.proofs.Orders.{less_or_not}
use Rattle.bb_implements.proofs.DependenceWalks.{leads_walk}
use Rattle.bb_lemmas.proofs.Numbered.{numbered_at, length-enumerated, mapped_enumerated, from_numbered}
use Rattle.bb_implements.proofs.GivenPins.{is_pin, no_pin, found_occurring, found_first, first_found}
use Rattle.bb_implements.proofs.ListedPlaces.{IsListed, listed_cell, listed_below, net_listed, pin_listed, box_is}
use Rattle.bb_design.specs.Laws.Wired.{IsWired}
use Rattle.bb_implements.proofs.ListNumbers.{one_place_listed}
use Rattle.bb_implements.proofs.LoopPlaces.{Lower, Passes, pin_not_lower, walk_falls, walk_joined}
use Rattle.bb_implements.proofs.WalkLoops.{claims}
use Rattle.bb_design.specs.Laws.DesignLaws.{DesignLaws}

module _ (of_designs : DesignLaws) (d : Design) (lowering : Lowering) (l : LooseList) (list : IsListOf d lowering l) (lowered : IsLowering d lowering) (wired : IsWired d) where
  abbrev pub place : Bit → ℕ
  place b = list.number (NetBit b)

  -- a walk leads to a bit that is a copy of a pin
  abbrev pub Ends : Bit → ℕ → ℕ → Type 0
  Ends x b p = (e : Bit) × (m : ℕ) × Contains (net_order d) e × Reaches m l (place x) (place e) × (place_in (driving_places d lowering) e ≡ BoxPin b p)

  -- the first step from the place of a bit
  first_step : (x : Bit) → Contains (net_order d) x → (k : ℕ) → Contains (operand_places l.boxes (loose_at l (place x))) k → list.number (place_in (driving_places d lowering) x) ≡ k
  first_step x has k reads =
      let q = list.number (place_in (driving_places d lowering) x) in
      only q (subst (λ c. Contains (operand_places l.boxes c) k) (listed_cell d lowering l list (NetBit x) (cell.Copy q) (net_listed d lowering l list x has)) reads)
    where
      only : (q : ℕ) → Contains (q ∷ []) k → q ≡ k
      only q at = by (contains_cases q [] k at)
        where
          by : (q ≡ k) ⊎ Contains [] k → q ≡ k
          by (inl e) = e
          by (inr none) = absurd (none_in_nil k none)

  pub copy_step : (x : Bit) → Contains (net_order d) x → Contains (operand_places l.boxes (loose_at l (place x))) (list.number (place_in (driving_places d lowering) x))
  copy_step x has =
      let q = list.number (place_in (driving_places d lowering) x) in
      subst (λ c. Contains (operand_places l.boxes c) q) (sym (listed_cell d lowering l list (NetBit x) (cell.Copy q) (net_listed d lowering l list x has))) (contains_here q [])

  module _ (b p : ℕ) (v : LooseCell) (pin : IsListed d lowering l list (BoxPin b p) v) where
    pub ends : (fuel n : ℕ) → n < fuel → (x : Bit) → Contains (net_order d) x → Reaches n l (place x) (list.number (BoxPin b p)) → Ends x b p
    ends zero n lt x has walk = absurd (omega (arith, lt))
    ends (suc fuel) zero lt x has walk = absurd (no_pin (NetBit x) b p refl (one_place_listed d lowering l list (NetBit x) (BoxPin b p) _ v (net_listed d lowering l list x has) pin walk))
    ends (suc fuel) (suc n) lt x has walk =
        let at = found_occurring d lowering l list lowered wired x in
        let from : walk.0 ≡ list.number at.0 = sym (first_step x has walk.0 walk.1) ∙ at.3 in
        by at.0 at.3 at.4 (walk_falls of_designs d lowering l list lowered wired n at.0 at.1 at.2 (BoxPin b p) v pin (subst (λ k. Reaches n l k (list.number (BoxPin b p))) from walk.2)) (λ e j less kept back. ends fuel j (omega (arith, less, lt)) e kept back)
      where
        -- from a bit that the walk passes
        on : (e : Bit) (i : ℕ) → Reaches i l (list.number (place_in (driving_places d lowering) x)) (place e) → Ends e b p → Ends x b p
        on e i there (f, m, kept, further, is) =
            (f, suc (i + m), kept, (list.number (place_in (driving_places d lowering) x), copy_step x has, walk_joined of_designs d lowering l list lowered wired i m (i + m) _ (place e) (place f) refl there further), is)

        -- where the walk passes no bit, the place gives the pin itself
        last : (q : CellName) → (q ≡ place_in (driving_places d lowering) x) ⊎ (is_pin q ≡ false) → q ≡ BoxPin b p → Ends x b p
        last q (inl same) is = (x, 0, has, refl, sym same ∙ is)
        last q (inr off) is = absurd (no_pin q b p off is)

        by : (q : CellName) → list.number (place_in (driving_places d lowering) x) ≡ list.number q → (q ≡ place_in (driving_places d lowering) x) ⊎ (is_pin q ≡ false)
            → Passes of_designs d lowering l list lowered wired n (list.number q) (list.number (BoxPin b p)) ⊎ (((n ≡ 0) × (q ≡ BoxPin b p)) ⊎ Lower (BoxPin b p) q)
            → ((e : Bit) (j : ℕ) → j ≤ n → Contains (net_order d) e → Reaches j l (place e) (list.number (BoxPin b p)) → Ends e b p) → Ends x b p
        by q same kind (inl (e, i, j, sum, kept, there, back)) rest = on e i (subst (λ k. Reaches i l k (place e)) (sym same) there) (rest e j (omega (arith, sum)) kept back)
        by q same kind (inr (inl h)) rest = last q kind h.1
        by q same kind (inr (inr h)) rest = absurd (pin_not_lower b p q h)

  -- the boxes of the list are those of the design
  pub box_there : (c : ℕ) (k : ℕ) → Contains (box_at l.boxes c).ins k → c < length (boxes d)
  box_there c k has = by (less_or_not c (length (boxes d)))
    where
      long : length l.boxes ≡ length (boxes d)
      long = ap length list.boxes ∙ length-map (enumerate_from 0 (boxes d)) (pins_of list.number) ∙ length-enumerated 0 (boxes d)

      by : (c < length (boxes d)) ⊎ (length (boxes d) ≤ c) → c < length (boxes d)
      by (inl h) = h
      by (inr h) =
          let past : box_at l.boxes c ≡ record { ins = []; outs = [] } = get_or_past l.boxes c (record { ins = []; outs = [] }) (omega (arith, h, long)) in
          absurd (none_in_nil k (subst (λ (q : Pins). Contains q.ins k) past has))

  abbrev pub numbered : ℕ → Scope → Type 0
  numbered c s = Contains (enumerate_from 0 (boxes d)) (c, s)

  -- an input pin is a bit of the box
  pub input_pin : (c : ℕ) (s : Scope) → numbered c s → (k : ℕ) → Contains (box_at l.boxes c).ins k → (x : Bit) × Contains (input_bits s) x × (place x ≡ k)
  input_pin c s has k at = from_map (λ x. list.number (NetBit x)) (input_bits s) k (subst (λ (q : Pins). Contains q.ins k) (box_is d lowering l list c s has) at)

  pub pin_input : (c : ℕ) (s : Scope) → numbered c s → (x : Bit) → Contains (input_bits s) x → Contains (box_at l.boxes c).ins (place x)
  pin_input c s has x at = subst (λ (q : Pins). Contains q.ins (place x)) (sym (box_is d lowering l list c s has)) (contains-map (λ x. list.number (NetBit x)) (input_bits s) x at)

  pub input_known : (c : ℕ) (s : Scope) → numbered c s → (x : Bit) → Contains (input_bits s) x → Contains (net_order d) x
  input_known c s has x at = into_flat scope_bits (scopes d) s x (kept_from is_box (scopes d) s (from_numbered 0 (boxes d) (c, s) has)).0 (of_designs.of_scope s _ x at)

  -- a cell of a box is at an output pin
  pub output_pin : IsLoose l → (k b p : ℕ) → k < length l.cells → loose_at l k ≡ cell.BoxOut b p → (s : Scope) × numbered b s × (y : Bit) × Contains (enumerate_from 0 (output_bits s)) (p, y) × (list.number (BoxPin b p) ≡ k)
  output_pin loose k b p fits is = by (less_or_not b (length (boxes d)))
    where
      at : (p < length (box_at l.boxes b).outs) × (get_or (box_at l.boxes b).outs p 0 ≡ k)
      at = loose.listed k b p fits is

      by : (b < length (boxes d)) ⊎ (length (boxes d) ≤ b) → (s : Scope) × numbered b s × (y : Bit) × Contains (enumerate_from 0 (output_bits s)) (p, y) × (list.number (BoxPin b p) ≡ k)
      by (inl h) =
          let s = get_or (boxes d) b (root d) in
          let has = numbered_at (boxes d) b (root d) h in
          let f : ℕ × Bit → ℕ = λ x. list.number (BoxPin b x.0) in
          let long : length (map f (enumerate_from 0 (output_bits s))) ≡ length (output_bits s) = length-map (enumerate_from 0 (output_bits s)) f ∙ length-enumerated 0 (output_bits s) in
          let pins = subst (λ (q : Pins). (p < length q.outs) × (get_or q.outs p 0 ≡ k)) (box_is d lowering l list b s has) at in
          let inside : p < length (output_bits s) = omega (arith, pins.0, long) in
          let none : Bit = record { path = []; net = []; place = 0 } in
          let same : list.number (BoxPin b p) ≡ k = ap (λ j. list.number (BoxPin b j)) (omega arith) ∙ sym (mapped_enumerated f 0 (output_bits s) p none 0 inside) ∙ pins.1 in
          (s, has, get_or (output_bits s) p none, numbered_at (output_bits s) p none inside, same)
      by (inr h) =
          let long : length l.boxes ≡ length (boxes d) = ap length list.boxes ∙ length-map (enumerate_from 0 (boxes d)) (pins_of list.number) ∙ length-enumerated 0 (boxes d) in
          let past : box_at l.boxes b ≡ record { ins = []; outs = [] } = get_or_past l.boxes b (record { ins = []; outs = [] }) (omega (arith, h, long)) in
          let none = subst (λ (q : Pins). (p < length q.outs) × (get_or q.outs p 0 ≡ k)) past at in
          absurd (omega (arith, none.0))

module _ (of_designs : DesignLaws) (d : Design) (bounded : IsBounded d) (once : AreDrivenOnce d) (lowering other : Lowering) (l m : LooseList)
    (lowered : IsLowering d lowering) (list : IsListOf d lowering l) (also : IsLowering d other) (more : IsListOf d other m) where
  abbrev w : IsWired d
  w = of_designs.wired d bounded

  -- a bit that another depends on is reached from it in the other list too
  across : (x e : Bit) → (x ≡ e) ⊎ Leads (dependences d) x e → (i : ℕ) × Reaches i m (more.number (NetBit x)) (more.number (NetBit e))
  across x e (inl same) = (0, ap (λ b. more.number (NetBit b)) same)
  across x e (inr leads) = let walk = leads_walk of_designs d other m more also w (of_designs.bits_there d bounded) once x e leads in (suc walk.0, walk.1)

  pub box_needs : (c b : ℕ) → NeedsBox l c b → NeedsBox m c b
  box_needs c b (pin, at, n, p, has, walk, fits, is) =
      let s = get_or (boxes d) c (root d) in
      let num = numbered_at (boxes d) c (root d) (box_there of_designs d lowering l list lowered w c pin has) in
      let x = input_pin of_designs d lowering l list lowered w c s num pin has in
      let known = input_known of_designs d lowering l list lowered w c s num x.0 x.1 in
      let out = output_pin of_designs d lowering l list lowered w (lists_are_loose of_designs d lowering l bounded lowered list) at b p fits is in
      let listed = pin_listed d lowering l list b out.0 out.1 p out.2 out.3 in
      let to_pin : Reaches n l (list.number (NetBit x.0)) (list.number (BoxPin b p)) = subst (λ k. Reaches n l k (list.number (BoxPin b p))) (sym x.2) (subst (Reaches n l pin) (sym out.4) walk) in
      let e = ends of_designs d lowering l list lowered w b p _ listed (suc n) n (omega arith) x.0 known to_pin in
      let tail = (claims of_designs d lowering l list lowered w e.0 e.2 e.1).nets x.0 known e.3 in
      let over = across x.0 e.0 tail in
      let gives : place_in (driving_places d other) e.0 ≡ BoxPin b p = first_found e.0 b p _ _ (found_first d lowering e.0 b p e.4) in
      let there = pin_listed d other m more b out.0 out.1 p out.2 out.3 in
      let last : Reaches 1 m (more.number (NetBit e.0)) (more.number (BoxPin b p)) = (more.number (place_in (driving_places d other) e.0), copy_step of_designs d other m more also w e.0 e.2, ap more.number gives) in (
        more.number (NetBit x.0),
        more.number (BoxPin b p),
        over.0 + 1,
        p,
        pin_input of_designs d other m more also w c s num x.0 x.1,
        walk_joined of_designs d other m more also w over.0 1 (over.0 + 1) _ (more.number (NetBit e.0)) _ refl over.1 last,
        listed_below d other m more (BoxPin b p) _ there,
        listed_cell d other m more (BoxPin b p) _ there,
      )

module _ (of_designs : DesignLaws) where
  pub box_needs_are_one : BoxNeedsAreOne
  box_needs_are_one d lowering other l m bounded once lowered list also more = box_needs of_designs d bounded once lowering other l m lowered list also more
