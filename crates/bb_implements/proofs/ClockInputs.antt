-- A clock comes from the input of the top to whose place copies lead from the place of the clock.
use Rattle.std.proofs.Common.{◌≡◌, ℕ, zero, suc, ◌+◌, ◌<◌, ◌≤◌, Bool, true, false, if◌then◌else◌, List, [], ◌∷◌, ◌++◌, map, find, length, Contains, Option, Some, None, refl, sym, ap, ◌∙◌, subst, inl, inr, arith, true≢false, length-append, append_assoc}
use Rattle.std.specs.Prelude.{slice_get, IfSome, IfNone}
use Rattle.std.specs.List.{enumerate_from, flat_map, range_with_len}
use Rattle.std.specs.Option.{option_map_or}
use Rattle.std.proofs.lemmas.List.{length-map}
use Rattle.std.proofs.lemmas.List.FromFn.{length-range_with_len}
use Rattle.std.proofs.lemmas.List.Elements.{All-contains}
use Rattle.std.proofs.lemmas.Option.{slice_get-get_or}
use Rattle.bb_net.specs.declared.loose.LooseCell.{LooseCell}
use Rattle.bb_net.specs.declared.loose.LooseCell.TheVariants as cell
use Rattle.bb_net.specs.Loose.{LooseList}
use Rattle.bb_bits.specs.Closures.{Leads, One, More}
use Rattle.bb_design.specs.Hierarchy.{Design, boxes}
use Rattle.bb_design.specs.Inside.Allowed.{IsBounded}
use Rattle.bb_design.specs.NetBits.{Bit, same_bit, net_order, top_inputs}
use Rattle.bb_design.specs.Constructs.{parts}
use Rattle.bb_design.specs.Drivers.{Free, Drive, driven, drives, driven_bits}
use Rattle.bb_implements.specs.Places.{CellName, Constant, Input, NetBit, Lowering, IsLowering, IsListOf, given_at, given_by_box, driving_places, place_in, prefix_places}
use Rattle.bb_implements.specs.Inside.ReadPlaces.{copy_steps, FollowsAt}
use Rattle.bb_design.specs.Refusals.{AreDrivenOnce}
use Rattle.bb_design.specs.Registers.{RegisterBit, registers, cut_bits}
use Rattle.bb_implements.specs.Implements.{IsClockInput}
use Rattle.bb_lemmas.proofs.Places.{got, got-map, some_at, got_right}
use Rattle.bb_implements.proofs.CopyLoops.{inputs_followed}
use Rattle.bb_implements.proofs.CopySteps.{copy_to}
use Rattle.bb_implements.proofs.CopyWalks.{follows_at}
use Rattle.bb_lemmas.proofs.Numbered.{numbered_at}
use Rattle.bb_implements.proofs.GivenDrives.{top_driven}
use Rattle.bb_lemmas.proofs.Members.{contains-map}
use Rattle.bb_implements.proofs.ListedPlaces.{listed_cell, listed_below, net_listed}
use Rattle.bb_design.specs.Laws.DesignLaws.{DesignLaws}

range_at : (a n i : ℕ) → i < n → slice_get (range_with_len a n) i ≡ Some (a + i)
range_at a zero i lt = absurd (omega (arith, lt))
range_at a (suc n) zero lt = let plus : a ≡ a + 0 = omega arith in ap Some plus
range_at a (suc n) (suc i) lt = let plus : (a + 1) + i ≡ a + suc i = omega arith in range_at (a + 1) n i (omega (arith, lt)) ∙ ap Some plus

module _ (of_designs : DesignLaws) (d : Design) (lowering : Lowering) (l : LooseList) (list : IsListOf d lowering l) where
  abbrev prefix : List (CellName × LooseCell)
  prefix = prefix_places d lowering list.number

  -- a place of the front has its place there as its number
  prefix_number : (k : ℕ) (p : CellName) (u : LooseCell) → slice_get prefix k ≡ Some (p, u) → list.number p ≡ k
  prefix_number k p u at =
      let g = got prefix k (p, u) (p, u) at in
      let here : slice_get (range_with_len 0 (length prefix)) k ≡ Some (list.number p) = ap (λ l. slice_get l k) (sym list.prefix) ∙ got-map (λ (x : CellName × LooseCell). list.number x.0) prefix k (p, u) at in
      let both : Some (list.number p) ≡ Some (0 + k) = sym here ∙ range_at 0 (length prefix) k g.0 in
      let is : list.number p ≡ 0 + k = grind (arith, both) in omega (arith, is)

  abbrev inputs : List (CellName × LooseCell)
  inputs = map (λ i. (Input i, cell.Input i)) (range_with_len 0 (length (cut_bits d)))

  abbrev nets : List (CellName × LooseCell)
  nets = map (λ b. (NetBit b, cell.Copy (list.number (place_in (driving_places d lowering) b)))) (net_order d)

  long_inputs : length inputs ≡ length (cut_bits d)
  long_inputs = length-map (range_with_len 0 (length (cut_bits d))) _ ∙ length-range_with_len 0 (length (cut_bits d))

  pub net_number : (k : ℕ) (b : Bit) → slice_get (net_order d) k ≡ Some b → list.number (NetBit b) ≡ (2 + length (cut_bits d)) + k
  net_number k b at =
      let place : (2 + length (cut_bits d)) + k ≡ length ((Constant false, cell.Const false) ∷ (Constant true, cell.Const true) ∷ inputs) + k = omega (arith, long_inputs) in
      prefix_number ((2 + length (cut_bits d)) + k) (NetBit b) (cell.Copy (list.number (place_in (driving_places d lowering) b)))
      (ap (slice_get prefix) place ∙ got_right ((Constant false, cell.Const false) ∷ (Constant true, cell.Const true) ∷ inputs) nets k ∙ got-map {B = CellName × LooseCell} (λ b. (NetBit b, cell.Copy (list.number (place_in (driving_places d lowering) b)))) (net_order d) k b at)

  -- the place of a bit is one of the list
  pub net_there : (k : ℕ) (b : Bit) → slice_get (net_order d) k ≡ Some b → (2 + length (cut_bits d)) + k < length l.cells
  net_there k b at =
      let g = got (net_order d) k b b at in
      let low = listed_below d lowering l list (NetBit b) _ (net_listed d lowering l list b (k, g.0, g.1)) in
      omega (arith, low, net_number k b at)

  in_prefix : {A : Type 0} (xs ys : List A) (k : ℕ) (x : A) → slice_get xs k ≡ Some x → slice_get (xs ++ ys) k ≡ Some x
  in_prefix [] ys k x e = cc
  in_prefix (y ∷ xs) ys zero x e = e
  in_prefix (y ∷ xs) ys (suc k) x e = in_prefix xs ys k x e

  pub input_number : (k : ℕ) → k < length (cut_bits d) → list.number (Input k) ≡ k + 2
  input_number k lt =
      let zero_plus : 0 + k ≡ k = omega arith in
      let two : k + 2 ≡ suc (suc k) = omega arith in
      let at : slice_get inputs k ≡ Some (Input k, cell.Input k) = got-map {B = CellName × LooseCell} (λ i. (Input i, cell.Input i)) (range_with_len 0 (length (cut_bits d))) k (0 + k) (range_at 0 (length (cut_bits d)) k lt) ∙ ap (λ i. Some (Input i, cell.Input i)) zero_plus in
      prefix_number (k + 2) (Input k) (cell.Input k) (ap (slice_get prefix) two ∙ in_prefix inputs nets k (Input k, cell.Input k) at)

  -- the place that gives an input
  first_input : (a : ℕ) (xs : List Bit) (rest : List (Bit × CellName)) (k : ℕ) (c : Bit) → slice_get xs k ≡ Some c
      → (i : ℕ) × (y : Bit) × (i ≤ k) × (find (λ (x : Bit × CellName). same_bit c x.0) (map (λ x. (x.1, Input x.0)) (enumerate_from a xs) ++ rest) ≡ Some (y, Input (a + i)))
  first_input a [] rest k c e = cc
  first_input a (x ∷ xs) rest k c e = by (same_bit c x) refl k e (first_input (a + 1) xs rest)
    where
      plus : a ≡ a + 0
      plus = omega arith

      next : (i : ℕ) → (a + 1) + i ≡ a + suc i
      next i = omega arith

      tail : List (Bit × CellName)
      tail = map (λ x. (x.1, Input x.0)) (enumerate_from (a + 1) xs) ++ rest

      chosen : (b : Bool) → same_bit c x ≡ b → find (λ (x : Bit × CellName). same_bit c x.0) ((x, Input a) ∷ tail) ≡ (if b then Some (x, Input a) else find (λ (x : Bit × CellName). same_bit c x.0) tail)
      chosen b same = ap (λ t. if t then Some (x, Input a) else find (λ (x : Bit × CellName). same_bit c x.0) tail) same

      by : (b : Bool) → same_bit c x ≡ b → (k : ℕ) → slice_get (x ∷ xs) k ≡ Some c
          → ((k : ℕ) (c : Bit) → slice_get xs k ≡ Some c → (i : ℕ) × (y : Bit) × (i ≤ k) × (find (λ (x : Bit × CellName). same_bit c x.0) tail ≡ Some (y, Input ((a + 1) + i))))
          → (i : ℕ) × (y : Bit) × (i ≤ k) × (find (λ (x : Bit × CellName). same_bit c x.0) ((x, Input a) ∷ tail) ≡ Some (y, Input (a + i)))
      by true on k e more = (0, x, omega arith, chosen true on ∙ ap (λ i. Some (x, Input i)) plus)
      by false off zero e more = let same : x ≡ c = grind (arith, e) in absurd (true≢false (sym (((of_designs.distinguished c c).1 refl)) ∙ ap (same_bit c) (sym same) ∙ off))
      by false off (suc k) e more = let r = more k c e in (suc r.0, r.1, omega (arith, r.2), chosen false off ∙ r.3 ∙ ap (λ i. Some (r.1, Input i)) (next r.0))

  pub join : (j k m : ℕ) → FollowsAt l.cells j k → FollowsAt l.cells k m → FollowsAt l.cells j m
  join j k m (inl same) rest = subst (λ i. FollowsAt l.cells i m) (sym same) rest
  join j k m (inr leads) (inl same) = inr (subst (λ i. Leads (copy_steps l.cells) j i) same leads)
  join j k m (inr leads) (inr more) = inr (both j k m leads more)
    where
      both : (j k m : ℕ) → Leads (copy_steps l.cells) j k → Leads (copy_steps l.cells) k m → Leads (copy_steps l.cells) j m
      both j k m (One step) more = More step more
      both j k m (More {y = y} step rest) more = More step (both y k m rest more)

  module _ (bounded : IsBounded d) (once : AreDrivenOnce d) (lowered : IsLowering d lowering) where
    top_there : (c : Bit) → Contains (top_inputs d) c → Contains (net_order d) c
    top_there c has = All-contains (Contains (net_order d)) (driven_bits d) c (of_designs.bits_there d bounded).driven (contains-map (λ (z : Drive). z.bit) (drives d) (driven Free c) (top_driven of_designs d c has))

    -- an input of the top is a copy of an input of the list, which is not got_right it
    to_input : (k : ℕ) (c : Bit) → slice_get (top_inputs d) k ≡ Some c → (i : ℕ) × (i ≤ k) × FollowsAt l.cells (list.number (NetBit c)) (i + 2)
    to_input k c at =
        let cut = in_prefix (top_inputs d) (map (λ (r : RegisterBit). r.bit) (registers d)) k c at in
        let f = first_input 0 (cut_bits d) (flat_map given_by_box (enumerate_from 0 (boxes d)) ++ flat_map (given_at lowering) (enumerate_from 0 (parts d))) k c cut in
        let same : driving_places d lowering ≡ map (λ x. (x.1, Input x.0)) (enumerate_from 0 (cut_bits d)) ++ (flat_map given_by_box (enumerate_from 0 (boxes d)) ++ flat_map (given_at lowering) (enumerate_from 0 (parts d))) =
        append_assoc (map (λ x. (x.1, Input x.0)) (enumerate_from 0 (cut_bits d))) (flat_map given_by_box (enumerate_from 0 (boxes d))) (flat_map (given_at lowering) (enumerate_from 0 (parts d))) in
        let zero_plus : 0 + f.0 ≡ f.0 = omega arith in
        let place : place_in (driving_places d lowering) c ≡ Input f.0 =
        ap (λ all. option_map_or (λ (x : Bit × CellName). x.1) (find (λ (x : Bit × CellName). same_bit c x.0) all) (Constant false)) same ∙ ap (λ o. option_map_or (λ (x : Bit × CellName). x.1) o (Constant false)) f.3 ∙ ap Input zero_plus in
        let small = got (cut_bits d) k c c cut in
        let number : list.number (place_in (driving_places d lowering) c) ≡ f.0 + 2 = ap list.number place ∙ input_number f.0 (omega (arith, f.2, small.0)) in
        let g = got (top_inputs d) k c c at in
        let listed = net_listed d lowering l list c (top_there c (k, g.0, g.1)) in (
          f.0,
          f.2,
          inr (One (subst (λ q. Contains {X = ℕ × ℕ} (copy_steps l.cells) (list.number (NetBit c), q)) number (copy_to l.cells (list.number (NetBit c)) (list.number (place_in (driving_places d lowering) c)) (cell.Const false)
              (listed_below d lowering l list (NetBit c) _ listed) (listed_cell d lowering l list (NetBit c) _ listed)))),
        )

    module _ (b : Bit) (k : ℕ) (at : slice_get (net_order d) k ≡ Some b) where
      here : Contains (net_order d) b
      here = let g = got (net_order d) k b b at in (k, g.0, g.1)

      found_clock : (i : ℕ) → i < length (top_inputs d) → FollowsAt l.cells (list.number (NetBit b)) (i + 2) → IsClockInput d b (Some i)
      found_clock i lt follows =
          let c = some_at (top_inputs d) i lt in
          let cut = in_prefix (top_inputs d) (map (λ (r : RegisterBit). r.bit) (registers d)) i c.0 c.1 in
          let g = got (cut_bits d) i c.0 c.0 cut in
          let entry = subst (λ x. Contains {X = ℕ × Bit} (enumerate_from 0 (cut_bits d)) (i, x)) g.1 (numbered_at (cut_bits d) i c.0 g.0) in
          (c.0, c.1, inputs_followed of_designs d lowering l list lowered (of_designs.wired d bounded) i c.0 entry b here (subst (FollowsAt l.cells (list.number (NetBit b))) (sym (input_number i g.0)) follows))

      no_clock : ((i : ℕ) → i < length (top_inputs d) → FollowsAt l.cells (list.number (NetBit b)) (i + 2) → ⊥) → IsClockInput d b None
      no_clock none c has follows =
          let at_c : slice_get (top_inputs d) has.0 ≡ Some c = slice_get-get_or (top_inputs d) has.0 c has.1 ∙ ap Some has.2 in
          let t = to_input has.0 c at_c in
          let to_c = follows_at of_designs d lowering l list lowered (of_designs.wired d bounded) (of_designs.bits_there d bounded) once b c follows in
          none t.0 (omega (arith, t.1, has.1)) (join (list.number (NetBit b)) (list.number (NetBit c)) (t.0 + 2) to_c t.2)

      pub clock_is : (o : Option ℕ) (limit place : ℕ) → limit ≡ length (top_inputs d) → place ≡ list.number (NetBit b) → IfSome o (λ i. (i < limit) × FollowsAt l.cells place (i + 2)) → IfNone o ((i : ℕ) → i < limit → FollowsAt l.cells place (i + 2) → ⊥) → IsClockInput d b o
      clock_is (Some i) limit place all is some none = found_clock i (omega (arith, some.0, all)) (subst (λ j. FollowsAt l.cells j (i + 2)) is some.1)
      clock_is None limit place all is some none = no_clock (λ i lt follows. none i (omega (arith, lt, all)) (subst (λ j. FollowsAt l.cells j (i + 2)) (sym is) follows))

  few_tops : length (top_inputs d) ≤ length (cut_bits d)
  few_tops = omega (arith, length-append (top_inputs d) (map (λ (r : RegisterBit). r.bit) (registers d)))

  pub few_inputs : (limit : ℕ) → limit ≡ length (top_inputs d) → limit ≤ l.inputs
  few_inputs limit is = omega (arith, is, few_tops, list.inputs)
