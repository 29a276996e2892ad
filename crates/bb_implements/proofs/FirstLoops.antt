-- In the list of cells the bits of nets follow the constants and the inputs, in net order.
use Rattle.std.proofs.Common.{◌≡◌, ◌⊎◌, ℕ, suc, ◌+◌, ◌-◌, ◌<◌, ◌≤◌, true, false, List, [], ◌∷◌, ◌++◌, map, take, drop, length, get_or, slice_get, Contains, Some, refl, sym, ap, ◌∙◌, subst, inl, inr, arith, length-append}
use Rattle.std.specs.List.{range_with_len}
use Rattle.std.proofs.lemmas.List.{length-map, get_or-append-add, get_or_append_left}
use Rattle.std.proofs.lemmas.List.Elements.{Contains-get_or, Contains-append_left}
use Rattle.std.proofs.lemmas.List.FromFn.{get_or-range_with_len}
use Rattle.std.proofs.lemmas.Option.{slice_get-get_or}
use Rattle.bb_net.specs.declared.loose.LooseCell.TheVariants as cell
use Rattle.bb_net.specs.Loose.{LooseList, loose_at, operand_places, IsOnClosedWalk}
use Rattle.bb_design.specs.Hierarchy.{Design}
use Rattle.bb_implements.specs.Laws.LoopLaws.{LeastWalksAreFirstLoops}
use Rattle.bb_design.specs.NetBits.{Bit, net_order}
use Rattle.bb_implements.specs.Places.{Constant, Input, NetBit, Lowering, driving_places, place_in, operator_places, IsListOf}
use Rattle.bb_design.specs.Registers.{cut_bits}
use Rattle.bb_lemmas.proofs.Places.{got, got-map, there_at, some_at, split, taken}
use Rattle.bb_lemmas.proofs.Members.{from_map, contains_cases, none_in_nil}
use Rattle.bb_lemmas.proofs.Orders.{less_or_not}
use Rattle.bb_implements.proofs.ListedEntries.{Entry}
use Rattle.bb_implements.proofs.ListedPlaces.{listed_cell}
use Rattle.bb_implements.proofs.LoopPlaces.{closed_walk_passes}
use Rattle.bb_implements.proofs.WalkLoops.{list_walks_are_loops}
use Rattle.bb_lemmas.proofs.Ranges.{length-range}
use Rattle.bb_design.specs.Laws.DesignLaws.{DesignLaws}

module _ (d : Design) (lowering : Lowering) (l : LooseList) (list : IsListOf d lowering l) where
  abbrev number_of : Entry → ℕ
  number_of x = list.number x.0

  abbrev first : List Entry
  first = (Constant false, cell.Const false) ∷ (Constant true, cell.Const true) ∷ map (λ i. (Input i, cell.Input i)) (range_with_len 0 (length (cut_bits d)))

  abbrev net_entry : Bit → Entry
  net_entry b = (NetBit b, cell.Copy (list.number (place_in (driving_places d lowering) b)))

  abbrev nets : List Entry
  nets = map net_entry (net_order d)

  first_length : length first ≡ l.inputs + 2
  first_length = omega (arith, length-map {B = Entry} (range_with_len 0 (length (cut_bits d))) (λ i. (Input i, cell.Input i)), length-range 0 (length (cut_bits d)), list.inputs)

  -- what is at a place of the front has its number
  prefix_number : (k : ℕ) (x : Entry) → slice_get (first ++ nets) k ≡ Some x → number_of x ≡ k
  prefix_number k x at =
      let g = got (map number_of (first ++ nets)) k (number_of x) 0 (got-map number_of (first ++ nets) k x at) in
      let fits : k < length (first ++ nets) = omega (arith, g.0, length-map (first ++ nets) number_of) in
      sym g.1 ∙ ap (λ r. get_or r k 0) list.prefix ∙ get_or-range_with_len 0 (length (first ++ nets)) k 0 fits ∙ omega arith

  net_at : (n : ℕ) (b : Bit) → slice_get (net_order d) n ≡ Some b → slice_get (first ++ nets) (length first + n) ≡ Some (net_entry b)
  net_at n b at =
      let none : Entry = (Constant false, cell.Const false) in
      let g = got nets n (net_entry b) none (got-map net_entry (net_order d) n b at) in
      slice_get-get_or (first ++ nets) (length first + n) none (omega (arith, g.0, length-append first nets)) ∙ ap Some (get_or-append-add first nets n none ∙ g.1)

  -- the bit with a number has its place after the constants and the inputs
  pub net_number : (n : ℕ) (b : Bit) → slice_get (net_order d) n ≡ Some b → list.number (NetBit b) ≡ l.inputs + 2 + n
  net_number n b at = prefix_number (length first + n) (net_entry b) (net_at n b at) ∙ ap (λ m. m + n) first_length

  quiet : (x : Entry) → Contains first x → operand_places l.boxes x.1 ≡ []
  quiet x has = zero_one (contains_cases (Constant false, cell.Const false) ((Constant true, cell.Const true) ∷ map (λ i. (Input i, cell.Input i)) (range_with_len 0 (length (cut_bits d)))) x has)
    where
      input : Contains (map (λ i. (Input i, cell.Input i)) (range_with_len 0 (length (cut_bits d)))) x → operand_places l.boxes x.1 ≡ []
      input h = let i = from_map {B = Entry} (λ i. (Input i, cell.Input i)) (range_with_len 0 (length (cut_bits d))) x h in subst (λ (y : Entry). operand_places l.boxes y.1 ≡ []) i.2 refl

      one : ((Constant true, cell.Const true) ≡ x) ⊎ Contains (map (λ i. (Input i, cell.Input i)) (range_with_len 0 (length (cut_bits d)))) x → operand_places l.boxes x.1 ≡ []
      one (inl e) = subst (λ (y : Entry). operand_places l.boxes y.1 ≡ []) e refl
      one (inr h) = input h

      zero_one : ((Constant false, cell.Const false) ≡ x) ⊎ Contains ((Constant true, cell.Const true) ∷ map (λ i. (Input i, cell.Input i)) (range_with_len 0 (length (cut_bits d)))) x → operand_places l.boxes x.1 ≡ []
      zero_one (inl e) = subst (λ (y : Entry). operand_places l.boxes y.1 ≡ []) e refl
      zero_one (inr h) = one (contains_cases (Constant true, cell.Const true) (map (λ i. (Input i, cell.Input i)) (range_with_len 0 (length (cut_bits d)))) x h)

  -- the constants and the inputs are on no closed walk
  pub first_are_quiet : (k : ℕ) → k < l.inputs + 2 → IsOnClosedWalk l k → ⊥
  first_are_quiet k low (fits, n, (to, has, rest)) =
      let none : Entry = (Constant false, cell.Const false) in
      let inside : k < length first = omega (arith, low, first_length) in
      let x = get_or first k none in
      let there : Contains first x = Contains-get_or first k none inside in
      let at : slice_get (first ++ nets) k ≡ Some x = slice_get-get_or (first ++ nets) k none (omega (arith, inside, length-append first nets)) ∙ ap Some (get_or_append_left first nets none k inside) in
      let is = ap (loose_at l) (sym (prefix_number k x at)) ∙ listed_cell d lowering l list x.0 x.1 (Contains-append_left (first ++ nets) (operator_places d lowering list.number) x (Contains-append_left first nets x there)) in
      none_in_nil to (subst (λ os. Contains os to) (ap (operand_places l.boxes) is ∙ quiet x there) has)

module _ (of_designs : DesignLaws) where
  pub least_walks_are_first_loops : LeastWalksAreFirstLoops
  least_walks_are_first_loops d lowering l bounded once lowered list k least =
      let passed = closed_walk_passes of_designs d lowering l list lowered (of_designs.wired d bounded) k least.on in
      let m = passed.1.0 in
      let at_m : slice_get (net_order d) m ≡ Some passed.0 = slice_get-get_or (net_order d) m passed.0 passed.1.1 ∙ ap Some passed.1.2 in
      let number_m = net_number d lowering l list m passed.0 at_m in
      let above : k ≤ l.inputs + 2 + m = by_less m (list.number (NetBit passed.0)) (less_or_not (list.number (NetBit passed.0)) k) number_m passed.2 in
      let over : l.inputs + 2 ≤ k = over_first (less_or_not k (l.inputs + 2)) in
      let n = k - (l.inputs + 2) in
      let sum : l.inputs + 2 + n ≡ k = omega (arith, over) in
      let b = some_at (net_order d) n (omega (arith, sum, above, passed.1.1)) in
      let number_b = net_number d lowering l list n b.0 b.1 in
      let loops = list_walks_are_loops of_designs d lowering l bounded once lowered list in (
        n,
        b.0,
        sym sum,
        b.1,
        record {
          before = take n (net_order d);
          after = drop (suc n) (net_order d);
          occurs = split (net_order d) n b.0 b.1;
          holds = (loops b.0 (there_at (net_order d) n b.0 b.1)).0 (subst (IsOnClosedWalk l) (sym (number_b ∙ sum)) least.on);
          earlier = λ c has loop.
              let j = taken (net_order d) n c has in
              let number_c = net_number d lowering l list j.0 c j.2 in
              least.least (list.number (NetBit c)) (omega (arith, number_c, j.1, sum)) ((loops c (there_at (net_order d) j.0 c j.2)).1 loop);
        },
      )
    where
      by_less : (m number : ℕ) → (number < k) ⊎ (k ≤ number) → number ≡ l.inputs + 2 + m → IsOnClosedWalk l number → k ≤ l.inputs + 2 + m
      by_less m number (inl h) same on = absurd (least.least _ h on)
      by_less m number (inr h) same on = omega (arith, h, same)

      over_first : (k < l.inputs + 2) ⊎ (l.inputs + 2 ≤ k) → l.inputs + 2 ≤ k
      over_first (inl h) = absurd (first_are_quiet d lowering l list k h least.on)
      over_first (inr h) = h
