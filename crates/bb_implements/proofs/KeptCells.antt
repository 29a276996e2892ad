-- The cells of an ordered netlist after the constants and the inputs are, one to one, those of the list after its front that are no
-- copies.
use Rattle.std.proofs.Common.{◌≡◌, ◌≢◌, ◌⊎◌, ℕ, ◌+◌, ◌-◌, ◌<◌, ◌≤◌, ◌==◌, Bool, true, false, if◌then◌else◌, List, [], ◌∷◌, ◌++◌, map, filter, length, get_or, AllPairs, Contains, refl, sym, ap, ◌∙◌, subst, inl, inr, arith, true≢false, length-append}
use Rattle.std.specs.List.{AllByRecursion, IsDistinct, range_with_len, remove}
use Rattle.std.specs.List.Sorted.{IsPermutation}
use Rattle.std.proofs.lemmas.Bool.Decides.{Decides-eqb}
use Rattle.std.proofs.lemmas.List.{map-append, get_or-map, get_or_append_left, length-map}
use Rattle.std.proofs.lemmas.List.Elements.{recursion_from_All, Contains-append_cases, Contains-append_left, Contains-append_right, Contains-get_or}
use Rattle.std.proofs.lemmas.List.FromFn.{get_or-range_with_len}
use Rattle.std.proofs.lemmas.List.Sorted.{IsPermutation-refl, IsPermutation-sym, IsPermutation-trans, IsPermutation-cons, IsPermutation-remove, Contains-permutation}
use Rattle.std.proofs.lemmas.Map.Keys.{IsDistinct-IsPermutation}
use Rattle.std.proofs.lemmas.Map.Made.{AllPairs-from_IsDistinct, IsDistinct-from_AllPairs}
use Rattle.bb_net.specs.declared.loose.LooseCell.{LooseCell}
use Rattle.bb_net.specs.declared.loose.LooseCell.TheVariants as cell
use Rattle.bb_net.specs.Loose.{LooseList, loose_at}
use Rattle.bb_net.specs.Netlists.{Netlist}
use Rattle.bb_net.specs.Orders.{IsNoCopy, IsOrderOf}
use Rattle.bb_design.specs.Hierarchy.{Design}
use Rattle.bb_design.specs.NetBits.{net_order}
use Rattle.bb_implements.specs.Places.{Constant, Input, NetBit, Lowering, driving_places, place_in, prefix_places, operator_places, placed_cells, IsListOf}
use Rattle.bb_design.specs.Registers.{cut_bits}
use Rattle.bb_lemmas.proofs.Members.{each_of, all_from, from_map, contains-map, contains_here, contains_there, contains_cases, none_in_nil, kept_from, keeps}
use Rattle.bb_lemmas.proofs.Orders.{less_or_not}
use Rattle.bb_implements.proofs.CellCounts.{is_kept, kept_is}
use Rattle.bb_lemmas.proofs.Apart.{apart_right, apart_append}
use Rattle.bb_lemmas.proofs.Ranges.{range_there, from_range, length-range}
use Rattle.bb_implements.proofs.ListedEntries.{Entry}
use Rattle.bb_implements.proofs.ListedPlaces.{listed_cell, listed_below, listed_at}
use Rattle.bb_implements.proofs.ListNumbers.{flips, numbers_apart, range_distinct}

-- lists without repetition

not_among : (x : ℕ) (xs : List ℕ) → AllByRecursion (λ y. (x == y) ≡ false) xs → Contains xs x → ⊥
not_among x xs apart has = let off : (x == x) ≡ false = each_of (λ y. (x == y) ≡ false) xs apart x has in grind (arith, off)

left_of : (x z : ℕ) (xs ys : List ℕ) → AllByRecursion (λ y. (x == y) ≡ false) xs → Contains xs z → (x ≡ z) ⊎ Contains ys z → Contains ys z
left_of x z xs ys apart has (inl e) = absurd (not_among x xs apart (subst (Contains xs) (sym e) has))
left_of x z xs ys apart has (inr more) = more

-- such lists are permutations of one another where they have the same members
same_members : (xs ys : List ℕ) → IsDistinct ◌==◌ xs → IsDistinct ◌==◌ ys → ((x : ℕ) → Contains xs x → Contains ys x) → ((x : ℕ) → Contains ys x → Contains xs x) → IsPermutation xs ys
unfolding IsDistinct
same_members [] [] p q to from = IsPermutation-refl []
same_members [] (y ∷ ys) p q to from = absurd (none_in_nil y (from y (contains_here y ys)))
same_members (x ∷ xs) ys p q to from =
    let has = to x (contains_here x xs) in
    let rest = remove ys has.0 in
    let moved : IsPermutation ys (x ∷ rest) = IsPermutation-remove ys has.0 x has.1 (sym has.2) in
    let back = IsPermutation-sym ys (x ∷ rest) moved in
    let apart : IsDistinct ◌==◌ (x ∷ rest) = IsDistinct-IsPermutation ◌==◌ flips ys (x ∷ rest) moved q in
    let inner : IsPermutation xs rest =
    same_members xs rest p.1 apart.1
    (λ z h. left_of x z xs rest p.0 h (contains_cases x rest z (Contains-permutation ys (x ∷ rest) z moved (to z (contains_there x xs z h)))))
    (λ z h. left_of x z rest xs apart.0 h (contains_cases x xs z (from z (Contains-permutation (x ∷ rest) ys z back (contains_there x rest z h))))) in
    IsPermutation-trans (x ∷ xs) (x ∷ rest) ys (IsPermutation-cons x xs rest inner) back

differ : (a b : ℕ) → (a ≡ b → ⊥) → (a == b) ≡ false
differ a b apart = by (a == b) refl
  where
    by : (t : Bool) → (a == b) ≡ t → (a == b) ≡ false
    by true e = absurd (apart (grind (arith, e)))
    by false e = e

-- where elements have numbers apart, so have those that pass a test, by other numbers that say them apart as well
moved_apart : {A : Type 0} (f g : A → ℕ) (p : A → Bool) (xs : List A) → IsDistinct ◌==◌ (map f xs) → ((x y : A) → Contains xs x → Contains xs y → p x ≡ true → p y ≡ true → g x ≡ g y → f x ≡ f y) → IsDistinct ◌==◌ (map g (filter p xs))
unfolding IsDistinct
moved_apart f g p [] apart same = tt
moved_apart f g p (x ∷ xs) apart same = by (p x) refl (moved_apart f g p xs apart.1 (λ y z a b. same y z (contains_there x xs y a) (contains_there x xs z b)))
  where
    away : p x ≡ true → (k : ℕ) → Contains (map g (filter p xs)) k → (g x == k) ≡ false
    away on k has =
        let y = from_map g (filter p xs) k has in
        let kept = kept_from p xs y.0 y.1 in
        let off : (f x == f y.0) ≡ false = each_of (λ n. (f x == n) ≡ false) (map f xs) apart.0 (f y.0) (contains-map f xs y.0 kept.0) in
        subst (λ n. (g x == n) ≡ false) y.2 (differ (g x) (g y.0) (λ e. let equal = same x y.0 (contains_here x xs) (contains_there x xs y.0 kept.0) on kept.1 e in grind (arith, equal, off)))

    by : (b : Bool) → p x ≡ b → IsDistinct ◌==◌ (map g (filter p xs)) → IsDistinct ◌==◌ (map g (if b then x ∷ filter p xs else filter p xs))
    by true on rest = (recursion_from_All (λ k. (g x == k) ≡ false) (map g (filter p xs)) (all_from (λ k. (g x == k) ≡ false) (map g (filter p xs)) (away on)), rest)
    by false off rest = rest

-- cells

is_no_copy : (c : LooseCell) → is_kept c ≡ true → IsNoCopy c
is_no_copy (cell.Const b) e = tt
is_no_copy (cell.Input i) e = tt
is_no_copy (cell.Not a) e = tt
is_no_copy (cell.And a b) e = tt
is_no_copy (cell.Or a b) e = tt
is_no_copy (cell.Xor a b) e = tt
is_no_copy (cell.Mux c t e) on = tt
is_no_copy (cell.BoxOut b p) e = tt
is_no_copy (cell.Copy p) e = true≢false (sym e)

module _ (d : Design) (lowering : Lowering) (l : LooseList) (list : IsListOf d lowering l) (net : Netlist) (boxed : List ℕ) (order : IsOrderOf l net boxed) where
  abbrev number : Entry → ℕ
  number x = list.number x.0

  abbrev inputs : List Entry
  inputs = map (λ i. (Input i, cell.Input i)) (range_with_len 0 (length (cut_bits d)))

  abbrev first : List Entry
  first = (Constant false, cell.Const false) ∷ (Constant true, cell.Const true) ∷ inputs

  abbrev nets : List Entry
  nets = map (λ b. (NetBit b, cell.Copy (list.number (place_in (driving_places d lowering) b)))) (net_order d)

  abbrev operators : List Entry
  operators = operator_places d lowering list.number

  -- those that are no copies
  abbrev pub kept_operators : List Entry
  kept_operators = filter (λ x. is_kept x.1) operators

  -- where a cell of the list is in the netlist
  abbrev pub moved : Entry → ℕ
  moved x = order.to (list.number x.0)

  long : length first ≡ l.inputs + 2
  long = omega (arith, list.inputs, length-map {B = Entry} (range_with_len 0 (length (cut_bits d))) (λ i. (Input i, cell.Input i)), length-range 0 (length (cut_bits d)))

  -- the constants and the inputs are at their places
  first_number : (i : ℕ) (e : Entry) → i < length first → number (get_or first i e) ≡ i
  first_number i e fits =
      let within : i < length (first ++ nets) = omega (arith, fits, length-append first nets) in
      ap number (sym (get_or_append_left first nets e i fits)) ∙ sym (get_or-map number (first ++ nets) i e 0 within) ∙ ap (λ all. get_or all i 0) list.prefix
      ∙ get_or-range_with_len 0 (length (first ++ nets)) i 0 within ∙ omega arith

  first_below : (x : Entry) → Contains first x → number x < l.inputs + 2
  first_below x has = omega (arith, has.1, long, first_number has.0 x has.1, ap number has.2)

  first_kept : (x : Entry) → Contains first x → IsNoCopy x.1
  first_kept x has = by (contains_cases (Constant false, cell.Const false) ((Constant true, cell.Const true) ∷ inputs) x has)
    where
      second : ((Constant true, cell.Const true) ≡ x) ⊎ Contains inputs x → IsNoCopy x.1
      second (inl e) = subst (λ (y : Entry). IsNoCopy y.1) e tt
      second (inr h) = let i = from_map {B = Entry} (λ i. (Input i, cell.Input i)) (range_with_len 0 (length (cut_bits d))) x h in subst (λ (y : Entry). IsNoCopy y.1) i.2 tt

      by : ((Constant false, cell.Const false) ≡ x) ⊎ Contains ((Constant true, cell.Const true) ∷ inputs) x → IsNoCopy x.1
      by (inl e) = subst (λ (y : Entry). IsNoCopy y.1) e tt
      by (inr h) = second (contains_cases (Constant true, cell.Const true) inputs x h)

  nets_copied : (x : Entry) → Contains nets x → is_kept x.1 ≡ false
  nets_copied x has =
      let b = from_map {B = Entry} (λ b. (NetBit b, cell.Copy (list.number (place_in (driving_places d lowering) b)))) (net_order d) x has in
      subst (λ (y : Entry). is_kept y.1 ≡ false) b.2 refl

  abbrev prefix_numbers : List ℕ
  prefix_numbers = map number (prefix_places d lowering list.number)

  apart : AllPairs ◌≢◌ (prefix_numbers ++ map number operators)
  apart = subst (AllPairs ◌≢◌) (map-append number (prefix_places d lowering list.number) operators) (AllPairs-from_IsDistinct Decides-eqb (map number (placed_cells d lowering list.number)) (numbers_apart d lowering l list))

  operator_listed : (x : Entry) → Contains operators x → Contains (placed_cells d lowering list.number) x
  operator_listed x has = Contains-append_right (prefix_places d lowering list.number) operators x has

  kept_at : (x : Entry) → Contains (placed_cells d lowering list.number) x → is_kept x.1 ≡ true → IsNoCopy (loose_at l (number x))
  kept_at x has on = subst IsNoCopy (sym (listed_cell d lowering l list x.0 x.1 has)) (is_no_copy x.1 on)

  -- no operator is among the constants and the inputs of the netlist
  moved_high : (x : Entry) → Contains operators x → is_kept x.1 ≡ true → l.inputs + 2 ≤ moved x
  moved_high x has on = by (less_or_not (moved x) (l.inputs + 2))
    where
      by : (moved x < l.inputs + 2) ⊎ (l.inputs + 2 ≤ moved x) → l.inputs + 2 ≤ moved x
      by (inr high) = high
      by (inl low) =
          let y = get_or first (moved x) x in
          let fits : moved x < length first = omega (arith, low, long) in
          let at : number y ≡ moved x = first_number (moved x) x fits in
          let in_first : Contains first y = Contains-get_or first (moved x) x fits in
          let in_prefix : Contains (prefix_places d lowering list.number) y = Contains-append_left first nets y in_first in
          let listed : Contains (placed_cells d lowering list.number) y = Contains-append_left (prefix_places d lowering list.number) operators y in_prefix in
          let same : number y ≡ number x =
          order.apart (number y) (number x) (listed_below d lowering l list y.0 y.1 listed) (listed_below d lowering l list x.0 x.1 (operator_listed x has))
          (subst IsNoCopy (sym (listed_cell d lowering l list y.0 y.1 listed)) (first_kept y in_first)) (kept_at x (operator_listed x has) on) (order.prefix (number y) (omega (arith, at, low)) ∙ at) in
          absurd (apart_append prefix_numbers (map number operators) (number x) apart
          (subst (Contains prefix_numbers) same (contains-map number (prefix_places d lowering list.number) y in_prefix)) (contains-map number operators x has))

  abbrev after : List ℕ
  after = range_with_len (net.inputs + 2) (length net.cells - (net.inputs + 2))

  reached : (k : ℕ) → Contains after k → Contains (map moved kept_operators) k
  reached k has =
      let r = from_range (net.inputs + 2) (length net.cells - (net.inputs + 2)) k has in
      let j = order.all k (omega (arith, r.0, r.1)) in
      let p = listed_at d lowering l list j.0 j.1 in
      let is : loose_at l j.0 ≡ p.1 = ap (loose_at l) (sym p.3) ∙ listed_cell d lowering l list p.0 p.1 p.2 in
      let on : is_kept p.1 ≡ true = kept_is p.1 (subst IsNoCopy is j.2) in
      let to : order.to (list.number p.0) ≡ k = ap order.to p.3 ∙ j.3 in
      by k r.0 (p.0, p.1) on to (Contains-append_cases (prefix_places d lowering list.number) operators (p.0, p.1) p.2)
    where
      by : (k : ℕ) → net.inputs + 2 ≤ k → (x : Entry) → is_kept x.1 ≡ true → moved x ≡ k → Contains (prefix_places d lowering list.number) x ⊎ Contains operators x → Contains (map moved kept_operators) k
      by k high x on to (inr h) = subst (Contains (map moved kept_operators)) to (contains-map moved kept_operators x (keeps (λ x. is_kept x.1) operators x h on))
      by k high x on to (inl h) = prefix (Contains-append_cases first nets x h)
        where
          prefix : Contains first x ⊎ Contains nets x → Contains (map moved kept_operators) k
          prefix (inl low) = let below = first_below x low in absurd (omega (arith, high, to, below, order.prefix (number x) below, order.inputs))
          prefix (inr copy) = absurd (true≢false (sym on ∙ nets_copied x copy))

  stays : (k : ℕ) → Contains (map moved kept_operators) k → Contains after k
  stays k has =
      let x = from_map moved kept_operators k has in
      let kept = kept_from (λ x. is_kept x.1) operators x.0 x.1 in
      let high = moved_high x.0 kept.0 kept.1 in
      let low = order.there (number x.0) (listed_below d lowering l list x.0.0 x.0.1 (operator_listed x.0 kept.0)) in
      range_there (net.inputs + 2) (length net.cells - (net.inputs + 2)) k (omega (arith, high, x.2, order.inputs)) (omega (arith, high, low, x.2, order.inputs))

  pub one_to_one : IsPermutation after (map moved kept_operators)
  one_to_one = same_members after (map moved kept_operators) (range_distinct (net.inputs + 2) (length net.cells - (net.inputs + 2)))
      (moved_apart number moved (λ x. is_kept x.1) operators (IsDistinct-from_AllPairs Decides-eqb (map number operators) (apart_right prefix_numbers (map number operators) apart))
      (λ x y p q on also same. order.apart (number x) (number y) (listed_below d lowering l list x.0 x.1 (operator_listed x p)) (listed_below d lowering l list y.0 y.1 (operator_listed y q)) (kept_at x (operator_listed x p) on) (kept_at y (operator_listed y q) also) same))
      reached stays

  pub kept_listed : (x : Entry) → Contains kept_operators x → Contains (placed_cells d lowering list.number) x
  kept_listed x has = operator_listed x (kept_from (λ x. is_kept x.1) operators x has).0
