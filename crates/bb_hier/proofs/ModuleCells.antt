-- Modules taken as cells: walks among the cells are walks among the modules, and the list can be put in order or has a loop.
use Rattle.std.proofs.Common.{◌≡◌, ◌⊎◌, ℕ, ◌+◌, ◌<◌, ◌≤◌, zero, suc, Bool, true, false, List, [], ◌∷◌, map, length, All, Contains, refl, sym, ap, ◌∙◌, subst, inl, inr, arith}
use Rattle.std.specs.Prelude.{slice_get, slice_index, Some}
use Rattle.std.specs.List.{enumerate_from, slice_index_or}
use Rattle.std.proofs.lemmas.List.{get_or-map, get_or_past, length-map}
use Rattle.std.proofs.lemmas.List.Elements.{All-contains}
use Rattle.std.proofs.lemmas.List.FromFn.{get_or-enumerate_from, length-enumerate_from, get_or-map-range_with_len, length-map-range_with_len}
use Rattle.std.proofs.lemmas.Option.{get_or_from_slice_get, slice_get-get_or, slice_get_within}
use Rattle.bb_net.specs.declared.loose.LooseCell.{LooseCell}
use Rattle.bb_net.specs.declared.loose.LooseCell.TheVariants.{Const, Input, BoxOut}
use Rattle.bb_net.specs.Loose.{loose_at, operand_places, IsLoose, Reaches}
use Rattle.bb_net.specs.Netlists.{Pins, box_at, IsPinAt}
use Rattle.bb_bits.specs.Closures.{Leads, One, More}
use Rattle.bb_hier.specs.Inside.Recursions.{place_steps, ArePlacesThere, module_pins, module_list}
use Rattle.bb_lemmas.proofs.Members.{all_from, from_flat, from_map, contains-map, into_flat, none_in_nil}
use Rattle.bb_lemmas.proofs.Numbered.{placed-at, at-place}
use Rattle.bb_lemmas.proofs.Orders.{less_or_past}

two_after : (k : ℕ) → suc (suc k) ≡ k + 2
two_after k = omega arith

zero_plus : (k : ℕ) → 0 + k ≡ k
zero_plus k = omega arith

abbrev no_pins : Pins
no_pins = record { ins = []; outs = [] }

abbrev pub called_at : List (List ℕ) → ℕ → List ℕ
called_at lists k = slice_index_or lists k []

module _ (lists : List (List ℕ)) where
  pub cells_long : length (module_list lists).cells ≡ length lists + 2
  cells_long = omega (arith, length-map-range_with_len (λ k. BoxOut k 0) 0 (length lists))

  cell_at : (k : ℕ) → k < length lists → loose_at (module_list lists) (k + 2) ≡ BoxOut k 0
  cell_at k lt = subst (λ p. slice_index_or (module_list lists).cells p (Const false) ≡ BoxOut k 0) (two_after k)
      (get_or-map-range_with_len (λ k. BoxOut k 0) 0 (length lists) k k (Const false) lt (omega arith))

  cell_past : (k : ℕ) → length lists ≤ k → loose_at (module_list lists) (k + 2) ≡ Const false
  cell_past k past = get_or_past (module_list lists).cells (k + 2) (Const false) (omega (arith, past, cells_long))

  pins_at : (k : ℕ) → k < length lists → box_at (module_list lists).boxes k ≡ module_pins (k, called_at lists k)
  pins_at k lt = get_or-map module_pins (enumerate_from 0 lists) k (0, []) no_pins (omega (arith, lt, length-enumerate_from 0 lists))
      ∙ ap module_pins (get_or-enumerate_from 0 lists k (0, []) lt) ∙ ap (λ j. module_pins (j, called_at lists k)) (zero_plus k)

  pins_past : (k : ℕ) → length lists ≤ k → box_at (module_list lists).boxes k ≡ no_pins
  pins_past k past = get_or_past (module_list lists).boxes k no_pins (omega (arith, past, length-map (enumerate_from 0 lists) module_pins, length-enumerate_from 0 lists))

  reads_at : (k : ℕ) → k < length lists → operand_places (module_list lists).boxes (loose_at (module_list lists) (k + 2)) ≡ map (λ j. j + 2) (called_at lists k)
  reads_at k lt = ap (operand_places (module_list lists).boxes) (cell_at k lt) ∙ ap (λ (pins : Pins). pins.ins) (pins_at k lt)

  reads_past : (k : ℕ) → length lists ≤ k → operand_places (module_list lists).boxes (loose_at (module_list lists) (k + 2)) ≡ []
  reads_past k past = ap (operand_places (module_list lists).boxes) (cell_past k past)

  -- what a cell reads
  read_from : (k q : ℕ) → Contains (operand_places (module_list lists).boxes (loose_at (module_list lists) (k + 2))) q → (j : ℕ) × (q ≡ j + 2) × (k < length lists) × Contains (called_at lists k) j
  read_from k q has = by (less_or_past k (length lists))
    where
      by : (k < length lists) ⊎ (length lists ≤ k) → (j : ℕ) × (q ≡ j + 2) × (k < length lists) × Contains (called_at lists k) j
      by (inl lt) = let m = from_map (λ j. j + 2) (called_at lists k) q (subst (λ xs. Contains xs q) (reads_at k lt) has) in (m.0, sym m.2, lt, m.1)
      by (inr past) = absurd (none_in_nil q (subst (λ xs. Contains xs q) (reads_past k past) has))

  read_to : (k j : ℕ) → k < length lists → Contains (called_at lists k) j → Contains (operand_places (module_list lists).boxes (loose_at (module_list lists) (k + 2))) (j + 2)
  read_to k j lt has = subst (λ xs. Contains xs (j + 2)) (sym (reads_at k lt)) (contains-map (λ i. i + 2) (called_at lists k) j has)

  -- the steps among the modules
  pub step_from : (j k : ℕ) → Contains (place_steps lists) (j, k) → (j < length lists) × Contains (called_at lists j) k
  step_from j k has =
      let x = from_flat (λ (x : ℕ × List ℕ). map (λ i. (x.0, i)) x.1) (enumerate_from 0 lists) (j, k) has in
      let d = placed-at 0 lists x.0 x.1 in
      let c = from_map (λ i. (x.0.0, i)) x.0.1 (j, k) x.2 in
      let place : d.0 ≡ j = omega (arith, d.1, ap (λ z. z.0) c.2) in
      let at : slice_get lists j ≡ Some x.0.1 = ap (slice_get lists) (sym place) ∙ d.2 in
      (slice_get_within lists j x.0.1 at, subst (λ xs. Contains xs k) (sym (get_or_from_slice_get lists j x.0.1 [] at)) (subst (Contains x.0.1) (ap (λ z. z.1) c.2) c.1))

  pub step_to : (j k : ℕ) → j < length lists → Contains (called_at lists j) k → Contains (place_steps lists) (j, k)
  step_to j k lt has =
      into_flat (λ (x : ℕ × List ℕ). map (λ i. (x.0, i)) x.1) (enumerate_from 0 lists) (0 + j, called_at lists j) (j, k) (at-place 0 lists j (called_at lists j) (slice_get-get_or lists j [] lt))
      (subst (λ i. Contains {X = ℕ × ℕ} (map (λ i. (0 + j, i)) (called_at lists j)) (i, k)) (zero_plus j) (contains-map (λ i. (0 + j, i)) (called_at lists j) k has))

  -- walks

  next_from : (j q : ℕ) → Contains (operand_places (module_list lists).boxes (loose_at (module_list lists) (j + 2))) q → (k : ℕ) × (q ≡ k + 2) × Contains (place_steps lists) (j, k)
  next_from j q has = let r = read_from j q has in (r.0, r.1, step_to j r.0 r.2 r.3)

  pub walk_from : (m j q : ℕ) → Reaches (suc m) (module_list lists) (j + 2) q → (k : ℕ) × (q ≡ k + 2) × Leads (place_steps lists) j k
  walk_from zero j q walk = let s = next_from j walk.0 walk.1 in (s.0, sym walk.2 ∙ s.1, One s.2)
  walk_from (suc m) j q walk =
      let s = next_from j walk.0 walk.1 in
      let r = walk_from m s.0 q (subst (λ p. Reaches (suc m) (module_list lists) p q) s.1 walk.2) in
      (r.0, r.1, More s.2 r.2)

  pub walk_to : (j k : ℕ) → Leads (place_steps lists) j k → (m : ℕ) × Reaches (suc m) (module_list lists) (j + 2) (k + 2)
  walk_to j k (One has) = let s = step_from j k has in (0, (k + 2, read_to j k s.0 s.1, refl))
  walk_to j k (More {y = y} has rest) = let s = step_from j y has in let r = walk_to y k rest in (suc r.0, (y + 2, read_to j y s.0 s.1, r.1))

  -- the list can be put in order

  pins_there : ArePlacesThere lists → (b : ℕ) → All (λ pin. pin < length (module_list lists).cells) (box_at (module_list lists).boxes b).ins
  pins_there there b = by (less_or_past b (length lists))
    where
      by : (b < length lists) ⊎ (length lists ≤ b) → All (λ pin. pin < length (module_list lists).cells) (box_at (module_list lists).boxes b).ins
      by (inl lt) = all_from (λ pin. pin < length (module_list lists).cells) _ (λ q has.
          let m = from_map (λ j. j + 2) (called_at lists b) q (subst (λ (pins : Pins). Contains pins.ins q) (pins_at b lt) has) in
          let low = All-contains (λ k. k < length lists) (called_at lists b) m.0 (there.there b [] lt) m.1 in
          omega (arith, low, m.2, cells_long))
      by (inr past) = all_from (λ pin. pin < length (module_list lists).cells) _ (λ q has. absurd (none_in_nil q (subst (λ (pins : Pins). Contains pins.ins q) (pins_past b past) has)))

  reads_there : ArePlacesThere lists → (place : ℕ) → All (λ k. k < length (module_list lists).cells) (operand_places (module_list lists).boxes (loose_at (module_list lists) place))
  reads_there there zero = all_from (λ k. k < length (module_list lists).cells) [] (λ q has. absurd (none_in_nil q has))
  reads_there there (suc zero) = all_from (λ k. k < length (module_list lists).cells) [] (λ q has. absurd (none_in_nil q has))
  reads_there there (suc (suc j)) = subst (λ p. All (λ k. k < length (module_list lists).cells) (operand_places (module_list lists).boxes (loose_at (module_list lists) p))) (sym (two_after j))
      (all_from (λ k. k < length (module_list lists).cells) _ (λ q has.
      let r = read_from j q has in
      let low = All-contains (λ k. k < length lists) (called_at lists j) r.0 (there.there j [] r.2) r.3 in
      omega (arith, low, r.1, cells_long)))

  -- a cell that is no constant is that of a module
  kind_of : (place : ℕ) (c : LooseCell) → loose_at (module_list lists) place ≡ c → ((b : Bool) → c ≡ Const b → ⊥) → (j : ℕ) × (place ≡ j + 2) × (j < length lists) × (c ≡ BoxOut j 0)
  kind_of zero c is other = absurd (other false (sym is))
  kind_of (suc zero) c is other = absurd (other true (sym is))
  kind_of (suc (suc j)) c is other = by (less_or_past j (length lists))
    where
      by : (j < length lists) ⊎ (length lists ≤ j) → (i : ℕ) × (suc (suc j) ≡ i + 2) × (i < length lists) × (c ≡ BoxOut i 0)
      by (inl lt) = (j, two_after j, lt, sym is ∙ ap (loose_at (module_list lists)) (two_after j) ∙ cell_at j lt)
      by (inr past) = absurd (other false (sym is ∙ ap (loose_at (module_list lists)) (two_after j) ∙ cell_past j past))

  listed : (place b p : ℕ) → loose_at (module_list lists) place ≡ BoxOut b p → IsPinAt (module_list lists).boxes b p place
  listed place b p is =
      let k = kind_of place (BoxOut b p) is (λ c e. grind (arith, e)) in
      let same : b ≡ k.0 = grind (arith, k.3) in
      let first : p ≡ 0 = grind (arith, k.3) in
      let pins = ap (box_at (module_list lists).boxes) same ∙ pins_at k.0 k.2 in
      subst (λ (x : Pins). (p < length x.outs) × (slice_index x.outs p ≡ place)) (sym pins)
      (subst (λ i. (i < 1) × (slice_index ((k.0 + 2) ∷ []) i ≡ place)) (sym first) (omega arith, sym k.1))

  driven : (b p place : ℕ) → IsPinAt (module_list lists).boxes b p place → (place < length (module_list lists).cells) × (loose_at (module_list lists) place ≡ BoxOut b p)
  driven b p place pin = by (less_or_past b (length lists))
    where
      by : (b < length lists) ⊎ (length lists ≤ b) → (place < length (module_list lists).cells) × (loose_at (module_list lists) place ≡ BoxOut b p)
      by (inl lt) =
          let at = subst (λ (x : Pins). (p < length x.outs) × (slice_index x.outs p ≡ place)) (pins_at b lt) pin in
          let first : p ≡ 0 = omega (arith, at.0) in
          let same : b + 2 ≡ place = subst (λ i. slice_index ((b + 2) ∷ []) i ≡ place) first at.1 in
          (omega (arith, lt, same, cells_long), ap (loose_at (module_list lists)) (sym same) ∙ cell_at b lt ∙ ap (BoxOut b) (sym first))
      by (inr past) = let none = subst (λ (x : Pins). p < length x.outs) (pins_past b past) pin.0 in absurd (omega (arith, none))

  pub modules_are_loose : ArePlacesThere lists → IsLoose (module_list lists)
  modules_are_loose there = record {
    prefix = refl;
    there = λ place lt. reads_there there place;
    inputs_there = λ place i lt is. let k = kind_of place (Input i) is (λ c e. grind (arith, e)) in grind (arith, k.3);
    outs_there = all_from (λ k. k < length (module_list lists).cells) [] (λ q has. absurd (none_in_nil q has));
    pins_there = pins_there there;
    listed = λ place b p lt is. listed place b p is;
    driven = driven;
    cells_fit = omega (arith, there.few, cells_long);
    boxes_fit = omega (arith, there.few, length-map (enumerate_from 0 lists) module_pins, length-enumerate_from 0 lists);
  }
