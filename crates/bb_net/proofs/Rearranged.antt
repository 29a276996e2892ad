-- A netlist whose inputs were put in another order is a netlist.
use Rattle.std.proofs.Common.{◌≡◌, ℕ, zero, suc, ◌+◌, ◌-◌, ◌<◌, ◌≤◌, ◌^◌, List, [], ◌∷◌, ◌++◌, false, length, map, take, drop, get_or, refl, sym, ap, subst, ◌∙◌, inl, inr, arith}
use Rattle.std.specs.Prelude.{All, Contains, slice_set, slice_index}
use Rattle.std.proofs.Math.ListN as math
use Rattle.std.proofs.lemmas.Bool.{cases_lt}
use Rattle.std.proofs.lemmas.List.{take_more_set, map_more, drop-set-lt, get_or-drop, get_or-take, get_or-map, get_or-append_right, get_or_append_left, get_or_past, length-take, length-take-le, length-drop, length-append, length-map, take-append-le, take_all}
use Rattle.std.proofs.lemmas.List.Elements.{All-map, All-contains, Contains-get_or}
use Rattle.std.proofs.lemmas.List.FromFn.{get_or-map-range_with_len}
use Rattle.std.proofs.lemmas.Grind.{drop_more_same}
use Rattle.bb_net.specs.declared.cell.Cell.{Cell}
use Rattle.bb_net.specs.declared.cell.Cell.TheVariants.{Const, Input, Not, And, Or, Xor, Mux, BoxOut}
use Rattle.bb_net.specs.Netlists.{Netlist, Pins, cell_at, box_at, first_cells, ReadsBefore, reads_of, ReadsInSteps, DependsOn, IsPinAt, IsNetlist}
use Rattle.bb_net.specs.Orders.{moved_pins}
use Rattle.bb_net.specs.Rearrangements.{new_input, new_place, moved_cell, IsRearranged}
use Rattle.bb_net.proofs.NetLemmas.{length-first_cells, first_is, source_reads, source_no_box}
use Rattle.bb_net.proofs.BuildLemmas.{reads_before}

-- a list that is changed one by one in place
module _ {X : Type 0} (f : X → X) where
  pub changed_more : (old now : List X) (k : ℕ) (d y : X) → k < length old → length now ≡ length old → take k now ≡ map f (take k old) → drop k now ≡ drop k old → y ≡ f (get_or now k d)
      → (take (k + 1) (slice_set now k y) ≡ map f (take (k + 1) old)) × (drop (k + 1) (slice_set now k y) ≡ drop (k + 1) old)
  changed_more old now k d y lt len prefix after is =
      let at : k < length now = omega (arith, lt, len) in
      let there : k + 0 ≡ k = omega arith in
      let here : get_or now k d ≡ get_or old k d = ap (λ n. get_or now n d) (sym there) ∙ sym (get_or-drop k now 0 d) ∙ ap (λ l. get_or l 0 d) after ∙ get_or-drop k old 0 d ∙ ap (λ n. get_or old n d) there in
      let taken = take_more_set now k y at in
      let wanted = map_more f old k d lt in
      let value : y ≡ f (get_or old k d) = is ∙ ap f here in (
        taken ∙ ap (λ l. l ++ y ∷ []) prefix ∙ ap (λ z. map f (take k old) ++ z ∷ []) value ∙ sym wanted,
        drop-set-lt (k + 1) now k y (omega arith) ∙ drop_more_same now old k after,
      )

-- what is in a mapped list
contains_mapped : {X Y : Type 0} (g : X → Y) (xs : List X) (d : X) (y : Y) → Contains (map g xs) y → (x : X) × Contains xs x × (g x ≡ y)
contains_mapped g xs d y has =
    let lt : has.0 < length xs = omega (arith, has.1, length-map xs g) in
    (get_or xs has.0 d, Contains-get_or xs has.0 d lt, sym (get_or-map g xs has.0 d y lt) ∙ has.2)

input_at : (inputs i : ℕ) → i < inputs → cell_at (first_cells inputs) (suc (suc i)) ≡ Input i
input_at inputs i h = get_or-map-range_with_len Input 0 inputs i i (Const false) h (omega arith)

box_of_moved : (numbers : List ℕ) (c : Cell) (b p : ℕ) → moved_cell numbers c ≡ BoxOut b p → c ≡ BoxOut b p
box_of_moved numbers (Const v) b p e = cc e
box_of_moved numbers (Input v) b p e = cc e
box_of_moved numbers (Not v) b p e = cc e
box_of_moved numbers (And v w) b p e = cc e
box_of_moved numbers (Or v w) b p e = cc e
box_of_moved numbers (Xor v w) b p e = cc e
box_of_moved numbers (Mux v w u) b p e = cc e
box_of_moved numbers (BoxOut v w) b p e = e

-- what a moved cell reads
reads_of_moved : (numbers : List ℕ) (old new : List Pins) → ((b : ℕ) → (box_at new b).ins ≡ map (new_place numbers) (box_at old b).ins) → (c : Cell) → reads_of new (moved_cell numbers c) ≡ map (new_place numbers) (reads_of old c)
reads_of_moved numbers old new same (Const v) = refl
reads_of_moved numbers old new same (Input v) = refl
reads_of_moved numbers old new same (Not v) = refl
reads_of_moved numbers old new same (And v w) = refl
reads_of_moved numbers old new same (Or v w) = refl
reads_of_moved numbers old new same (Xor v w) = refl
reads_of_moved numbers old new same (Mux v w u) = refl
reads_of_moved numbers old new same (BoxOut b p) = same b

module _ (old : Netlist) (kept : IsNetlist old) (numbers picks : List ℕ) (count : length numbers ≡ old.inputs) (below : All (λ n. n < old.inputs) numbers) (there : All (λ j. j < length old.outs) picks) where
  abbrev first : ℕ
  first = old.inputs + 2

  abbrev to : ℕ → ℕ
  to = new_place numbers

  abbrev new_cells : List Cell
  new_cells = take first old.cells ++ map (moved_cell numbers) (drop first old.cells)

  abbrev new_boxes : List Pins
  new_boxes = map (moved_pins to) old.boxes

  abbrev pub new_net : Netlist
  new_net = record { inputs = old.inputs; cells = new_cells; boxes = new_boxes; outs = map (λ j. to (slice_index old.outs j)) picks }

  pub fits : first ≤ length old.cells
  fits = let len = ap length kept.prefix in omega (arith, len, length-take first old.cells, length-first_cells old.inputs)

  pub numbers_fit : All (λ n. n + 2 < 2 ^ 32) numbers
  numbers_fit k d lt = let low : get_or numbers k d < old.inputs = below k d lt in let fit = kept.cells_fit in let size = fits in omega (arith, low, fit, size)

  prefix_is : (k : ℕ) → k < first → cell_at old.cells k ≡ cell_at (first_cells old.inputs) k
  prefix_is k h = sym (get_or-take first old.cells k (Const false) h) ∙ ap (λ xs. cell_at xs k) kept.prefix

  length_new : length new_cells ≡ length old.cells
  length_new =
      let a = length-append (take first old.cells) (map (moved_cell numbers) (drop first old.cells)) in
      let b = length-take-le first old.cells fits in
      let c = length-map (drop first old.cells) (moved_cell numbers) in
      let d = length-drop first old.cells in
      omega (arith, a, b, c, d, fits)

  new_prefix : (k : ℕ) → k < first → cell_at new_cells k ≡ cell_at (first_cells old.inputs) k
  new_prefix k h =
      let len = length-take-le first old.cells fits in
      get_or_append_left (take first old.cells) (map (moved_cell numbers) (drop first old.cells)) (Const false) k (omega (arith, h, len)) ∙ ap (λ xs. cell_at xs k) kept.prefix

  new_after : (k : ℕ) → first ≤ k → k < length old.cells → cell_at new_cells k ≡ moved_cell numbers (cell_at old.cells k)
  new_after k h lt =
      let len = length-drop first old.cells in
      let on : first + (k - first) ≡ k = omega (arith, h) in
      get_or-append_right (take first old.cells) (map (moved_cell numbers) (drop first old.cells)) first k (Const false) (length-take-le first old.cells fits) h
      ∙ get_or-map (moved_cell numbers) (drop first old.cells) (k - first) (Const false) (Const false) (omega (arith, h, lt, len))
      ∙ ap (moved_cell numbers) (get_or-drop first old.cells (k - first) (Const false) ∙ ap (cell_at old.cells) on)

  to_after : (k : ℕ) → first ≤ k → to k ≡ k
  to_after zero h = refl
  to_after (suc zero) h = refl
  to_after (suc (suc i)) h = let e = get_or_past numbers i i (omega (arith, h, count)) in omega (arith, e)

  to_prefix : (k : ℕ) → k < first → to k < first
  to_prefix zero h = omega arith
  to_prefix (suc zero) h = omega arith
  to_prefix (suc (suc i)) h = let lt : new_input numbers i < old.inputs = below i i (omega (arith, h, count)) in omega (arith, lt)

  pub to_there : (k : ℕ) → k < length old.cells → to k < length old.cells
  to_there k h = elim (cases_lt k first) [
    | inl f ↦ let lt = to_prefix k f in let fit = fits in omega (arith, lt, fit)
    | inr b ↦ let e = to_after k b in omega (arith, e, h)
  ]

  prefix_moved : (k : ℕ) → k < first → cell_at (first_cells old.inputs) (to k) ≡ moved_cell numbers (cell_at (first_cells old.inputs) k)
  prefix_moved zero h = refl
  prefix_moved (suc zero) h = refl
  prefix_moved (suc (suc i)) h =
      let lt : new_input numbers i < old.inputs = below i i (omega (arith, h, count)) in
      let two : new_input numbers i + 2 ≡ suc (suc (new_input numbers i)) = omega arith in
      ap (cell_at (first_cells old.inputs)) two ∙ input_at old.inputs (new_input numbers i) lt ∙ sym (ap (moved_cell numbers) (input_at old.inputs i (omega (arith, h))))

  pub moved_at : (k : ℕ) → k < length old.cells → cell_at new_cells (to k) ≡ moved_cell numbers (cell_at old.cells k)
  moved_at k h = elim (cases_lt k first) [
    | inl f ↦ new_prefix (to k) (to_prefix k f) ∙ prefix_moved k f ∙ sym (ap (moved_cell numbers) (prefix_is k f))
    | inr b ↦ ap (cell_at new_cells) (to_after k b) ∙ new_after k b h
  ]

  box_moved : (b : ℕ) → box_at new_boxes b ≡ moved_pins to (box_at old.boxes b)
  box_moved b = math.get_or-map (moved_pins to) old.boxes b (record { ins = []; outs = [] })

  ins_moved : (b : ℕ) → (box_at new_boxes b).ins ≡ map to (box_at old.boxes b).ins
  ins_moved b = ap (λ (q : Pins). q.ins) (box_moved b)

  outs_moved : (b : ℕ) → (box_at new_boxes b).outs ≡ map to (box_at old.boxes b).outs
  outs_moved b = ap (λ (q : Pins). q.outs) (box_moved b)

  to_before : (a place : ℕ) → first ≤ place → a < place → to a < place
  to_before a place h lt = elim (cases_lt a first) [
    | inl f ↦ let small = to_prefix a f in omega (arith, small, h)
    | inr b ↦ let e = to_after a b in omega (arith, e, lt)
  ]

  reads_before_moved : (place : ℕ) → first ≤ place → (c : Cell) → ReadsBefore old.inputs old.boxes place c → ReadsBefore old.inputs new_boxes place (moved_cell numbers c)
  reads_before_moved place h (Const v) r = tt
  reads_before_moved place h (Input i) r = below i i (omega (arith, r, count))
  reads_before_moved place h (Not a) r = to_before a place h r
  reads_before_moved place h (And a b) r = (to_before a place h r.0, to_before b place h r.1)
  reads_before_moved place h (Or a b) r = (to_before a place h r.0, to_before b place h r.1)
  reads_before_moved place h (Xor a b) r = (to_before a place h r.0, to_before b place h r.1)
  reads_before_moved place h (Mux c t e) r = (to_before c place h r.0, to_before t place h r.1, to_before e place h r.2)
  reads_before_moved place h (BoxOut b p) r = subst (All (λ pin. pin < place)) (sym (ins_moved b)) (All-map (λ pin. pin < place) to (box_at old.boxes b).ins (λ k d lt. to_before _ place h (r k d lt)))

  ordered_new : (place : ℕ) → place < length new_cells → ReadsBefore old.inputs new_boxes place (cell_at new_cells place)
  ordered_new place lt = elim (cases_lt place first) [
    | inl f ↦ subst (ReadsBefore old.inputs new_boxes place) (sym (new_prefix place f)) (source_reads old.inputs place new_boxes (cell_at (first_cells old.inputs) place) (first_is old.inputs place))
    | inr b ↦ let here : place < length old.cells = omega (arith, lt, length_new) in
        subst (ReadsBefore old.inputs new_boxes place) (sym (new_after place b here)) (reads_before_moved place b (cell_at old.cells place) (kept.ordered place here))
  ]

  pin_moved : (b p q : ℕ) → IsPinAt old.boxes b p q → IsPinAt new_boxes b p (to q)
  pin_moved b p q pin =
      let e = outs_moved b in
      let len = length-map (box_at old.boxes b).outs to in
      (omega (arith, pin.0, len, ap length e), ap (λ l. slice_index l p) e ∙ get_or-map to (box_at old.boxes b).outs p 0 0 pin.0 ∙ ap to pin.1)

  pin_from : (b p place : ℕ) → IsPinAt new_boxes b p place → (q : ℕ) × IsPinAt old.boxes b p q × (to q ≡ place)
  pin_from b p place pin =
      let e = outs_moved b in
      let len = length-map (box_at old.boxes b).outs to in
      let lt : p < length (box_at old.boxes b).outs = omega (arith, pin.0, len, ap length e) in
      (slice_index (box_at old.boxes b).outs p, (lt, refl), sym (get_or-map to (box_at old.boxes b).outs p 0 0 lt) ∙ sym (ap (λ l. slice_index l p) e) ∙ pin.1)

  listed_new : (place b p : ℕ) → place < length new_cells → cell_at new_cells place ≡ BoxOut b p → IsPinAt new_boxes b p place
  listed_new place b p lt is = elim (cases_lt place first) [
    | inl f ↦ source_no_box old.inputs b p (cell_at (first_cells old.inputs) place) (first_is old.inputs place) (sym (new_prefix place f) ∙ is)
    | inr h ↦ let here : place < length old.cells = omega (arith, lt, length_new) in
        let old_is = box_of_moved numbers (cell_at old.cells place) b p (sym (new_after place h here) ∙ is) in
        subst (IsPinAt new_boxes b p) (to_after place h) (pin_moved b p place (kept.listed place b p here old_is))
  ]

  driven_new : (b p place : ℕ) → IsPinAt new_boxes b p place → (place < length new_cells) × (cell_at new_cells place ≡ BoxOut b p)
  driven_new b p place pin =
      let q = pin_from b p place pin in
      let d = kept.driven b p q.0 q.1 in
      let at : (to q.0 < length new_cells) × (cell_at new_cells (to q.0) ≡ BoxOut b p) = (let lt = to_there q.0 d.0 in omega (arith, lt, length_new), moved_at q.0 d.0 ∙ ap (moved_cell numbers) d.1) in
      subst (λ k. (k < length new_cells) × (cell_at new_cells k ≡ BoxOut b p)) q.2 at

  -- a walk in the new netlist was one in the old
  leads_back : (n from place : ℕ) → from < length old.cells → ReadsInSteps n new_cells new_boxes (to from) place → (q : ℕ) × (q < length old.cells) × (to q ≡ place) × ReadsInSteps n old.cells old.boxes from q
  leads_back zero from place h e = (from, h, e, refl)
  leads_back (suc n) from place h walk =
      let reads : reads_of new_boxes (cell_at new_cells (to from)) ≡ map to (reads_of old.boxes (cell_at old.cells from)) = ap (reads_of new_boxes) (moved_at from h) ∙ reads_of_moved numbers old.boxes new_boxes ins_moved (cell_at old.cells from) in
      let next = contains_mapped to (reads_of old.boxes (cell_at old.cells from)) 0 walk.0 (subst (λ l. Contains l walk.0) reads walk.1) in
      let before = All-contains (λ k. k < from) (reads_of old.boxes (cell_at old.cells from)) next.0 (reads_before old.inputs old.boxes from (cell_at old.cells from) (kept.ordered from h)) next.1 in
      let rest = leads_back n next.0 place (omega (arith, before, h)) (subst (λ k. ReadsInSteps n new_cells new_boxes k place) (sym next.2) walk.2) in
      (rest.0, rest.1, rest.2, (next.0, next.1, rest.3))

  apart_new : (b c p pin place : ℕ) → b ≤ c → Contains (box_at new_boxes b).ins pin → DependsOn new_cells new_boxes pin place → cell_at new_cells place ≡ BoxOut c p → ⊥
  apart_new b c p pin place le has walk is =
      let here = contains_mapped to (box_at old.boxes b).ins 0 pin (subst (λ l. Contains l pin) (ins_moved b) has) in
      let lt = All-contains (λ k. k < length old.cells) (box_at old.boxes b).ins here.0 (kept.pins_there b) here.1 in
      let back = leads_back walk.0 here.0 place lt (subst (λ k. ReadsInSteps walk.0 new_cells new_boxes k place) (sym here.2) walk.1) in
      let old_is = box_of_moved numbers (cell_at old.cells back.0) c p (sym (moved_at back.0 back.1) ∙ ap (cell_at new_cells) back.2 ∙ is) in
      kept.boxes_ordered b c p here.0 back.0 le here.1 (walk.0, back.3) old_is

  to_new : (k : ℕ) → k < length old.cells → to k < length new_cells
  to_new k h = let lt = to_there k h in omega (arith, lt, length_new)

  pub is_netlist : IsNetlist new_net
  is_netlist = record {
    prefix = take-append-le first (take first old.cells) (map (moved_cell numbers) (drop first old.cells)) (let len = length-take-le first old.cells fits in omega (arith, len))
        ∙ take_all first (take first old.cells) (let len = length-take-le first old.cells fits in omega (arith, len)) ∙ kept.prefix;
    ordered = ordered_new;
    listed = listed_new;
    driven = driven_new;
    boxes_ordered = apart_new;
    pins_there = λ b. subst (All (λ pin. pin < length new_cells)) (sym (ins_moved b)) (All-map (λ pin. pin < length new_cells) to (box_at old.boxes b).ins (λ k d lt. to_new _ (kept.pins_there b k d lt)));
    outs_there = All-map (λ place. place < length new_cells) (λ j. to (slice_index old.outs j)) picks (λ k d lt. to_new _ (kept.outs_there _ 0 (there k d lt)));
    cells_fit = let fit = kept.cells_fit in omega (arith, fit, length_new);
    boxes_fit = let fit = kept.boxes_fit in omega (arith, fit, length-map old.boxes (moved_pins to));
  }

  pub is_rearranged : IsRearranged numbers picks old new_net
  is_rearranged = record { inputs = refl; numbered = count; numbers_there = below; cell_count = length_new; cells = moved_at; boxes = refl; outs = refl }

-- the same of a netlist that is given by another name
module _ (old net : Netlist) (kept : IsNetlist old) (same : old ≡ net) (numbers picks : List ℕ) (count : length numbers ≡ net.inputs) (below : All (λ n. n < net.inputs) numbers) (there : All (λ j. j < length net.outs) picks) where
  count_old : length numbers ≡ old.inputs
  count_old = count ∙ sym (ap (λ (n : Netlist). n.inputs) same)

  below_old : All (λ n. n < old.inputs) numbers
  below_old = subst (λ (n : Netlist). All (λ k. k < n.inputs) numbers) (sym same) below

  there_old : All (λ j. j < length old.outs) picks
  there_old = subst (λ (n : Netlist). All (λ j. j < length n.outs) picks) (sym same) there

  pub fit_so : All (λ n. n + 2 < 2 ^ 32) numbers
  fit_so = numbers_fit old kept numbers picks count_old below_old there_old

  pub prefix_fits_so : old.inputs + 2 ≤ length old.cells
  prefix_fits_so = fits old kept numbers picks count_old below_old there_old

  pub picks_so : All (λ j. j < length old.outs) picks
  picks_so = there_old

  module _ (cells : List Cell) (boxes : List Pins) (outs : List ℕ) (cells_are : cells ≡ take (old.inputs + 2) old.cells ++ map (moved_cell numbers) (drop (old.inputs + 2) old.cells))
      (boxes_are : boxes ≡ map (moved_pins (new_place numbers)) old.boxes) (outs_are : outs ≡ map (λ j. new_place numbers (slice_index old.outs j)) picks) where
    made : record { inputs = old.inputs; cells = cells; boxes = boxes; outs = outs } ≡ new_net old kept numbers picks count_old below_old there_old
    made = λ i. record { inputs = old.inputs; cells = cells_are i; boxes = boxes_are i; outs = outs_are i }

    pub netlist_so : IsNetlist (record { inputs = old.inputs; cells = cells; boxes = boxes; outs = outs })
    netlist_so = subst IsNetlist (sym made) (is_netlist old kept numbers picks count_old below_old there_old)

    pub rearranged_so : IsRearranged numbers picks net (record { inputs = old.inputs; cells = cells; boxes = boxes; outs = outs })
    rearranged_so = subst (λ n. IsRearranged numbers picks n (record { inputs = old.inputs; cells = cells; boxes = boxes; outs = outs })) same
        (subst (IsRearranged numbers picks old) (sym made) (is_rearranged old kept numbers picks count_old below_old there_old))
