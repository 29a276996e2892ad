-- The list of cells that is made by numbers is the list of cells of the design.
use Rattle.std.proofs.Common.{◌≡◌, ℕ, suc, ◌+◌, ◌<◌, ◌≤◌, ◌^◌, Bool, true, false, cond, List, [], ◌∷◌, ◌++◌, map, filter, flat_map, take, length, replicate, Some, None, refl, sym, ap, ap₂, ◌∙◌, subst, arith, length-append}
use Rattle.std.specs.Prelude.{slice_get}
use Rattle.std.specs.List.{fold, enumerate_from, range_with_len}
use Rattle.std.proofs.lemmas.List.{length-map, map-append, length-replicate, take_all}
use Rattle.std.specs.List.Sorted.{IsPermutation}
use Rattle.std.proofs.lemmas.List.Sorted.{IsPermutation-refl}
use Rattle.std.proofs.lemmas.List.Sums.{fold-append}
use Rattle.std.proofs.lemmas.Slice.Zip.{AllZip-long}
use Rattle.std.proofs.lemmas.Option.{slice_get_within}
use Rattle.bb_expr.specs.Laws.FitLaws.{NetNamesDiffer}
use Rattle.bb_net.specs.declared.loose.LooseCell.{LooseCell}
use Rattle.bb_net.specs.declared.loose.LooseCell.TheVariants as cell
use Rattle.bb_net.specs.Loose.{LooseList}
use Rattle.bb_blast.specs.declared.template.ModuleTemplate.{ModuleTemplate}
use Rattle.bb_blast.specs.declared.placed.Placed.{Placed}
use Rattle.bb_blast.specs.declared.stored.Stored.{Stored}
use Rattle.bb_design.specs.Hierarchy.{Design, Scope, root, boxes, instances, is_box, scopes}
use Rattle.bb_design.specs.NetBits.{Bit, scope_bits, net_order, input_bits, output_bits, top_inputs, top_outputs}
use Rattle.bb_design.specs.Constructs.{parts}
use Rattle.bb_blast.specs.Inside.Counting.{capped, after}
use Rattle.bb_blast.specs.Inside.Listing.{Sources, CellList, Boxed, given_one, given_all, place_or_zero, in_row, bit_count, input_numbers, boxed_in, cell_list_on, cells_before, outs_of, finished, first_sources, listed_on, listed}
use Rattle.bb_blast.specs.Inside.Logic.{constant_place}
use Rattle.bb_design.specs.Inside.Allowed.{IsBounded}
use Rattle.bb_design.specs.Refusals.{most_bits, most_cells}
use Rattle.bb_design.specs.Sizes.{cells_in as cells_in_design}
use Rattle.bb_blast.specs.Inside.ModuleTemplates.{IsModuleTemplate}
use Rattle.bb_blast.specs.Inside.Placements.{ArePlaced, AreTemplated, AreStored, IsStoredAt}
use Rattle.bb_implements.specs.Places.{CellName, Constant, Input, NetBit, BoxPin, Numbering, Lowering, IsLowering, given_at, given_by_box, driving_places, data_at, data_places, place_in, box_places, places_at, prefix_places, operator_places, placed_cells, IsListOf}
use Rattle.bb_implements.specs.Laws.ListLaws.{PlacesAreFew}
use Rattle.bb_design.specs.Registers.{RegisterBit, registers, cut_bits}
use Rattle.bb_blast.proofs.BitNumbers.{bit_number, numbered, number_small, held_bits}
use Rattle.bb_blast.proofs.CappedNumbers.{capped_small, after_second, row_small}
use Rattle.bb_lemmas.proofs.Places.{there_at}
use Rattle.bb_blast.proofs.GivenPlaces.{given_long, noted}
use Rattle.bb_lemmas.proofs.Zips.{zip_other}
use Rattle.bb_blast.proofs.ListedBlocks.{WholeBlock, IsWholeBlockOf, AreWhole, wholes_of, with_whole_block, blocks_of, scopes_fold, lowering_of, cell_list_at, number_of, block_puts, PutAll, put_all}
use Rattle.bb_blast.proofs.ListedBoxes.{PutsBoxes, boxes_put}
use Rattle.bb_lemmas.proofs.Numbered.{length-enumerated}
use Rattle.bb_lemmas.proofs.Ranges.{length-range}
use Rattle.bb_blast.proofs.ListedParts.{numbers_are, Puts, pair}
use Rattle.bb_blast.proofs.ListedScopes.{has_inputs, blocks_are, boxes_are, counted}
use Rattle.bb_blast.proofs.PlacesInRow.{Entry, AreInRow, both_rows, cells_in, rows_same, moved_row, row_of, same_zipped, cells_occur, map-same}
use Rattle.bb_lemmas.proofs.Maps.{same_by_places, map-twice}
use Rattle.bb_design.specs.Laws.DesignLaws.{DesignLaws}

-- sums of what a small design has
below_both : (a b top n m : ℕ) → n ≤ a → m ≤ b → a + b < top → n + m < top
below_both a b top n m le more few = omega (arith, le, more, few)

below : (top n m : ℕ) → n ≤ m → m < top → n < top
below top n m le few = omega (arith, le, few)

filtered : {A : Type 0} (test : A → Bool) (xs : List A) → length (filter test xs) ≤ length xs
filtered test [] = omega arith
filtered test (x ∷ xs) = by (test x) (filtered test xs)
  where
    by : (t : Bool) → length (filter test xs) ≤ length xs → length (cond t (x ∷ filter test xs) (filter test xs)) ≤ suc (length xs)
    by true le = omega (arith, le)
    by false le = omega (arith, le)

-- boxes have as many places as pins
pins_long : (n : ℕ) (ss : List Scope) → length (flat_map box_places (enumerate_from n ss)) ≡ length (flat_map output_bits ss)
pins_long n [] = refl
pins_long n (s ∷ ss) =
    length-append (box_places (n, s)) (flat_map box_places (enumerate_from (n + 1) ss))
    ∙ ap₂ ◌+◌ (length-map {B = Entry} (enumerate_from 0 (output_bits s)) (λ (x : ℕ × Bit). (BoxPin n x.0, cell.BoxOut n x.0)) ∙ length-enumerated 0 (output_bits s)) (pins_long (n + 1) ss)
    ∙ sym (length-append (output_bits s) (flat_map output_bits ss))

module _ (of_designs : DesignLaws) (names : NetNamesDiffer) (few : PlacesAreFew) (d : Design) (bounded : IsBounded d) (placed : List Placed) (are : ArePlaced d placed) (templates : List ModuleTemplate) (templated : AreTemplated d placed templates)
    (stored : List Stored) (store : AreStored d stored) (p : Placed) (top : ModuleTemplate) (first_at : slice_get placed 0 ≡ Some p) (top_at : slice_get templates p.module ≡ Some top) (ins : List ℕ) (ins_are : ins ≡ input_numbers top stored)
    (bits : ℕ) (bits_are : bits ≡ bit_count placed templates) (nets : ℕ) (nets_are : nets ≡ 2 + length ins) (start : ℕ) (start_is : start ≡ nets + bits) where
  abbrev boxed : Boxed
  boxed = boxed_in nets start placed templates (first_sources bits ins)

  abbrev begun : CellList
  begun = record { cells = boxed.cells; sources = boxed.sources; next = replicate bits None }

  -- the blocks of the design, with all steps of their expressions
  pub whole : AreWhole d (flat_map (blocks_of placed templates) placed) (parts d)
  whole = wholes_of d (flat_map (blocks_of placed templates) placed) (parts d) (blocks_are of_designs names d bounded placed are templates templated)
      (λ x has. has_inputs of_designs d bounded x.0 x.1 has)

  abbrev blocks : List WholeBlock
  blocks = whole.wholes

  abbrev pins_before : ℕ → ℕ
  pins_before n = length (flat_map output_bits (take n (boxes d)))

  abbrev pub number : Numbering
  number = number_of d blocks nets start begun pins_before

  abbrev lowering : Lowering
  lowering = lowering_of blocks

  abbrev cell_list : CellList
  cell_list = cell_list_on nets start placed templates boxed (replicate bits None)

  net_places : (b : Bit) → number (NetBit b) ≡ after nets (bit_number d b)
  unfolding number_of
  net_places b = refl

  pins_occur : (n x : ℕ) → number (BoxPin n x) ≡ after (start + length (flat_map output_bits (take n (boxes d)))) x
  unfolding number_of
  pins_occur n x = refl

  zero_is : number (Constant false) ≡ 0
  unfolding number_of
  zero_is = refl

  constants_are : (b : Bool) → number (Constant b) ≡ constant_place b
  unfolding number_of
  constants_are b = refl

  inputs_are : (i : ℕ) → number (Input i) ≡ after 2 i
  unfolding number_of
  inputs_are i = refl

  top_template : IsModuleTemplate d.text d.top top
  top_template =
      let o = templated 0 (root d) p refl first_at in
      let same : o.0 ≡ top = grind (arith, o.1, top_at) in
      subst (IsModuleTemplate d.text d.top) same o.2

  -- the top begins with the first bit
  top_first : (i : ℕ) (b : Bit) → slice_get (scope_bits (root d)) i ≡ Some b → bit_number d b ≡ after 0 i
  top_first i b e = held_bits of_designs names d bounded placed are 0 (root d) p refl first_at i b e ∙ ap (λ n. after n i) (are.each 0 (root d) p refl first_at).first

  bits_whole : bits ≡ length (net_order d)
  bits_whole = bits_are ∙ counted of_designs names d bounded placed are templates templated

  parts_fit : PutAll d lowering number nets start (cell_list_at d blocks nets start begun pins_before) 0 (parts d) cell_list
  parts_fit =
      subst (PutAll d lowering number nets start (cell_list_at d blocks nets start begun pins_before) 0 (parts d)) last
      (put_all d lowering number nets start (cell_list_at d blocks nets start begun pins_before) 0 (parts d) (λ i x e.
      let b = zip_other (IsWholeBlockOf d) blocks (parts d) i x whole.occur e in
      let none : i ≡ 0 + i = omega arith in
      subst (λ n. Puts d lowering number nets start (n, x) (cell_list_at d blocks nets start begun pins_before n) (cell_list_at d blocks nets start begun pins_before (suc n))) none
      (block_puts d blocks nets start begun pins_before i b.0 x.0 x.1 b.1 b.2 (has_inputs of_designs d bounded x.0 x.1 (there_at (parts d) i x e)))))
    where
      last : cell_list_at d blocks nets start begun pins_before (0 + length (parts d)) ≡ cell_list
      last =
          ap (fold (with_whole_block nets start) begun) (take_all (0 + length (parts d)) blocks (omega (arith, AllZip-long (IsWholeBlockOf d) blocks (parts d) whole.occur)))
          ∙ sym (whole.put nets start begun) ∙ sym (scopes_fold nets start placed templates begun placed)

  pub is_lowering : IsLowering d lowering
  is_lowering = parts_fit.lowered

  -- a small design has few places, boxes and pins
  few_places : length (placed_cells d lowering number) < 2 ^ 32
  few_places = below (2 ^ 32) (length (placed_cells d lowering number)) (cells_in_design d + length (net_order d)) (few d lowering number bounded is_lowering)
      (below_both most_cells most_bits (2 ^ 32) (cells_in_design d) (length (net_order d)) bounded.small.1 (omega (arith, bounded.small.0)) (omega arith))

  few_boxes : length (boxes d) < 2 ^ 32
  few_boxes = below (2 ^ 32) (length (boxes d)) (1 + (length (net_order d) + length (instances d))) (omega (arith, filtered is_box (scopes d)))
      (below_both 1 most_bits (2 ^ 32) 1 (length (net_order d) + length (instances d)) (omega arith) bounded.small.0 (omega arith))

  few_pins : length (flat_map output_bits (boxes d)) < 2 ^ 32
  few_pins = below (2 ^ 32) (length (flat_map output_bits (boxes d))) (length (placed_cells d lowering number))
      (omega (arith, length-append (prefix_places d lowering number) (operator_places d lowering number), length-append (flat_map box_places (enumerate_from 0 (boxes d))) (flat_map (places_at lowering number) (enumerate_from 0 (parts d))), pins_long 0 (boxes d)))
      few_places

  boxes_fit : PutsBoxes d lowering number nets start net_places 0 (boxes d) (record { cells = []; sources = first_sources bits ins; boxes = [] }) boxed
  boxes_fit = boxes_put d lowering number nets start net_places templates (boxes d) pins_occur few_boxes few_pins (scopes d) placed [] (record { cells = []; sources = first_sources bits ins; boxes = [] }) are.count
      (λ k s p at has. boxes_are of_designs names d bounded placed are templates templated lowering number nets start net_places (boxes d) pins_occur few_boxes few_pins k s p at has)
      (record { counted = refl; whole = refl; long = refl })

  abbrev noting : Bit × CellName → ℕ × ℕ
  noting = pair d lowering number nets start

  -- what gives each bit

  register_numbers : map (λ (x : Stored). after 0 x.bit) stored ≡ map (λ (r : RegisterBit). bit_number d r.bit) (registers d)
  register_numbers = same_zipped (IsStoredAt d) (λ (x : Stored). after 0 x.bit) (λ (r : RegisterBit). bit_number d r.bit) stored (registers d) store
      (λ x r is. let at : 0 + x.bit ≡ bit_number d r.bit = omega (arith, numbered of_designs names d bounded x.bit r.bit is.bit) in ap capped at ∙ number_small of_designs names d bounded r.bit)

  cut_numbers : map (after 0) ins ≡ map (bit_number d) (cut_bits d)
  cut_numbers =
      ap (map (after 0)) ins_are ∙ map-append (after 0) top.inputs.items (map (λ (x : Stored). x.bit) stored)
      ∙ ap₂ ◌++◌ (sym (numbers_are (bit_number d) (scope_bits (root d)) 0 top_first top.inputs.items (input_bits (root d)) (top_template.inputs [])))
      (map-twice (λ (x : Stored). x.bit) (after 0) stored ∙ register_numbers ∙ sym (map-twice (λ (r : RegisterBit). r.bit) (bit_number d) (registers d)))
      ∙ sym (map-append (bit_number d) (top_inputs d) (map (λ (r : RegisterBit). r.bit) (registers d)))

  pub cut_long : length ins ≡ length (cut_bits d)
  cut_long = sym (length-map ins (after 0)) ∙ ap length cut_numbers ∙ length-map (cut_bits d) (bit_number d)

  abbrev given_inputs : List (Bit × CellName)
  given_inputs = map (λ x. (x.1, Input x.0)) (enumerate_from 0 (cut_bits d))

  abbrev given_pins : List (Bit × CellName)
  given_pins = flat_map given_by_box (enumerate_from 0 (boxes d))

  abbrev given_parts : List (Bit × CellName)
  given_parts = flat_map (given_at lowering) (enumerate_from 0 (parts d))

  inputs_noted : in_row 0 ins 2 ≡ map noting given_inputs
  inputs_noted =
      rows_same (after 0) (bit_number d) (after 2) (λ i. number (Input i)) 0 ins (cut_bits d) cut_numbers (λ i. sym (inputs_are i))
      ∙ sym (map-twice {B = Bit × CellName} (λ (x : ℕ × Bit). (x.1, Input x.0)) noting (enumerate_from 0 (cut_bits d)))

  joined : (xs ys : List (Bit × CellName)) (a : Sources) → given_all (given_all a (map noting xs)) (map noting ys) ≡ given_all a (map noting (xs ++ ys))
  joined xs ys a = sym (fold-append given_one a (map noting xs) (map noting ys)) ∙ ap (given_all a) (sym (map-append noting xs ys))

  sources_are : cell_list.sources ≡ given_all (replicate bits None) (map noting (driving_places d lowering))
  sources_are =
      parts_fit.sources ∙ ap (λ a. given_all a (map noting given_parts)) (boxes_fit.sources ∙ ap (λ ws. given_all (given_all (replicate bits None) ws) (map noting given_pins)) inputs_noted ∙ joined given_inputs given_pins (replicate bits None))
      ∙ joined (given_inputs ++ given_pins) given_parts (replicate bits None)

  abbrev data_given : List (Bit × CellName)
  data_given = flat_map (data_at lowering) (enumerate_from 0 (parts d))

  next_is : cell_list.next ≡ given_all (replicate bits None) (map noting data_given)
  next_is = parts_fit.next

  sources_long : length cell_list.sources ≡ length (net_order d)
  sources_long = ap length sources_are ∙ given_long (map noting (driving_places d lowering)) (replicate bits None) ∙ length-replicate bits None ∙ bits_whole

  copies_are : map (λ x. cell.Copy (place_or_zero (Some x))) cell_list.sources ≡ map (λ b. cell.Copy (number (place_in (driving_places d lowering) b))) (net_order d)
  copies_are = same_by_places (λ x. cell.Copy (place_or_zero (Some x))) (λ b. cell.Copy (number (place_in (driving_places d lowering) b))) cell_list.sources (net_order d) sources_long (λ k x b at has.
      ap (λ z. cell.Copy (place_or_zero z)) (sym at ∙ ap (λ z. slice_get z k) sources_are)
      ∙ ap cell.Copy (noted of_designs names d bounded lowering number nets start zero_is bits k b (omega (arith, slice_get_within (net_order d) k b has, bits_whole)) has (driving_places d lowering)))

  -- the front of the list

  abbrev constant_entries : List Entry
  constant_entries = (Constant false, cell.Const false) ∷ (Constant true, cell.Const true) ∷ []

  abbrev input_entries : List Entry
  input_entries = map (λ i. (Input i, cell.Input i)) (range_with_len 0 (length (cut_bits d)))

  abbrev net_entries : List Entry
  net_entries = map (λ b. (NetBit b, cell.Copy (number (place_in (driving_places d lowering) b)))) (net_order d)

  prefix_cells : cells_before (length ins) cell_list.sources ≡ cells_in (prefix_places d lowering number)
  prefix_cells =
      ap (λ l. cell.Const false ∷ cell.Const true ∷ l) (ap₂ ◌++◌
      (ap (λ n. map cell.Input (range_with_len 0 n)) cut_long ∙ sym (map-twice {B = Entry} (λ i. (Input i, cell.Input i)) (λ (e : Entry). e.1) (range_with_len 0 (length (cut_bits d)))))
      (copies_are ∙ sym (map-twice {B = Entry} (λ b. (NetBit b, cell.Copy (number (place_in (driving_places d lowering) b)))) (λ (e : Entry). e.1) (net_order d)))
      ∙ sym (map-append (λ (e : Entry). e.1) input_entries net_entries))

  inputs_long : length input_entries ≡ length ins
  inputs_long = length-map {B = Entry} (range_with_len 0 (length (cut_bits d))) (λ i. (Input i, cell.Input i)) ∙ length-range 0 (length (cut_bits d)) ∙ sym cut_long

  nets_long : length net_entries ≡ length (net_order d)
  nets_long = length-map {B = Entry} (net_order d) (λ b. (NetBit b, cell.Copy (number (place_in (driving_places d lowering) b))))

  constant_row : AreInRow number 0 constant_entries
  constant_row = record { row = ap₂ (λ (m n : ℕ). m ∷ n ∷ []) (constants_are false ∙ sym (capped_small 0 (omega arith))) (constants_are true ∙ sym (capped_small 1 (omega arith))) }

  input_row : AreInRow number 2 input_entries
  input_row = record {
    row = map-twice {B = Entry} (λ i. (Input i, cell.Input i)) (λ (e : Entry). number e.0) (range_with_len 0 (length (cut_bits d))) ∙ map-same (λ i. number (Input i)) (after 2) inputs_are (range_with_len 0 (length (cut_bits d)))
        ∙ moved_row 2 0 (length (cut_bits d)) ∙ ap (λ n. map capped (range_with_len 2 n)) (cut_long_back ∙ sym inputs_long);
  }
    where
      cut_long_back : length (cut_bits d) ≡ length ins
      cut_long_back = sym cut_long

  net_row : AreInRow number nets net_entries
  net_row = record {
    row = map-twice {B = Entry} (λ b. (NetBit b, cell.Copy (number (place_in (driving_places d lowering) b)))) (λ (e : Entry). number e.0) (net_order d)
        ∙ row_of (λ b. number (NetBit b)) (net_order d) nets (λ k b e. net_places b ∙ ap (after nets) (numbered of_designs names d bounded k b e)) ∙ ap (λ n. map capped (range_with_len nets n)) (sym nets_long);
  }

  prefix_row : AreInRow number 0 (prefix_places d lowering number)
  prefix_row = both_rows number 0 constant_entries (input_entries ++ net_entries) constant_row
      (both_rows number 2 input_entries net_entries input_row (subst (λ n. AreInRow number n net_entries) (omega (arith, nets_are, inputs_long)) net_row))

  prefix_long : length (prefix_places d lowering number) ≡ start
  prefix_long = omega (arith, length-append input_entries net_entries, inputs_long, nets_long, nets_are, start_is, bits_whole)

  -- the whole list

  abbrev box_entries : List Entry
  box_entries = flat_map box_places (enumerate_from 0 (boxes d))

  abbrev part_entries : List Entry
  part_entries = flat_map (places_at lowering number) (enumerate_from 0 (parts d))

  box_long : length boxed.cells ≡ length box_entries
  box_long = ap length boxes_fit.cells ∙ length-map {B = LooseCell} box_entries (λ (e : Entry). e.1)

  all_row : AreInRow number 0 (placed_cells d lowering number)
  all_row = both_rows number 0 (prefix_places d lowering number) (box_entries ++ part_entries) prefix_row
      (both_rows number (0 + length (prefix_places d lowering number)) box_entries part_entries
      (subst (λ n. AreInRow number n box_entries) (omega (arith, prefix_long)) boxes_fit.row) (subst (λ n. AreInRow number n part_entries) (omega (arith, prefix_long, box_long)) parts_fit.row))

  cells_are : cells_before (length ins) cell_list.sources ++ cell_list.cells ≡ cells_in (placed_cells d lowering number)
  cells_are =
      ap₂ ◌++◌ prefix_cells (parts_fit.cells ∙ ap (λ c. c ++ cells_in part_entries) boxes_fit.cells ∙ sym (map-append (λ (e : Entry). e.1) box_entries part_entries))
      ∙ sym (map-append (λ (e : Entry). e.1) (prefix_places d lowering number) (box_entries ++ part_entries))

  outs_are : outs_of nets top stored cell_list.next ≡ map (λ b. number (NetBit b)) (top_outputs d) ++ map number (data_places d lowering)
  outs_are = ap₂ ◌++◌
      (map-same (after nets) (λ i. after nets (after 0 i)) (λ i. ap (after nets) (omega arith) ∙ sym (after_second nets 0 i)) top.outputs.items ∙ sym (map-twice (after 0) (after nets) top.outputs.items)
      ∙ ap (map (after nets)) (sym (numbers_are (bit_number d) (scope_bits (root d)) 0 top_first top.outputs.items (output_bits (root d)) (top_template.outputs [])))
      ∙ map-twice (bit_number d) (after nets) (top_outputs d) ∙ map-same (λ b. after nets (bit_number d b)) (λ b. number (NetBit b)) (λ b. sym (net_places b)) (top_outputs d))
      (same_zipped (IsStoredAt d) (λ (x : Stored). place_or_zero (slice_get cell_list.next x.bit)) (λ (r : RegisterBit). number (place_in data_given r.bit)) stored (registers d) store (λ x r is.
      ap (λ z. place_or_zero (slice_get z x.bit)) next_is
      ∙ noted of_designs names d bounded lowering number nets start zero_is bits x.bit r.bit (omega (arith, slice_get_within (net_order d) x.bit r.bit is.bit, bits_whole)) is.bit data_given)
      ∙ sym (map-twice (λ (r : RegisterBit). place_in data_given r.bit) number (registers d)))

  -- the numbers of all places are as they would be if nothing were capped
  exact_row : map (λ (x : Entry). number x.0) (placed_cells d lowering number) ≡ range_with_len 0 (length (placed_cells d lowering number))
  exact_row = all_row.row ∙ row_small (length (placed_cells d lowering number)) (omega (arith, few_places))

  exact_prefix : map (λ (x : Entry). number x.0) (prefix_places d lowering number) ≡ range_with_len 0 (length (prefix_places d lowering number))
  exact_prefix = prefix_row.row ∙ row_small (length (prefix_places d lowering number)) (omega (arith, few_places, length-append (prefix_places d lowering number) (operator_places d lowering number)))

  pub is_list : IsListOf d lowering (finished (length ins) boxed.boxes cell_list (outs_of nets top stored cell_list.next))
  is_list = record {
    number = number;
    inputs = cut_long;
    prefix = exact_prefix;
    numbers = subst (IsPermutation (map (λ (x : Entry). number x.0) (placed_cells d lowering number))) (exact_row ∙ ap (range_with_len 0) (sym (length-map {B = LooseCell} (placed_cells d lowering number) (λ (e : Entry). e.1)) ∙ ap length (sym cells_are)))
        (IsPermutation-refl (map (λ (x : Entry). number x.0) (placed_cells d lowering number)));
    cells = cells_occur number (placed_cells d lowering number) (finished (length ins) boxed.boxes cell_list (outs_of nets top stored cell_list.next)) exact_row cells_are;
    boxes = boxes_fit.boxes;
    outs = outs_are;
    steps = parts_fit.steps;
  }

-- the list of a small design, where nothing is capped
listed_exact : (placed : List Placed) (templates : List ModuleTemplate) (stored : List Stored) (top : ModuleTemplate) → length (input_numbers top stored) ≤ most_cells → bit_count placed templates ≤ most_bits
    → listed placed templates stored top ≡ listed_on (input_numbers top stored) (length (input_numbers top stored)) (bit_count placed templates) (2 + length (input_numbers top stored))
    (2 + length (input_numbers top stored) + bit_count placed templates) placed templates stored top
listed_exact placed templates stored top few_inputs few_bits =
    let ins = input_numbers top stored in
    let bits = bit_count placed templates in
    let count : capped (length ins) ≡ length ins = capped_small (length ins) (below (2 ^ 32) (length ins) most_cells few_inputs (omega arith)) in
    let whole : capped bits ≡ bits = capped_small bits (below (2 ^ 32) bits most_bits few_bits (omega arith)) in
    let nets : after 2 (length ins) ≡ 2 + length ins = capped_small (2 + length ins) (below_both 2 most_cells (2 ^ 32) 2 (length ins) (omega arith) few_inputs (omega arith)) in
    let start : after (2 + length ins) bits ≡ 2 + length ins + bits =
    capped_small (2 + length ins + bits) (below_both (2 + most_cells) most_bits (2 ^ 32) (2 + length ins) bits (omega (arith, few_inputs)) few_bits (omega arith)) in
    ap (λ c. listed_on ins c (capped bits) (after 2 c) (after (after 2 c) (capped bits)) placed templates stored top) count
    ∙ ap (λ b. listed_on ins (length ins) b (after 2 (length ins)) (after (after 2 (length ins)) b) placed templates stored top) whole
    ∙ ap (λ n. listed_on ins (length ins) bits n (after n bits) placed templates stored top) nets
    ∙ ap (λ n. listed_on ins (length ins) bits (2 + length ins) n placed templates stored top) start

module _ (of_designs : DesignLaws) where
  pub listed_is_list : NetNamesDiffer → PlacesAreFew → (d : Design) (placed : List Placed) (templates : List ModuleTemplate) (stored : List Stored) (p : Placed) (top : ModuleTemplate) (l : LooseList) → l ≡ listed placed templates stored top
      → slice_get placed 0 ≡ Some p → slice_get templates p.module ≡ Some top → ArePlaced d placed → AreTemplated d placed templates → AreStored d stored → IsBounded d → (lowering : Lowering) × IsLowering d lowering × IsListOf d lowering l
  listed_is_list names few d placed templates stored p top l is first_at top_at are templated store bounded =
      let ins = input_numbers top stored in
      let bits = bit_count placed templates in
      let nets = 2 + length ins in
      let whole : bits ≡ length (net_order d) = counted of_designs names d bounded placed are templates templated in
      let long : length ins ≡ length (cut_bits d) = cut_long of_designs names few d bounded placed are templates templated stored store p top first_at top_at ins refl bits refl nets refl (nets + bits) refl in
      let exact = listed_exact placed templates stored top (omega (arith, long, bounded.small.1)) (omega (arith, whole, bounded.small.0)) in (
        lowering of_designs names few d bounded placed are templates templated stored store p top first_at top_at ins refl bits refl nets refl (nets + bits) refl,
        is_lowering of_designs names few d bounded placed are templates templated stored store p top first_at top_at ins refl bits refl nets refl (nets + bits) refl,
        subst (IsListOf d (lowering of_designs names few d bounded placed are templates templated stored store p top first_at top_at ins refl bits refl nets refl (nets + bits) refl)) (sym (is ∙ exact)) (is_list of_designs names few d bounded placed are templates templated stored store p top first_at top_at ins refl bits refl nets refl (nets + bits) refl),
      )
