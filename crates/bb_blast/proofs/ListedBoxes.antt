-- The boxes of a design one after another: the places of their pins are in a row.
use Rattle.std.proofs.Common.{◌≡◌, ℕ, suc, ◌+◌, ◌^◌, ◌<◌, Bool, true, false, if◌then◌else◌, List, [], ◌∷◌, ◌++◌, map, flat_map, filter, take, length, Some, refl, sym, ap, ap₂, ◌∙◌, subst, arith, length-append, append_assoc, append-nil}
use Rattle.std.specs.Prelude.{slice_get}
use Rattle.std.specs.List.{fold, enumerate_from, range_with_len}
use Rattle.std.proofs.lemmas.List.{length-map, map-append, take_at}
use Rattle.std.proofs.lemmas.Grind.{flat_map-append}
use Rattle.std.proofs.lemmas.List.Sums.{fold-append}
use Rattle.bb_net.specs.declared.loose.LooseCell.{LooseCell}
use Rattle.bb_net.specs.declared.loose.LooseCell.TheVariants as cell
use Rattle.bb_net.specs.Netlists.{Pins}
use Rattle.bb_blast.specs.declared.template.ModuleTemplate.{ModuleTemplate}
use Rattle.bb_blast.specs.declared.placed.Placed.{Placed}
use Rattle.bb_design.specs.Hierarchy.{Design, Scope, is_box}
use Rattle.bb_design.specs.NetBits.{Bit, scope_bits, input_bits, output_bits}
use Rattle.bb_blast.specs.Inside.Counting.{capped, after}
use Rattle.bb_blast.specs.Inside.Listing.{Boxed, given_one, given_all, in_row, with_pins, with_box}
use Rattle.bb_bits.specs.Inside.Places.{AreAt}
use Rattle.bb_implements.specs.Places.{CellName, NetBit, BoxPin, Numbering, Lowering, given_by_box, box_places, pins_of}
use Rattle.bb_blast.proofs.BitNumbers.{bit_number}
use Rattle.bb_blast.proofs.CappedNumbers.{capped_first, capped_small, after_first, after_second}
use Rattle.bb_lemmas.proofs.Numbered.{length-enumerated}
use Rattle.bb_blast.proofs.ListedParts.{are_long, numbers_are, pair}
use Rattle.bb_blast.proofs.PlacesInRow.{Entry, AreInRow, both_rows, no_row, cells_in, rows_same, numbers_from, moved_row, map-same}
use Rattle.bb_lemmas.proofs.Maps.{map-twice}

-- one of so many
among : (top n rest long : ℕ) → long ≡ n + suc rest → long < top → n < top
among top n rest long is few = omega (arith, is, few)

among_three : (top before here rest long : ℕ) → long ≡ before + (here + rest) → long < top → here < top
among_three top before here rest long is few = omega (arith, is, few)

module _ (d : Design) (lowering : Lowering) (number : Numbering) (nets start : ℕ) (net_places : (b : Bit) → number (NetBit b) ≡ after nets (bit_number d b)) where
  -- a box leads from one state to the next
  pub record PutsBoxes (n : ℕ) (rest : List Scope) (a b : Boxed) : Type 0 where
    pub cells : b.cells ≡ a.cells ++ cells_in (flat_map box_places (enumerate_from n rest))
    pub row : AreInRow number (start + length a.cells) (flat_map box_places (enumerate_from n rest))
    pub sources : b.sources ≡ given_all a.sources (map (pair d lowering number nets start) (flat_map given_by_box (enumerate_from n rest)))
    pub boxes : b.boxes ≡ a.boxes ++ map (pins_of number) (enumerate_from n rest)

  -- what the numbers of a scope say of its pins
  pub record HasPins (s : Scope) (first : ℕ) (o : ModuleTemplate) : Type 0 where
    pub own : (i : ℕ) (b : Bit) → slice_get (scope_bits s) i ≡ Some b → bit_number d b ≡ after first i
    pub inputs : AreAt (scope_bits s) o.inputs.items (input_bits s)
    pub outputs : AreAt (scope_bits s) o.outputs.items (output_bits s)

  module _ (n : ℕ) (s : Scope) (first : ℕ) (o : ModuleTemplate) (pins : HasPins s first o) (a : Boxed) (counted : length a.boxes ≡ n) (at : (x : ℕ) → number (BoxPin n x) ≡ after (start + length a.cells) x)
      (few : n < 2 ^ 32) (few_pins : length (output_bits s) < 2 ^ 32) where
    outputs_long : length o.outputs.items ≡ length (output_bits s)
    outputs_long = are_long (scope_bits s) o.outputs.items (output_bits s) pins.outputs

    outputs_small : capped (length o.outputs.items) ≡ length (output_bits s)
    outputs_small = ap capped outputs_long ∙ capped_small (length (output_bits s)) few_pins

    -- the places of the pins in a row
    at_row : (x : ℕ) → number (BoxPin n x) ≡ after (after start (length a.cells)) x
    at_row x = at x ∙ sym (capped_first (start + length a.cells) x)

    pin_cells : map (cell.BoxOut (capped (length a.boxes))) (range_with_len 0 (capped (length o.outputs.items))) ≡ cells_in (box_places (n, s))
    pin_cells =
        ap₂ (λ (b m : ℕ). map (cell.BoxOut b) (range_with_len 0 m)) (ap capped counted ∙ capped_small n few) outputs_small ∙ sym (numbers_from (cell.BoxOut n) 0 (output_bits s))
        ∙ sym (map-twice {B = Entry} (λ (x : ℕ × Bit). (BoxPin n x.0, cell.BoxOut n x.0)) (λ (e : Entry). e.1) (enumerate_from 0 (output_bits s)))

    pin_numbers : map (λ (x : ℕ × Bit). number (BoxPin n x.0)) (enumerate_from 0 (output_bits s)) ≡ map (λ x. number (BoxPin n x)) (range_with_len 0 (length (output_bits s)))
    pin_numbers = numbers_from (λ i. number (BoxPin n i)) 0 (output_bits s)

    pins_long : length (box_places (n, s)) ≡ length (output_bits s)
    pins_long = length-map {B = Entry} (enumerate_from 0 (output_bits s)) (λ (x : ℕ × Bit). (BoxPin n x.0, cell.BoxOut n x.0)) ∙ length-enumerated 0 (output_bits s)

    pin_row : AreInRow number (start + length a.cells) (box_places (n, s))
    pin_row = record {
      row = map-twice {B = Entry} (λ (x : ℕ × Bit). (BoxPin n x.0, cell.BoxOut n x.0)) (λ (e : Entry). number e.0) (enumerate_from 0 (output_bits s)) ∙ pin_numbers
          ∙ map-same (λ x. number (BoxPin n x)) (after (start + length a.cells)) at (range_with_len 0 (length (output_bits s))) ∙ moved_row (start + length a.cells) 0 (length (output_bits s))
          ∙ ap (map capped) (ap₂ range_with_len (omega arith) (sym pins_long));
    }

    pins_given : in_row first o.outputs.items (after start (length a.cells)) ≡ map (pair d lowering number nets start) (given_by_box (n, s))
    pins_given =
        rows_same (after first) (bit_number d) (after (after start (length a.cells))) (λ x. number (BoxPin n x)) 0 o.outputs.items (output_bits s)
        (sym (numbers_are (bit_number d) (scope_bits s) first pins.own o.outputs.items (output_bits s) pins.outputs)) (λ x. sym (at_row x))
        ∙ sym (map-twice {B = Bit × CellName} (λ (x : ℕ × Bit). (x.1, BoxPin n x.0)) (pair d lowering number nets start) (enumerate_from 0 (output_bits s)))

    mk_pins : List ℕ → List ℕ → Pins
    mk_pins ins outs = record { ins = ins; outs = outs }

    pins_are : ◌≡◌ {A = Pins} (record { ins = map (after (after nets first)) o.inputs.items; outs = map (after (after start (length a.cells))) (range_with_len 0 (capped (length o.outputs.items))) }) (pins_of number (n, s))
    unfolding mk_pins
    pins_are = ap₂ mk_pins
        (map-same (after (after nets first)) (λ i. after nets (after first i)) (λ i. after_first nets first i ∙ sym (after_second nets first i)) o.inputs.items ∙ sym (map-twice (after first) (after nets) o.inputs.items)
        ∙ ap (map (after nets)) (sym (numbers_are (bit_number d) (scope_bits s) first pins.own o.inputs.items (input_bits s) pins.inputs))
        ∙ map-twice (bit_number d) (after nets) (input_bits s) ∙ map-same (λ b. after nets (bit_number d b)) (λ b. number (NetBit b)) (λ b. sym (net_places b)) (input_bits s))
        (ap (λ (m : ℕ). map (after (after start (length a.cells))) (range_with_len 0 m)) outputs_small
        ∙ map-same (after (after start (length a.cells))) (λ x. number (BoxPin n x)) (λ x. sym (at_row x)) (range_with_len 0 (length (output_bits s))) ∙ sym pin_numbers)

  module _ (templates : List ModuleTemplate) (all : List Scope) (pins_occur : (n x : ℕ) → number (BoxPin n x) ≡ after (start + length (flat_map output_bits (take n all))) x)
      (few : length all < 2 ^ 32) (few_pins : length (flat_map output_bits all) < 2 ^ 32) where
    -- a scope with its numbers
    pub record IsBoxedSo (s : Scope) (p : Placed) : Type 0 where
      pub boxed : p.boxed ≡ is_box s
      pub template : ModuleTemplate
      pub found : slice_get templates p.module ≡ Some template
      pub pins : HasPins s p.first template

    pub record IsAfter (done rest : List Scope) (a : Boxed) : Type 0 where
      pub counted : length a.boxes ≡ length done
      pub whole : all ≡ done ++ rest
      pub long : length a.cells ≡ length (flat_map output_bits done)

    one_more : (done rest : List Scope) (s : Scope) (p : Placed) (a last : Boxed) (so : IsBoxedSo s p) → IsAfter done (s ∷ rest) a
        → (IsAfter (done ++ s ∷ []) rest (with_pins nets start p.first a (Some so.template)) → PutsBoxes (length (done ++ s ∷ [])) rest (with_pins nets start p.first a (Some so.template)) last)
        → PutsBoxes (length done) (s ∷ rest) a last
    one_more done rest s p a last so now others = build (others afterwards)
      where
        o : ModuleTemplate
        o = so.template

        at : (x : ℕ) → number (BoxPin (length done) x) ≡ after (start + length a.cells) x
        at x = pins_occur (length done) x ∙ ap (λ m. after (start + m) x) (ap (λ z. length (flat_map output_bits z)) (ap (take (length done)) now.whole ∙ take_at done (s ∷ rest) (length done) refl) ∙ sym now.long)

        few_here : length done < 2 ^ 32
        few_here = among (2 ^ 32) (length done) (length rest) (length all) (ap length now.whole ∙ length-append done (s ∷ rest)) few

        few_outputs : length (output_bits s) < 2 ^ 32
        few_outputs = among_three (2 ^ 32) (length (flat_map output_bits done)) (length (output_bits s)) (length (flat_map output_bits rest)) (length (flat_map output_bits all))
            (ap (λ l. length (flat_map output_bits l)) now.whole ∙ ap length (flat_map-append output_bits done (s ∷ rest)) ∙ length-append (flat_map output_bits done) (output_bits s ++ flat_map output_bits rest)
            ∙ ap (λ m. length (flat_map output_bits done) + m) (length-append (output_bits s) (flat_map output_bits rest))) few_pins

        one : length (done ++ s ∷ []) ≡ length done + 1
        one = length-append done (s ∷ [])

        made : length (a.cells ++ map (cell.BoxOut (capped (length a.boxes))) (range_with_len 0 (capped (length so.template.outputs.items)))) ≡ length a.cells + length (box_places (length done, s))
        made = length-append a.cells (map (cell.BoxOut (capped (length a.boxes))) (range_with_len 0 (capped (length so.template.outputs.items))))
            ∙ ap (λ m. length a.cells + m) (ap length (pin_cells (length done) s p.first so.template so.pins a now.counted at few_here few_outputs) ∙ length-map {B = LooseCell} (box_places (length done, s)) (λ (e : Entry). e.1))

        outputs : length (box_places (length done, s)) ≡ length (output_bits s)
        outputs = length-map {B = Entry} (enumerate_from 0 (output_bits s)) (λ (x : ℕ × Bit). (BoxPin (length done) x.0, cell.BoxOut (length done) x.0)) ∙ length-enumerated 0 (output_bits s)

        afterwards : IsAfter (done ++ s ∷ []) rest (with_pins nets start p.first a (Some so.template))
        afterwards = record {
          counted = length-append a.boxes (_ ∷ []) ∙ omega (arith, now.counted, one);
          whole = now.whole ∙ sym (append_assoc done (s ∷ []) rest);
          long = made ∙ omega (arith, now.long, outputs, ap length (flat_map-append output_bits done (s ∷ [])), length-append (flat_map output_bits done) (output_bits s ++ []), length-append (output_bits s) []);
        }

        build : PutsBoxes (length (done ++ s ∷ [])) rest (with_pins nets start p.first a (Some so.template)) last → PutsBoxes (length done) (s ∷ rest) a last
        build z =
            let y = subst (λ m. PutsBoxes m rest (with_pins nets start p.first a (Some so.template)) last) one z in
            let n = length done in
            let here = box_places (n, s) in
            let there = flat_map box_places (enumerate_from (n + 1) rest) in
            record {
              cells = y.cells ∙ ap (λ c. (a.cells ++ c) ++ cells_in there) (pin_cells n s p.first so.template so.pins a now.counted at few_here few_outputs) ∙ append_assoc a.cells (cells_in here) (cells_in there)
                  ∙ ap (λ c. a.cells ++ c) (sym (map-append (λ (e : Entry). e.1) here there));
              row = both_rows number (start + length a.cells) here there (pin_row n s p.first so.template so.pins a now.counted at few_here few_outputs) (subst (λ m. AreInRow number m there) (omega (arith, made)) y.row);
              sources = y.sources ∙ sym (fold-append given_one a.sources (in_row p.first so.template.outputs.items (capped (start + length a.cells))) (map (pair d lowering number nets start) (flat_map given_by_box (enumerate_from (n + 1) rest))))
                  ∙ ap (λ l. given_all a.sources (l ++ map (pair d lowering number nets start) (flat_map given_by_box (enumerate_from (n + 1) rest)))) (pins_given n s p.first so.template so.pins a now.counted at few_here few_outputs)
                  ∙ ap (given_all a.sources) (sym (map-append (pair d lowering number nets start) (given_by_box (n, s)) (flat_map given_by_box (enumerate_from (n + 1) rest))));
              boxes = y.boxes ∙ append_assoc a.boxes (_ ∷ []) (map (pins_of number) (enumerate_from (n + 1) rest))
                  ∙ ap (λ q. a.boxes ++ q ∷ map (pins_of number) (enumerate_from (n + 1) rest)) (pins_are n s p.first so.template so.pins a now.counted at few_here few_outputs);
            }

    pub boxes_put : (ss : List Scope) (ps : List Placed) (done : List Scope) (a : Boxed) → length ps ≡ length ss → ((i : ℕ) (s : Scope) (p : Placed) → slice_get ss i ≡ Some s → slice_get ps i ≡ Some p → IsBoxedSo s p)
        → IsAfter done (filter is_box ss) a → PutsBoxes (length done) (filter is_box ss) a (fold (with_box nets start templates) a ps)
    boxes_put [] [] done a long each now = record { cells = sym (append-nil a.cells); row = no_row number (start + length a.cells); sources = refl; boxes = sym (append-nil a.boxes) }
    boxes_put [] (p ∷ ps) done a long each now = absurd (omega (arith, long))
    boxes_put (s ∷ ss) [] done a long each now = absurd (omega (arith, long))
    boxes_put (s ∷ ss) (p ∷ ps) done a long each now =
        by (is_box s) so.boxed now (λ more b z. boxes_put ss ps more b (omega (arith, long)) (λ i t q e f. each (suc i) t q e f) z)
      where
        so : IsBoxedSo s p
        so = each 0 s p refl refl

        by : (t : Bool) → p.boxed ≡ t → IsAfter done (if t then (s ∷ filter is_box ss) else filter is_box ss) a
            → ((more : List Scope) (b : Boxed) → IsAfter more (filter is_box ss) b → PutsBoxes (length more) (filter is_box ss) b (fold (with_box nets start templates) b ps))
            → PutsBoxes (length done) (if t then (s ∷ filter is_box ss) else filter is_box ss) a (fold (with_box nets start templates) (if p.boxed then with_pins nets start p.first a (slice_get templates p.module) else a) ps)
        by true e so_far others =
            subst (λ z. PutsBoxes (length done) (s ∷ filter is_box ss) a (fold (with_box nets start templates) z ps)) (sym (ap (λ t. if t then with_pins nets start p.first a (slice_get templates p.module) else a) e ∙ ap (with_pins nets start p.first a) so.found))
            (one_more done (filter is_box ss) s p a (fold (with_box nets start templates) (with_pins nets start p.first a (Some so.template)) ps) so so_far (others (done ++ s ∷ []) (with_pins nets start p.first a (Some so.template))))
        by false e so_far others =
            subst (λ z. PutsBoxes (length done) (filter is_box ss) a (fold (with_box nets start templates) z ps)) (sym (ap (λ t. if t then with_pins nets start p.first a (slice_get templates p.module) else a) e)) (others done a so_far)
