-- A filled text that is too large is one of a large design: its nets are no more than those of the design, since the netlist has no more cells
-- and the same boxes, and its bytes are no more than four words for each of them.
use Rattle.std.proofs.Common.{◌≡◌, ◌∙◌, ◌⊎◌, inl, inr, ℕ, ◌+◌, ◌-◌, ◌*◌, ◌^◌, ◌<◌, ◌≤◌, Bool, not, List, [], ◌∷◌, ◌++◌, length, length-append, map, filter, refl, sym, ap, ap₂, arith}
use Rattle.std.specs.Prelude.{sum_by}
use Rattle.std.specs.List.{AllZip}
use Rattle.std.proofs.lemmas.List.{length-map}
use Rattle.std.proofs.lemmas.List.Sorted.{sum_by-IsPermutation}
use Rattle.std.proofs.lemmas.List.Sums.{count_by-le-length, length-filter, sum_by-cons}
use Rattle.std.proofs.lemmas.Nat.{mul-le}
use Rattle.bb_bits.specs.Earlier.{has_name}
use Rattle.bb_bits.specs.Tables.{TableBits}
use Rattle.bb_design.specs.Hierarchy.{Design, Scope, boxes}
use Rattle.bb_design.specs.Inside.Allowed.{IsAllowed}
use Rattle.bb_design.specs.NetBits.{input_bits, output_bits, top_inputs, top_outputs}
use Rattle.bb_design.specs.Registers.{RegisterBit, cut_bits, registers}
use Rattle.bb_design.specs.Texts.{bit_text, pin_text}
use Rattle.bb_fill.specs.Answers as fill
use Rattle.bb_fill.specs.Filled.{filled_text, lines_of_cells}
use Rattle.bb_fill.specs.Laws.{IsReady, LinesAreFew, TextsAreShort, tree_choices}
use Rattle.bb_fill.specs.Laws as netlist
use Rattle.bb_fill.specs.Sizes.{IsTooLargeText, filled_cell_count, makes_cell, most_nets, net_count}
use Rattle.bb_fill.specs.Clashes.{AreNamesApart}
use Rattle.bb_fill.specs.Words.{maximum}
use Rattle.bb_implements.specs.Implements.{Implements, IsRegister, box_texts}
use Rattle.bb_implements.specs.Laws.BoxOrders.{ImplementingNetsHaveBoxOrders}
use Rattle.bb_implements.specs.Laws.ListLaws.{NetsAreNoLarger}
use Rattle.bb_lemmas.proofs.Orders.{less_or_not}
use Rattle.bb_lemmas.proofs.Zips.{zip_length}
use Rattle.bb_net.specs.CutPoints.{state_texts}
use Rattle.bb_net.specs.Flats.{FlatNet, HaveClocks}
use Rattle.bb_net.specs.Kinds.{per_box}
use Rattle.bb_net.specs.Netlists.{Pins}
use Rattle.bb_net.specs.Pairs.{BoxTexts, NamesPins}
use Rattle.bb_verdict.specs.FilledSizes.{IsTooLargeToFill, filled_nets, longest_name, tree_nodes}
use Rattle.bb_verdict.specs.Laws.TextPairs.{DesignsAreAllowed, LargeTextsAreOfLargeDesigns}
use Rattle.bb_verdict.proofs.FilledNames.{registers_are}
use Rattle.bb_verdict.proofs.KeptNets.{TablesAreSpread, kept_nets}

pub record SizeLaws : Type 0 where
  pub allowed : DesignsAreAllowed
  pub spread : TablesAreSpread
  pub no_larger : NetsAreNoLarger
  pub orders : ImplementingNetsHaveBoxOrders
  pub lines : LinesAreFew
  pub short : TextsAreShort

-- the answer that a text is too large is given where it is, and no name clashes
answered : (f : FlatNet) (tables : List TableBits) → fill.IsFillAnswer f tables fill.TooLarge → AreNamesApart f × IsTooLargeText f tables
answered f tables (fill.Clashes name clash is) = let no : fill.TooLarge ≡ fill.Clash name = is in absurd (cc no)
answered f tables (fill.IsLarge names large is) = (names, large)
answered f tables (fill.IsFilled names small is) = let no : fill.TooLarge ≡ fill.Text (filled_text f tables) = is in absurd (cc no)

-- boxes have the same choices in the netlist, by their texts, and in the design

abbrev named_choices : BoxTexts → ℕ
named_choices box = length box.outs * (2 ^ length box.ins - 1)

by_names : (texts : List BoxTexts) (pins : List Pins) → AllZip NamesPins texts pins → sum_by tree_choices pins ≡ sum_by named_choices texts
by_names [] [] all = refl
by_names [] (q ∷ pins) all = absurd all
by_names (t ∷ texts) [] all = absurd all
by_names (t ∷ texts) (q ∷ pins) all =
    let same : named_choices t ≡ tree_choices q = ap₂ (λ outs ins. outs * (2 ^ ins - 1)) all.0.outs all.0.ins in
    omega (arith, sum_by-cons tree_choices q pins, sum_by-cons named_choices t texts, same, by_names texts pins all.1)

by_scopes : (d : Design) (l : List Scope) → sum_by named_choices (map (box_texts d) l) ≡ sum_by tree_nodes l
by_scopes d [] = refl
by_scopes d (s ∷ l) =
    let same : named_choices (box_texts d s) ≡ tree_nodes s = ap₂ (λ outs ins. outs * (2 ^ ins - 1)) (length-map (output_bits s) (pin_text d)) (length-map (input_bits s) (pin_text d)) in
    omega (arith, sum_by-cons named_choices (box_texts d s) (map (box_texts d) l), sum_by-cons tree_nodes s l, same, by_scopes d l)

few_kept : {A : Type 0} (test : A → Bool) (xs : List A) → length (filter test xs) ≤ length xs
few_kept test xs = omega (arith, length-filter test xs, count_by-le-length test xs)

module _ (laws : SizeLaws) (d : Design) (f : FlatNet) (allowed : IsAllowed d) (occurs : Implements d f) (tables : List TableBits) (ready : IsReady f tables) (clocks : HaveClocks f) where
  trees_same : sum_by tree_choices f.net.boxes ≡ sum_by tree_nodes (boxes d)
  trees_same =
      let (order, is, listed) = laws.orders d f allowed occurs in
      by_names f.boxes f.net.boxes ready.flat.named.boxes ∙ ap (sum_by named_choices) listed ∙ by_scopes d order ∙ sym (sum_by-IsPermutation tree_nodes order (boxes d) is.all)

  inputs_same : length f.ins ≡ length (top_inputs d)
  inputs_same = ap length occurs.ins ∙ length-map (top_inputs d) (bit_text d)

  outputs_same : length f.outs ≡ length (top_outputs d)
  outputs_same = ap length occurs.outs ∙ length-map (top_outputs d) (bit_text d)

  registers_same : length f.regs ≡ length (registers d)
  registers_same = sym (zip_length (IsRegister d) (registers d) f.regs occurs.regs)

  cuts_same : length (cut_bits d) ≡ length f.ins + length f.regs
  cuts_same = omega (arith, length-append (top_inputs d) (map (λ r. r.bit) (registers d)), length-map (registers d) (λ (r : RegisterBit). r.bit), inputs_same, registers_same)

  nets_within : length f.ins + length f.regs + length f.outs + length (lines_of_cells f tables) ≤ filled_nets d
  nets_within =
      let inputs : f.net.inputs ≡ length (cut_bits d) = occurs.ordered.inputs ∙ occurs.listed.inputs in
      omega (arith, laws.lines f tables ready, laws.no_larger d f allowed.bounded occurs, trees_same, inputs, cuts_same, outputs_same)

  counted_within : net_count f tables ≤ filled_nets d
  counted_within = omega (arith, nets_within, few_kept (λ text. not (has_name text (state_texts f))) f.outs)

  cells_within : filled_cell_count f tables ≤ filled_nets d + 2
  cells_within = omega (arith, nets_within, few_kept makes_cell (lines_of_cells f tables))

  names_same : netlist.longest_name f ≡ longest_name d
  names_same = ap (λ texts. maximum (map length texts)) (ap₂ ◌++◌ (ap₂ ◌++◌ occurs.ins (registers_are d f occurs)) occurs.outs)

  -- many nets alone have too many bytes
  many_nets : most_nets < filled_nets d → IsTooLargeToFill d
  many_nets many = omega (arith, many, mul-le 1000001 60 (filled_nets d) (4 * (longest_name d + 15)) (omega (arith, many)) (omega arith))

  too_large : IsTooLargeText f tables → IsTooLargeToFill d
  too_large (inr (inl nets)) = many_nets (omega (arith, nets, counted_within))
  too_large (inr (inr cells)) = many_nets (omega (arith, cells, cells_within))
  too_large (inl bytes) = by (less_or_not most_nets (net_count f tables))
    where
      by : (most_nets < net_count f tables) ⊎ (net_count f tables ≤ most_nets) → IsTooLargeToFill d
      by (inl nets) = many_nets (omega (arith, nets, counted_within))
      by (inr few) =
          let short = laws.short f tables ready clocks few in
          let words : 4 * (netlist.longest_name f + 15) ≤ 4 * (longest_name d + 15) = omega (arith, names_same) in
          let all = mul-le (length f.ins + length f.regs + length f.outs + length (lines_of_cells f tables)) (4 * (netlist.longest_name f + 15)) (filled_nets d) (4 * (longest_name d + 15)) nets_within words in
          omega (arith, bytes, short, all)

pub large_texts_are_of_large_designs : SizeLaws → LargeTextsAreOfLargeDesigns
large_texts_are_of_large_designs laws requested spec imp s i are p pair tables completion may =
    let f = pair.imp_net in
    let all = per_box p.kinds tables in
    let kept = kept_nets laws.spread s i p pair in
    let t = answered f all may in
    let ready : IsReady f all = record { flat = pair.imp_flat; fit = kept.tables tables completion.fit; names = t.0 } in
    too_large laws i f (laws.allowed requested.imp_top imp i are.imp_design) pair.imp_implements all ready kept.clocks t.1
