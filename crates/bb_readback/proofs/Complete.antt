-- The design of the filled text is refused for no cause, and it has no box.
use Rattle.std.proofs.Common.{◌≡◌, ◌∙◌, ℕ, ◌<◌, List, [], ◌∷◌, ◌++◌, length, map, filter, All, sym, ap, subst, arith}
use Rattle.std.proofs.lemmas.List.{length-append, length-map}
use Rattle.std.proofs.lemmas.List.Elements.{All-nil}
use Rattle.bb_bits.specs.Tables.{TableBits}
use Rattle.bb_expr.specs.Laws.FitLaws.{NetNamesDiffer}
use Rattle.bb_net.specs.Flats.{FlatNet, HaveClocks}
use Rattle.bb_fill.specs.Laws.{IsReady, LinesReadWhatIsDriven, NetsAreDrivenOnce, WordsAreApart, WordsAreNets, WordsAreOfNetlist}
use Rattle.bb_fill.specs.Sizes.{IsSmallText}
use Rattle.bb_readback.specs.Laws.Modules.{filled_module}
use Rattle.bb_design.specs.Hierarchy.{Design, Instance, Scope, boxes, instantiations, is_box, too_low}
use Rattle.bb_design.specs.Laws.BitLaws.{BitsAreDistinguished}
use Rattle.bb_design.specs.NetBits.{top_inputs}
use Rattle.bb_design.specs.Refusals.{AreDistinctTexts, AreDrivenOnce, DesignCause, IsAbsentInDesign, IsHierarchy, IsReached, IsShallow, box_paths}
use Rattle.bb_design.specs.Refusals.{BoxTexts, Cycle, Depth, NoDriver, PortTexts, Recursion, RegisterTexts, Size, TwoDrivers}
use Rattle.bb_design.specs.Refusals as refusals
use Rattle.bb_design.specs.Registers.{RegisterBit, registers}
use Rattle.bb_design.specs.Texts.{path_text}
use Rattle.bb_readback.specs.Laws.Designs.{filled_design}
use Rattle.bb_readback.specs.Laws.{FilledDesignsAreSound}
use Rattle.bb_readback.proofs.Bits.{are_driven_once}
use Rattle.bb_readback.proofs.Cells.{cells_are_counted}
use Rattle.bb_readback.proofs.Levels.{filled_bits_have_levels}
use Rattle.bb_readback.proofs.Meanings.{bit_named}
use Rattle.bb_readback.proofs.NetNames.{nets_are_few}
use Rattle.bb_readback.proofs.Nets.{calls_none, input_texts_are, no_instances, one_scope, output_texts_are, top_inputs_are}
use Rattle.bb_readback.proofs.ReadBits.{filled_bits_are_driven}
use Rattle.bb_readback.proofs.Registers.{registers_apart, registers_are_few}

-- there is one scope, and it is no box
module _ (f : FlatNet) (tables : List TableBits) where
  abbrev design : Design
  design = filled_design f tables

  pub is_shallow : IsShallow design
  is_shallow = subst (All (λ (s : Scope). length s.path < too_low)) (sym (no_instances f tables)) (All-nil (λ (s : Scope). length s.path < too_low))

  is_hierarchy : IsHierarchy design
  is_hierarchy =
      let here = filled_module f tables in
      let none : instantiations (here ∷ []) ≡ [] = ap (λ l. map (λ (i : Instance). (here.name, i.target)) l ++ []) (calls_none f tables) in
      let falls = λ (x : List ℕ × List ℕ). IsReached design x.0 → 0 < 0 in
      (λ n. 0, subst (All falls) (sym none) (All-nil falls))

  no_boxes : boxes design ≡ []
  no_boxes = ap (filter is_box) (one_scope f tables)

  boxes_apart : AreDistinctTexts (box_paths design)
  boxes_apart = subst (λ l. AreDistinctTexts (map (λ (s : Scope). path_text s.path) l)) (sym no_boxes) (λ i j d less within. absurd (omega (arith, within)))

module _ (nets : NetsAreDrivenOnce) (word_nets : WordsAreNets) (of_netlist : WordsAreOfNetlist) (apart : WordsAreApart) (reads : LinesReadWhatIsDriven) (differ : NetNamesDiffer) (reported : BitsAreDistinguished)
    (f : FlatNet) (tables : List TableBits) (ready : IsReady f tables) (clocks : HaveClocks f) (small : IsSmallText f tables) where
  is_small : refusals.IsSmallDesign (filled_design f tables)
  is_small =
      let d = filled_design f tables in
      let few = nets_are_few f tables ready clocks word_nets differ nets in
      let stored = registers_are_few f tables ready clocks reported differ in
      let cut = length-append (top_inputs d) (map (λ (r : RegisterBit). r.bit) (registers d)) in
      let inputs = ap length (top_inputs_are f tables ready) ∙ length-map f.ins bit_named in (
        omega (arith, few, small.nets, ap length (no_instances f tables)),
        omega (arith, cut, inputs, length-map (registers d) (λ (r : RegisterBit). r.bit), stored, cells_are_counted f tables ready, small.cells),
      )

  driven_once : AreDrivenOnce (filled_design f tables)
  driven_once = are_driven_once f tables ready clocks small of_netlist apart nets

  absent : (cause : DesignCause) → IsAbsentInDesign (filled_design f tables) cause
  absent Recursion = is_hierarchy f tables
  absent Depth = is_shallow f tables
  absent Size = is_small
  absent TwoDrivers = driven_once
  absent NoDriver = filled_bits_are_driven f tables ready clocks word_nets
  absent Cycle = filled_bits_have_levels f tables ready clocks small nets word_nets of_netlist apart reads reported driven_once
  absent BoxTexts = boxes_apart f tables
  absent RegisterTexts = registers_apart f tables ready clocks reported differ
  absent PortTexts = (
    subst AreDistinctTexts (sym (input_texts_are f tables ready)) ready.flat.apart.ins,
    subst AreDistinctTexts (sym (output_texts_are f tables ready)) ready.flat.apart.outs,
  )

pub filled_designs_are_sound : NetsAreDrivenOnce → WordsAreNets → WordsAreOfNetlist → WordsAreApart → LinesReadWhatIsDriven → NetNamesDiffer
    → BitsAreDistinguished → FilledDesignsAreSound
filled_designs_are_sound nets word_nets of_netlist apart reads differ reported f tables ready clocks small = record {
  sound = absent nets word_nets of_netlist apart reads differ reported f tables ready clocks small;
  complete = no_boxes f tables;
}
