-- The sizes of the design of the filled text: it has the bits of nets and the cells that were counted for the text.
use Rattle.std.proofs.Common.{◌∙◌, ◌≤◌, List, length, map, Contains, ap, arith}
use Rattle.std.proofs.lemmas.List.{length-append, length-map}
use Rattle.std.proofs.lemmas.List.Elements.{All-contains}
use Rattle.bb_bits.specs.Tables.{TableBits}
use Rattle.bb_lemmas.proofs.Apart.{at_most_as_many}
use Rattle.bb_expr.specs.Laws.FitLaws.{NetNamesDiffer}
use Rattle.bb_net.specs.Flats.{FlatNet, HaveClocks}
use Rattle.bb_fill.specs.Laws.{IsReady, NetsAreDrivenOnce, WordsAreApart, WordsAreNets, WordsAreOfNetlist, all_nets}
use Rattle.bb_fill.specs.Sizes.{IsSmallText, net_count}
use Rattle.bb_fill.specs.Words.{stem_of}
use Rattle.bb_design.specs.Drivers.{driven_bits}
use Rattle.bb_design.specs.Laws.{SoundBitsAreThere}
use Rattle.bb_design.specs.NetBits.{net_order, top_inputs}
use Rattle.bb_design.specs.Registers.{RegisterBit, registers}
use Rattle.bb_readback.specs.Laws.Designs.{filled_design}
use Rattle.bb_readback.specs.Laws.{AreCounted, FilledDesignsAreNamedTheSame, FilledDesignsAreCounted, FilledModulesAreSound}
use Rattle.bb_readback.proofs.Bits.{are_driven_once, driven_bits_are}
use Rattle.bb_readback.proofs.Called.{bits_are_there}
use Rattle.bb_readback.proofs.Cells.{cells_are_counted}
use Rattle.bb_readback.proofs.Meanings.{bit_named, bit_of_word}
use Rattle.bb_readback.proofs.NetNames.{nets_are_few}
use Rattle.bb_readback.proofs.Nets.{no_instances, top_inputs_are}

module _ (nets : NetsAreDrivenOnce) (word_nets : WordsAreNets) (of_netlist : WordsAreOfNetlist) (apart : WordsAreApart) (differ : NetNamesDiffer)
    (sound : FilledModulesAreSound) (called : FilledDesignsAreNamedTheSame) (there : SoundBitsAreThere) where
  module _ (f : FlatNet) (tables : List TableBits) (ready : IsReady f tables) (clocks : HaveClocks f) (small : IsSmallText f tables) where
    -- each net is driven, and so a bit of the design
    nets_are_many : net_count f tables ≤ length (net_order (filled_design f tables))
    nets_are_many =
        let d = filled_design f tables in
        let all = at_most_as_many (driven_bits d) (net_order d) (are_driven_once f tables ready clocks small of_netlist apart nets)
        (λ b has. All-contains (Contains (net_order d)) (driven_bits d) b (bits_are_there sound there f tables ready clocks small).driven has) in
        omega (arith, all, ap length (driven_bits_are f tables ready) ∙ length-map (all_nets f tables) (bit_of_word (stem_of f)), (nets f tables ready).1)

    are_counted : AreCounted f tables
    are_counted =
        let d = filled_design f tables in
        let inputs = ap length (top_inputs_are f tables ready) ∙ length-map f.ins bit_named in
        let cut = length-append (top_inputs d) (map (λ (r : RegisterBit). r.bit) (registers d)) in
        let stored = length-map (registers d) (λ (r : RegisterBit). r.bit) ∙ (called f tables ready clocks small).count in
        record {
          bits = omega (arith, nets_are_few f tables ready clocks word_nets differ nets, nets_are_many, ap length (no_instances f tables));
          cells = omega (arith, cut, inputs, stored, cells_are_counted f tables ready);
        }

pub filled_designs_are_counted : NetsAreDrivenOnce → WordsAreNets → WordsAreOfNetlist → WordsAreApart → NetNamesDiffer → FilledModulesAreSound → FilledDesignsAreNamedTheSame → SoundBitsAreThere → FilledDesignsAreCounted
filled_designs_are_counted = are_counted
