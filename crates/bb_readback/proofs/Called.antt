-- The design of the filled text is called as the netlist.
use Rattle.std.proofs.Common.{List, [], ◌∷◌}
use Rattle.bb_bits.specs.Tables.{TableBits}
use Rattle.bb_expr.specs.Laws.FitLaws.{NetNamesDiffer}
use Rattle.bb_net.specs.Flats.{FlatNet, HaveClocks}
use Rattle.bb_fill.specs.Laws.{IsReady}
use Rattle.bb_fill.specs.Sizes.{IsSmallText}
use Rattle.bb_readback.specs.Laws.Modules.{filled_module}
use Rattle.bb_design.specs.Laws.{BitsAreThere, SoundBitsAreThere}
use Rattle.bb_design.specs.Laws.BitLaws.{BitsAreDistinguished}
use Rattle.bb_design.specs.Laws.DriveLaws.{StoredBitsAreRegisters}
use Rattle.bb_lemmas.proofs.Members.{contains_here}
use Rattle.bb_readback.specs.Laws.Designs.{filled_design}
use Rattle.bb_readback.specs.Laws.{FilledDesignsAreNamedTheSame, FilledModulesAreSound}
use Rattle.bb_readback.proofs.Complete.{is_shallow}
use Rattle.bb_readback.proofs.Nets.{input_texts_are, output_texts_are}
use Rattle.bb_readback.proofs.Registers.{registers_all, registers_are_as_many, registers_named}

-- its driven and its read bits are bits of it
pub bits_are_there : FilledModulesAreSound → SoundBitsAreThere
    → (f : FlatNet) (tables : List TableBits) → IsReady f tables → HaveClocks f → IsSmallText f tables → BitsAreThere (filled_design f tables)
bits_are_there sound there f tables ready clocks small =
    let here = filled_module f tables in
    there (here ∷ []) here (sound f tables ready clocks small) (contains_here here []) (is_shallow f tables)

pub filled_designs_are_named_the_same : FilledModulesAreSound → SoundBitsAreThere → BitsAreDistinguished → StoredBitsAreRegisters → NetNamesDiffer → FilledDesignsAreNamedTheSame
filled_designs_are_named_the_same sound there reported stores differ f tables ready clocks small = record {
  ins = input_texts_are f tables ready;
  outs = output_texts_are f tables ready;
  each = registers_named f tables ready clocks reported;
  all = registers_all f tables ready clocks reported stores (bits_are_there sound there f tables ready clocks small);
  count = registers_are_as_many f tables ready clocks reported stores (bits_are_there sound there f tables ready clocks small) differ;
}
