use Rattle.std.proofs.Common.{◌≡◌, ◌+◌, ◌++◌, ℕ, List, take, length}
use Rattle.std.specs.List.{AllZip}
use Rattle.bb_net.specs.Netlists.{Netlist}
use Rattle.bb_elab.specs.Inside.CopyEnds.{AreEnds}
use Rattle.bb_design.specs.Hierarchy.{Design}
use Rattle.bb_design.specs.Inside.Allowed.{IsBounded}
use Rattle.bb_design.specs.NetBits.{top_inputs}
use Rattle.bb_blast.specs.Inside.Placements.{AreStored}
use Rattle.bb_design.specs.Refusals.{AreDrivenOnce, register_texts}
use Rattle.bb_design.specs.Registers.{registers, cut_bits}
use Rattle.bb_elab.specs.Inside.Stages.{AreLevelized}
use Rattle.bb_implements.specs.Implements.{IsRegister}
use Rattle.bb_elab.proofs.register_names.registers.Given as goal

abbrev pub invariant-loop-text : goal.invariant-loop-text
invariant-loop-text l = record {
  all : l.yielded ++ l.text-iterator.rest.items ≡ l.fn.texts.items;
  ends : AreEnds l.list l.ends.items;
  long : length l.regs.items ≡ length l.yielded;
  each : (d : Design) (net : Netlist) (numbers : List ℕ) → IsBounded d → AreDrivenOnce d → AreLevelized d l.list net numbers → l.first ≡ 2 + length (cut_bits d) → l.limit ≡ length (top_inputs d)
      → AreStored d l.stored → l.fn.texts.items ≡ register_texts d → AllZip (IsRegister d) (take (length l.yielded) (registers d)) l.regs.items;
}
