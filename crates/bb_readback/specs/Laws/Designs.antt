-- The filled text as a design: its one module on top. Its ports and registers are those of the netlist, by their texts.
use Rattle.std.specs.Prelude.{◌≡◌, Bool, List, [], ◌∷◌, length, map, All, Contains, Some}
use Rattle.std.specs.List.{zip}
use Rattle.bb_bits.specs.Tables.{TableBits}
use Rattle.bb_net.specs.declared.flat.Reg.{Reg as Register}
use Rattle.bb_net.specs.CutPoints.{CutOutput, clock_text, cut_inputs, cut_outputs}
use Rattle.bb_net.specs.Flats.{FlatNet}
use Rattle.bb_net.specs.Values.{bit_of, flat_with}
use Rattle.bb_design.specs.Hierarchy.{Design}
use Rattle.bb_design.specs.NetBits.{Bit, top_inputs, written_bits}
use Rattle.bb_design.specs.Refusals.{design_on, input_texts, output_texts}
use Rattle.bb_design.specs.Registers.{RegisterBit, registers}
use Rattle.bb_design.specs.Texts.{bit_text}
use Rattle.bb_design.specs.Worlds.{Vector}
use Rattle.bb_readback.specs.Laws.Modules.{filled_module}

-- the design of the filled text
abbrev pub filled_design : FlatNet → List TableBits → Design
filled_design f tables = design_on (filled_module f tables ∷ []) (filled_module f tables)

-- a register bit of a design is a register of a netlist: it has its text and its edge, and its clock is a bit of an input port that has the
-- text of the register's clock
pub record IsRegisterOf (d : Design) (f : FlatNet) (r : RegisterBit) (register : Register) : Type 0 where
  pub text : bit_text d r.bit ≡ register.text
  pub edge : r.item.falling ≡ register.falling
  pub input : Bit
  pub clock : written_bits r.scope r.item.clock ≡ input ∷ []
  pub top : Contains (top_inputs d) input
  pub named : clock_text f register ≡ Some (bit_text d input)

-- a design has the names of a netlist: its inputs and its outputs have the texts of the netlist's in their order, and
-- its register bits are the registers of the netlist, each of them one and as many, in an order of their own
pub record IsCalledAs (d : Design) (f : FlatNet) : Type 0 where
  pub ins : input_texts d ≡ f.ins
  pub outs : output_texts d ≡ f.outs
  pub each : All (λ r. (register : Register) × Contains f.regs register × IsRegisterOf d f r register) (registers d)
  pub all : All (λ register. (r : RegisterBit) × Contains (registers d) r × IsRegisterOf d f r register) f.regs
  pub count : length (registers d) ≡ length f.regs

-- the cut outputs of a flat netlist, each with its bit at a vector where the boxes hold these tables
abbrev pub outputs_by : FlatNet → List TableBits → Vector → List (CutOutput × Bool)
outputs_by f tables x = zip (cut_outputs f) (map (bit_of (flat_with f.net (map x (cut_inputs f)) tables)) f.net.outs)
