-- A flat netlist: a netlist with the texts of its inputs, registers, outputs and boxes. Its inputs are those of the top
-- and then the register bits; its outputs are those of the top and then the data of the registers. A text is a list of
-- bytes.
use Rattle.std.specs.Prelude.{◌≡◌, ◌≢◌, ℕ, ◌+◌, ◌<◌, ◌≤◌, List, map, length, All, AllPairs, Contains, IfSome, IsSome}
use Rattle.std.specs.List.{AllZip}
use Rattle.bb_bits.specs.Names.{IsPrintable}
use Rattle.bb_net.specs.Netlists.{Netlist, IsNetlist}
use Rattle.bb_net.specs.Pairs.{BoxTexts, NamesPins}
use Rattle.bb_net.specs.declared.flat.Reg.{Reg}

pub record FlatNet : Type 0 where
  pub net : Netlist
  pub ins : List (List ℕ)
  pub regs : List Reg
  pub outs : List (List ℕ)
  pub boxes : List BoxTexts

-- everything in the netlist has its text
pub record AreNamed (f : FlatNet) : Type 0 where
  pub inputs : f.net.inputs ≡ length f.ins + length f.regs
  pub outputs : length f.net.outs ≡ length f.outs + length f.regs
  pub boxes : AllZip NamesPins f.boxes f.net.boxes

-- no text occurs twice among the inputs, the registers, the outputs or the boxes
pub record HasDistinctNames (f : FlatNet) : Type 0 where
  pub ins : AllPairs ◌≢◌ f.ins
  pub regs : AllPairs ◌≢◌ (map (λ r. r.text) f.regs)
  pub outs : AllPairs ◌≢◌ f.outs
  pub boxes : AllPairs ◌≢◌ (map (λ b. b.path) f.boxes)

-- each text has one byte or more, all from 33 to 126
pub record ArePrintable (f : FlatNet) : Type 0 where
  pub ins : All IsPrintable f.ins
  pub regs : All (λ r. IsPrintable r.text) f.regs
  pub outs : All IsPrintable f.outs
  pub boxes : All (λ b. IsPrintable b.path) f.boxes
  pub modules : All (λ b. IsPrintable b.module) f.boxes

-- boxes of one module have pins of the same texts
abbrev pub PinsGoByModules : List BoxTexts → Type 0
PinsGoByModules boxes = (a b : BoxTexts) → Contains boxes a → Contains boxes b → a.module ≡ b.module → (a.ins ≡ b.ins) × (a.outs ≡ b.outs)

-- it is not too large
pub record IsWithinLimits (f : FlatNet) : Type 0 where
  pub cells : length f.net.cells ≤ 2000000
  pub outs : length f.net.outs ≤ 2000000
  pub boxes : length f.net.boxes ≤ 1000000

-- what every flat netlist keeps
pub record IsFlat (f : FlatNet) : Type 0 where
  pub net : IsNetlist f.net
  pub named : AreNamed f
  pub apart : HasDistinctNames f
  pub printable : ArePrintable f
  pub modules : PinsGoByModules f.boxes
  pub small : IsWithinLimits f
  -- a clock is an input of the top
  pub clocks : All (λ r. IfSome r.clock (λ k. k < length f.ins)) f.regs

-- the clock of each register is an input
abbrev pub HaveClocks : FlatNet → Type 0
HaveClocks f = All (λ r. IsSome r.clock) f.regs
