-- When a flat netlist implements a design: its cells are those of the design in some order, buffers left
-- out, its inputs, outputs and boxes have the texts of the design, and each register has its edge and its clock.
use Rattle.std.specs.Prelude.{◌≡◌, ◌⊎◌, ℕ, List, [], ◌∷◌, map, Contains, Option, Some, None, slice_get, slice_index_or}
use Rattle.std.specs.List.{AllZip}
use Rattle.bb_ast.specs.Syntax.{PlainModule}
use Rattle.bb_net.specs.Loose.{LooseList}
use Rattle.bb_net.specs.Netlists.{IsNetlist}
use Rattle.bb_net.specs.Orders.{IsOrderOf}
use Rattle.bb_net.specs.Pairs.{BoxTexts}
use Rattle.bb_net.specs.declared.flat.Reg.{Reg}
use Rattle.bb_bits.specs.Closures.{Leads}
use Rattle.bb_design.specs.Hierarchy.{Design, Scope, root, boxes, top_of}
use Rattle.bb_design.specs.NetBits.{Bit, input_bits, output_bits, top_inputs, top_outputs, written_bits}
use Rattle.bb_design.specs.Registers.{RegisterBit, registers}
use Rattle.bb_design.specs.Reading.{copied_bits}
use Rattle.bb_design.specs.Texts.{path_text, bit_text, pin_text}
use Rattle.bb_implements.specs.Places.{Lowering, IsLowering, IsListOf}
use Rattle.bb_net.specs.Flats.{FlatNet}

-- a bit is another, or a buffer of it, directly or through other buffers
abbrev pub IsCopyOf : Design → Bit → Bit → Type 0
IsCopyOf d b c = (b ≡ c) ⊎ Leads (copied_bits d) b c

-- the input of the top from which a clock comes
abbrev pub IsClockInput : Design → Bit → Option ℕ → Type 0
IsClockInput d b (Some k) = (c : Bit) × (slice_get (top_inputs d) k ≡ Some c) × IsCopyOf d b c
IsClockInput d b None = (c : Bit) → Contains (top_inputs d) c → IsCopyOf d b c → ⊥

-- a register implements a register bit
pub record IsRegister (d : Design) (r : RegisterBit) (reg : Reg) : Type 0 where
  pub text : reg.text ≡ bit_text d r.bit
  pub falling : reg.falling ≡ r.item.falling
  pub clock : (b : Bit) × (written_bits r.scope r.item.clock ≡ b ∷ []) × IsClockInput d b reg.clock

abbrev pub box_texts : Design → Scope → BoxTexts
box_texts d s = record { path = path_text s.path; «module» = s.source.name; ins = map (pin_text d) (input_bits s); outs = map (pin_text d) (output_bits s) }

-- the box with a number, in elaboration order
abbrev pub box_number : Design → ℕ → Scope
box_number d b = slice_index_or (boxes d) b (root d)

pub record Implements (d : Design) (f : FlatNet) : Type 0 where
  pub netlist : IsNetlist f.net
  pub lowering : Lowering
  pub lowered : IsLowering d lowering
  pub cells : LooseList
  pub listed : IsListOf d lowering cells
  -- the boxes in the order of the netlist, by their numbers in elaboration order
  pub numbers : List ℕ
  pub ordered : IsOrderOf cells f.net numbers
  pub ins : f.ins ≡ map (bit_text d) (top_inputs d)
  pub regs : AllZip (IsRegister d) (registers d) f.regs
  pub outs : f.outs ≡ map (bit_text d) (top_outputs d)
  pub boxes : f.boxes ≡ map (λ b. box_texts d (box_number d b)) numbers

-- it implements a text with a top, which may be named
abbrev pub ImplementsText : List PlainModule → Option (List ℕ) → FlatNet → Type 0
ImplementsText text name f = (top : PlainModule) × (top_of text name ≡ Some top) × Implements (record { text = text; top = top }) f
