-- When two designs can be paired. They have to have the same inputs, outputs and registers by their texts, each
-- register with the same clock at the same edge, so that they can be compared output by output and next state by next
-- state; the specification has to be complete. Where a care output is requested, the specification must have this
-- output in addition; it is not compared, and the implementation must not have it.
-- The causes are those for which two flat netlists are refused, in the same order; here they are defined on designs,
-- with the name that is reported, and beside each what holds where it does not. So to believe that two texts fit nobody
-- has to read what a list of cells is. The two definitions of the cause `Clocks` differ where a register has no input
-- clock; that is reported earlier, so fit and first refusal are the same, though not each cause.
use Rattle.std.specs.Prelude.{◌≡◌, ◌≢◌, ◌⊎◌, ℕ, ◌+◌, ◌<◌, ◌≤◌, List, [], ◌∷◌, length, All, Contains, IfSome}
use Rattle.std.specs.Prelude.{Option, Some, sum_by}
use Rattle.bb_bits.specs.Closures.{IsFirst}
use Rattle.bb_implements.specs.BoxOrders.{DependsOnBox}
use Rattle.bb_implements.specs.Implements.{IsCopyOf}
use Rattle.bb_design.specs.Hierarchy.{Design, Scope, boxes}
use Rattle.bb_design.specs.NetBits.{Bit, input_bits, output_bits, top_inputs, written_bits}
use Rattle.bb_design.specs.Refusals.{input_texts, output_texts, register_texts}
use Rattle.bb_design.specs.Registers.{RegisterBit, registers, cut_bits}
use Rattle.bb_design.specs.Texts.{path_text, bit_text}
use Rattle.bb_match.specs.declared.fault.MatchFault.{MatchFault}
use Rattle.bb_match.specs.Refusals.{PairCause, Box, Care, SpecInput, SpecOutput, ImpInput, ImpOutput, SpecRegister}
use Rattle.bb_match.specs.Refusals.{ImpRegister, SpecClock, ImpClock, Clocks, Pins}
use Rattle.bb_match.specs.Refusals.{AreAmong, IsFirstCause, IsFirstMissing, IsMissing, compared, most_pins}

-- a box that depends on no box: it is the first in the order of dependence, in which a netlist has its boxes; where
-- boxes depend on each other in a circle there is none
abbrev pub DependsOnNone : Design → Scope → Type 0
DependsOnNone d s = (t : Scope) → Contains (boxes d) t → DependsOnBox d s t → ⊥

-- the clock of a register bit is, directly or through buffers, this bit of an input of the top
pub record IsClockedBy (d : Design) (r : RegisterBit) (input : Bit) : Type 0 where
  pub clock : Bit
  pub is : written_bits r.scope r.item.clock ≡ clock ∷ []
  pub top : Contains (top_inputs d) input
  pub comes : IsCopyOf d clock input

abbrev pub HasClock : Design → RegisterBit → Type 0
HasClock d r = (input : Bit) × IsClockedBy d r input

abbrev pub HasNoInputClock : Design → RegisterBit → Type 0
HasNoInputClock d r = HasClock d r → ⊥

-- two register bits with one text, at the same edge of the same clock
pub record HaveSameClock (d e : Design) (r q : RegisterBit) : Type 0 where
  pub edges : q.item.falling ≡ r.item.falling
  pub clocks : (b c : Bit) → IsClockedBy d r b → IsClockedBy e q c → bit_text e c ≡ bit_text d b

abbrev pub HasOtherClock : Design → Design → RegisterBit → RegisterBit → Type 0
HasOtherClock d e r q = (b c : Bit) × IsClockedBy d r b × IsClockedBy e q c × (bit_text e c ≢ bit_text d b)

-- a register bit that the other design has with another edge, or with another clock
abbrev pub IsClockedDifferently : Design → Design → RegisterBit → Type 0
IsClockedDifferently d e r = (q : RegisterBit) × Contains (registers e) q × (bit_text e q.bit ≡ bit_text d r.bit)
    × ((q.item.falling ≢ r.item.falling) ⊎ HasOtherClock d e r q)

-- the first register bit in net order of which it holds has this text
abbrev pub IsFirstRegister : Design → (RegisterBit → Type 0) → List ℕ → Type 0
IsFirstRegister d P n = (r : RegisterBit) × IsFirst P (registers d) r × (n ≡ bit_text d r.bit)

-- the bits of inputs, the register bits, and the pins of all boxes
abbrev pub design_input_and_pin_count : Design → ℕ
design_input_and_pin_count d = length (cut_bits d) + sum_by (λ s. length (input_bits s) + length (output_bits s)) (boxes d)

-- the cause holds, and this name is reported
abbrev pub IsReportedOfDesigns : Option (List ℕ) → Design → Design → PairCause → List ℕ → Type 0
IsReportedOfDesigns care spec imp Box n = (s : Scope) × IsFirst (DependsOnNone spec) (boxes spec) s × (n ≡ path_text s.path)
IsReportedOfDesigns care spec imp Care n = (care ≡ Some n) × IsMissing (output_texts spec) n
IsReportedOfDesigns care spec imp SpecInput n = IsFirstMissing (input_texts spec) (input_texts imp) n
IsReportedOfDesigns care spec imp SpecOutput n = IsFirstMissing (compared care (output_texts spec)) (output_texts imp) n
IsReportedOfDesigns care spec imp ImpInput n = IsFirstMissing (input_texts imp) (input_texts spec) n
IsReportedOfDesigns care spec imp ImpOutput n = IsFirstMissing (output_texts imp) (compared care (output_texts spec)) n
IsReportedOfDesigns care spec imp SpecRegister n = IsFirstMissing (register_texts spec) (register_texts imp) n
IsReportedOfDesigns care spec imp ImpRegister n = IsFirstMissing (register_texts imp) (register_texts spec) n
IsReportedOfDesigns care spec imp SpecClock n = IsFirstRegister spec (HasNoInputClock spec) n
IsReportedOfDesigns care spec imp ImpClock n = IsFirstRegister imp (HasNoInputClock imp) n
IsReportedOfDesigns care spec imp Clocks n = IsFirstRegister spec (IsClockedDifferently spec imp) n
IsReportedOfDesigns care spec imp Pins n = most_pins < design_input_and_pin_count imp

-- what holds where the cause does not
abbrev pub IsAbsentInDesigns : Option (List ℕ) → Design → Design → PairCause → Type 0
IsAbsentInDesigns care spec imp Box = boxes spec ≡ []
IsAbsentInDesigns care spec imp Care = IfSome care (Contains (output_texts spec))
IsAbsentInDesigns care spec imp SpecInput = AreAmong (input_texts spec) (input_texts imp)
IsAbsentInDesigns care spec imp SpecOutput = AreAmong (compared care (output_texts spec)) (output_texts imp)
IsAbsentInDesigns care spec imp ImpInput = AreAmong (input_texts imp) (input_texts spec)
IsAbsentInDesigns care spec imp ImpOutput = AreAmong (output_texts imp) (compared care (output_texts spec))
IsAbsentInDesigns care spec imp SpecRegister = AreAmong (register_texts spec) (register_texts imp)
IsAbsentInDesigns care spec imp ImpRegister = AreAmong (register_texts imp) (register_texts spec)
IsAbsentInDesigns care spec imp SpecClock = All (HasClock spec) (registers spec)
IsAbsentInDesigns care spec imp ImpClock = All (HasClock imp) (registers imp)
IsAbsentInDesigns care spec imp Clocks = (r q : RegisterBit) → Contains (registers spec) r → Contains (registers imp) q
    → bit_text imp q.bit ≡ bit_text spec r.bit → HaveSameClock spec imp r q
IsAbsentInDesigns care spec imp Pins = design_input_and_pin_count imp ≤ most_pins

-- two designs fit: there is no cause to refuse them
abbrev pub DesignsFit : Option (List ℕ) → Design → Design → Type 0
DesignsFit care spec imp = (cause : PairCause) → IsAbsentInDesigns care spec imp cause

-- the first refusal of two designs
abbrev pub IsRefusalFor : Option (List ℕ) → Design → Design → MatchFault → Type 0
IsRefusalFor care spec imp = IsFirstCause (IsReportedOfDesigns care spec imp) (IsAbsentInDesigns care spec imp)
