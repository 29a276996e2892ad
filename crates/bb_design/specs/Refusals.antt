-- Why a design is refused. There are nine causes in one order, and the first that holds is reported, with a name. For
-- each cause the definitions say when it holds and which name is reported, and beside it what holds where it does not.
-- That is said positively: where there is no recursion and no loop, modules or bits have levels that fall along each
-- step. Causes after depth are met only where the design is not too deep. The causes are what the standard forbids or
-- leaves without a meaning in two values, the limits, and texts that would name two things.
use Rattle.std.specs.Prelude.{◌≡◌, ◌≢◌, ◌⊎◌, ℕ, ◌<◌, ◌≤◌, List, map, length, All, AllPairs, Contains, Option, Some, None, slice_index_or}
use Rattle.bb_ast.specs.Syntax.{PlainModule}
use Rattle.bb_design.specs.declared.fault.ElabFault.{ElabFault}
use Rattle.bb_design.specs.declared.fault.ElabFault.TheVariants as faults
use Rattle.bb_bits.specs.Closures.{Leads, IsFirst, IsFirstRepeat}
use Rattle.bb_design.specs.Hierarchy.{Design, Scope, top_of, instances, boxes, instantiations, too_low}
use Rattle.bb_design.specs.NetBits.{Bit, net_order, top_inputs, top_outputs}
use Rattle.bb_design.specs.Registers.{registers}
use Rattle.bb_design.specs.Drivers.{driven_bits}
use Rattle.bb_design.specs.Reading.{IsReadBit}
use Rattle.bb_design.specs.Dependence.{dependences, IsOnLoop}
use Rattle.bb_design.specs.Sizes.{cells_in, bits_and_instances}
use Rattle.bb_design.specs.Texts.{path_text, bit_text}

-- recursion: a module that the top reaches instantiates itself, directly or through others

-- the module of this name is the top, or the top instantiates it, directly or through others
abbrev pub IsReached : Design → List ℕ → Type 0
IsReached d n = (d.top.name ≡ n) ⊎ Leads (instantiations d.text) d.top.name n

abbrev pub IsRecursive : Design → List ℕ → Type 0
IsRecursive d n = IsReached d n × Leads (instantiations d.text) n n

-- modules have levels, and each that is reached has a higher one than those that it instantiates
abbrev pub IsHierarchy : Design → Type 0
IsHierarchy d = (level : List ℕ → ℕ) × All (λ x. IsReached d x.0 → level x.1 < level x.0) (instantiations d.text)

-- depth: an instance is too many levels below the top

abbrev pub IsTooLow : Scope → Type 0
IsTooLow s = too_low ≤ length s.path

abbrev pub IsShallow : Design → Type 0
IsShallow d = All (λ s. length s.path < too_low) (instances d)

-- size: too many bits of nets and instances, or too many cells

abbrev pub most_bits : ℕ
most_bits = 1000000

abbrev pub most_cells : ℕ
most_cells = 2000000

abbrev pub IsTooLargeDesign : Design → Type 0
IsTooLargeDesign d = (most_bits < bits_and_instances d) ⊎ (most_cells < cells_in d)

abbrev pub IsSmallDesign : Design → Type 0
IsSmallDesign d = (bits_and_instances d ≤ most_bits) × (cells_in d ≤ most_cells)

-- drivers: a bit is at two places in the list of driven bits; or it is read and at none

abbrev pub IsDrivenTwice : Design → Bit → Type 0
IsDrivenTwice d b = (i j : ℕ) × (i < j) × (j < length (driven_bits d)) × (slice_index_or (driven_bits d) i b ≡ b) × (slice_index_or (driven_bits d) j b ≡ b)

abbrev pub AreDrivenOnce : Design → Type 0
AreDrivenOnce d = AllPairs ◌≢◌ (driven_bits d)

abbrev pub IsUndriven : Design → Bit → Type 0
IsUndriven d b = IsReadBit d b × (Contains (driven_bits d) b → ⊥)

abbrev pub AreDriven : Design → Type 0
AreDriven d = (b : Bit) → IsReadBit d b → Contains (driven_bits d) b

-- loops: a bit is on a loop of dependence; else bits have levels, each a higher one than the bits on which it depends

abbrev pub IsAcyclic : Design → Type 0
IsAcyclic d = (level : Bit → ℕ) × All (λ x. level x.1 < level x.0) (dependences d)

-- repeated texts: of boxes in elaboration order; of register bits, of inputs and of outputs in net order

abbrev pub box_paths : Design → List (List ℕ)
box_paths d = map (λ s. path_text s.path) (boxes d)

abbrev pub register_texts : Design → List (List ℕ)
register_texts d = map (λ r. bit_text d r.bit) (registers d)

abbrev pub input_texts : Design → List (List ℕ)
input_texts d = map (bit_text d) (top_inputs d)

abbrev pub output_texts : Design → List (List ℕ)
output_texts d = map (bit_text d) (top_outputs d)

-- no text is repeated
abbrev pub AreDistinctTexts : List (List ℕ) → Type 0
AreDistinctTexts texts = AllPairs ◌≢◌ texts

pub data DesignCause : Type 0 where
  Recursion : DesignCause
  Depth : DesignCause
  Size : DesignCause
  TwoDrivers : DesignCause
  NoDriver : DesignCause
  Cycle : DesignCause
  BoxTexts : DesignCause
  RegisterTexts : DesignCause
  PortTexts : DesignCause

-- their order
abbrev pub cause_rank : DesignCause → ℕ
cause_rank Recursion = 0
cause_rank Depth = 1
cause_rank Size = 2
cause_rank TwoDrivers = 3
cause_rank NoDriver = 4
cause_rank Cycle = 5
cause_rank BoxTexts = 6
cause_rank RegisterTexts = 7
cause_rank PortTexts = 8

-- the refusal for a cause, reported with a name
abbrev pub elab_fault_of : DesignCause → List ℕ → ElabFault
elab_fault_of Recursion n = faults.Recursive n
elab_fault_of Depth n = faults.TooDeep n
elab_fault_of Size n = faults.TooLarge
elab_fault_of TwoDrivers n = faults.DrivenTwice n
elab_fault_of NoDriver n = faults.Undriven n
elab_fault_of Cycle n = faults.Loop n
elab_fault_of BoxTexts n = faults.BoxTwice n
elab_fault_of RegisterTexts n = faults.RegTwice n
elab_fault_of PortTexts n = faults.PortTwice n

-- the first bit in net order of which it holds has this text
abbrev pub IsFirstBit : Design → (Bit → Type 0) → List ℕ → Type 0
IsFirstBit d P n = (b : Bit) × IsFirst P (net_order d) b × (n ≡ bit_text d b)

-- the cause holds, and this name is reported: the first module in text order, the path of the first instance in
-- elaboration order, the text of the first bit in net order, or the first text that repeats one before it
abbrev pub IsReportedOfDesign : Design → DesignCause → List ℕ → Type 0
IsReportedOfDesign d Recursion n = IsFirst (IsRecursive d) (map (λ m. m.name) d.text) n
IsReportedOfDesign d Depth n = (s : Scope) × IsFirst IsTooLow (instances d) s × (n ≡ path_text s.path)
IsReportedOfDesign d Size n = IsTooLargeDesign d
IsReportedOfDesign d TwoDrivers n = IsFirstBit d (IsDrivenTwice d) n
IsReportedOfDesign d NoDriver n = IsFirstBit d (IsUndriven d) n
IsReportedOfDesign d Cycle n = IsFirstBit d (IsOnLoop d) n
IsReportedOfDesign d BoxTexts n = IsFirstRepeat (box_paths d) n
IsReportedOfDesign d RegisterTexts n = IsFirstRepeat (register_texts d) n
IsReportedOfDesign d PortTexts n = IsFirstRepeat (input_texts d) n ⊎ (AreDistinctTexts (input_texts d) × IsFirstRepeat (output_texts d) n)

-- what holds where the cause does not
abbrev pub IsAbsentInDesign : Design → DesignCause → Type 0
IsAbsentInDesign d Recursion = IsHierarchy d
IsAbsentInDesign d Depth = IsShallow d
IsAbsentInDesign d Size = IsSmallDesign d
IsAbsentInDesign d TwoDrivers = AreDrivenOnce d
IsAbsentInDesign d NoDriver = AreDriven d
IsAbsentInDesign d Cycle = IsAcyclic d
IsAbsentInDesign d BoxTexts = AreDistinctTexts (box_paths d)
IsAbsentInDesign d RegisterTexts = AreDistinctTexts (register_texts d)
IsAbsentInDesign d PortTexts = AreDistinctTexts (input_texts d) × AreDistinctTexts (output_texts d)

-- a design is sound: there is no cause to refuse it
abbrev pub IsSoundDesign : Design → Type 0
IsSoundDesign d = (cause : DesignCause) → IsAbsentInDesign d cause

-- the first refusal of a design: a cause holds, and none before it
pub record IsRefusalOf (d : Design) (fault : ElabFault) : Type 0 where
  pub cause : DesignCause
  pub name : List ℕ
  pub is : fault ≡ elab_fault_of cause name
  pub reported : IsReportedOfDesign d cause name
  pub earlier : (other : DesignCause) → cause_rank other < cause_rank cause → IsAbsentInDesign d other

-- the design of a text with this module on top
abbrev pub design_on : List PlainModule → PlainModule → Design
design_on text top = record { text = text; top = top }

-- the text has a top, which may be named, and is sound with it
abbrev pub IsSoundText : List PlainModule → Option (List ℕ) → Type 0
IsSoundText text name = (top : PlainModule) × (top_of text name ≡ Some top) × IsSoundDesign (design_on text top)

-- the first refusal of a text: it has no top, or is refused with it
abbrev pub IsFirstDesignRefusal : List PlainModule → Option (List ℕ) → ElabFault → Type 0
IsFirstDesignRefusal text name fault = ((top_of text name ≡ None) × (fault ≡ faults.NoTop))
    ⊎ ((top : PlainModule) × (top_of text name ≡ Some top) × IsRefusalOf (design_on text top) fault)
