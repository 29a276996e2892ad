-- Why two flat netlists cannot be paired. They have to have the same inputs, outputs and registers by their texts, each
-- register with the same clock at the same edge, so that they can be compared output by output and next state by next
-- state; the specification has to be complete. Where a care output is requested, one by which the specification says at
-- which vectors the others count, it has to have that one besides, which is not compared and which the implementation
-- lacks. There are twelve causes in one order, and the first that holds is reported, with a name. For each cause the
-- definitions say when it holds and which name is reported, and beside it what holds where it does not.
use Rattle.std.specs.Prelude.{◌≡◌, ◌≢◌, ◌⊎◌, ℕ, ◌+◌, ◌<◌, ◌≤◌, not, List, [], ◌∷◌, All, Contains, IfSome, Option, None, Some}
use Rattle.std.specs.List.{filter}
use Rattle.bb_bits.specs.Names.{same_name}
use Rattle.bb_net.specs.Pairs.{BoxTexts, pin_count}
use Rattle.bb_net.specs.declared.flat.Reg.{Reg}
use Rattle.bb_bits.specs.Closures.{IsFirst}
use Rattle.bb_net.specs.Flats.{FlatNet, HaveClocks}
use Rattle.bb_match.specs.declared.fault.MatchFault.{MatchFault}
use Rattle.bb_match.specs.declared.fault.MatchFault.TheVariants as faults
use Rattle.bb_net.specs.CutPoints.{state_texts, clock_text}

-- texts of one list that the other lacks

abbrev pub IsMissing : List (List ℕ) → List ℕ → Type 0
IsMissing others text = Contains others text → ⊥

abbrev pub IsFirstMissing : List (List ℕ) → List (List ℕ) → List ℕ → Type 0
IsFirstMissing texts others text = IsFirst (IsMissing others) texts text

abbrev pub AreAmong : List (List ℕ) → List (List ℕ) → Type 0
AreAmong texts others = All (Contains others) texts

-- the texts of the outputs that are compared: all but that of the care output, if one is requested

abbrev pub compared : Option (List ℕ) → List (List ℕ) → List (List ℕ)
compared None outs = outs
compared (Some care) outs = filter (λ text. not (same_name care text)) outs

-- registers whose clock is no input

abbrev pub HasNoClock : Reg → Type 0
HasNoClock r = r.clock ≡ None

abbrev pub IsFirstWithoutClock : FlatNet → List ℕ → Type 0
IsFirstWithoutClock f text = (r : Reg) × IsFirst HasNoClock f.regs r × (text ≡ r.text)

-- a register of the one that the other has with another edge, or with a clock of another text

abbrev pub IsClockedApart : FlatNet → FlatNet → Reg → Type 0
IsClockedApart f g r = (q : Reg) × Contains g.regs q × (q.text ≡ r.text) × ((q.falling ≢ r.falling) ⊎ (clock_text g q ≢ clock_text f r))

abbrev pub IsFirstClockedApart : FlatNet → FlatNet → List ℕ → Type 0
IsFirstClockedApart f g text = (r : Reg) × IsFirst (IsClockedApart f g) f.regs r × (text ≡ r.text)

abbrev pub HasSameClock : FlatNet → FlatNet → Reg → Type 0
HasSameClock f g r = (q : Reg) → Contains g.regs q → q.text ≡ r.text → (q.falling ≡ r.falling) × (clock_text g q ≡ clock_text f r)

abbrev pub HaveSameClocks : FlatNet → FlatNet → Type 0
HaveSameClocks f g = All (HasSameClock f g) f.regs

-- inputs, registers and all pins of boxes

abbrev pub most_pins : ℕ
most_pins = 2048

abbrev pub input_and_pin_count : FlatNet → ℕ
input_and_pin_count f = f.net.inputs + pin_count f.net.boxes

pub data PairCause : Type 0 where
  -- the specification has a box: the first in the order of the netlist
  Box : PairCause
  -- it has no output of the text of the care output
  Care : PairCause
  -- an input or an output that the other lacks: inputs, then outputs of the specification, then those of the
  -- implementation
  SpecInput : PairCause
  SpecOutput : PairCause
  ImpInput : PairCause
  ImpOutput : PairCause
  -- a register that the other lacks
  SpecRegister : PairCause
  ImpRegister : PairCause
  -- a register whose clock is no input
  SpecClock : PairCause
  ImpClock : PairCause
  -- a register of both with another edge or another clock
  Clocks : PairCause
  Pins : PairCause

-- their order
abbrev pub pair_cause_rank : PairCause → ℕ
pair_cause_rank Box = 0
pair_cause_rank Care = 1
pair_cause_rank SpecInput = 2
pair_cause_rank SpecOutput = 3
pair_cause_rank ImpInput = 4
pair_cause_rank ImpOutput = 5
pair_cause_rank SpecRegister = 6
pair_cause_rank ImpRegister = 7
pair_cause_rank SpecClock = 8
pair_cause_rank ImpClock = 9
pair_cause_rank Clocks = 10
pair_cause_rank Pins = 11

-- the refusal for a cause, reported with a name
abbrev pub match_fault_of : PairCause → List ℕ → MatchFault
match_fault_of Box n = faults.SpecBox n
match_fault_of Care n = faults.NoCare n
match_fault_of SpecInput n = faults.PortDiffers n
match_fault_of SpecOutput n = faults.PortDiffers n
match_fault_of ImpInput n = faults.PortDiffers n
match_fault_of ImpOutput n = faults.PortDiffers n
match_fault_of SpecRegister n = faults.RegDiffers n
match_fault_of ImpRegister n = faults.RegDiffers n
match_fault_of SpecClock n = faults.ClockNotInput n
match_fault_of ImpClock n = faults.ClockNotInput n
match_fault_of Clocks n = faults.ClockDiffers n
match_fault_of Pins n = faults.TooManyPins

-- the cause holds, and this name is reported
abbrev pub IsReported : Option (List ℕ) → FlatNet → FlatNet → PairCause → List ℕ → Type 0
IsReported care spec imp Box n = (box : BoxTexts) × (rest : List BoxTexts) × (spec.boxes ≡ box ∷ rest) × (n ≡ box.path)
IsReported care spec imp Care n = (care ≡ Some n) × IsMissing spec.outs n
IsReported care spec imp SpecInput n = IsFirstMissing spec.ins imp.ins n
IsReported care spec imp SpecOutput n = IsFirstMissing (compared care spec.outs) imp.outs n
IsReported care spec imp ImpInput n = IsFirstMissing imp.ins spec.ins n
IsReported care spec imp ImpOutput n = IsFirstMissing imp.outs (compared care spec.outs) n
IsReported care spec imp SpecRegister n = IsFirstMissing (state_texts spec) (state_texts imp) n
IsReported care spec imp ImpRegister n = IsFirstMissing (state_texts imp) (state_texts spec) n
IsReported care spec imp SpecClock n = IsFirstWithoutClock spec n
IsReported care spec imp ImpClock n = IsFirstWithoutClock imp n
IsReported care spec imp Clocks n = IsFirstClockedApart spec imp n
IsReported care spec imp Pins n = most_pins < input_and_pin_count imp

-- what holds where the cause does not
abbrev pub IsAbsent : Option (List ℕ) → FlatNet → FlatNet → PairCause → Type 0
IsAbsent care spec imp Box = spec.boxes ≡ []
IsAbsent care spec imp Care = IfSome care (Contains spec.outs)
IsAbsent care spec imp SpecInput = AreAmong spec.ins imp.ins
IsAbsent care spec imp SpecOutput = AreAmong (compared care spec.outs) imp.outs
IsAbsent care spec imp ImpInput = AreAmong imp.ins spec.ins
IsAbsent care spec imp ImpOutput = AreAmong imp.outs (compared care spec.outs)
IsAbsent care spec imp SpecRegister = AreAmong (state_texts spec) (state_texts imp)
IsAbsent care spec imp ImpRegister = AreAmong (state_texts imp) (state_texts spec)
IsAbsent care spec imp SpecClock = HaveClocks spec
IsAbsent care spec imp ImpClock = HaveClocks imp
IsAbsent care spec imp Clocks = HaveSameClocks spec imp
IsAbsent care spec imp Pins = input_and_pin_count imp ≤ most_pins

-- they fit: there is no cause to refuse them
abbrev pub Fit : Option (List ℕ) → FlatNet → FlatNet → Type 0
Fit care spec imp = (cause : PairCause) → IsAbsent care spec imp cause

-- a cause holds, and none before it, where Told says of a cause which names are reported, and Absent when it does not
-- hold
pub record IsFirstCause (Reported : PairCause → List ℕ → Type 0) (Absent : PairCause → Type 0) (fault : MatchFault) : Type 0 where
  pub cause : PairCause
  pub name : List ℕ
  pub is : fault ≡ match_fault_of cause name
  pub reported : Reported cause name
  pub earlier : (other : PairCause) → pair_cause_rank other < pair_cause_rank cause → Absent other

-- the first refusal of two netlists
abbrev pub IsFirstPairRefusal : Option (List ℕ) → FlatNet → FlatNet → MatchFault → Type 0
IsFirstPairRefusal care spec imp = IsFirstCause (IsReported care spec imp) (IsAbsent care spec imp)
