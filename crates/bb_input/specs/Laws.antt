-- What a reader expects of the answers: a pair has one; and of the functions that the check makes on the way.
use Rattle.std.specs.Prelude.{◌≡◌, ◌↔◌, ◌<◌, ℕ, ◌+◌, Bool, false, List, length, take, drop, Vec}
use Rattle.std.specs.declared.alloc.Global.{Global}
use Rattle.bb_bits.specs.Tables.{TableBits}
use Rattle.bb_bits.specs.Truth.{truth_at}
use Rattle.bb_net.specs.Conditions.{ChoicesSuit, InputsHaveOutputs, SomeChoicesSuit}
use Rattle.bb_net.specs.Netlists.{Netlist, IsNetlist}
use Rattle.bb_input.specs.Inside.Answers.{IsAnswer}
use Rattle.bb_input.specs.InputFunctions.{pins_and_inputs, point_pins, lost, stage}
use Rattle.bb_input.specs.declared.InputAnswer.{InputAnswer}
use Rattle.bb_input.specs.declared.InputAnswer.TheVariants.{Error, Clear, Repair}

-- the same answer, with the same tables
abbrev pub IsSameAnswer : InputAnswer → InputAnswer → Type 0
IsSameAnswer Error b = b ≡ Error
IsSameAnswer Clear b = b ≡ Clear
IsSameAnswer (Repair tables) b = (others : Vec TableBits Global) × (b ≡ Repair others) × (tables.items ≡ others.items)

-- two answers for one pair are the same
abbrev pub OneAnswer : Type 0
OneAnswer = (spec imp : Netlist) → IsNetlist imp → (a b : InputAnswer) → IsAnswer spec imp a → IsAnswer spec imp b → IsSameAnswer a b

-- and each pair has an answer
abbrev pub AnswersExist : Type 0
AnswersExist = (spec imp : Netlist) → IsNetlist imp → (a : InputAnswer) × IsAnswer spec imp a

-- the function of a stage is 0 at a point exactly where the boxes after it can be filled, with the bits that the point
-- gives to the pins of those before
abbrev pub StagesSay : Type 0
StagesSay = (spec imp : Netlist) (b : ℕ) → b < length imp.boxes → (p : List Bool) → length p ≡ pins_and_inputs imp
    → (truth_at (stage spec imp b) p ≡ false) ↔ InputsHaveOutputs (ChoicesSuit spec imp) (drop (b + 1) imp.boxes) (point_pins (take (b + 1) imp.boxes) p)

-- and the last one where all can be
abbrev pub LastReports : Type 0
LastReports = (spec imp : Netlist) (p : List Bool) → length p ≡ pins_and_inputs imp → (truth_at (lost spec imp) p ≡ false) ↔ SomeChoicesSuit spec imp
