-- What a reader expects of nested boxes and of the answers.
use Rattle.std.specs.Prelude.{◌≡◌, ◌≤◌, ◌↔◌, ℕ, List, length}
use Rattle.bb_net.specs.Conditions.{SomeChoicesSuit, NoChoicesSuit, SomeTablesMakeEquivalent, NoTablesMakeEquivalent}
use Rattle.bb_net.specs.Netlists.{Netlist, IsNetlist}
use Rattle.bb_input.specs.Inside.Answers as choices
use Rattle.bb_input.specs.Laws.{IsSameAnswer}
use Rattle.bb_input.specs.declared.InputAnswer.{InputAnswer}
use Rattle.bb_nest.specs.Answers.{IsInputAnswer}
use Rattle.bb_nest.specs.Nested.{AreNested, AreNestedByCells}

-- equal cells are the same
abbrev pub CellsAreSeen : Type 0
CellsAreSeen = (net : Netlist) (kinds : List ℕ) → AreNestedByCells net kinds → AreNested net kinds

-- one box is nested, with nothing to see
abbrev pub SinglesAreNested : Type 0
SinglesAreNested = (net : Netlist) (kinds : List ℕ) → length kinds ≡ length net.boxes → length net.boxes ≤ 1 → AreNested net kinds

-- with at most one box the answers are those of the check by choices
abbrev pub SinglesAnswerTheSame : Type 0
SinglesAnswerTheSame = (spec imp : Netlist) (kinds : List ℕ) → IsNetlist imp → length kinds ≡ length imp.boxes → length imp.boxes ≤ 1
    → (answer : InputAnswer) → choices.IsAnswer spec imp answer ↔ IsInputAnswer spec imp kinds answer

-- nested boxes: where choices suit, tables agree, and where none do, none agree
abbrev pub NestedChoicesAreTables : Type 0
NestedChoicesAreTables = (spec imp : Netlist) (kinds : List ℕ) → IsNetlist imp → AreNested imp kinds → SomeChoicesSuit spec imp → SomeTablesMakeEquivalent spec imp

abbrev pub NestedAreDecided : Type 0
NestedAreDecided = (spec imp : Netlist) (kinds : List ℕ) → IsNetlist imp → AreNested imp kinds → NoChoicesSuit spec imp ↔ NoTablesMakeEquivalent spec imp

-- two answers for one pair are the same
abbrev pub OneAnswer : Type 0
OneAnswer = (spec imp : Netlist) (kinds : List ℕ) → IsNetlist imp → (a b : InputAnswer) → IsInputAnswer spec imp kinds a → IsInputAnswer spec imp kinds b → IsSameAnswer a b

-- and each pair has an answer
abbrev pub AnswersExist : Type 0
AnswersExist = (spec imp : Netlist) (kinds : List ℕ) → IsNetlist imp → (a : InputAnswer) × IsInputAnswer spec imp kinds a
