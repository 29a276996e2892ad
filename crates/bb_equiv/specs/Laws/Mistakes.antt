-- Laws of vectors that show mistakes: those that checks find in a pair do so in its designs, no contents agree where
-- they do, and each contents has a counterexample where none agree.
use Rattle.std.specs.Prelude.{◌≡◌, ◌++◌, ℕ, Bool, List, map, All, Contains, Option, None, Some, slice_get}
use Rattle.bb_bits.specs.Contents.{Contents}
use Rattle.bb_bits.specs.Tables.{TableBits}
use Rattle.bb_subst.specs.Distinguishing.{FailAt}
use Rattle.bb_net.specs.Equivalence.{IsVector, IsOutput}
use Rattle.bb_net.specs.Conditions.{IsAlwaysWrong, AlwaysSomeWrongAt}
use Rattle.bb_net.specs.CutPoints.{CutOutput, TopOutput, NextState}
use Rattle.bb_net.specs.Kinds.{per_box}
use Rattle.bb_net.specs.Pairs.{NetPair}
use Rattle.bb_design.specs.Inside.Allowed.{IsAllowed}
use Rattle.bb_design.specs.Hierarchy.{Design}
use Rattle.bb_design.specs.Refusals.{output_texts, register_texts}
use Rattle.bb_design.specs.Worlds.{Vector}
use Rattle.bb_match.specs.Pairing.{input_text, output_name}
use Rattle.bb_equiv.specs.Comparable.{AreComparable}
use Rattle.bb_equiv.specs.Laws.DesignEquivalence.{FitKindsOf, OfPairs}
use Rattle.bb_equiv.specs.DesignEquivalence.{IsPairFor, MayFill, NoContentsMakeEquivalent}
use Rattle.bb_match.specs.Refusals.{compared}
use Rattle.bb_equiv.specs.Mistakes.{inputs_of, DifferWith, IsMistakeAt, AreMistakesAmong}

-- the outputs of a design that are compared, in net order: those of the top, and then those of the register bits
abbrev pub outputs_of : Option (List ℕ) → Design → List CutOutput
outputs_of care d = map TopOutput (compared care (output_texts d)) ++ map NextState (register_texts d)

-- a counterexample to these contents: at some vector, at which equivalence is required, the two differ at some output or
-- next state
abbrev pub HaveCounterexample : Option (List ℕ) → Design → Design → Contents → Type 0
HaveCounterexample care spec imp contents = (x : Vector) × (o : CutOutput)
    × DifferWith care spec imp contents x (Some o)

-- to each contents that may fill the boxes there is one
abbrev pub AllHaveCounterexamples : Option (List ℕ) → Bool → Design → Design → Type 0
AllHaveCounterexamples care shared spec imp = (contents : Contents) → MayFill shared imp contents
    → HaveCounterexample care spec imp contents

-- where no contents agree, there is a counterexample to each of them: vectors are finitely many, and at each of them
-- the two agree or differ
abbrev pub CounterexamplesExist : Type 0
CounterexamplesExist = (care : Option (List ℕ)) (shared : Bool) (spec imp : Design) → AreComparable care spec imp
    → NoContentsMakeEquivalent care shared spec imp → AllHaveCounterexamples care shared spec imp

-- and where there is one to each, none agree
abbrev pub CounterexamplesRefute : Type 0
CounterexamplesRefute = (care : Option (List ℕ)) (shared : Bool) (spec imp : Design) → IsAllowed imp
    → AllHaveCounterexamples care shared spec imp → NoContentsMakeEquivalent care shared spec imp

-- where an output of a pair of two sound designs is wrong at a vector whatever the outputs of the boxes are, the vector
-- of the designs with these bits shows a mistake at the output of the same number
abbrev pub WrongOutputsAreMistakes : Type 0
WrongOutputsAreMistakes = OfPairs (λ care shared spec imp p pair. (xs : List Bool) (j : ℕ)
    → IsVector p.imp xs → IsOutput p.imp j → IsAlwaysWrong p.spec p.imp xs j
    → (x : Vector) × (o : CutOutput) × (map x (inputs_of spec) ≡ xs)
    × (slice_get (outputs_of care spec) j ≡ Some o) × IsMistakeAt care spec imp x (Some o))

-- and where some output is wrong, it shows one
abbrev pub WrongVectorsAreMistakes : Type 0
WrongVectorsAreMistakes = OfPairs (λ care shared spec imp p pair. (xs : List Bool)
    → IsVector p.imp xs → AlwaysSomeWrongAt p.spec p.imp xs
    → (x : Vector) × (map x (inputs_of spec) ≡ xs) × IsMistakeAt care spec imp x None)

-- in such a pair inputs and outputs have the names of those of the specification that are compared, in their order
pub record IsNamedBy (care : Option (List ℕ)) (spec : Design) (p : NetPair) : Type 0 where
  pub ins : p.ins ≡ map input_text (inputs_of spec)
  pub outs : p.outs ≡ map output_name (outputs_of care spec)

abbrev pub PairsAreNamed : Type 0
PairsAreNamed = (care : Option (List ℕ)) (shared : Bool) (spec imp : Design) (p : NetPair)
    → IsPairFor care shared spec imp p → IsNamedBy care spec p

-- where a vector shows a mistake, no contents agree, whether boxes share theirs or not
abbrev pub MistakesRefute : Type 0
MistakesRefute = (care : Option (List ℕ)) (shared : Bool) (spec imp : Design) (x : Vector) (reported : Option CutOutput)
    → IsAllowed imp → IsMistakeAt care spec imp x reported → NoContentsMakeEquivalent care shared spec imp

-- and so where some of them shows one with each contents
abbrev pub MistakesAmongRefute : Type 0
MistakesAmongRefute = (care : Option (List ℕ)) (shared : Bool) (spec imp : Design) (vectors : List (List Bool))
    → IsAllowed imp → AreMistakesAmong care shared spec imp vectors → NoContentsMakeEquivalent care shared spec imp

-- with all tables, one for each sharing class, some output is wrong at one of the vectors
abbrev pub AllFailAmong : NetPair → List (List Bool) → Type 0
AllFailAmong p vectors = (tables : List TableBits) → FitKindsOf p tables
    → (xs : List Bool) × Contains vectors xs × FailAt p.spec p.imp (per_box p.kinds tables) xs

-- such vectors show mistakes of the designs
abbrev pub FailingVectorsAreMistakes : Type 0
FailingVectorsAreMistakes = OfPairs (λ care shared spec imp p pair. (vectors : List (List Bool))
    → All (IsVector p.imp) vectors → AllFailAmong p vectors → AreMistakesAmong care shared spec imp vectors)
