-- Laws of the vectors that a report shows: at each the pair is wrong, and its line determines the vector.
use Rattle.std.specs.Prelude.{◌≡◌, ℕ, Bool, List, map, vec_items, length, All, Option, None, Some}
use Rattle.bb_net.specs.Equivalence.{IsVector, IsOutput}
use Rattle.bb_net.specs.Conditions.{IsAlwaysWrong, AlwaysSomeWrongAt}
use Rattle.bb_net.specs.Pairs.{NetPair}
use Rattle.bb_options.specs.declared.options.Options.{Options}
use Rattle.bb_sym.specs.declared.found.Found.{Found}
use Rattle.bb_checks.specs.declared.line.Evidence.{Evidence}
use Rattle.bb_checks.specs.declared.line.Evidence.TheVariants.{Vector, NoChoices, Refutation}
use Rattle.bb_checks.specs.declared.line.Line.{Line}
use Rattle.bb_checks.specs.declared.line.Proof.{Proof}
use Rattle.bb_checks.specs.declared.line.CheckResult.{CheckResult}
use Rattle.bb_checks.specs.declared.line.CheckResult.TheVariants.{Error, Nothing, Repair, Nodes, Clauses, Wide}
use Rattle.bb_checks.specs.Reports.{input_line, proof_text}
use Rattle.bb_checks.specs.Rungs.{IsClimb}

-- whatever the outputs of the boxes are, the reported output is wrong at the vector; where none is reported, some
-- output is
abbrev pub IsWrongAt : NetPair → List Bool → Option ℕ → Type 0
IsWrongAt p x (Some j) = IsOutput p.imp j × IsAlwaysWrong p.spec p.imp x j
IsWrongAt p x None = AlwaysSomeWrongAt p.spec p.imp x

-- what is found is an error of the pair
pub record IsMistake (p : NetPair) (found : Found) : Type 0 where
  pub vector : IsVector p.imp found.input.items
  pub wrong : IsWrongAt p found.input.items found.output

-- choices and proofs show no vector
abbrev pub EvidenceIsMistake : NetPair → Evidence → Type 0
EvidenceIsMistake p (Vector found) = IsMistake p found
EvidenceIsMistake p NoChoices = Unit {0}
EvidenceIsMistake p (Refutation proof) = Unit {0}

abbrev pub CheckResultIsMistake : NetPair → CheckResult → Type 0
CheckResultIsMistake p (Error evidence) = EvidenceIsMistake p evidence
CheckResultIsMistake p Nothing = Unit {0}
CheckResultIsMistake p (Repair tables) = Unit {0}
CheckResultIsMistake p Nodes = Unit {0}
CheckResultIsMistake p Clauses = Unit {0}
CheckResultIsMistake p Wide = Unit {0}

-- each vector that checks find is one
abbrev pub FoundVectorsAreMistakes : Type 0
FoundVectorsAreMistakes = (p : NetPair) (o : Options) (lines : List Line) → IsClimb p o lines → All (λ line. CheckResultIsMistake p line.check_result) lines

-- the line of a vector gives back its bits: with the same names the same line has the same vector
abbrev pub InputLinesFixVectors : Type 0
InputLinesFixVectors = (names : List (List ℕ)) (bits others : List Bool) → length bits ≡ length names → length others ≡ length names
    → input_line names bits ≡ input_line names others → bits ≡ others

-- the text of a proof gives back its vectors
abbrev pub ProofTextsFixVectors : Type 0
ProofTextsFixVectors = (proof other : Proof) → proof_text proof ≡ proof_text other
    → map vec_items proof.vectors.items ≡ map vec_items other.vectors.items
