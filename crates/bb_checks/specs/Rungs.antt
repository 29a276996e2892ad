-- The possible results of each check on a pair, and the checks one after another. A check by BDDs (Bryant, 1986) needs
-- too many nodes exactly where its functions have more beads (Knuth, TAOCP 4A, 7.1.4) than its bound; the expansion's
-- tables are too large exactly where they have more bits than a report may print, and its clauses are too many only
-- where it needs more for some distinguishing vectors.
use Rattle.std.specs.Prelude.{◌≡◌, ℕ, ◌<◌, ◌^◌, ◌&&◌, ◌||◌, Bool, true, false, not, List, [], ◌∷◌, length, Option, Some, None, Result, Ok, Err, IfSome}
use Rattle.std.specs.List.{slice_index_or}
use Rattle.bb_bits.specs.Tables.{TableBits}
use Rattle.bb_bits.specs.Truth.{Truth, IsBeadOfAny}
use Rattle.bb_bits.specs.TruthSets.{HasMoreThan}
use Rattle.bb_options.specs.declared.options.Options.{Options}
use Rattle.bb_options.specs.declared.rung.Rung.{Rung}
use Rattle.bb_options.specs.declared.rung.Rung.TheVariants.{Ternary, Symbolic, Local, Output, Input, Expand}
use Rattle.bb_options.specs.Rungs.{requested_rungs}
use Rattle.bb_net.specs.Conditions.{IsKnownWrong, MayBeRight, MayBeRightAmong, IsFirstHit, MayBeRightEverywhere, IsAlwaysWrong, EachSometimesRight, AlwaysSomeWrongAt, AllRightTogether}
use Rattle.bb_net.specs.Completions.{HaveSmallTables, table_bits}
use Rattle.bb_net.specs.Kinds.{representatives}
use Rattle.bb_net.specs.Pairs.{NetPair, BoxTexts}
use Rattle.bb_net.specs.Values.{table_at}
use Rattle.bb_tern.specs.Patterns.{patterns}
use Rattle.bb_expand.specs.Expanded.{IsExpanded}
use Rattle.bb_expand.specs.declared.expanded.Expanded.{Expanded}
use Rattle.bb_expand.specs.declared.expanded.Expanded.TheVariants as expanded
use Rattle.bb_expand.specs.GivenUp.{NeedsMoreClauses}
use Rattle.bb_input.specs.InputFunctions.{input_functions}
use Rattle.bb_input.specs.declared.InputAnswer.{InputAnswer}
use Rattle.bb_input.specs.declared.InputAnswer.TheVariants as choices
use Rattle.bb_nest.specs.Answers.{IsInputAnswer}
use Rattle.bb_sym.specs.declared.fault.RungFault.{RungFault}
use Rattle.bb_sym.specs.declared.fault.RungFault.TheVariants as faults
use Rattle.bb_sym.specs.declared.found.Found.{Found}
use Rattle.bb_sym.specs.Finds.{FindsOutput, FindsVector, IsSometimesRight}
use Rattle.bb_sym.specs.Functions.{symbolic_functions, local_functions, output_functions}
use Rattle.bb_checks.specs.declared.line.Evidence.{Evidence}
use Rattle.bb_checks.specs.declared.line.Evidence.TheVariants.{Vector, NoChoices, Refutation}
use Rattle.bb_checks.specs.declared.line.Line.{Line}
use Rattle.bb_checks.specs.declared.line.CheckResult.{CheckResult}
use Rattle.bb_checks.specs.declared.line.CheckResult.TheVariants.{Error, Nothing, Repair, Nodes, Clauses, Wide}

-- the answer of a check by BDDs as a result
abbrev pub reported : Result (Option Found) RungFault → Option CheckResult
reported (Ok (Some found)) = Some (Error (Vector found))
reported (Ok None) = Some Nothing
reported (Err faults.Nodes) = Some Nodes
reported (Err faults.NoMemory) = None

-- the answer of the check by choices as a result
abbrev pub reported_answer : InputAnswer → CheckResult
reported_answer choices.Error = Error NoChoices
reported_answer choices.Clear = Nothing
reported_answer (choices.Repair tables) = Repair tables

-- and that of the expansion
abbrev pub reported_expanded : Expanded → CheckResult
reported_expanded (expanded.Error vectors cnf refutation) = Error (Refutation (record { vectors = vectors; cnf = cnf; refutation = refutation }))
reported_expanded (expanded.Repair tables) = Repair tables

-- the texts of box b; a box after the last one has none
abbrev pub texts_at : List BoxTexts → ℕ → BoxTexts
texts_at boxes b = slice_index_or boxes b (record { path = []; «module» = []; ins = []; outs = [] })

-- what is found can be reported: the output is one of the pair, and the vector has a bit for each input
pub record CanBeReported (p : NetPair) (found : Found) : Type 0 where
  pub output : IfSome found.output (λ j. j < length p.outs)
  pub input : length found.input.items ≡ length p.ins

-- tables can be reported: one for each sharing class of boxes of the pair, with as many outputs as its first box has
pub record TablesCanBeReported (p : NetPair) (tables : List TableBits) : Type 0 where
  pub count : length tables ≡ length (representatives p.kinds p.boxes)
  pub outputs : (k : ℕ) → k < length tables → (table_at tables k).outputs ≡ length (texts_at (representatives p.kinds p.boxes) k).outs

abbrev pub EvidenceCanBeReported : NetPair → Evidence → Type 0
EvidenceCanBeReported p (Vector found) = CanBeReported p found
EvidenceCanBeReported p _ = Unit {0}

abbrev pub ResultCanBeReported : NetPair → CheckResult → Type 0
ResultCanBeReported p (Error evidence) = EvidenceCanBeReported p evidence
ResultCanBeReported p (Repair tables) = TablesCanBeReported p tables.items
ResultCanBeReported p _ = Unit {0}

-- functions have more beads than the bound on nodes
abbrev pub AreTooMany : Options → List Truth → Type 0
AreTooMany o functions = HasMoreThan (IsBeadOfAny functions) o.nodes

-- the possible results of a check by BDDs, where an error is found so, or there is none
pub data MayFind (o : Options) (functions : List Truth) (Finds : Found → Type 0) (none : Type 0) (check_result : CheckResult) : Type 0 where
  TooMany : AreTooMany o functions → check_result ≡ Nodes → MayFind o functions Finds none check_result
  Finding : (AreTooMany o functions → ⊥) → (found : Found) → Finds found → check_result ≡ Error (Vector found) → MayFind o functions Finds none check_result
  Without : (AreTooMany o functions → ⊥) → none → check_result ≡ Nothing → MayFind o functions Finds none check_result

abbrev pub tried : NetPair → Options → List (List Bool)
tried p o = patterns p.imp.inputs o.patterns o.seed

-- the possible results of patterns: the first that shows an error, and in it the first output
pub data MayHit (p : NetPair) (o : Options) (check_result : CheckResult) : Type 0 where
  Hit : (found : Found) → (j : ℕ) → found.output ≡ Some j → IsFirstHit p.spec p.imp (tried p o) found.input.items j → check_result ≡ Error (Vector found) → MayHit p o check_result
  NoHit : MayBeRightAmong p.spec p.imp (tried p o) → check_result ≡ Nothing → MayHit p o check_result

-- the first output that is wrong so, and the least vector for it
abbrev pub IsFirstOf : NetPair → (List Bool → ℕ → Type 0) → (List Bool → ℕ → Type 0) → Found → Type 0
IsFirstOf p P N = FindsOutput p.imp P N

-- the least vector at which all outputs are never right together
abbrev pub IsLeastOf : NetPair → Found → Type 0
IsLeastOf p = FindsVector p.imp (AlwaysSomeWrongAt p.spec p.imp)

-- the possible results of the check by choices: with at most one box, and with nested boxes, it finds tables, unless
-- they have too many bits
pub data MayChoose (p : NetPair) (o : Options) (check_result : CheckResult) : Type 0 where
  ChoicesTooMany : AreTooMany o (input_functions p.spec p.imp) → check_result ≡ Nodes → MayChoose p o check_result
  Answered : (AreTooMany o (input_functions p.spec p.imp) → ⊥) → (answer : InputAnswer) → IsInputAnswer p.spec p.imp p.kinds answer → check_result ≡ reported_answer answer → MayChoose p o check_result

-- the possible results of the expansion; where the clauses over all vectors are too many, it may decide nevertheless
pub data MayExpand (p : NetPair) (o : Options) (check_result : CheckResult) : Type 0 where
  TooWide : 2 ^ 24 < table_bits (representatives p.kinds p.imp.boxes) → check_result ≡ Wide → MayExpand p o check_result
  ClausesTooMany : HaveSmallTables (representatives p.kinds p.imp.boxes) → NeedsMoreClauses p.spec p.imp p.kinds o.clauses → check_result ≡ Clauses → MayExpand p o check_result
  Decided : HaveSmallTables (representatives p.kinds p.imp.boxes) → (answer : Expanded) → IsExpanded p.spec p.imp p.kinds o.clauses answer → check_result ≡ reported_expanded answer → MayExpand p o check_result

abbrev pub MayReport : NetPair → Options → Rung → CheckResult → Type 0
MayReport p o Ternary check_result = MayHit p o check_result
MayReport p o Symbolic check_result = MayFind o (symbolic_functions p.spec p.imp) (IsFirstOf p (IsKnownWrong p.spec p.imp) (MayBeRight p.spec p.imp)) (MayBeRightEverywhere p.spec p.imp) check_result
MayReport p o Local check_result = MayFind o (local_functions p.spec p.imp) (IsFirstOf p (IsAlwaysWrong p.spec p.imp) (IsSometimesRight p.spec p.imp)) (EachSometimesRight p.spec p.imp) check_result
MayReport p o Output check_result = MayFind o (output_functions p.spec p.imp) (IsLeastOf p) (AllRightTogether p.spec p.imp) check_result
MayReport p o Input check_result = MayChoose p o check_result
MayReport p o Expand check_result = MayExpand p o check_result

abbrev pub reports_error : CheckResult → Bool
reports_error (Error evidence) = true
reports_error _ = false

abbrev pub is_error : Line → Bool
is_error line = reports_error line.check_result

abbrev pub reports_repair : CheckResult → Bool
reports_repair (Repair tables) = true
reports_repair _ = false

abbrev pub is_repair : Line → Bool
is_repair line = reports_repair line.check_result

-- the run ends after a repair, and after an error unless all checks are requested
abbrev pub ends : Options → Line → Bool
ends o line = is_repair line || (is_error line && not o.all)

-- possible results of these checks, one after another
pub data Climbs (p : NetPair) (o : Options) : List Rung → List Line → Type 0 where
  Top : Climbs p o [] []
  End : {r : Rung} {rest : List Rung} {line : Line} → line.rung ≡ r → MayReport p o r line.check_result → ends o line ≡ true → Climbs p o (r ∷ rest) (line ∷ [])
  Step : {r : Rung} {rest : List Rung} {line : Line} {more : List Line} → line.rung ≡ r → MayReport p o r line.check_result → ends o line ≡ false → Climbs p o rest more → Climbs p o (r ∷ rest) (line ∷ more)

-- the requested checks were run, with these results
abbrev pub IsClimb : NetPair → Options → List Line → Type 0
IsClimb p o lines = Climbs p o (requested_rungs o) lines
