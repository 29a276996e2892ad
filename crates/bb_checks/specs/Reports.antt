-- The report: a line for each check that was run, after it what it found, and the verdict last.
use Rattle.std.specs.Prelude.{◌≡◌, ℕ, Bool, false, if◌then◌else◌, List, [], ◌∷◌, ◌++◌, map, vec_items, zip, Contains, Option, Some, None, Vec, codes}
use Rattle.std.specs.List.{flat_map, list_any, slice_index_or}
use Rattle.std.specs.declared.alloc.Global.{Global}
use Rattle.bb_bits.specs.Tables.{TableBits}
use Rattle.bb_cnf.specs.Lines.{proof_lines}
use Rattle.bb_net.specs.declared.pair.OutName.{OutName}
use Rattle.bb_net.specs.Kinds.{representatives}
use Rattle.bb_net.specs.Pairs.{BoxTexts, NetPair}
use Rattle.bb_checks.specs.declared.line.Evidence.{Evidence}
use Rattle.bb_checks.specs.declared.line.Evidence.TheVariants.{Vector, NoChoices, Refutation}
use Rattle.bb_checks.specs.declared.line.Line.{Line}
use Rattle.bb_checks.specs.declared.line.Proof.{Proof}
use Rattle.bb_checks.specs.declared.line.CheckResult.{CheckResult}
use Rattle.bb_checks.specs.declared.line.CheckResult.TheVariants.{Error, Nothing, Repair, Nodes, Clauses, Wide}
use Rattle.bb_options.specs.declared.options.Options.{Options}
use Rattle.bb_checks.specs.declared.verdict.Verdict.{Verdict}
use Rattle.bb_checks.specs.declared.verdict.Verdict.TheVariants as verdicts
pub use Rattle.bb_checks.specs.Rungs.{is_error, is_repair}
use Rattle.bb_options.specs.Rungs.{rung_name}
use Rattle.bb_checks.specs.TableLines.{printed_bit, table_lines}

abbrev pub result_name : CheckResult → List ℕ
result_name (Error evidence) = codes "error"
result_name Nothing = codes "none"
result_name (Repair tables) = codes "repair"
result_name Nodes = codes "nodes"
result_name Clauses = codes "clauses"
result_name Wide = codes "wide"

-- an output bit of the top, or the next state of a register
abbrev pub output_line : OutName → List ℕ
output_line name = (if name.next then codes "next " else codes "output ") ++ name.text ++ codes "\n"

-- the output that is reported, if one is
abbrev pub reported_output : List OutName → Option ℕ → List ℕ
reported_output names None = []
reported_output names (Some j) = output_line (slice_index_or names j (record { next = false; text = [] }))

-- the name and the bit of an input, as ` a=0`
abbrev pub printed_input : List ℕ × Bool → List ℕ
printed_input x = codes " " ++ x.0 ++ codes "=" ++ printed_bit x.1

abbrev pub input_line : List (List ℕ) → List Bool → List ℕ
input_line names bits = codes "input" ++ flat_map printed_input (zip names bits) ++ codes "\n"

-- a vector, the bit of the first input first
abbrev pub vector_line : List Bool → List ℕ
vector_line [] = codes "vector\n"
vector_line (b ∷ bits) = codes "vector " ++ flat_map printed_bit (b ∷ bits) ++ codes "\n"

-- the vectors of an expansion, its clauses, and the steps that refute them
abbrev pub proof_text : Proof → List ℕ
proof_text proof = flat_map vector_line (map vec_items proof.vectors.items) ++ proof_lines proof.cnf.clauses proof.refutation.steps.items

-- what shows an error; a proof is shown where it is requested
abbrev pub evidence_text : NetPair → Options → Evidence → List ℕ
evidence_text p o (Vector found) = reported_output p.outs found.output ++ input_line p.ins found.input.items
evidence_text p o NoChoices = []
evidence_text p o (Refutation proof) = if o.proof then proof_text proof else []

-- the details after the line of a check
abbrev pub details : NetPair → Options → CheckResult → List ℕ
details p o (Error evidence) = evidence_text p o evidence
details p o Nothing = []
details p o (Repair tables) = table_lines o.shared (representatives p.kinds p.boxes) tables.items
details p o Nodes = []
details p o Clauses = []
details p o Wide = []

-- the line of a check
abbrev pub rung_line : Line → List ℕ
rung_line line = codes "rung " ++ rung_name line.rung ++ codes " " ++ result_name line.check_result ++ codes "\n"

abbrev pub check_line_text : NetPair → Options → Line → List ℕ
check_line_text p o line = rung_line line ++ details p o line.check_result

-- a check reports these tables as making the designs equivalent
abbrev pub GivesTables : List Line → List TableBits → Type 0
GivesTables lines tables = (line : Line) × (given : Vec TableBits Global) × Contains lines line × (line.check_result ≡ Repair given) × (given.items ≡ tables)

-- an error where a check reports one; else tables where one gives them
abbrev pub verdict_of : List Line → Verdict
verdict_of lines = if list_any is_error lines then verdicts.Error else (if list_any is_repair lines then verdicts.Repairable else verdicts.Open)

abbrev pub verdict_name : Verdict → List ℕ
verdict_name verdicts.Error = codes "error"
verdict_name verdicts.Repairable = codes "repairable"
verdict_name verdicts.Open = codes "open"

abbrev pub status_of : Verdict → ℕ
status_of verdicts.Repairable = 0
status_of verdicts.Error = 1
status_of verdicts.Open = 3

abbrev pub verdict_line : Verdict → List ℕ
verdict_line v = codes "verdict " ++ verdict_name v ++ codes "\n"

abbrev pub report_text : NetPair → Options → List Line → List ℕ
report_text p o lines = flat_map (check_line_text p o) lines ++ verdict_line (verdict_of lines)

-- a report with the verdict that the design can be finished: lines of checks, none of which reports an error, and after
-- them those of the tables, with nothing between, so that its table lines are those of the tables that make the designs
-- equivalent
pub record EndsWithTables (shared : Bool) (boxes : List BoxTexts) (text : List ℕ) (tables : List TableBits) : Type 0 where
  pub lines : List Line
  pub quiet : list_any is_error lines ≡ false
  pub whole : text ≡ flat_map rung_line lines ++ table_lines shared boxes tables ++ verdict_line verdicts.Repairable
