-- Comparisons with an invariant: an output bit of the specification, meant of its registers. States in which it is 0 are
-- left out; that a design begins in one in which it is 1 is nowhere said. It is taken as a care output is: not compared,
-- and the others count where it is 1. Before the checks the run finds out whether each event keeps it, which is said in
-- the first line of the report. Only where it is kept the checks run, and their report follows; where an event breaks
-- it, this event is shown, and where the budgets are too small to find out, the line says so, and the verdict is open.
use Rattle.std.specs.Prelude.{◌≡◌, ◌⊎◌, ℕ, ◌+◌, ◌*◌, ◌<◌, length, Bool, true, false, if◌then◌else◌, List, [], ◌++◌, map, zip, IfSome}
use Rattle.std.specs.Prelude.{Option, None, Some, codes}
use Rattle.std.specs.List.{flat_map}
use Rattle.bb_bits.specs.Contents.{Contents}
use Rattle.bb_design.specs.Hierarchy.{Design}
use Rattle.bb_design.specs.NetBits.{top_inputs}
use Rattle.bb_design.specs.Refusals.{input_texts}
use Rattle.bb_design.specs.Registers.{registers}
use Rattle.bb_checks.specs.Reports.{input_line, printed_input}
use Rattle.bb_equiv.specs.Invariants.{IsBrokenBy, IsInvariant, RunTheSameFrom}
use Rattle.bb_equiv.specs.Mistakes.{inputs_of}
use Rattle.bb_equiv.specs.Runs.{Event, RunTheSame, States, seen_at}
use Rattle.bb_frontend.specs.declared.refusal.Refusal.{Refusal}
use Rattle.bb_frontend.specs.declared.refusal.Refusal.TheVariants.{Pair}
use Rattle.bb_frontend.specs.RefusalLines.{pair_words, refusal_line}
use Rattle.bb_frontend.specs.Refusals.{refusal}
use Rattle.bb_frontend.specs.SideWords.{with_name}
use Rattle.bb_frontend.specs.TextDesigns.{IsDesignOf}
use Rattle.bb_implements.specs.Implements.{Implements}
use Rattle.bb_invariant.specs.Invariance.{IsTooLarge}
use Rattle.bb_match.specs.declared.fault.MatchFault.{MatchFault}
use Rattle.bb_match.specs.declared.fault.MatchFault.TheVariants as pair
use Rattle.bb_match.specs.Pairing.{input_text}
use Rattle.bb_net.specs.Flats.{FlatNet}
use Rattle.bb_net.specs.Pairs.{NetPair}
use Rattle.bb_unroll.specs.Events.{IsOutputCell}
use Rattle.bb_verdict.specs.declared.requested.TextComparison.{TextComparison}
use Rattle.bb_verdict.specs.TextAnswers.{Judges}
use Rattle.bb_verdict.specs.OpenReports.{IsOpenReport}
use Rattle.bb_verdict.specs.ShownMistakes.{AreShown}
use Rattle.bb_verdict.specs.TextPairs.{AreDecided, AreLeftOpen, AreRefuted}
use Rattle.bb_verdict.specs.TextPairs.{ImplementsTexts, IsFinishedReport, IsRefusal}

-- the name of the invariant, where the care output is meant as one
abbrev pub invariant_name : TextComparison → Option (List ℕ)
invariant_name requested = if requested.invariant then requested.care else None

-- the refusal of an invariant has a word of its own
abbrev pub invariant_words : MatchFault → List ℕ
invariant_words (pair.NoCare n) = with_name (codes "invariant") n
invariant_words fault = pair_words fault

-- the line of a refusal, by the invariant that is requested, if one is
abbrev pub refusal_line_with : Option (List ℕ) → Refusal → List ℕ
refusal_line_with None fault = refusal_line fault
refusal_line_with (Some name) (Pair fault) = refusal (codes "pair") (invariant_words fault)
refusal_line_with (Some name) fault = refusal_line fault

-- it is the line of the first refusal of the two texts
abbrev pub IsRefusalLine : TextComparison → List ℕ → List ℕ → List ℕ → Type 0
IsRefusalLine requested spec imp line = (fault : Refusal) × IsRefusal requested spec imp fault
    × (line ≡ refusal_line_with (invariant_name requested) fault)

-- the design of the specification's text keeps the invariant at each event
abbrev pub HasInvariant : TextComparison → List ℕ → List ℕ → Type 0
HasInvariant requested spec name = (s : Design) × IsDesignOf requested.spec_top spec s × IsInvariant None s name

-- an edge, as ` a=rise`
abbrev pub edge_text : List ℕ → Option Bool → List ℕ
edge_text name None = []
edge_text name (Some false) = codes " " ++ name ++ codes "=rise"
edge_text name (Some true) = codes " " ++ name ++ codes "=fall"

-- an event that breaks the invariant: the inputs and states as it comes, the inputs that have an edge, and the inputs
-- after it. Nothing ties the bit of a clock to its edge
abbrev pub broken_text : Design → States → Event → Event → List ℕ
broken_text s states event next =
    codes "invariant broken\n" ++ (
    input_line (map input_text (inputs_of s)) (map (seen_at states event) (inputs_of s)) ++ (
    (codes "edges" ++ (flat_map (λ n. edge_text n (event.edges n)) (input_texts s) ++ codes "\n")) ++ (
    (codes "then" ++ (flat_map printed_input (zip (input_texts s) (map next.inputs (input_texts s))) ++ codes "\n"))
    ++ codes "verdict open\n")))

-- the text shows an event of the specification that breaks the invariant
pub record IsBrokenReport (requested : TextComparison) (spec name text : List ℕ) : Type 0 where
  pub s : Design
  pub design : IsDesignOf requested.spec_top spec s
  pub states : States
  pub event : Event
  pub next : Event
  pub broken : (contents : Contents) → IsBrokenBy None s name contents states event next
  pub whole : text ≡ broken_text s states event next

-- the inputs of the unrolled specification: one for each register bit, and four for each bit of an input port
abbrev pub unrolled_width : Design → ℕ
unrolled_width s = length (registers s) + 4 * length (top_inputs s)

-- too much is needed to find out whether it is kept: the unrolled specification has more inputs than any pair may have,
-- or more beads and clauses than the two budgets allow
pub record IsUndecided (requested : TextComparison) (spec name : List ℕ) : Type 0 where
  pub s : Design
  pub design : IsDesignOf requested.spec_top spec s
  pub f : FlatNet
  pub implements : Implements s f
  pub k : ℕ
  pub cell : IsOutputCell f name k
  pub large : (2048 < unrolled_width s) ⊎ IsTooLarge f k None requested.options.nodes requested.options.clauses

-- the possible answers to two texts with an invariant of this name
pub data JudgesWith (requested : TextComparison) (name spec imp : List ℕ) (status : ℕ) (text : List ℕ) : Type 0 where
  RefusedWith : (fault : Refusal) → IsRefusal requested spec imp fault → status ≡ 2
      → text ≡ refusal_line_with (Some name) fault → JudgesWith requested name spec imp status text
  KeptInvariant : HasInvariant requested spec name → (report : List ℕ) → Judges requested spec imp status report
      → (status ≡ 2 → ⊥) → text ≡ codes "invariant kept\n" ++ report → JudgesWith requested name spec imp status text
  BrokenInvariant : (p : NetPair) → ImplementsTexts requested spec imp p → IsBrokenReport requested spec name text
      → status ≡ 3 → JudgesWith requested name spec imp status text
  UndecidedInvariant : (p : NetPair) → ImplementsTexts requested spec imp p → IsUndecided requested spec name
      → status ≡ 3 → text ≡ codes "invariant open\nverdict open\n" → JudgesWith requested name spec imp status text

-- the possible answers to two texts
abbrev pub JudgesBy : Option (List ℕ) → TextComparison → List ℕ → List ℕ → ℕ → List ℕ → Type 0
JudgesBy None requested = Judges requested
JudgesBy (Some name) requested = JudgesWith requested name

abbrev pub AnswersTexts : TextComparison → List ℕ → List ℕ → ℕ → List ℕ → Type 0
AnswersTexts requested = JudgesBy (invariant_name requested) requested

-- what stands before the report of the checks
abbrev pub invariant_head : Option (List ℕ) → List ℕ
invariant_head None = []
invariant_head (Some name) = codes "invariant kept\n"

-- the invariant, where one is requested, is kept
abbrev pub KeepsInvariant : TextComparison → List ℕ → Type 0
KeepsInvariant requested spec = IfSome (invariant_name requested) (HasInvariant requested spec)

-- it is, and the text says so first, and then comes a report of which this holds
abbrev pub FollowsInvariant : (List ℕ → Type 0) → TextComparison → List ℕ → List ℕ → Type 0
FollowsInvariant Claims requested spec text = KeepsInvariant requested spec × ((report : List ℕ)
    × (text ≡ invariant_head (invariant_name requested) ++ report) × Claims report)

-- where an invariant is requested, each design that runs as the specification does for as long as it is 1 does so for
-- ever from each state in which it is 1 whatever the inputs are: so do the implementation with the tables' contents and
-- the filled one
abbrev pub LastsFrom : (requested : TextComparison) {spec imp text : List ℕ} → IsFinishedReport requested spec imp text
    → Type 0
LastsFrom requested report = IfSome (invariant_name requested) (λ name. IsInvariant None report.finished.s name
    × ((d : Design) (contents : Contents) → RunTheSame requested.care report.finished.s d contents
    → RunTheSameFrom name report.finished.s d contents))

abbrev pub IsFinishedWith : TextComparison → List ℕ → List ℕ → List ℕ → Type 0
IsFinishedWith requested spec imp = FollowsInvariant
    (λ text. (report : IsFinishedReport requested spec imp text) × LastsFrom requested report) requested spec

abbrev pub AreShownWith : TextComparison → List ℕ → List ℕ → List ℕ → Type 0
AreShownWith requested spec imp = FollowsInvariant (AreShown requested spec imp) requested spec

-- an error is found only where the invariant is kept
abbrev pub AreRefutedWith : TextComparison → List ℕ → List ℕ → Type 0
AreRefutedWith requested spec imp = AreRefuted requested spec imp × KeepsInvariant requested spec

-- the invariant is requested, and an event breaks it, or too much is needed to find out
abbrev pub IsDoubted : TextComparison → List ℕ → Type 0
IsDoubted requested spec = (name : List ℕ) × (invariant_name requested ≡ Some name)
    × (((text : List ℕ) × IsBrokenReport requested spec name text) ⊎ IsUndecided requested spec name)

abbrev pub AreLeftOpenWith : TextComparison → List ℕ → List ℕ → Type 0
AreLeftOpenWith requested spec imp = (AreLeftOpen requested spec imp × KeepsInvariant requested spec)
    ⊎ IsDoubted requested spec

-- a report that leaves the question open: that of the checks, the event that breaks the invariant, or that too much is
-- needed to find out
pub data IsOpenReportWith (requested : TextComparison) (spec imp text : List ℕ) : Type 0 where
  OpenChecks : FollowsInvariant (IsOpenReport requested spec imp) requested spec text
      → IsOpenReportWith requested spec imp text
  ShownBroken : (name : List ℕ) → invariant_name requested ≡ Some name → IsBrokenReport requested spec name text
      → IsOpenReportWith requested spec imp text
  NotFoundOut : (name : List ℕ) → invariant_name requested ≡ Some name → IsUndecided requested spec name
      → text ≡ codes "invariant open\nverdict open\n" → IsOpenReportWith requested spec imp text

-- a check decides, and an invariant, where one is requested, is not in doubt
abbrev pub AreDecidedWith : TextComparison → List ℕ → List ℕ → Type 0
AreDecidedWith requested spec imp = AreDecided requested spec imp × (IsDoubted requested spec → ⊥)
