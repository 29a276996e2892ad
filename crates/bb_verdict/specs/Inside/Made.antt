-- What two texts are made into, as the code hands it on: the pair, and the flat netlist of the implementation from
-- which it is made, where the filled implementation is requested; and the answer of the checks of the pair.
use Rattle.std.specs.Prelude.{◌≡◌, ◌++◌, ℕ, true, List, [], Option, None, Some, IfSome, if◌then◌else◌}
use Rattle.bb_equiv.specs.DesignEquivalence.{IsPairFor}
use Rattle.bb_bits.specs.Tables.{TableBits}
use Rattle.bb_design.specs.Hierarchy.{Design}
use Rattle.bb_net.specs.Flats.{FlatNet, HaveClocks}
use Rattle.bb_net.specs.Kinds.{representatives, per_box}
use Rattle.bb_net.specs.Pairs.{NetPair}
use Rattle.bb_net.specs.Values.{FitBoxes}
use Rattle.bb_options.specs.declared.options.Options.{Options}
use Rattle.bb_checks.specs.declared.line.Line.{Line}
use Rattle.bb_checks.specs.Reports.{report_text, status_of, verdict_of}
use Rattle.bb_checks.specs.Rungs.{IsClimb}
use Rattle.bb_verdict.specs.declared.answer.Answer.{Answer}
use Rattle.bb_verdict.specs.declared.requested.TextComparison.{TextComparison}
use Rattle.bb_verdict.specs.declared.pair_texts.Made.{Made}
use Rattle.bb_verdict.specs.FilledTexts.{MayFollowVerdict}
use Rattle.bb_verdict.specs.TextPairs.{AreDesignsOf}

pub record IsMade (requested : TextComparison) (spec imp : List ℕ) (made : Made) : Type 0 where
  pub s : Design
  pub i : Design
  pub designs : AreDesignsOf requested spec imp s i
  pub pair : IsPairFor requested.care requested.options.shared s i made.pair
  pub kept : made.imp ≡ (if requested.fill then Some pair.imp_net else None)

-- the netlist may be filled with tables, one for each sharing class of the pair's boxes
pub record CanBeFilled (p : NetPair) (f : FlatNet) : Type 0 where
  pub clocks : HaveClocks f
  pub tables : (tables : List TableBits) → FitBoxes tables (representatives p.kinds p.imp.boxes)
      → FitBoxes (per_box p.kinds tables) f.net.boxes

-- what follows the verdict, where the netlist is kept
abbrev pub KeptFollows : Option FlatNet → List ℕ → List Line → List ℕ → Type 0
KeptFollows None kinds lines rest = rest ≡ []
KeptFollows (Some f) kinds lines rest = MayFollowVerdict true f kinds lines rest

pub record IsChecked (made : Made) (o : Options) (answer : Answer) : Type 0 where
  pub lines : List Line
  pub climb : IsClimb made.pair o lines
  pub status : answer.status ≡ status_of (verdict_of lines)
  pub rest : List ℕ
  pub follows : KeptFollows made.imp made.pair.kinds lines rest
  pub report : answer.report.items ≡ report_text made.pair o lines ++ rest

-- the law of it: what is kept of two texts may be filled
abbrev pub MadeCanBeFilled : Type 0
MadeCanBeFilled = (requested : TextComparison) (spec imp : List ℕ) (made : Made) → IsMade requested spec imp made
    → IfSome made.imp (CanBeFilled made.pair)
