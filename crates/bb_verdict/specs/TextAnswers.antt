-- The possible answers to two texts: the line of their first refusal, or the report of the checks of a pair of them,
-- and after it what may follow.
use Rattle.std.specs.Prelude.{◌≡◌, ℕ, List, ◌++◌}
use Rattle.bb_equiv.specs.DesignEquivalence.{IsPairFor}
use Rattle.bb_design.specs.Hierarchy.{Design}
use Rattle.bb_net.specs.Pairs.{NetPair}
use Rattle.bb_checks.specs.declared.line.Line.{Line}
use Rattle.bb_checks.specs.Reports.{report_text, status_of, verdict_of}
use Rattle.bb_checks.specs.Rungs.{IsClimb}
use Rattle.bb_verdict.specs.declared.requested.TextComparison.{TextComparison}
use Rattle.bb_frontend.specs.declared.refusal.Refusal.{Refusal}
use Rattle.bb_frontend.specs.RefusalLines.{refusal_line}
use Rattle.bb_verdict.specs.FilledTexts.{MayFollowVerdict}
use Rattle.bb_verdict.specs.TextPairs.{AreDesignsOf, IsRefusal}

pub data Judges (requested : TextComparison) (spec imp : List ℕ) (status : ℕ) (text : List ℕ) : Type 0 where
  Refused : (refusal : Refusal) → IsRefusal requested spec imp refusal → status ≡ 2 → text ≡ refusal_line refusal
      → Judges requested spec imp status text
  Judged : (p : NetPair) (lines : List Line) (s i : Design) → AreDesignsOf requested spec imp s i
      → (pair : IsPairFor requested.care requested.options.shared s i p) → IsClimb p requested.options lines
      → status ≡ status_of (verdict_of lines)
      → (rest : List ℕ) → MayFollowVerdict requested.fill pair.imp_net p.kinds lines rest
      → text ≡ report_text p requested.options lines ++ rest → Judges requested spec imp status text
