-- Two texts have an answer: a first fault of one of them, a refusal of their designs, or the report of a pair that implements them.
use Rattle.std.proofs.Common.{ℕ, List, ◌++◌, refl, inl, inr}
use Rattle.bb_equiv.specs.Laws.DesignRefusals.{FitOrRefused, FittingDesignsHavePairs}
use Rattle.bb_fill.specs.Laws.{AnswersExist}
use Rattle.bb_checks.specs.Reports.{report_text, status_of, verdict_of}
use Rattle.bb_checks.specs.Laws.SomeClimbs.{ClimbsExist}
use Rattle.bb_frontend.specs.declared.refusal.Refusal.{Refusal}
use Rattle.bb_frontend.specs.declared.refusal.Refusal.TheVariants.{Spec, Imp, Pair}
use Rattle.bb_frontend.specs.RefusalLines.{refusal_line}
use Rattle.bb_frontend.specs.TextDesigns.{DesignOrFault}
use Rattle.bb_verdict.specs.Laws.SomeAnswers.{TextsAreJudged}
use Rattle.bb_verdict.specs.Laws.TextPairs.{DesignsAreAllowed}
use Rattle.bb_verdict.specs.TextAnswers.{Judges, Refused, Judged}
use Rattle.bb_verdict.specs.TextPairs.{IsRefusal, ImplementsTexts, AreDesignsOf}
use Rattle.bb_verdict.proofs.FollowLaws.{something_follows}

pub texts_are_judged : DesignsAreAllowed → DesignOrFault → FitOrRefused → FittingDesignsHavePairs → ClimbsExist → AnswersExist → TextsAreJudged
texts_are_judged allowed either fit pairs climbs answers requested spec imp bounds provable = elim (either requested.spec_top spec) [
  | inr fault ↦ refused (Spec fault.0) fault.1
  | inl s ↦ elim (either requested.imp_top imp) [
    | inr fault ↦ refused (Imp fault.0) (s.0, s.1, fault.1)
    | inl i ↦
        let designs : AreDesignsOf requested spec imp s.0 i.0 = record { spec_design = s.1; imp_design = i.1 } in
        let good = allowed requested.spec_top spec s.0 s.1 in
        let also = allowed requested.imp_top imp i.0 i.1 in
        elim (fit requested.care s.0 i.0 good) [
          | inr fault ↦ refused (Pair fault.0) (s.0, i.0, designs, fault.1)
          | inl fits ↦
              let p = pairs requested.care requested.options.shared s.0 i.0 good also fits in
              let occurs : ImplementsTexts requested spec imp p.0 = (s.0, i.0, designs, p.1) in
              let lines = climbs p.0 requested.options p.1.kept bounds (provable p.0 occurs) in
              let rest = something_follows answers requested.fill p.1.imp_net p.0.kinds lines.0 in
              (status_of (verdict_of lines.0), report_text p.0 requested.options lines.0 ++ rest.0, Judged p.0 lines.0 s.0 i.0 designs p.1 lines.1 refl rest.0 rest.1 refl)
        ]
  ]
]
  where
    refused : (refusal : Refusal) → IsRefusal requested spec imp refusal → (status : ℕ) × (text : List ℕ) × Judges requested spec imp status text
    refused refusal is = (2, refusal_line refusal, Refused refusal is refl refl)
