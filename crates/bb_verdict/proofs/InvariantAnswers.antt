-- The meaning of an answer with an invariant: that of the answer of the checks where it is kept, and else the event that breaks it or
-- that too much is needed.
use Rattle.std.proofs.Common.{◌≡◌, ◌++◌, ◌∙◌, ℕ, List, Option, None, Some, refl, sym, ap, subst, inl, inr, arith}
use Rattle.std.specs.Prelude.{IfSome}
use Rattle.bb_bits.specs.Contents.{Contents}
use Rattle.bb_design.specs.Hierarchy.{Design}
use Rattle.bb_checks.specs.declared.verdict.Verdict.{Verdict}
use Rattle.bb_checks.specs.declared.verdict.Verdict.TheVariants as verdicts
use Rattle.bb_checks.specs.Reports.{status_of, verdict_of}
use Rattle.bb_equiv.specs.Invariants.{IsInvariant, RunTheSameFrom}
use Rattle.bb_equiv.specs.Laws.DesignRefusals.{PairsImplementExactlyFitting}
use Rattle.bb_equiv.specs.Laws.Invariants.{InvariantsHoldInRuns}
use Rattle.bb_equiv.specs.Runs.{RunTheSame}
use Rattle.bb_frontend.specs.declared.refusal.Refusal.{Refusal}
use Rattle.bb_frontend.specs.TextDesigns.{TextsReadAsOne}
use Rattle.bb_net.specs.Pairs.{NetPair}
use Rattle.bb_verdict.specs.declared.requested.TextComparison.{TextComparison}
use Rattle.bb_verdict.specs.InvariantAnswers.{BrokenInvariant, HasInvariant, JudgesBy, JudgesWith, KeepsInvariant, KeptInvariant, LastsFrom, NotFoundOut, OpenChecks, RefusedWith, ShownBroken, UndecidedInvariant}
use Rattle.bb_verdict.specs.InvariantAnswers.{invariant_head, invariant_name, refusal_line_with}
use Rattle.bb_verdict.specs.Laws.InvariantAnswers.{AnswerMeans, AnswersToTextsAreMeant}
use Rattle.bb_verdict.specs.Laws.TextAnswers.{AnsweredFit, DecidedAreAnswered, ErrorsAreShown, ErrorsRefute, JudgedRefusalsAreFirst, OpenAnswersAreReports, OpenAnswersLeaveOpen, RefusedAreAnsweredOnce, RepairsFinish, StayingOpenAreAnswered}
use Rattle.bb_verdict.specs.Laws.TextPairs.{DesignsAreAllowed, NotPairAndRefusal, RefusalsAreOne}
use Rattle.bb_verdict.specs.TextAnswers.{Judges, Refused, Judged}
use Rattle.bb_verdict.specs.TextPairs.{DoFit, ImplementsTexts, IsFinishedReport, IsRefusal}
use Rattle.bb_verdict.proofs.TextPairLaws.{reads_as}
use Rattle.bb_verdict.proofs.UnrolledSpecs.{care_is}

-- the laws of answers without an invariant
pub record PlainLaws : Type 0 where
  pub fit : AnsweredFit
  pub errors : ErrorsRefute
  pub shown : ErrorsAreShown
  pub repairs : RepairsFinish
  pub opens : OpenAnswersLeaveOpen
  pub open_reports : OpenAnswersAreReports
  pub stays_open : StayingOpenAreAnswered
  pub decided : DecidedAreAnswered
  pub refusals : JudgedRefusalsAreFirst
  pub refused : RefusedAreAnsweredOnce
  pub one : RefusalsAreOne
  pub apart : NotPairAndRefusal
  pub read : TextsReadAsOne
  pub runs : InvariantsHoldInRuns
  pub allowed : DesignsAreAllowed
  pub fits : PairsImplementExactlyFitting

-- no text that is judged gives the status of a failed read

no_fourth : (v : Verdict) → status_of v ≡ 4 → ⊥
no_fourth verdicts.Error e = omega (arith, e)
no_fourth verdicts.Repairable e = omega (arith, e)
no_fourth verdicts.Open e = omega (arith, e)

never_unread : (requested : TextComparison) (spec imp : List ℕ) (status : ℕ) (text : List ℕ) → Judges requested spec imp status text → status ≡ 4 → ⊥
never_unread requested spec imp status text (Refused r is s t) four = omega (arith, s, four)
never_unread requested spec imp status text (Judged p lines d i are for climb s rest follows t) four = no_fourth (verdict_of lines) (sym s ∙ four)

module _ (laws : PlainLaws) (requested : TextComparison) (spec imp : List ℕ) (status : ℕ) (text : List ℕ) where
  abbrev Lasts : IsFinishedReport requested spec imp text → Option (List ℕ) → Type 0
  Lasts report o = IfSome o (λ name. IsInvariant None report.finished.s name
      × ((d : Design) (contents : Contents) → RunTheSame requested.care report.finished.s d contents → RunTheSameFrom name report.finished.s d contents))

  -- without an invariant
  plain_means : invariant_name requested ≡ None → Judges requested spec imp status text → AnswerMeans requested spec imp status text
  plain_means none judged = record {
    fit = laws.fit requested spec imp status text judged;
    finished = λ zero.
        let report = laws.repairs requested spec imp status text judged zero in
        (keeps, (text, head, (report, subst (Lasts report) (sym none) tt)));
    refuted = λ one. (laws.errors requested spec imp status text judged one, keeps);
    shown = λ one. (keeps, (text, head, laws.shown requested spec imp status text judged one));
    refused = λ two.
        let (fault, is, line) = laws.refusals requested spec imp status text judged two in
        (fault, is, line ∙ ap (λ o. refusal_line_with o fault) (sym none));
    left_open = λ three. inl (laws.opens requested spec imp status text judged three, keeps);
    open_report = λ three. OpenChecks (keeps, (text, head, laws.open_reports requested spec imp status text judged three));
    decided = λ decided. laws.decided requested spec imp status text judged decided.0;
    stays_open = laws.stays_open requested spec imp status text judged;
    readable = never_unread requested spec imp status text judged;
    stays_refused = λ line refusal.
        let (fault, is, same) = refusal in
        let (two, reported) = laws.refused requested spec imp fault status text is judged in
        (two, reported ∙ ap (λ o. refusal_line_with o fault) (sym none) ∙ sym same);
  }
    where
      head : text ≡ invariant_head (invariant_name requested) ++ text
      head = ap (λ o. invariant_head o ++ text) (sym none)

      keeps : KeepsInvariant requested spec
      keeps = subst (λ o. IfSome o (HasInvariant requested spec)) (sym none) tt

-- with one
module _ (laws : PlainLaws) (requested : TextComparison) (name spec imp : List ℕ) (status : ℕ) (some : invariant_name requested ≡ Some name) where
  -- no pair has a refusal
  no_refusal : (p : NetPair) → ImplementsTexts requested spec imp p → (line : List ℕ)
      → (fault : Refusal) × IsRefusal requested spec imp fault × (line ≡ refusal_line_with (invariant_name requested) fault) → ⊥
  no_refusal p implements line (fault, is, same) = laws.apart requested spec imp p fault implements is

  do_fit : (p : NetPair) → ImplementsTexts requested spec imp p → DoFit requested spec imp
  do_fit p (s, i, designs, pair) = (
    s,
    i,
    designs,
    (laws.fits requested.care requested.options.shared s i (laws.allowed requested.spec_top spec s designs.spec_design) (laws.allowed requested.imp_top imp i designs.imp_design)).fit p pair,
  )

  refused_means : (text : List ℕ) (fault : Refusal) → IsRefusal requested spec imp fault → status ≡ 2 → text ≡ refusal_line_with (Some name) fault → AnswerMeans requested spec imp status text
  refused_means text fault is two line = record {
    fit = λ other. absurd (other two);
    finished = λ zero. absurd (omega (arith, two, zero));
    refuted = λ one. absurd (omega (arith, two, one));
    shown = λ one. absurd (omega (arith, two, one));
    refused = λ two. (fault, is, line ∙ ap (λ o. refusal_line_with o fault) (sym some));
    left_open = λ three. absurd (omega (arith, two, three));
    open_report = λ three. absurd (omega (arith, two, three));
    decided = λ decided. absurd (laws.apart requested spec imp decided.0.0 fault decided.0.1 is);
    stays_open = λ stays. absurd (laws.apart requested spec imp stays.0 fault stays.1 is);
    readable = λ four. absurd (omega (arith, two, four));
    stays_refused = λ other refusal.
        let (also, be, same) = refusal in
        (two, line ∙ ap (refusal_line_with (Some name)) (laws.one requested spec imp fault also is be) ∙ ap (λ o. refusal_line_with o also) (sym some) ∙ sym same);
  }

  -- where the invariant is kept
  module _ (text report : List ℕ) (has : HasInvariant requested spec name) (judged : Judges requested spec imp status report) (other : status ≡ 2 → ⊥)
      (behind : text ≡ invariant_head (Some name) ++ report) where
    head : text ≡ invariant_head (invariant_name requested) ++ report
    head = behind ∙ ap (λ o. invariant_head o ++ report) (sym some)

    lasts : (finished : IsFinishedReport requested spec imp report) → LastsFrom requested finished
    lasts finished =
        let same = laws.read requested.spec_top spec finished.finished.s has.0 finished.finished.reads.spec_reads (reads_as has.1) in
        let invariant = subst (λ d. IsInvariant None d name) (sym same) has.2 in
        let care = care_is requested.invariant requested.care name some in
        subst (λ o. IfSome o (λ name. IsInvariant None finished.finished.s name
        × ((d : Design) (contents : Contents) → RunTheSame requested.care finished.finished.s d contents → RunTheSameFrom name finished.finished.s d contents))) (sym some)
        (invariant, λ d contents same. laws.runs name finished.finished.s d contents invariant (subst (λ c. RunTheSame c finished.finished.s d contents) care same))

    keeps : KeepsInvariant requested spec
    keeps = subst (λ o. IfSome o (HasInvariant requested spec)) (sym some) has

    kept_means : AnswerMeans requested spec imp status text
    kept_means = record {
      fit = laws.fit requested spec imp status report judged;
      finished = λ zero.
          let finished = laws.repairs requested spec imp status report judged zero in
          (keeps, (report, head, (finished, lasts finished)));
      refuted = λ one. (laws.errors requested spec imp status report judged one, keeps);
      shown = λ one. (keeps, (report, head, laws.shown requested spec imp status report judged one));
      refused = λ two. absurd (other two);
      left_open = λ three. inl (laws.opens requested spec imp status report judged three, keeps);
      open_report = λ three. OpenChecks (keeps, (report, head, laws.open_reports requested spec imp status report judged three));
      decided = λ decided. laws.decided requested spec imp status report judged decided.0;
      stays_open = laws.stays_open requested spec imp status report judged;
      readable = never_unread requested spec imp status report judged;
      stays_refused = λ line refusal. absurd (other (laws.refused requested spec imp refusal.0 status report refusal.1 judged).0);
    }

  with_means : (text : List ℕ) → JudgesWith requested name spec imp status text → AnswerMeans requested spec imp status text
  with_means text (RefusedWith fault is two line) = refused_means text fault is two line
  with_means text (KeptInvariant has report judged other behind) = kept_means text report has judged other behind
  with_means text (BrokenInvariant p implements broken three) = record {
    fit = λ other. do_fit p implements;
    finished = λ zero. absurd (omega (arith, three, zero));
    refuted = λ one. absurd (omega (arith, three, one));
    shown = λ one. absurd (omega (arith, three, one));
    refused = λ two. absurd (omega (arith, three, two));
    left_open = λ three. inr (name, some, inl (text, broken));
    open_report = λ three. ShownBroken name some broken;
    decided = λ decided. absurd (decided.1 (name, some, inl (text, broken)));
    stays_open = λ stays. three;
    readable = λ four. absurd (omega (arith, three, four));
    stays_refused = λ line refusal. absurd (no_refusal p implements line refusal);
  }
  with_means text (UndecidedInvariant p implements large three line) = record {
    fit = λ other. do_fit p implements;
    finished = λ zero. absurd (omega (arith, three, zero));
    refuted = λ one. absurd (omega (arith, three, one));
    shown = λ one. absurd (omega (arith, three, one));
    refused = λ two. absurd (omega (arith, three, two));
    left_open = λ three. inr (name, some, inr large);
    open_report = λ three. NotFoundOut name some large line;
    decided = λ decided. absurd (decided.1 (name, some, inr large));
    stays_open = λ stays. three;
    readable = λ four. absurd (omega (arith, three, four));
    stays_refused = λ line refusal. absurd (no_refusal p implements line refusal);
  }

pub answers_to_texts_are_meant : PlainLaws → AnswersToTextsAreMeant
answers_to_texts_are_meant laws requested spec imp status text answer = by (invariant_name requested) refl answer
  where
    by : (o : Option (List ℕ)) → invariant_name requested ≡ o → JudgesBy o requested spec imp status text → AnswerMeans requested spec imp status text
    by None none judged = plain_means laws requested spec imp status text none judged
    by (Some name) some judged = with_means laws requested name spec imp status some text judged
