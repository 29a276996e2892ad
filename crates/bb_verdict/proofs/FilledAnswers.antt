-- With status 0 a report says that the design is finished: by its tables, and where it is asked for by the filled implementation. This only
-- adds to an answer.
use Rattle.std.proofs.Common.{◌≡◌, ◌∙◌, ℕ, Bool, true, false, List, [], ◌++◌, refl, sym, ap, subst, arith, true≢false}
use Rattle.std.proofs.lemmas.List.{append-nil}
use Rattle.bb_equiv.specs.DesignEquivalence.{AreSpelled}
use Rattle.bb_equiv.specs.Laws.Comparable.{FittingDesignsAreComparable}
use Rattle.bb_equiv.specs.Laws.DesignEquivalence.{FittingTablesAreOfBoxes, PairsHaveBoxOrders, SpelledContentsMakeEquivalent, TablesSpellContents}
use Rattle.bb_equiv.specs.Laws.DesignRefusals.{PairsImplementExactlyFitting}
use Rattle.bb_equiv.specs.Laws.Runs.{EquivalentDesignsRunTheSame}
use Rattle.bb_bits.specs.Tables.{TableBits}
use Rattle.bb_design.specs.Hierarchy.{Design}
use Rattle.bb_design.specs.Worlds.{FitDesign}
use Rattle.bb_fill.specs.Answers.{Answer, Clash, TooLarge, Text, IsFillAnswer}
use Rattle.bb_fill.specs.Answers as fill
use Rattle.bb_fill.specs.Clashes.{IsClash}
use Rattle.bb_fill.specs.Filled.{filled_text}
use Rattle.bb_fill.specs.Laws.{AnswersExist}
use Rattle.bb_net.specs.Flats.{FlatNet}
use Rattle.bb_net.specs.Kinds.{per_box}
use Rattle.bb_net.specs.Pairs.{NetPair}
use Rattle.bb_checks.specs.declared.line.Line.{Line}
use Rattle.bb_checks.specs.declared.verdict.Verdict.TheVariants as verdicts
use Rattle.bb_checks.specs.Laws.{RepairsMakeEquivalent, TablesAreGivenOnce}
use Rattle.bb_checks.specs.Reports.{GivesTables, report_text, verdict_of}
use Rattle.bb_frontend.specs.declared.refusal.Refusal.{Refusal}
use Rattle.bb_frontend.specs.declared.refusal.Refusal.TheVariants.{Spec, Imp, Pair, NoMemory}
use Rattle.bb_verdict.specs.declared.requested.TextComparison.{TextComparison}
use Rattle.bb_verdict.specs.FilledSizes.{IsTooLargeToFill}
use Rattle.bb_verdict.specs.FilledTexts.{Clashes, Finished, Follows, FollowsVerdict, IsFinishedText, IsLarge, IsTwice, MayFollowVerdict, NoTablesFollow, NotRequested, NotFinished, answer_text}
use Rattle.bb_verdict.specs.Laws.TextAnswers.{FillingOnlyAdds, RepairsFinish}
use Rattle.bb_verdict.specs.Laws.TextPairs.{DesignsAreAllowed, FilledTextsFinish, LargeTextsAreOfLargeDesigns}
use Rattle.bb_verdict.specs.TextAnswers.{Judged, Judges, Refused}
use Rattle.bb_verdict.specs.TextPairs.{IsFilledText, IsRefusal}
use Rattle.bb_verdict.proofs.AnswerLaws.{finished, is_repairable, order}
use Rattle.bb_verdict.proofs.FilledNames.{clash_is_twice}
use Rattle.bb_verdict.proofs.FollowLaws.{something_follows}

-- what follows the verdict where the filled implementation is asked for and its text has a property
module _ (fill : Bool) (i : Design) (Claims : List ℕ → Type 0) (p : NetPair) (f : FlatNet) (lines : List Line) (rest : List ℕ) (repairable : verdict_of lines ≡ verdicts.Repairable)
    (tables : List TableBits) (only : (others : List TableBits) → GivesTables lines others → others ≡ tables)
    (holds : (filled : List ℕ) → IsFillAnswer f (per_box p.kinds tables) (Text filled) → Claims filled) (twice : (name : List ℕ) → IsFillAnswer f (per_box p.kinds tables) (Clash name) → IsTwice i name)
    (large : IsFillAnswer f (per_box p.kinds tables) TooLarge → IsTooLargeToFill i) where
  answer_follows : (answer : Answer) → IsFillAnswer f (per_box p.kinds tables) answer → rest ≡ answer_text answer → FollowsVerdict i Claims rest
  answer_follows (Clash name) may e = Clashes name e (twice name may)
  answer_follows TooLarge may e = IsLarge e (large may)
  answer_follows (Text filled) may e = Finished filled e (holds filled may)

  rest_follows : fill ≡ true → MayFollowVerdict fill f p.kinds lines rest → FollowsVerdict i Claims rest
  rest_follows on (NotRequested off none) = absurd (true≢false (sym on ∙ off))
  rest_follows on (NotFinished other none) = absurd (other repairable)
  rest_follows on (Follows also verdict others gives answer may e) = answer_follows answer (subst (λ (z : List TableBits). IsFillAnswer f (per_box p.kinds z) answer) (only others gives) may) e

-- a name is reported where it clashes
reported_clash : (f : FlatNet) (tables : List TableBits) (name : List ℕ) → IsFillAnswer f tables (Clash name) → IsClash f name
reported_clash f tables name (fill.Clashes other clash is) = subst (IsClash f) (sym (same name other is)) clash
  where
    same : (a b : List ℕ) → Clash a ≡ Clash b → a ≡ b
    same a b e = cc e
reported_clash f tables name (fill.IsLarge apart large is) = let no : Clash name ≡ TooLarge = is in absurd (cc no)
reported_clash f tables name (fill.IsFilled apart small is) = let no : Clash name ≡ Text (filled_text f tables) = is in absurd (cc no)

module _ (allowed : DesignsAreAllowed) (none_after : NoTablesFollow) (spell : TablesSpellContents) (agree : SpelledContentsMakeEquivalent) (exactly : PairsImplementExactlyFitting)
    (comparable : FittingDesignsAreComparable) (have_orders : PairsHaveBoxOrders) (of_boxes : FittingTablesAreOfBoxes) where
  pub repairs_finish : RepairsMakeEquivalent → TablesAreGivenOnce → EquivalentDesignsRunTheSame → FilledTextsFinish → LargeTextsAreOfLargeDesigns → RepairsFinish
  repairs_finish repairs once run finish large requested spec imp status text (Refused r is s t) zero = absurd (omega (arith, s, zero))
  repairs_finish repairs once run finish large requested spec imp status text (Judged p lines s i are for climb same rest follows t) zero =
      let repairable = is_repairable (verdict_of lines) (sym same ∙ zero) in
      let (tables, given, complete, ends) = repairs p requested.options lines for.kept climb repairable in
      let boxes = order allowed none_after spell agree exactly comparable have_orders of_boxes requested spec imp text p lines s i are for rest follows t tables complete ends in
      let done = finished allowed none_after spell agree exactly comparable have_orders of_boxes requested spec imp text p lines s i are for rest follows t tables complete ends in
      let only = λ (others : List TableBits) (gives : GivesTables lines others). once p requested.options lines others tables climb gives given in
      let twice = λ (name : List ℕ) (may : IsFillAnswer for.imp_net (per_box p.kinds tables) (Clash name)). clash_is_twice i for.imp_net for.imp_implements name (reported_clash for.imp_net (per_box p.kinds tables) name may) in
      let finishes = λ (filled : List ℕ) (may : IsFillAnswer for.imp_net (per_box p.kinds tables) (Text filled)).
      finish requested spec imp s i are p for tables complete filled may in
      let is_filled : (filled : List ℕ) → IsFillAnswer for.imp_net (per_box p.kinds tables) (Text filled) → IsFilledText done filled = λ filled may. record {
        finishes = subst (λ l. IsFinishedText requested.care s i (λ contents. FitDesign i contents × AreSpelled l p.kinds tables contents) filled) boxes.2 (finishes filled may).0;
        passes = (finishes filled may).1;
        runs = (finishes filled may).2;
      } in
      record {
        finished = done;
        runs = λ contents fills. run requested.care s i contents (allowed requested.spec_top spec s are.spec_design) (allowed requested.imp_top imp i are.imp_design) done.comparable fills.0 (done.agree contents fills.0 fills.1);
        filled = λ on. rest_follows requested.fill i (IsFilledText done) p for.imp_net lines rest repairable tables only is_filled twice (large requested spec imp s i are p for tables complete) on follows;
      }

-- a refusal is one whether the filled implementation is asked for or not
refused_isomorphic : (on : Bool) (requested : TextComparison) (spec imp : List ℕ) (r : Refusal) → IsRefusal requested spec imp r → IsRefusal (record requested { fill = on }) spec imp r
refused_isomorphic on requested spec imp (Spec fault) is = is
refused_isomorphic on requested spec imp (Imp fault) is = is
refused_isomorphic on requested spec imp (Pair fault) (s, i, are, is) = (s, i, record { spec_design = are.spec_design; imp_design = are.imp_design }, is)
refused_isomorphic on requested spec imp NoMemory is = is

module _ (exist : AnswersExist) (requested : TextComparison) (spec imp : List ℕ) (status : ℕ) where
  prefix : (text : List ℕ) → Judges requested spec imp status text → (report : List ℕ) × (rest : List ℕ) × (text ≡ report ++ rest) × Judges (record requested { fill = false }) spec imp status report
  prefix text (Refused r is s t) = (text, [], sym (append-nil text), Refused r (refused_isomorphic false requested spec imp r is) s t)
  prefix text (Judged p lines s i are for climb same rest follows t) = (
    report_text p requested.options lines,
    rest,
    t,
    Judged p lines s i (record { spec_design = are.spec_design; imp_design = are.imp_design }) for climb same [] (NotRequested refl refl) (sym (append-nil (report_text p requested.options lines))),
  )

  further : (report : List ℕ) → Judges (record requested { fill = false }) spec imp status report → (rest : List ℕ) × Judges (record requested { fill = true }) spec imp status (report ++ rest)
  further report (Refused r is s t) = ([], Refused r (refused_isomorphic true (record requested { fill = false }) spec imp r is) s (append-nil report ∙ t))
  further report (Judged p lines s i are for climb same rest follows t) =
      let more = something_follows exist true for.imp_net p.kinds lines in (
        more.0,
        Judged p lines s i (record { spec_design = are.spec_design; imp_design = are.imp_design }) for climb same more.0 more.1
            (ap (λ z. z ++ more.0) (t ∙ ap (λ z. report_text p requested.options lines ++ z) (none follows) ∙ append-nil (report_text p requested.options lines))),
      )
    where
      none : MayFollowVerdict false for.imp_net p.kinds lines rest → rest ≡ []
      none (NotRequested off is) = is
      none (NotFinished other is) = is
      none (Follows on verdict tables gives answer may e) = absurd (true≢false (sym on))

pub filling_only_adds : AnswersExist → FillingOnlyAdds
filling_only_adds exist requested spec imp status = record { prefix = prefix exist requested spec imp status; further = further exist requested spec imp status }
