-- What an answer says of the two texts.
use Rattle.std.proofs.Common.{◌≡◌, ◌⊎◌, ℕ, Bool, true, false, if◌then◌else◌, List, ◌++◌, map, refl, sym, ap, subst, ◌∙◌, arith, inl, inr}
use Rattle.std.specs.List.{AllZip, list_any}
use Rattle.std.proofs.lemmas.List.Elements.{All-weaker}
use Rattle.bb_equiv.specs.DesignEquivalence.{AreSpelled, IsPairFor, IsTableOf}
use Rattle.bb_equiv.specs.Laws.Comparable.{FittingDesignsAreComparable}
use Rattle.bb_equiv.specs.Laws.DesignEquivalence.{FittingTablesAreOfBoxes, NoTablesNoContents, PairsHaveBoxOrders, SpelledContentsMakeEquivalent, TablesSpellContents}
use Rattle.bb_equiv.specs.Laws.DesignRefusals.{PairsImplementExactlyFitting}
use Rattle.bb_bits.specs.Tables.{TableBits}
use Rattle.bb_implements.specs.Implements.{box_texts}
use Rattle.bb_implements.specs.Laws.BoxOrders.{IsBoxOrder}
use Rattle.bb_design.specs.Hierarchy.{Design, Scope}
use Rattle.bb_design.specs.Inside.Allowed.{IsAllowed}
use Rattle.bb_net.specs.Kinds.{AreKinds, AreSharedCompletion, representatives}
use Rattle.bb_net.specs.Pairs.{NetPair, IsPair, box_key}
use Rattle.bb_checks.specs.Laws.IsomorphicPairs.{IsomorphicPairsAreLeftOpen, IsomorphicPairsStayOpen, IsomorphicPairsAreDecided}
use Rattle.bb_checks.specs.declared.line.Line.{Line}
use Rattle.bb_checks.specs.declared.verdict.Verdict.{Verdict}
use Rattle.bb_checks.specs.declared.verdict.Verdict.TheVariants as verdicts
use Rattle.bb_checks.specs.Laws.{ErrorsExcludeTables, ClimbsLeaveOpen, StayingOpenIsReported, DecidersDecide}
use Rattle.bb_checks.specs.LeftOpen.{MayLeaveOpen, MustLeaveOpen}
use Rattle.bb_checks.specs.Reports.{EndsWithTables, report_text, status_of, verdict_of}
use Rattle.bb_options.specs.Rungs.{requested_rungs}
use Rattle.bb_checks.specs.Rungs.{is_error, is_repair}
use Rattle.bb_verdict.specs.declared.requested.TextComparison.{TextComparison}
use Rattle.bb_verdict.specs.FilledTexts.{MayFollowVerdict, NoTablesFollow}
use Rattle.bb_frontend.specs.RefusalLines.{refusal_line}
use Rattle.bb_verdict.specs.Laws.TextAnswers.{AnsweredFit, ErrorsRefute, OpenAnswersLeaveOpen, DecidedAreAnswered, StayingOpenAreAnswered, JudgedRefusalsAreFirst, RefusedAreAnsweredOnce}
use Rattle.bb_verdict.specs.Laws.TextPairs.{DesignsAreAllowed, RefusalsAreOne, NotPairAndRefusal, TextPairsAreIsomorphic}
use Rattle.bb_verdict.specs.TextAnswers.{Refused, Judged}
use Rattle.bb_verdict.specs.TextPairs.{AreDesignsOf, AreFinished, ImplementsTexts}
use Rattle.bb_verdict.proofs.FollowLaws.{nothing_unasked}
use Rattle.bb_verdict.proofs.TextPairLaws.{are_read_as}

-- the verdict by its status
pub is_repairable : (v : Verdict) → status_of v ≡ 0 → v ≡ verdicts.Repairable
is_repairable verdicts.Error e = absurd (omega (arith, e))
is_repairable verdicts.Repairable e = refl
is_repairable verdicts.Open e = absurd (omega (arith, e))

pub is_open : (v : Verdict) → status_of v ≡ 3 → v ≡ verdicts.Open
is_open verdicts.Error e = absurd (omega (arith, e))
is_open verdicts.Repairable e = absurd (omega (arith, e))
is_open verdicts.Open e = refl

pub status_error : (lines : List Line) → status_of (verdict_of lines) ≡ 1 → list_any is_error lines ≡ true
status_error lines e = by (list_any is_error lines) (list_any is_repair lines) e
  where
    by : (a b : Bool) → status_of (if a then verdicts.Error else (if b then verdicts.Repairable else verdicts.Open)) ≡ 1 → a ≡ true
    by true b e = refl
    by false true e = absurd (omega (arith, e))
    by false false e = absurd (omega (arith, e))

-- what a report says whose verdict is that the design can be finished, with tables that agree
module _ (allowed : DesignsAreAllowed) (none_after : NoTablesFollow) (spell : TablesSpellContents) (agree : SpelledContentsMakeEquivalent) (exactly : PairsImplementExactlyFitting)
    (comparable : FittingDesignsAreComparable) (have_orders : PairsHaveBoxOrders) (of_boxes : FittingTablesAreOfBoxes) where
  module _ (requested : TextComparison) (spec imp text : List ℕ) (p : NetPair) (lines : List Line) (s i : Design) (are : AreDesignsOf requested spec imp s i) (for : IsPairFor requested.care requested.options.shared s i p)
      (rest : List ℕ) (follows : MayFollowVerdict requested.fill for.imp_net p.kinds lines rest) (whole : text ≡ report_text p requested.options lines ++ rest)
      (tables : List TableBits) (complete : AreSharedCompletion p.spec p.imp p.kinds tables) (ends : EndsWithTables requested.options.shared (representatives p.kinds p.boxes) (report_text p requested.options lines) tables) where
    abbrev shared : Bool
    shared = requested.options.shared

    pub s_allowed : IsAllowed s
    s_allowed = allowed requested.spec_top spec s are.spec_design

    pub i_allowed : IsAllowed i
    i_allowed = allowed requested.imp_top imp i are.imp_design

    abbrev pub order : (order : List Scope) × IsBoxOrder i order × (p.boxes ≡ map (box_texts i) order) × AreKinds (map (box_key shared) p.boxes) p.kinds
    order = have_orders requested.care shared s i p i_allowed for

    abbrev pub finished : AreFinished requested spec imp text
    finished =
        let spelled = spell requested.care shared s i p s_allowed i_allowed for tables complete.fit in
        record {
          s = s;
          i = i;
          reads = are_read_as requested spec imp s i are;
          comparable = (comparable requested.care shared s i s_allowed i_allowed ((exactly requested.care shared s i s_allowed i_allowed).fit p for)).0;
          order = order.0;
          all = order.1.all;
          kinds = p.kinds;
          keyed = subst (λ l. AreKinds (map (box_key shared) l) p.kinds) order.2 order.3;
          tables = tables;
          shapes = subst (λ l. AllZip IsTableOf (representatives p.kinds l) tables) order.2 (of_boxes p tables for.kept complete.fit);
          report = report_text p requested.options lines;
          rest = rest;
          whole = whole;
          lines = subst (λ l. EndsWithTables shared (representatives p.kinds l) (report_text p requested.options lines) tables) order.2 ends;
          no_more = none_after requested.fill for.imp_net p.kinds lines rest for.imp_flat follows;
          alone = nothing_unasked follows;
          contents = (spelled.0, spelled.1, subst (λ l. AreSpelled l p.kinds tables spelled.0) order.2 spelled.2);
          agree = λ contents fits spells. agree requested.care shared s i p s_allowed i_allowed for tables complete.fit complete.agree contents fits (subst (λ l. AreSpelled l p.kinds tables contents) (sym order.2) spells);
        }

pub answered_fit : DesignsAreAllowed → PairsImplementExactlyFitting → AnsweredFit
answered_fit allowed fitting requested spec imp status text (Refused r is s t) answered = absurd (answered s)
answered_fit allowed fitting requested spec imp status text (Judged p lines s i are for climb same rest follows t) answered =
    (s, i, are, (fitting requested.care requested.options.shared s i (allowed requested.spec_top spec s are.spec_design) (allowed requested.imp_top imp i are.imp_design)).fit p for)

pub errors_refute : DesignsAreAllowed → ErrorsExcludeTables → NoTablesNoContents → PairsImplementExactlyFitting → FittingDesignsAreComparable → ErrorsRefute
errors_refute allowed excludes exactly fitting comparable requested spec imp status text (Refused r is s t) one = absurd (omega (arith, s, one))
errors_refute allowed excludes exactly fitting comparable requested spec imp status text (Judged p lines s i are for climb same rest follows t) one =
    let none = excludes p requested.options lines for.kept climb (status_error lines (sym same ∙ one)) in
    let good = allowed requested.spec_top spec s are.spec_design in
    let also = allowed requested.imp_top imp i are.imp_design in
    let fit = (fitting requested.care requested.options.shared s i good also).fit p for in
    let can = comparable requested.care requested.options.shared s i good also fit in
    record {
      s = s;
      i = i;
      reads = are_read_as requested spec imp s i are;
      comparable = can.0;
      some = can.1;
      none = (exactly requested.care requested.options.shared s i p good also for).0 none;
    }

pub is_pair : (requested : TextComparison) (spec imp : List ℕ) (p : NetPair) → ImplementsTexts requested spec imp p → IsPair p
is_pair requested spec imp p (s, i, are, for) = for.kept

pub open_answers_leave_open : TextPairsAreIsomorphic → IsomorphicPairsAreLeftOpen → ClimbsLeaveOpen → OpenAnswersLeaveOpen
open_answers_leave_open alike stays leave requested spec imp status text (Refused r is s t) three = absurd (omega (arith, s, three))
open_answers_leave_open alike stays leave requested spec imp status text (Judged p lines s i are for climb same rest follows t) three =
    let occurs : ImplementsTexts requested spec imp p = (s, i, are, for) in
    let left = leave p requested.options lines climb (is_open (verdict_of lines) (sym same ∙ three)) in
    record {
      pair = (p, occurs);
      left = λ q also. All-weaker (MayLeaveOpen p requested.options) (MayLeaveOpen q requested.options) (λ r. stays p q requested.options r (is_pair requested spec imp p occurs) (is_pair requested spec imp q also) (alike requested spec imp p q occurs also)) (requested_rungs requested.options) left;
    }

-- the verdict of a status that is not open
decided_status : (v : Verdict) → (v ≡ verdicts.Open → ⊥) → (status_of v ≡ 0) ⊎ (status_of v ≡ 1)
decided_status verdicts.Error not_open = inr refl
decided_status verdicts.Repairable not_open = inl refl
decided_status verdicts.Open not_open = absurd (not_open refl)

pub decided_are_answered : NotPairAndRefusal → TextPairsAreIsomorphic → IsomorphicPairsAreDecided → DecidersDecide → DecidedAreAnswered
decided_are_answered apart alike decided decide requested spec imp status text (Refused r is s t) (q, also, decides) = absurd (apart requested spec imp q r also is)
decided_are_answered apart alike decided decide requested spec imp status text (Judged p lines s i are for climb same rest follows t) (q, also, decides) =
    let occurs : ImplementsTexts requested spec imp p = (s, i, are, for) in
    let so = decided q p requested.options decides.0 (is_pair requested spec imp q also) (is_pair requested spec imp p occurs) (alike requested spec imp q p also occurs) decides.2 in
    subst (λ n. (n ≡ 0) ⊎ (n ≡ 1)) (sym same) (decided_status (verdict_of lines) (decide p requested.options lines climb (decides.0, decides.1, so)))

pub staying_open_are_answered : NotPairAndRefusal → TextPairsAreIsomorphic → IsomorphicPairsStayOpen → StayingOpenIsReported → StayingOpenAreAnswered
staying_open_are_answered apart alike stay reported requested spec imp status text (Refused r is s t) (q, also, stays) = absurd (apart requested spec imp q r also is)
staying_open_are_answered apart alike stay reported requested spec imp status text (Judged p lines s i are for climb same rest follows t) (q, also, stays) =
    let occurs : ImplementsTexts requested spec imp p = (s, i, are, for) in
    let so = All-weaker (MustLeaveOpen q requested.options) (MustLeaveOpen p requested.options) (λ r. stay q p requested.options r (is_pair requested spec imp q also) (is_pair requested spec imp p occurs) (alike requested spec imp q p also occurs)) (requested_rungs requested.options) stays in
    same ∙ ap status_of (reported p requested.options lines climb so)

no_second : (v : Verdict) → status_of v ≡ 2 → ⊥
no_second verdicts.Error e = omega (arith, e)
no_second verdicts.Repairable e = omega (arith, e)
no_second verdicts.Open e = omega (arith, e)

pub judged_refusals_are_first : JudgedRefusalsAreFirst
judged_refusals_are_first requested spec imp status text (Refused refusal is s t) two = (refusal, is, t)
judged_refusals_are_first requested spec imp status text (Judged p lines d i are for climb s rest follows t) two = absurd (no_second (verdict_of lines) (sym s ∙ two))

pub refused_are_answered_once : RefusalsAreOne → NotPairAndRefusal → RefusedAreAnsweredOnce
refused_are_answered_once one apart requested spec imp r status text is (Refused q also s t) = (s, t ∙ ap refusal_line (one requested spec imp q r also is))
refused_are_answered_once one apart requested spec imp r status text is (Judged p lines s i are for climb same rest follows t) = absurd (apart requested spec imp p r (s, i, are, for) is)
