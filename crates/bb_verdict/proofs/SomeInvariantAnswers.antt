-- Two texts have an answer with an invariant: of finitely many events one breaks it, or each keeps it and the checks answer.
use Rattle.std.proofs.Common.{◌≡◌, ◌⊎◌, ◌++◌, ◌∙◌, ℕ, Bool, true, false, if◌then◌else◌, List, Contains, Option, None, Some, codes, refl, sym, ap, inl, inr}
use Rattle.std.specs.Prelude.{slice_index}
use Rattle.std.proofs.lemmas.Option.{slice_get-get_or}
use Rattle.bb_design.specs.Hierarchy.{Design}
use Rattle.bb_checks.specs.Reports.{verdict_of}
use Rattle.bb_equiv.specs.DesignEquivalence.{IsPairFor}
use Rattle.bb_lemmas.proofs.Bits.{never_both}
use Rattle.bb_lemmas.proofs.LeastBits.{Below, least_or_none}
use Rattle.bb_lemmas.proofs.Members.{either}
use Rattle.bb_net.specs.Flats.{FlatNet}
use Rattle.bb_net.specs.Pairs.{NetPair}
use Rattle.bb_unroll.specs.Events.{IsBrokenAt, IsKept, IsOutputCell, is_violated}
use Rattle.bb_unroll.specs.Unrolled.{unrolled_inputs}
use Rattle.bb_verdict.specs.declared.pair_texts.Made.{Made}
use Rattle.bb_verdict.specs.declared.requested.TextComparison.{TextComparison}
use Rattle.bb_verdict.specs.Inside.BrokenTexts.{broken_bytes}
use Rattle.bb_verdict.specs.Inside.Made.{IsMade}
use Rattle.bb_verdict.specs.Inside.Unrolled.{IsFlatOf, MadeCanBeUnrolled, UnrolledAreMeant}
use Rattle.bb_verdict.specs.InvariantAnswers.{BrokenInvariant, JudgesBy, JudgesWith, KeptInvariant, RefusedWith, invariant_name, refusal_line_with}
use Rattle.bb_verdict.specs.Laws.InvariantAnswers.{TextsAreAnswered}
use Rattle.bb_verdict.specs.Laws.SomeAnswers.{TextsAreJudged}
use Rattle.bb_verdict.specs.TextAnswers.{Judges, Refused, Judged}
use Rattle.bb_verdict.specs.TextPairs.{AreDesignsOf}
use Rattle.bb_verdict.proofs.InvariantJudged.{no_second}

broken_or_kept : Below → (f : FlatNet) (k : ℕ) → ((x : List Bool) × IsBrokenAt f k None x) ⊎ IsKept f k None
broken_or_kept below f k =
    elim (least_or_none below (λ x. is_violated f k None x ≡ true) (λ x. is_violated f k None x ≡ false) (λ x yes no. never_both (is_violated f k None x) yes no) (unrolled_inputs f) (λ x len. either (is_violated f k None x))) [
      | inl one ↦ let is = one.1 in inl (one.0, (is.long, is.holds))
      | inr none ↦ inr none
    ]

output_there : (f : FlatNet) (name : List ℕ) → Contains f.outs name → (k : ℕ) × IsOutputCell f name k
output_there f name (j, lt, is) = (slice_index f.net.outs j, (j, slice_get-get_or f.outs j name lt ∙ ap Some is, refl))

module _ (below : Below) (unroll : MadeCanBeUnrolled) (mean : UnrolledAreMeant) (requested : TextComparison) (name spec imp : List ℕ) (some : invariant_name requested ≡ Some name) where
  of_pair : (p : NetPair) (s i : Design) → AreDesignsOf requested spec imp s i → IsPairFor requested.care requested.options.shared s i p → (status : ℕ) (report : List ℕ) → Judges requested spec imp status report → (status ≡ 2 → ⊥)
      → (status : ℕ) × (text : List ℕ) × JudgesWith requested name spec imp status text
  of_pair p s i are pair status report judged other =
      let made : Made = record { pair = p; imp = if requested.fill then Some pair.imp_net else None } in
      let is : IsMade requested spec imp made = record { s = s; i = i; designs = are; pair = pair; kept = refl } in
      let flat : IsFlatOf requested spec pair.spec_net = (s, are.spec_design, pair.spec_implements) in
      let can = unroll requested spec imp name made pair.spec_net is some flat pair.spec_flat in
      let cell = output_there pair.spec_net name can.1 in
      let meant = mean requested spec imp name made pair.spec_net cell.0 is flat can.0 cell.1 in
      elim (broken_or_kept below pair.spec_net cell.0) [
        | inl broken ↦ (3, broken_bytes pair.spec_net p.ins broken.0, BrokenInvariant p (s, i, are, pair) (meant.broken broken.0 broken.1) refl)
        | inr kept ↦ (status, codes "invariant kept\n" ++ report, KeptInvariant (meant.kept kept) report judged other refl)
      ]

  of_report : (status : ℕ) (report : List ℕ) → Judges requested spec imp status report → (status : ℕ) × (text : List ℕ) × JudgesWith requested name spec imp status text
  of_report status report (Refused fault is two line) = (2, refusal_line_with (Some name) fault, RefusedWith fault is refl refl)
  of_report status report (Judged p lines s i are pair climb said rest follows whole) =
      of_pair p s i are pair status report (Judged p lines s i are pair climb said rest follows whole) (λ two. no_second (verdict_of lines) (sym said ∙ two))

pub texts_are_answered : TextsAreJudged → Below → MadeCanBeUnrolled → UnrolledAreMeant → TextsAreAnswered
texts_are_answered judged below unroll mean requested spec imp bounds provable = by (invariant_name requested) refl
  where
    answered : (status : ℕ) × (text : List ℕ) × Judges requested spec imp status text
    answered = judged requested spec imp bounds provable

    by : (o : Option (List ℕ)) → invariant_name requested ≡ o → (status : ℕ) × (text : List ℕ) × JudgesBy o requested spec imp status text
    by None none = answered
    by (Some name) some = of_report below unroll mean requested name spec imp some answered.0 answered.1 answered.2
