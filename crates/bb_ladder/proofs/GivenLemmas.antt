-- Where the reads are known, those of a call gave what its answer speaks of.
use Rattle.std.proofs.Common.{◌≡◌, ◌<◌, ℕ, List, [], ◌∷◌, length, Option, Some, arith, refl, sym, ◌∙◌, subst}
use Rattle.bb_outside.specs.Counts.{FileRead, Reads}
use Rattle.bb_frontend.specs.declared.limit.TheConstants.{READ_LIMIT}
use Rattle.bb_make.specs.Adders.{made_imp, made_spec}
use Rattle.bb_args.specs.Requests.{Refutation, requested_refutation}
use Rattle.bb_args.specs.Laws.{WordsRequestAtMostOne}
use Rattle.bb_ladder.specs.Calls.{Call}
use Rattle.bb_ladder.specs.Answers.{PairRequest, ImpUnread, ImpLong, BothRead, OfFiles, SpecUnread, SpecLong, SpecRead, MayAnswer, Usage, Comparing, Making, Refuting, FileTexts, MadeTexts, IsVerdict, pair_request_of}
use Rattle.bb_ladder.specs.CallRefusals.{AreReadsKnownOf}
use Rattle.bb_ladder.specs.GivenTexts.{AnsweredHaveGiven, Checked, Compared, HaveTexts}
use Rattle.bb_ladder.specs.MadePairs.{request_for}
use Rattle.bb_ladder.specs.Refutations.{Checks}
use Rattle.bb_ladder.specs.Sources.{AreBytes, Given, read_of}
use Rattle.bb_verdict.specs.InvariantAnswers.{AnswersTexts}
use Rattle.bb_ladder.proofs.HeadlineLemmas.{requests_no_comparison, requests_no_refutation, never_both, never_files_and_made, no_failure, no_refusal, same_question, same_refutation}
use Rattle.bb_ladder.proofs.SourceLemmas.{reported_after_one, reported_after_two}

no_unread : (status : ℕ) → status ≡ 2 → status ≡ 4 → ⊥
no_unread status two four = omega (arith, two, four)

not_less : (m n : ℕ) → m ≡ n → m < n → ⊥
not_less m n same less = omega (arith, same, less)

module _ (judged : List ℕ → List ℕ → ℕ → List ℕ → Type 0) (holds : List ℕ → Option (List ℕ)) (first second : List ℕ) (before after : Reads) (status : ℕ) (text : List ℕ)
    (earlier : List FileRead) (known : before.reported ≡ Some earlier) where
  pub files_gave : IsVerdict status → OfFiles judged holds first second before after status text → (a : List ℕ) × (b : List ℕ) × AreBytes Given holds before after first second a b
  files_gave is (SpecUnread c s t) = absurd (no_failure status is s)
  files_gave is (SpecLong bytes g full c s t) = absurd (no_refusal status is s)
  files_gave is (SpecRead bytes between g short c (ImpUnread d s t)) = absurd (no_failure status is s)
  files_gave is (SpecRead bytes between g short c (ImpLong other h full d s t)) = absurd (no_refusal status is s)
  files_gave is (SpecRead bytes between g short c (BothRead other h low d j)) =
      (bytes, other, (earlier, known, reported_after_two before between after first second (Some bytes) (Some other) earlier c d known))

  pub files_reported_of : status ≡ 2 → OfFiles judged holds first second before after status text → AreReadsKnownOf Given holds before after first second
  files_reported_of two (SpecUnread c s t) = absurd (no_unread status two s)
  files_reported_of two (SpecLong bytes g full c s t) =
      (bytes, ([], (earlier, known, reported_after_one before after first (Some bytes) earlier c known)), λ low. absurd (not_less (length bytes) READ_LIMIT full low))
  files_reported_of two (SpecRead bytes between g short c (ImpUnread d s t)) = absurd (no_unread status two s)
  files_reported_of two (SpecRead bytes between g short c (ImpLong other h full d s t)) =
      let were : AreBytes Given holds before after first second bytes other = (earlier, known, reported_after_two before between after first second (Some bytes) (Some other) earlier c d known) in
      (bytes, (read_of second other ∷ [], were), λ low. (other, were))
  files_reported_of two (SpecRead bytes between g short c (BothRead other h less d j)) =
      let were : AreBytes Given holds before after first second bytes other = (earlier, known, reported_after_two before between after first second (Some bytes) (Some other) earlier c d known) in
      (bytes, (read_of second other ∷ [], were), λ low. (other, were))

module _ (once : WordsRequestAtMostOne) (call : Call) (status : ℕ) (text : List ℕ) (earlier : List FileRead) (known : call.before.reported ≡ Some earlier) where
  texts_given : MayAnswer call status text → IsVerdict status → HaveTexts call
  texts_given (Usage none no_pair neither same s t) is = absurd (no_refusal status is s)
  texts_given (Comparing q requests files) is =
      let gave = files_gave (AnswersTexts q.requested) call.holds q.spec q.imp call.before call.after status text earlier known is files in
      Compared q.requested gave.0 gave.1 (FileTexts q requests refl gave.2)
  texts_given (Making m makes quiet judges) is = Compared (request_for m.fill m.options) (made_spec m.n) (made_imp m.n) (MadeTexts m makes refl refl refl)
  texts_given (Refuting f requests files) is =
      let gave = files_gave Checks call.holds f.cnf f.adds call.before call.after status text earlier known is files in
      Checked f gave.0 gave.1 (record { requests = requests; bytes = gave.2 })

  comparison_reported : status ≡ 2 → MayAnswer call status text → (q : PairRequest) → pair_request_of call.words ≡ Some q → AreReadsKnownOf Given call.holds call.before call.after q.spec q.imp
  comparison_reported two (Usage none no_pair neither same s t) q requests = absurd (requests_no_comparison q (pair_request_of call.words) none requests)
  comparison_reported two (Comparing p also files) q requests =
      subst (λ (z : PairRequest). AreReadsKnownOf Given call.holds call.before call.after z.spec z.imp) (same_question p q (sym also ∙ requests)) (files_reported_of (AnswersTexts p.requested) call.holds p.spec p.imp call.before call.after status text earlier known two files)
  comparison_reported two (Making m makes quiet judges) q requests = absurd (never_files_and_made once call.words q m requests makes)
  comparison_reported two (Refuting f also files) q requests = absurd (never_both once call.words q f requests also)

  refutation_reported : status ≡ 2 → MayAnswer call status text → (f : Refutation) → requested_refutation call.words ≡ Some f → AreReadsKnownOf Given call.holds call.before call.after f.cnf f.adds
  refutation_reported two (Usage none no_pair neither same s t) f requests = absurd (requests_no_refutation f (requested_refutation call.words) neither requests)
  refutation_reported two (Comparing q also files) f requests = absurd (never_both once call.words q f also requests)
  refutation_reported two (Making m makes quiet judges) f requests = absurd (once.not_made_and_refuted call.words m f makes requests)
  refutation_reported two (Refuting g also files) f requests =
      subst (λ (z : Refutation). AreReadsKnownOf Given call.holds call.before call.after z.cnf z.adds) (same_refutation g f (sym also ∙ requests)) (files_reported_of Checks call.holds g.cnf g.adds call.before call.after status text earlier known two files)

pub answered_have_given : WordsRequestAtMostOne → AnsweredHaveGiven
answered_have_given once call status text earlier may known = record {
  verdict = texts_given once call status text earlier known may;
  refusal = λ two. record {
    comparison = comparison_reported once call status text earlier known two may;
    refutation = refutation_reported once call status text earlier known two may;
  };
}
