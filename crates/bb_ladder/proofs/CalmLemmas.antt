-- What is answered to texts within the limit, where no read failed: an error or tables where a check decides, no verdict where each leaves the
-- question open, and whether a refutation follows.
use Rattle.std.proofs.Common.{◌≡◌, ◌<◌, ◌⊎◌, ℕ, List, length, Option, Some, sym, ◌∙◌, subst}
use Rattle.bb_outside.specs.Counts.{IsRead, Reads}
use Rattle.bb_frontend.specs.declared.limit.TheConstants.{READ_LIMIT}
use Rattle.bb_ladder.specs.Calls.{Call}
use Rattle.bb_verdict.specs.declared.requested.TextComparison.{TextComparison}
use Rattle.bb_cnf.specs.Clauses.{Formula}
use Rattle.bb_cnf.specs.declared.clauses.Lit.{Lit}
use Rattle.bb_make.specs.Adders.{made_imp, made_spec}
use Rattle.bb_args.specs.Requests.{Refutation, requested_made_pair, requested_refutation}
use Rattle.bb_args.specs.Laws.{WordsRequestAtMostOne}
use Rattle.bb_ladder.specs.Answers.{PairRequest, AfterSpec, ImpUnread, ImpLong, BothRead, OfFiles, SpecUnread, SpecLong, SpecRead, MayAnswer, Usage, Comparing, Making, Refuting, AreRefutationTexts, AreTexts, FileTexts, MadeTexts, AreHeldBytes, pair_request_of}
use Rattle.bb_ladder.specs.MadePairs.{JudgesMade, request_for}
use Rattle.bb_ladder.specs.Refutations.{AreRead, CheckLaws, Checks, ReportsWhether}
use Rattle.bb_ladder.specs.Sources.{AreBytes, MayHaveFailed, TextSource}
use Rattle.bb_verdict.specs.InvariantAnswers.{AnswersTexts, AreDecidedWith}
use Rattle.bb_verdict.specs.Laws.InvariantAnswers.{AnswersToTextsAreMeant}
use Rattle.bb_verdict.specs.TextPairs.{AreStayingOpen}
use Rattle.bb_ladder.proofs.SourceLemmas.{both_whole, failed_alone, failed_second, first_of_both, given_alone, given_never_long, given_second}
use Rattle.bb_ladder.proofs.HeadlineLemmas.{requests_no_comparison, requests_no_pair, requests_no_refutation, never_both, never_files_and_made, same_pair, same_question, same_refutation}

-- what is answered to two texts within the limit, where no read failed
module _ (judged : List ℕ → List ℕ → ℕ → List ℕ → Type 0) (spec imp : List ℕ) (S : ℕ → Type 0) (answered : (status : ℕ) (text : List ℕ) → judged spec imp status text → S status)
    (spec_short : length spec < READ_LIMIT) (imp_short : length imp < READ_LIMIT) (from : TextSource) (holds : List ℕ → Option (List ℕ)) (first second : List ℕ) (before after : Reads)
    (both : AreBytes from holds before after first second spec imp) (calm : MayHaveFailed from before after → ⊥) where
  after_answered : (between : Reads) (bytes : List ℕ) (status : ℕ) (text : List ℕ) → AreHeldBytes (holds first) bytes → length bytes < READ_LIMIT → IsRead before between first READ_LIMIT (Some (Some bytes))
      → AfterSpec judged (holds second) second between after bytes status text → S status
  after_answered between bytes status text g short c (ImpUnread d s t) = absurd (calm (failed_second holds first second from before between after spec imp (Some bytes) both c d))
  after_answered between bytes status text g short c (ImpLong long h l d s t) =
      absurd (given_never_long from long imp (given_second holds first second from before between after spec imp long (Some bytes) both h c d) l imp_short)
  after_answered between bytes status text g short c (BothRead read h low d j) =
      let whole = both_whole holds first second from before between after spec imp bytes read both g short c h low d in
      answered status text (subst (λ z. judged z imp status text) whole.0 (subst (λ z. judged bytes z status text) whole.1 j))

  pub files_answered : (status : ℕ) (text : List ℕ) → OfFiles judged holds first second before after status text → S status
  files_answered status text (SpecUnread c s t) =
      absurd (calm (failed_alone holds first second from before after spec (first_of_both holds first second from before after spec imp both) c))
  files_answered status text (SpecLong long g l c s t) =
      absurd (given_never_long from long spec (given_alone holds first second from before after spec long (first_of_both holds first second from before after spec imp both) g c) l spec_short)
  files_answered status text (SpecRead bytes between g short c a) = after_answered between bytes status text g short c a

-- the same of a comparison
module _ (once : WordsRequestAtMostOne) (P : TextComparison → List ℕ → List ℕ → Type 0) (S : ℕ → Type 0) (answered : (requested : TextComparison) (spec imp : List ℕ) (status : ℕ) (text : List ℕ) → AnswersTexts requested spec imp status text → P requested spec imp → S status)
    (requested : TextComparison) (spec imp : List ℕ) (spec_short : length spec < READ_LIMIT) (imp_short : length imp < READ_LIMIT) (is : P requested spec imp) where
  words_answered : (call : Call) (from : TextSource) (status : ℕ) (text : List ℕ) → AreTexts call from requested spec imp → (MayHaveFailed from call.before call.after → ⊥)
      → MayAnswer call status text → S status
  words_answered call from status text (FileTexts q requests same both) calm (Usage none no_pair neither c s t) = absurd (requests_no_comparison q (pair_request_of call.words) none requests)
  words_answered call from status text (FileTexts q requests same both) calm (Comparing known e files) =
      files_answered (AnswersTexts q.requested) spec imp S (λ n line j. answered q.requested spec imp n line j (subst (λ z. P z spec imp) same is)) spec_short imp_short from call.holds q.spec q.imp call.before call.after both calm status text
      (subst (λ (z : PairRequest). OfFiles (AnswersTexts z.requested) call.holds z.spec z.imp call.before call.after status text) (same_question known q (sym e ∙ requests)) files)
  words_answered call from status text (FileTexts q requests same both) calm (Making m e quiet judges) = absurd (never_files_and_made once call.words q m requests e)
  words_answered call from status text (FileTexts q requests same both) calm (Refuting f e files) = absurd (never_both once call.words q f requests e)
  words_answered call from status text (MadeTexts m makes a x y) calm (Usage none no_pair neither c s t) = absurd (requests_no_pair m (requested_made_pair call.words) no_pair makes)
  words_answered call from status text (MadeTexts m makes a x y) calm (Comparing q e files) = absurd (never_files_and_made once call.words q m e makes)
  words_answered call from status text (MadeTexts m makes a x y) calm (Making known e quiet judges) =
      let of_m = subst (λ z. JudgesMade z status text) (same_pair known m (sym e ∙ makes)) judges in
      answered (request_for m.fill m.options) (made_spec m.n) (made_imp m.n) status of_m.0 of_m.1 (subst (λ z. P (request_for m.fill m.options) (made_spec m.n) z) y (subst (λ z. P (request_for m.fill m.options) z imp) x (subst (λ z. P z spec imp) a is)))
  words_answered call from status text (MadeTexts m makes a x y) calm (Refuting f e files) = absurd (once.not_made_and_refuted call.words m f makes e)

pub decided_sound : WordsRequestAtMostOne → AnswersToTextsAreMeant → (requested : TextComparison) (spec imp : List ℕ) → length spec < READ_LIMIT → length imp < READ_LIMIT → AreDecidedWith requested spec imp
    → (call : Call) (from : TextSource) (status : ℕ) (text : List ℕ) → AreTexts call from requested spec imp → (MayHaveFailed from call.before call.after → ⊥)
    → MayAnswer call status text → (status ≡ 0) ⊎ (status ≡ 1)
decided_sound once meant = words_answered once AreDecidedWith (λ status. (status ≡ 0) ⊎ (status ≡ 1)) (λ requested spec imp status text answer. (meant requested spec imp status text answer).decided)

pub open_complete : WordsRequestAtMostOne → AnswersToTextsAreMeant → (requested : TextComparison) (spec imp : List ℕ) → length spec < READ_LIMIT → length imp < READ_LIMIT → AreStayingOpen requested spec imp
    → (call : Call) (from : TextSource) (status : ℕ) (text : List ℕ) → AreTexts call from requested spec imp → (MayHaveFailed from call.before call.after → ⊥)
    → MayAnswer call status text → status ≡ 3
open_complete once meant = words_answered once AreStayingOpen (λ status. status ≡ 3) (λ requested spec imp status text answer. (meant requested spec imp status text answer).stays_open)

-- and of a refutation
pub refuted_sound : WordsRequestAtMostOne → CheckLaws → (f : Refutation) (first second : List ℕ) (formula : Formula) (adds : List (List Lit)) → length first < READ_LIMIT → length second < READ_LIMIT → AreRead first second formula adds
    → (call : Call) (from : TextSource) (status : ℕ) (text : List ℕ) → AreRefutationTexts call from f first second → (MayHaveFailed from call.before call.after → ⊥)
    → MayAnswer call status text → ReportsWhether formula adds status
refuted_sound once laws f first second formula adds short also read call from status text texts calm (Usage none no_pair neither c s t) = absurd (requests_no_refutation f (requested_refutation call.words) neither texts.requests)
refuted_sound once laws f first second formula adds short also read call from status text texts calm (Comparing q e files) = absurd (never_both once call.words q f e texts.requests)
refuted_sound once laws f first second formula adds short also read call from status text texts calm (Making m e quiet judges) = absurd (once.not_made_and_refuted call.words m f e texts.requests)
refuted_sound once laws f first second formula adds short also read call from status text texts calm (Refuting known e files) =
    files_answered Checks first second (ReportsWhether formula adds) (λ n line checks. laws.decided first second formula adds n line read checks) short also from call.holds f.cnf f.adds call.before call.after texts.bytes calm status text
    (subst (λ (z : Refutation). OfFiles Checks call.holds z.cnf z.adds call.before call.after status text) (same_refutation known f (sym e ∙ texts.requests)) files)
