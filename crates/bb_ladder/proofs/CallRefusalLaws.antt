-- Status 2 says the first refusal of the call, and a call that has one is reported it, unless a read failed.
use Rattle.std.proofs.Common.{◌≡◌, ◌<◌, ◌≤◌, ℕ, List, length, Option, Some, None, arith, refl, sym, ◌∙◌, ap, subst}
use Rattle.std.specs.Prelude.{codes}
use Rattle.bb_outside.specs.Counts.{IsRead, Reads}
use Rattle.bb_frontend.specs.declared.limit.TheConstants.{READ_LIMIT}
use Rattle.bb_make.specs.Adders.{made_imp, made_spec}
use Rattle.bb_args.specs.Requests.{MadePair, Refutation, requested_made_pair, requested_refutation}
use Rattle.bb_args.specs.Laws.{WordsRequestAtMostOne}
use Rattle.bb_ladder.specs.Calls.{Call}
use Rattle.bb_verdict.specs.declared.requested.TextComparison.{TextComparison}
use Rattle.bb_ladder.specs.Answers.{PairRequest, AfterSpec, ImpUnread, ImpLong, BothRead, OfFiles, SpecUnread, SpecLong, SpecRead, MayAnswer, Usage, Comparing, Making, Refuting, AreHeldBytes, pair_request_of}
use Rattle.bb_ladder.specs.MadePairs.{request_for}
use Rattle.bb_ladder.specs.CallRefusals.{IsCallRefusal, OfWords, OfComparison, OfMadePair, OfRefutation, IsFilesRefusal, OfSpecLength, OfImpLength, OfTexts, AreReadsKnown, AreReadsKnownOf, CallRefusalsAreOne, RefusalsAreReported, RefusedCallsAreReported}
use Rattle.bb_ladder.specs.Refutations.{CheckLaws, Checks, Faulty, IsCheckRefusal}
use Rattle.bb_ladder.specs.Sources.{AreBytes, IsFirstFile, MayHaveFailed, TextSource}
use Rattle.bb_verdict.specs.Laws.InvariantAnswers.{AnswersToTextsAreMeant}
use Rattle.bb_verdict.specs.Laws.TextPairs.{RefusalsAreOne}
use Rattle.bb_verdict.specs.InvariantAnswers.{AnswersTexts, IsRefusalLine, invariant_name, refusal_line_with}
use Rattle.bb_ladder.proofs.HeadlineLemmas.{alone_at_two, requests_no_comparison, requests_no_pair, requests_no_refutation, never_both, never_files_and_made, same_pair, same_question, same_refutation}
use Rattle.bb_ladder.proofs.SourceLemmas.{both_whole, failed_alone, failed_second, first_of_both, first_once, given_alone, given_first, given_long, given_never_long, given_never_short, given_second, given_whole, second_once}

apart : (a b : List ℕ) → a ≡ b → READ_LIMIT ≤ length a → length b < READ_LIMIT → ⊥
apart a b same long short = far (length a) (length b) READ_LIMIT (ap length same) long short
  where
    far : (m n limit : ℕ) → m ≡ n → limit ≤ m → n < limit → ⊥
    far m n limit e low high = omega (arith, e, low, high)

-- status 2 says the first refusal of two files, whatever is judged of their texts

module _ (judged : List ℕ → List ℕ → ℕ → List ℕ → Type 0) (refuses : List ℕ → List ℕ → List ℕ → Type 0)
    (first_refusal : (spec imp : List ℕ) (status : ℕ) (text : List ℕ) → judged spec imp status text → status ≡ 2 → refuses spec imp text)
    (from : TextSource) (holds : List ℕ → Option (List ℕ)) (first second : List ℕ) (before after : Reads) (line : List ℕ) where
  imp_refusal : (between : Reads) (spec imp bytes : List ℕ) → AreBytes from holds before after first second spec imp → length spec < READ_LIMIT → AreHeldBytes (holds first) bytes → length bytes < READ_LIMIT → IsRead before between first READ_LIMIT (Some (Some bytes))
      → AfterSpec judged (holds second) second between after bytes 2 line → IsFilesRefusal refuses from holds before after first second line
  imp_refusal between spec imp bytes both spec_short g short c (ImpUnread d s t) = absurd (omega (arith, s))
  imp_refusal between spec imp bytes both spec_short g short c (ImpLong other h full d s t) =
      OfImpLength spec imp both spec_short (given_long from other imp (given_second holds first second from before between after spec imp other (Some bytes) both h c d) full) t
  imp_refusal between spec imp bytes both spec_short g short c (BothRead other h low d is) =
      let whole = both_whole holds first second from before between after spec imp bytes other both g short c h low d in
      let texts = subst (λ z. judged z imp 2 line) whole.0 (subst (λ z. judged bytes z 2 line) whole.1 is) in
      OfTexts spec imp both spec_short (subst (λ z. length z < READ_LIMIT) whole.1 low) (first_refusal spec imp 2 line texts refl)

  spec_refusal : (between : Reads) (spec bytes : List ℕ) (gave : Option (List ℕ)) → IsFirstFile from holds before after first spec → AreHeldBytes (holds first) bytes → length bytes < READ_LIMIT → IsRead before between first READ_LIMIT (Some (Some bytes))
      → IsRead between after second READ_LIMIT (Some gave) → length spec < READ_LIMIT
  spec_refusal between spec bytes gave there g short c d =
      subst (λ z. length z < READ_LIMIT) (given_whole from bytes spec (given_first holds first second from before between after spec bytes gave there g c d) short) short

  pub files_refusal : AreReadsKnownOf from holds before after first second → OfFiles judged holds first second before after 2 line → IsFilesRefusal refuses from holds before after first second line
  files_refusal reported (SpecUnread c s t) = absurd (omega (arith, s))
  files_refusal (spec, there, rest) (SpecLong bytes g full c s t) = OfSpecLength spec there (given_long from bytes spec (given_alone holds first second from before after spec bytes there g c) full) t
  files_refusal (spec, there, rest) (SpecRead bytes between g short c (ImpUnread d s t)) = absurd (omega (arith, s))
  files_refusal (spec, there, rest) (SpecRead bytes between g short c (ImpLong other h full d s t)) =
      let low = spec_refusal between spec bytes (Some other) there g short c d in
      imp_refusal between spec (rest low).0 bytes (rest low).1 low g short c (ImpLong other h full d s t)
  files_refusal (spec, there, rest) (SpecRead bytes between g short c (BothRead other h less d is)) =
      let low = spec_refusal between spec bytes (Some other) there g short c d in
      imp_refusal between spec (rest low).0 bytes (rest low).1 low g short c (BothRead other h less d is)

pub refusals_are_reported : AnswersToTextsAreMeant → CheckLaws → RefusalsAreReported
refusals_are_reported meant laws call from line (Usage none no_pair neither same s t) reported = OfWords none no_pair neither t
refusals_are_reported meant laws call from line (Comparing q requests files) reported =
    OfComparison q requests (files_refusal (AnswersTexts q.requested) (IsRefusalLine q.requested) (λ spec imp status text answer. (meant q.requested spec imp status text answer).refused) from call.holds q.spec q.imp call.before call.after line (reported.comparison q requests) files)
refusals_are_reported meant laws call from line (Making m makes quiet judges) reported =
    let first = (meant (request_for m.fill m.options) (made_spec m.n) (made_imp m.n) 2 judges.0 judges.1).refused refl in
    OfMadePair m makes (first.0, first.1, alone_at_two m.n 2 judges.0 line refl judges.2 ∙ first.2)
refusals_are_reported meant laws call from line (Refuting f requests files) reported =
    OfRefutation f requests (files_refusal Checks IsCheckRefusal laws.refused from call.holds f.cnf f.adds call.before call.after line (reported.refutation f requests) files)

-- the same of a status that is 2
pub reported_at_two : RefusalsAreReported → (call : Call) (from : TextSource) (status : ℕ) (line : List ℕ)
    → MayAnswer call status line → status ≡ 2 → AreReadsKnown call from → IsCallRefusal call from line
reported_at_two law call from status line may two reported = law call from line (subst (λ n. MayAnswer call n line) two may) reported

-- two refusals of the same files are one

module _ (refuses : List ℕ → List ℕ → List ℕ → Type 0) (one : (spec imp line other : List ℕ) → refuses spec imp line → refuses spec imp other → line ≡ other)
    (from : TextSource) (holds : List ℕ → Option (List ℕ)) (first second : List ℕ) (before after : Reads) where
  -- the first text with what is known of the second, and without
  alone : (spec imp : List ℕ) → AreBytes from holds before after first second spec imp → IsFirstFile from holds before after first spec
  alone = first_of_both holds first second from before after

  same_first : (spec imp other more : List ℕ) → AreBytes from holds before after first second spec imp → AreBytes from holds before after first second other more → spec ≡ other
  same_first spec imp other more x y = first_once holds first second from before after spec other (alone spec imp x) (alone other more y)

  pub same_line : (line other : List ℕ) → IsFilesRefusal refuses from holds before after first second line → IsFilesRefusal refuses from holds before after first second other → line ≡ other
  same_line line other (OfSpecLength spec x long e) (OfSpecLength spec2 x2 long2 e2) = e ∙ sym e2
  same_line line other (OfSpecLength spec x long e) (OfImpLength spec2 imp2 x2 low2 long2 e2) =
      absurd (apart spec spec2 (first_once holds first second from before after spec spec2 x (alone spec2 imp2 x2)) long low2)
  same_line line other (OfSpecLength spec x long e) (OfTexts spec2 imp2 x2 low2 less2 is2) =
      absurd (apart spec spec2 (first_once holds first second from before after spec spec2 x (alone spec2 imp2 x2)) long low2)
  same_line line other (OfImpLength spec imp x low long e) (OfSpecLength spec2 x2 long2 e2) =
      absurd (apart spec2 spec (first_once holds first second from before after spec2 spec x2 (alone spec imp x)) long2 low)
  same_line line other (OfImpLength spec imp x low long e) (OfImpLength spec2 imp2 x2 low2 long2 e2) = e ∙ sym e2
  same_line line other (OfImpLength spec imp x low long e) (OfTexts spec2 imp2 x2 low2 less2 is2) =
      absurd (apart imp imp2 (second_once holds first second from before after spec imp spec2 imp2 x x2) long less2)
  same_line line other (OfTexts spec imp x low less is) (OfSpecLength spec2 x2 long2 e2) =
      absurd (apart spec2 spec (first_once holds first second from before after spec2 spec x2 (alone spec imp x)) long2 low)
  same_line line other (OfTexts spec imp x low less is) (OfImpLength spec2 imp2 x2 low2 long2 e2) =
      absurd (apart imp2 imp (second_once holds first second from before after spec2 imp2 spec imp x2 x) long2 less)
  same_line line other (OfTexts spec imp x low less is) (OfTexts spec2 imp2 x2 low2 less2 is2) =
      one spec imp line other is (subst (λ z. refuses z imp other) (same_first spec2 imp2 spec imp x2 x)
      (subst (λ z. refuses spec2 z other) (second_once holds first second from before after spec2 imp2 spec imp x2 x) is2))

-- and it is reported

module _ (judged : List ℕ → List ℕ → ℕ → List ℕ → Type 0) (refuses : List ℕ → List ℕ → List ℕ → Type 0)
    (once : (spec imp line : List ℕ) (status : ℕ) (text : List ℕ) → judged spec imp status text → refuses spec imp line → (status ≡ 2) × (text ≡ line))
    (from : TextSource) (holds : List ℕ → Option (List ℕ)) (first second : List ℕ) (before after : Reads) (line : List ℕ) (status : ℕ) (text : List ℕ) (calm : MayHaveFailed from before after → ⊥) where
  abbrev IsReported : Type 0
  IsReported = (status ≡ 2) × (text ≡ line)

  -- the first read gave less than the limit
  after_reported : (between : Reads) (bytes : List ℕ) → AreHeldBytes (holds first) bytes → length bytes < READ_LIMIT → IsRead before between first READ_LIMIT (Some (Some bytes))
      → IsFilesRefusal refuses from holds before after first second line → AfterSpec judged (holds second) second between after bytes status text → IsReported
  after_reported between bytes g short c (OfSpecLength spec x long is) (ImpUnread d s t) =
      absurd (given_never_short from bytes spec (given_first holds first second from before between after spec bytes None x g c d) short long)
  after_reported between bytes g short c (OfSpecLength spec x long is) (ImpLong other h full d s t) =
      absurd (given_never_short from bytes spec (given_first holds first second from before between after spec bytes (Some other) x g c d) short long)
  after_reported between bytes g short c (OfSpecLength spec x long is) (BothRead other h low d j) =
      absurd (given_never_short from bytes spec (given_first holds first second from before between after spec bytes (Some other) x g c d) short long)
  after_reported between bytes g short c (OfImpLength spec imp x low long is) (ImpUnread d s t) = absurd (calm (failed_second holds first second from before between after spec imp (Some bytes) x c d))
  after_reported between bytes g short c (OfImpLength spec imp x low long is) (ImpLong other h full d s t) = (s, t ∙ sym is)
  after_reported between bytes g short c (OfImpLength spec imp x low long is) (BothRead other h less d j) =
      absurd (given_never_short from other imp (given_second holds first second from before between after spec imp other (Some bytes) x h c d) less long)
  after_reported between bytes g short c (OfTexts spec imp x low less is) (ImpUnread d s t) = absurd (calm (failed_second holds first second from before between after spec imp (Some bytes) x c d))
  after_reported between bytes g short c (OfTexts spec imp x low less is) (ImpLong other h full d s t) =
      absurd (given_never_long from other imp (given_second holds first second from before between after spec imp other (Some bytes) x h c d) full less)
  after_reported between bytes g short c (OfTexts spec imp x low less is) (BothRead other h few d j) =
      let whole = both_whole holds first second from before between after spec imp bytes other x g short c h few d in
      once spec imp line status text (subst (λ z. judged z imp status text) whole.0 (subst (λ z. judged bytes z status text) whole.1 j)) is

  -- whichever refusal there is, the first file has bytes
  first_there : IsFilesRefusal refuses from holds before after first second line → (spec : List ℕ) × IsFirstFile from holds before after first spec
  first_there (OfSpecLength spec x long is) = (spec, x)
  first_there (OfImpLength spec imp x low long is) = (spec, first_of_both holds first second from before after spec imp x)
  first_there (OfTexts spec imp x low less is) = (spec, first_of_both holds first second from before after spec imp x)

  -- the first read gave as much as the limit
  long_reported : (bytes : List ℕ) → AreHeldBytes (holds first) bytes → length bytes ≡ READ_LIMIT → IsRead before after first READ_LIMIT (Some (Some bytes)) → status ≡ 2 → text ≡ codes "refused spec toolong\n"
      → IsFilesRefusal refuses from holds before after first second line → IsReported
  long_reported bytes g full c s t (OfSpecLength spec x long is) = (s, t ∙ sym is)
  long_reported bytes g full c s t (OfImpLength spec imp x low long is) =
      absurd (given_never_long from bytes spec (given_alone holds first second from before after spec bytes (first_of_both holds first second from before after spec imp x) g c) full low)
  long_reported bytes g full c s t (OfTexts spec imp x low less is) =
      absurd (given_never_long from bytes spec (given_alone holds first second from before after spec bytes (first_of_both holds first second from before after spec imp x) g c) full low)

  pub files_reported : IsFilesRefusal refuses from holds before after first second line → OfFiles judged holds first second before after status text → IsReported
  files_reported refusal (SpecUnread c s t) = let there = first_there refusal in absurd (calm (failed_alone holds first second from before after there.0 there.1 c))
  files_reported refusal (SpecLong bytes g full c s t) = long_reported bytes g full c s t refusal
  files_reported refusal (SpecRead bytes between g short c next) = after_reported between bytes g short c refusal next

pair_reported : AnswersToTextsAreMeant → (requested : TextComparison) (spec imp line : List ℕ) (status : ℕ) (text : List ℕ) → AnswersTexts requested spec imp status text → IsRefusalLine requested spec imp line → (status ≡ 2) × (text ≡ line)
pair_reported meant requested spec imp line status text answer = (meant requested spec imp status text answer).stays_refused line

pair_one : RefusalsAreOne → (requested : TextComparison) (spec imp line other : List ℕ) → IsRefusalLine requested spec imp line → IsRefusalLine requested spec imp other → line ≡ other
pair_one one requested spec imp line other (r, is, t) (q, also, u) = t ∙ ap (refusal_line_with (invariant_name requested)) (one requested spec imp r q is also) ∙ sym u

-- two lines that refuse a formula and additions are one, since each is the answer
check_one : CheckLaws → (first second line other : List ℕ) → IsCheckRefusal first second line → IsCheckRefusal first second other → line ≡ other
check_one laws first second line other is also = (laws.stays_refused first second 2 line other (Faulty is refl) also).1

-- the refusal of words that ask nothing, or for a comparison of files, a made pair or a refutation

module _ (once : WordsRequestAtMostOne) (call : Call) (from : TextSource) (line : List ℕ) where
  words_refused : pair_request_of call.words ≡ None → requested_made_pair call.words ≡ None → requested_refutation call.words ≡ None → IsCallRefusal call from line → line ≡ codes "refused usage\n"
  words_refused none no_pair neither (OfWords also unmade nor is) = is
  words_refused none no_pair neither (OfComparison q requests refusal) = absurd (requests_no_comparison q (pair_request_of call.words) none requests)
  words_refused none no_pair neither (OfMadePair m makes refusal) = absurd (requests_no_pair m (requested_made_pair call.words) no_pair makes)
  words_refused none no_pair neither (OfRefutation f requests refusal) = absurd (requests_no_refutation f (requested_refutation call.words) neither requests)

  comparison_refused : (q : PairRequest) → pair_request_of call.words ≡ Some q → IsCallRefusal call from line → IsFilesRefusal (IsRefusalLine q.requested) from call.holds call.before call.after q.spec q.imp line
  comparison_refused q requests (OfWords none unmade nor is) = absurd (requests_no_comparison q (pair_request_of call.words) none requests)
  comparison_refused q requests (OfComparison p also refusal) =
      subst (λ (z : PairRequest). IsFilesRefusal (IsRefusalLine z.requested) from call.holds call.before call.after z.spec z.imp line) (same_question p q (sym also ∙ requests)) refusal
  comparison_refused q requests (OfMadePair m makes refusal) = absurd (never_files_and_made once call.words q m requests makes)
  comparison_refused q requests (OfRefutation f also refusal) = absurd (never_both once call.words q f requests also)

  made_refused : (m : MadePair) → requested_made_pair call.words ≡ Some m → IsCallRefusal call from line → IsRefusalLine (request_for m.fill m.options) (made_spec m.n) (made_imp m.n) line
  made_refused m makes (OfWords none unmade nor is) = absurd (requests_no_pair m (requested_made_pair call.words) unmade makes)
  made_refused m makes (OfComparison q requests refusal) = absurd (never_files_and_made once call.words q m requests makes)
  made_refused m makes (OfMadePair p also refusal) = subst (λ (z : MadePair). IsRefusalLine (request_for z.fill z.options) (made_spec z.n) (made_imp z.n) line) (same_pair p m (sym also ∙ makes)) refusal
  made_refused m makes (OfRefutation f requests refusal) = absurd (once.not_made_and_refuted call.words m f makes requests)

  refutation_refused : (f : Refutation) → requested_refutation call.words ≡ Some f → IsCallRefusal call from line → IsFilesRefusal IsCheckRefusal from call.holds call.before call.after f.cnf f.adds line
  refutation_refused f requests (OfWords none unmade nor is) = absurd (requests_no_refutation f (requested_refutation call.words) nor requests)
  refutation_refused f requests (OfComparison q also refusal) = absurd (never_both once call.words q f also requests)
  refutation_refused f requests (OfMadePair m makes refusal) = absurd (once.not_made_and_refuted call.words m f makes requests)
  refutation_refused f requests (OfRefutation g also refusal) =
      subst (λ (z : Refutation). IsFilesRefusal IsCheckRefusal from call.holds call.before call.after z.cnf z.adds line) (same_refutation g f (sym also ∙ requests)) refusal

pub refused_calls_are_reported : WordsRequestAtMostOne → CheckLaws → AnswersToTextsAreMeant → RefusedCallsAreReported
refused_calls_are_reported once laws answered call from status text line (Usage none no_pair neither same s t) refused calm = (s, t ∙ sym (words_refused once call from line none no_pair neither refused))
refused_calls_are_reported once laws answered call from status text line (Comparing q requests files) refused calm =
    files_reported (AnswersTexts q.requested) (IsRefusalLine q.requested) (pair_reported answered q.requested) from call.holds q.spec q.imp call.before call.after line status text calm (comparison_refused once call from line q requests refused) files
refused_calls_are_reported once laws answered call from status text line (Making m makes quiet judges) refused calm =
    let reported = pair_reported answered (request_for m.fill m.options) (made_spec m.n) (made_imp m.n) line status judges.0 judges.1 (made_refused once call from line m makes refused) in
    (reported.0, alone_at_two m.n status judges.0 text reported.0 judges.2 ∙ reported.1)
refused_calls_are_reported once laws answered call from status text line (Refuting f requests files) refused calm =
    files_reported Checks IsCheckRefusal (λ first second reported n check_result checks is. laws.stays_refused first second n check_result reported checks is) from call.holds f.cnf f.adds call.before call.after line status text calm (refutation_refused once call from line f requests refused) files

pub call_refusals_are_one : WordsRequestAtMostOne → CheckLaws → RefusalsAreOne → CallRefusalsAreOne
call_refusals_are_one once laws one call from line other refused also = by (pair_request_of call.words) refl (requested_made_pair call.words) refl (requested_refutation call.words) refl
  where
    by : (o : Option PairRequest) → pair_request_of call.words ≡ o → (p : Option MadePair) → requested_made_pair call.words ≡ p → (r : Option Refutation) → requested_refutation call.words ≡ r → line ≡ other
    by None e None h None g = words_refused once call from line e h g refused ∙ sym (words_refused once call from other e h g also)
    by (Some q) e p h r g = same_line (IsRefusalLine q.requested) (pair_one one q.requested) from call.holds q.spec q.imp call.before call.after line other
        (comparison_refused once call from line q e refused) (comparison_refused once call from other q e also)
    by None e (Some m) h r g = pair_one one (request_for m.fill m.options) (made_spec m.n) (made_imp m.n) line other
        (made_refused once call from line m h refused) (made_refused once call from other m h also)
    by None e None h (Some f) g = same_line IsCheckRefusal (check_one laws) from call.holds f.cnf f.adds call.before call.after line other
        (refutation_refused once call from line f g refused) (refutation_refused once call from other f g also)
