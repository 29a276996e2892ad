-- What statuses 0, 1, 3 and 4 say of the two files: the tables of the report make the designs agree, no contents of the boxes do and
-- its vectors show mistakes, each check leaves the question open, or a read failed.
use Rattle.std.proofs.Common.{inl, inr, ◌≡◌, ◌<◌, ℕ, ◌==◌, Bool, true, false, if◌then◌else◌, List, ◌++◌, length, Option, Some, None, arith, codes, option_map, refl, sym, ◌∙◌, ap, subst}
use Rattle.bb_outside.specs.Counts.{IsRead, Reads, next_count}
use Rattle.bb_frontend.specs.declared.limit.TheConstants.{READ_LIMIT}
use Rattle.bb_verdict.specs.declared.requested.TextComparison.{TextComparison}
use Rattle.bb_make.specs.Adders.{made_imp, made_spec}
use Rattle.bb_args.specs.Requests.{MadePair, Refutation, Request, requested, requested_made_pair, requested_refutation}
use Rattle.bb_args.specs.Laws.{WordsRequestAtMostOne}
use Rattle.bb_ladder.specs.Answers.{AnswersSpeakOfTexts, PairRequest, AfterSpec, ImpUnread, ImpLong, BothRead, OfFiles, SpecUnread, SpecLong, SpecRead, MayAnswer, Usage, Comparing, Making, Refuting, AreRefutationTexts, AreTexts, FileTexts, MadeTexts, AreHeldBytes, IsReport, IsVerdict, pair_request, pair_request_of}
use Rattle.bb_ladder.specs.Calls.{Call}
use Rattle.bb_ladder.specs.MadePairs.{JudgesMade, request_for, head_by, head_of, made_head, made_text}
use Rattle.bb_ladder.specs.Refutations.{CheckLaws, Checks, FailsAt, Refutes, no_line}
use Rattle.bb_verdict.specs.Laws.InvariantAnswers.{AnswersToTextsAreMeant}
use Rattle.bb_ladder.specs.Sources.{AreBytes, TextSource}
use Rattle.bb_verdict.specs.InvariantAnswers.{AnswersTexts, AreLeftOpenWith, AreRefutedWith, AreShownWith, IsFinishedWith, IsOpenReportWith}
use Rattle.bb_verdict.specs.TextPairs.{DoFit}
use Rattle.bb_ladder.proofs.SourceLemmas.{both_whole}

pub same_question : (a b : PairRequest) → Some a ≡ Some b → a ≡ b
same_question a b e = cc

-- no words ask for both
pub never_both : WordsRequestAtMostOne → (words : List (List ℕ)) (q : PairRequest) (f : Refutation) → pair_request_of words ≡ Some q → requested_refutation words ≡ Some f → ⊥
never_both once words q f requests refutes = by (requested words) refl requests
  where
    no : None ≡ Some q → ⊥
    no e = cc e

    by : (o : Option Request) → requested words ≡ o → option_map pair_request o ≡ Some q → ⊥
    by None e none = no none
    by (Some r) e some = once.not_both words r f e refutes

pub never_files_and_made : WordsRequestAtMostOne → (words : List (List ℕ)) (q : PairRequest) (m : MadePair) → pair_request_of words ≡ Some q → requested_made_pair words ≡ Some m → ⊥
never_files_and_made once words q m requests makes = by (requested words) refl requests
  where
    no : None ≡ Some q → ⊥
    no e = cc e

    by : (o : Option Request) → requested words ≡ o → option_map pair_request o ≡ Some q → ⊥
    by None e none = no none
    by (Some r) e some = once.not_files_and_made words r m e makes

pub requests_no_pair : (m : MadePair) (o : Option MadePair) → o ≡ None → o ≡ Some m → ⊥
requests_no_pair m o none some = no (sym none ∙ some)
  where
    no : None ≡ Some m → ⊥
    no e = cc e

pub same_pair : (a b : MadePair) → Some a ≡ Some b → a ≡ b
same_pair a b e = cc

-- before the report of files there is nothing
no_head : WordsRequestAtMostOne → (words : List (List ℕ)) (q : PairRequest) (text : List ℕ) → pair_request_of words ≡ Some q → text ≡ head_of words ++ text
no_head once words q text requests = by (requested_made_pair words) refl
  where
    by : (o : Option MadePair) → requested_made_pair words ≡ o → text ≡ head_by o ++ text
    by None e = refl
    by (Some m) e = absurd (never_files_and_made once words q m requests e)

is_two : (n : ℕ) → (n == 2) ≡ true → n ≡ 2
is_two n same = grind (arith, same)

-- what is written of a made pair, unless it is refused, follows its head
pub after_head : (words : List (List ℕ)) (m : MadePair) (status : ℕ) (reported text : List ℕ) → requested_made_pair words ≡ Some m → (status ≡ 2 → ⊥) → text ≡ made_text m.n status reported → text ≡ head_of words ++ reported
after_head words m status reported text makes other e = e ∙ by (status == 2) refl ∙ ap (λ o. head_by o ++ reported) (sym makes)
  where
    by : (b : Bool) → (status == 2) ≡ b → (if b then reported else made_head m.n ++ reported) ≡ made_head m.n ++ reported
    by false h = refl
    by true h = absurd (other (is_two status h))

-- and a refusal alone
pub alone_at_two : (n status : ℕ) (reported text : List ℕ) → status ≡ 2 → text ≡ made_text n status reported → text ≡ reported
alone_at_two n status reported text two e = e ∙ by (status == 2) refl
  where
    by : (b : Bool) → (status == 2) ≡ b → (if b then reported else made_head n ++ reported) ≡ reported
    by true h = refl
    by false h = absurd (no (sym h ∙ ap (λ s. s == 2) two))
      where
        no : false ≡ true → ⊥
        no x = cc x

pub requests_no_comparison : (q : PairRequest) (o : Option PairRequest) → o ≡ None → o ≡ Some q → ⊥
requests_no_comparison q o none some = no (sym none ∙ some)
  where
    no : None ≡ Some q → ⊥
    no e = cc e

pub requests_no_refutation : (f : Refutation) (o : Option Refutation) → o ≡ None → o ≡ Some f → ⊥
requests_no_refutation f o none some = no (sym none ∙ some)
  where
    no : None ≡ Some f → ⊥
    no e = cc e

pub same_refutation : (a b : Refutation) → Some a ≡ Some b → a ≡ b
same_refutation a b e = cc

-- what a status says of two texts that are judged, where no refusal and no failed read has that status
module _ (judged : List ℕ → List ℕ → ℕ → List ℕ → Type 0) (so : List ℕ → List ℕ → List ℕ → Type 0) (n : ℕ) (not_refused : n ≡ 2 → ⊥) (not_unread : n ≡ 4 → ⊥)
    (each : (spec imp : List ℕ) (status : ℕ) (text : List ℕ) → judged spec imp status text → status ≡ n → so spec imp text) where
  after_so : (from : TextSource) (holds : List ℕ → Option (List ℕ)) (first second : List ℕ) (before between after : Reads) (spec imp bytes text : List ℕ) (status : ℕ) → AreBytes from holds before after first second spec imp
      → AreHeldBytes (holds first) bytes → length bytes < READ_LIMIT → IsRead before between first READ_LIMIT (Some (Some bytes)) → AfterSpec judged (holds second) second between after bytes status text → status ≡ n → so spec imp text
  after_so from holds first second before between after spec imp bytes text status both g short c (ImpUnread d s t) is = absurd (not_unread (sym is ∙ s))
  after_so from holds first second before between after spec imp bytes text status both g short c (ImpLong other h l d s t) is = absurd (not_refused (sym is ∙ s))
  after_so from holds first second before between after spec imp bytes text status both g short c (BothRead other h low d j) is =
      let whole = both_whole holds first second from before between after spec imp bytes other both g short c h low d in
      subst (λ m. so m imp text) whole.0 (subst (λ m. so bytes m text) whole.1 (each bytes other status text j is))

  pub files_so : (from : TextSource) (holds : List ℕ → Option (List ℕ)) (first second : List ℕ) (before after : Reads) (spec imp text : List ℕ) (status : ℕ) → AreBytes from holds before after first second spec imp
      → OfFiles judged holds first second before after status text → status ≡ n → so spec imp text
  files_so from holds first second before after spec imp text status both (SpecUnread c s t) is = absurd (not_unread (sym is ∙ s))
  files_so from holds first second before after spec imp text status both (SpecLong other g l c s t) is = absurd (not_refused (sym is ∙ s))
  files_so from holds first second before after spec imp text status both (SpecRead other between g short c a) is =
      after_so from holds first second before between after spec imp other text status both g short c a is

-- the same of a comparison, of files or of a made pair
module _ (once : WordsRequestAtMostOne) (so : TextComparison → List ℕ → List ℕ → List ℕ → Type 0) (n : ℕ) (not_refused : n ≡ 2 → ⊥) (not_unread : n ≡ 4 → ⊥)
    (judged : (requested : TextComparison) (spec imp : List ℕ) (status : ℕ) (text : List ℕ) → AnswersTexts requested spec imp status text → status ≡ n → so requested spec imp text) where
  made_so : (words : List (List ℕ)) (status : ℕ) (text : List ℕ) (known m : MadePair) → JudgesMade known status text → requested_made_pair words ≡ Some m → known ≡ m → status ≡ n
      → IsReport so words (request_for m.fill m.options) (made_spec m.n) (made_imp m.n) text
  made_so words status text known m judges makes same is =
      let of_m = subst (λ z. JudgesMade z status text) same judges in
      (of_m.0, after_head words m status of_m.0 text makes (λ two. not_refused (sym is ∙ two)) of_m.2, judged (request_for m.fill m.options) (made_spec m.n) (made_imp m.n) status of_m.0 of_m.1 is)

  answer_so : (call : Call) (from : TextSource) (status : ℕ) (text : List ℕ) (requested : TextComparison) (spec imp : List ℕ) → MayAnswer call status text → status ≡ n
      → AreTexts call from requested spec imp → IsReport so call.words requested spec imp text
  answer_so call from status text requested spec imp (Usage none no_pair neither c s t) is texts = absurd (not_refused (sym is ∙ s))
  answer_so call from status text requested spec imp (Comparing known e files) is (FileTexts q requests same both) = (
    text,
    no_head once call.words q text requests,
    subst (λ z. so z spec imp text) (sym same)
        (files_so (AnswersTexts q.requested) (so q.requested) n not_refused not_unread (judged q.requested) from call.holds q.spec q.imp call.before call.after spec imp text status both
        (subst (λ (z : PairRequest). OfFiles (AnswersTexts z.requested) call.holds z.spec z.imp call.before call.after status text) (same_question known q (sym e ∙ requests)) files) is),
  )
  answer_so call from status text requested spec imp (Comparing known e files) is (MadeTexts m makes a x y) = absurd (never_files_and_made once call.words known m e makes)
  answer_so call from status text requested spec imp (Making known e quiet judges) is (FileTexts q requests same both) = absurd (never_files_and_made once call.words q known requests e)
  answer_so call from status text requested spec imp (Making known e quiet judges) is (MadeTexts m makes a x y) =
      subst (λ z. IsReport so call.words z spec imp text) (sym a) (subst (λ z. IsReport so call.words (request_for m.fill m.options) z imp text) (sym x) (subst (λ z. IsReport so call.words (request_for m.fill m.options) (made_spec m.n) z text) (sym y)
      (made_so call.words status text known m judges makes (same_pair known m (sym e ∙ makes)) is)))
  answer_so call from status text requested spec imp (Refuting f e files) is (FileTexts q requests same both) = absurd (never_both once call.words q f requests e)
  answer_so call from status text requested spec imp (Refuting f e files) is (MadeTexts m makes a x y) = absurd (once.not_made_and_refuted call.words m f makes e)

-- and of a refutation
module _ (once : WordsRequestAtMostOne) (so : List ℕ → List ℕ → List ℕ → Type 0) (n : ℕ) (not_refused : n ≡ 2 → ⊥) (not_unread : n ≡ 4 → ⊥)
    (checked : (first second : List ℕ) (status : ℕ) (text : List ℕ) → Checks first second status text → status ≡ n → so first second text) where
  refutation_so : (call : Call) (from : TextSource) (status : ℕ) (text : List ℕ) (f : Refutation) (first second : List ℕ) → MayAnswer call status text → status ≡ n
      → AreRefutationTexts call from f first second → so first second text
  refutation_so call from status text f first second (Usage none no_pair neither c s t) is texts = absurd (not_refused (sym is ∙ s))
  refutation_so call from status text f first second (Comparing q e files) is texts = absurd (never_both once call.words q f e texts.requests)
  refutation_so call from status text f first second (Making m e quiet judges) is texts = absurd (once.not_made_and_refuted call.words m f e texts.requests)
  refutation_so call from status text f first second (Refuting known e files) is texts =
      files_so Checks so n not_refused not_unread checked from call.holds f.cnf f.adds call.before call.after first second text status texts.bytes
      (subst (λ (z : Refutation). OfFiles Checks call.holds z.cnf z.adds call.before call.after status text) (same_refutation known f (sym e ∙ texts.requests)) files) is

-- no verdict is the status of a refusal or of a failed read

pub no_refusal : (status : ℕ) → IsVerdict status → status ≡ 2 → ⊥
no_refusal status (inl (inl zero)) two = omega (arith, zero, two)
no_refusal status (inl (inr one)) two = omega (arith, one, two)
no_refusal status (inr three) two = omega (arith, three, two)

pub no_failure : (status : ℕ) → IsVerdict status → status ≡ 4 → ⊥
no_failure status (inl (inl zero)) four = omega (arith, zero, four)
no_failure status (inl (inr one)) four = omega (arith, one, four)
no_failure status (inr three) four = omega (arith, three, four)

-- what each status says of the texts of a call
module _ (once : WordsRequestAtMostOne) (meant : AnswersToTextsAreMeant) where
  pub answers_speak : AnswersSpeakOfTexts
  answers_speak call from status text requested spec imp may texts = record {
    judged = λ verdict. answer_so once (λ requested spec imp text. AnswersTexts requested spec imp status text) status (no_refusal status verdict) (no_failure status verdict)
        (λ requested spec imp other text judged same. subst (λ n. AnswersTexts requested spec imp n text) same judged) call from status text requested spec imp may refl texts;
    finished = λ zero. answer_so once IsFinishedWith 0 (λ e. omega (arith, e)) (λ e. omega (arith, e))
        (λ requested spec imp status text answer. (meant requested spec imp status text answer).finished) call from status text requested spec imp may zero texts;
    refuted = λ one. (answer_so once (λ requested spec imp text. AreRefutedWith requested spec imp) 1 (λ e. omega (arith, e)) (λ e. omega (arith, e))
        (λ requested spec imp status text answer. (meant requested spec imp status text answer).refuted) call from status text requested spec imp may one texts).2;
    fit = λ verdict. (answer_so once (λ requested spec imp text. DoFit requested spec imp) status (no_refusal status verdict) (no_failure status verdict)
        (λ requested spec imp other text answer same. (meant requested spec imp other text answer).fit (λ two. no_refusal status verdict (sym same ∙ two))) call from status text requested spec imp may refl texts).2;
    shown = λ one. answer_so once AreShownWith 1 (λ e. omega (arith, e)) (λ e. omega (arith, e))
        (λ requested spec imp status text answer. (meant requested spec imp status text answer).shown) call from status text requested spec imp may one texts;
    left_open = λ three. (answer_so once (λ requested spec imp text. AreLeftOpenWith requested spec imp) 3 (λ e. omega (arith, e)) (λ e. omega (arith, e))
        (λ requested spec imp status text answer. (meant requested spec imp status text answer).left_open) call from status text requested spec imp may three texts).2;
    open_report = λ three. answer_so once IsOpenReportWith 3 (λ e. omega (arith, e)) (λ e. omega (arith, e))
        (λ requested spec imp status text answer. (meant requested spec imp status text answer).open_report) call from status text requested spec imp may three texts;
  }

-- with --rup what is written is the answer to the two texts
pub yes_sound : WordsRequestAtMostOne → CheckLaws → (call : Call) (from : TextSource) (status : ℕ) (text : List ℕ) (f : Refutation) (first second : List ℕ) → MayAnswer call status text → status ≡ 0
    → AreRefutationTexts call from f first second → (text ≡ codes "rup yes\n") × Refutes first second
yes_sound once laws = refutation_so once (λ first second text. (text ≡ codes "rup yes\n") × Refutes first second) 0 (λ e. omega (arith, e)) (λ e. omega (arith, e)) laws.yes

pub no_sound : WordsRequestAtMostOne → CheckLaws → (call : Call) (from : TextSource) (status : ℕ) (text : List ℕ) (f : Refutation) (first second : List ℕ) → MayAnswer call status text → status ≡ 1
    → AreRefutationTexts call from f first second → (n : ℕ) × (text ≡ no_line n) × FailsAt first second n
no_sound once laws = refutation_so once (λ first second text. (n : ℕ) × (text ≡ no_line n) × FailsAt first second n) 1 (λ e. omega (arith, e)) (λ e. omega (arith, e)) laws.no

-- no text that is judged gives the status of a failed read
never_unread : AnswersToTextsAreMeant → (requested : TextComparison) (spec imp : List ℕ) (status : ℕ) (text : List ℕ) → AnswersTexts requested spec imp status text → status ≡ 4 → ⊥
never_unread meant requested spec imp status text answer = (meant requested spec imp status text answer).readable

-- a read that gave bytes counts no failure
gave_bytes : (before after : Reads) (name : List ℕ) (limit : ℕ) (bytes : List ℕ) → IsRead before after name limit (Some (Some bytes)) → after.faults ≡ before.faults
gave_bytes before after name limit bytes read = read.failed.1 (λ e. cc e)

-- where a failed read is reported, one was counted
files_unread : (judged : List ℕ → List ℕ → ℕ → List ℕ → Type 0) → ((spec imp : List ℕ) (status : ℕ) (text : List ℕ) → judged spec imp status text → status ≡ 4 → ⊥)
    → (holds : List ℕ → Option (List ℕ)) (first second : List ℕ) (before after : Reads) (status : ℕ) (text : List ℕ) → OfFiles judged holds first second before after status text → status ≡ 4 → after.faults ≡ next_count before.faults
files_unread judged never holds first second before after status text (SpecUnread c s t) four = c.failed.0 refl
files_unread judged never holds first second before after status text (SpecLong spec g l c s t) four = absurd (omega (arith, s, four))
files_unread judged never holds first second before after status text (SpecRead spec between g short c (ImpUnread d s t)) four =
    d.failed.0 refl ∙ ap next_count (gave_bytes before between first READ_LIMIT spec c)
files_unread judged never holds first second before after status text (SpecRead spec between g short c (ImpLong imp h l d s t)) four = absurd (omega (arith, s, four))
files_unread judged never holds first second before after status text (SpecRead spec between g short c (BothRead imp h low d j)) four = absurd (never spec imp status text j four)

pub unread_counted : AnswersToTextsAreMeant → CheckLaws → (call : Call) (status : ℕ) (text : List ℕ) → MayAnswer call status text → status ≡ 4
    → call.after.faults ≡ next_count call.before.faults
unread_counted meant laws call status text (Usage none no_pair neither c s t) four = absurd (omega (arith, s, four))
unread_counted meant laws call status text (Comparing q e files) four = files_unread (AnswersTexts q.requested) (never_unread meant q.requested) call.holds q.spec q.imp call.before call.after status text files four
unread_counted meant laws call status text (Making m e quiet judges) four = absurd (never_unread meant (request_for m.fill m.options) (made_spec m.n) (made_imp m.n) status judges.0 judges.1 four)
unread_counted meant laws call status text (Refuting f e files) four =
    files_unread Checks (λ first second n line checks. (laws.small first second n line checks).1) call.holds f.cnf f.adds call.before call.after status text files four

-- and elsewhere none is
files_gave_bytes : (judged : List ℕ → List ℕ → ℕ → List ℕ → Type 0) (holds : List ℕ → Option (List ℕ)) (first second : List ℕ) (before after : Reads) (status : ℕ) (text : List ℕ) → OfFiles judged holds first second before after status text
    → status < 4 → after.faults ≡ before.faults
files_gave_bytes judged holds first second before after status text (SpecUnread c s t) small = absurd (omega (arith, s, small))
files_gave_bytes judged holds first second before after status text (SpecLong spec g l c s t) small = gave_bytes before after first READ_LIMIT spec c
files_gave_bytes judged holds first second before after status text (SpecRead spec between g short c (ImpUnread d s t)) small = absurd (omega (arith, s, small))
files_gave_bytes judged holds first second before after status text (SpecRead spec between g short c (ImpLong imp h l d s t)) small =
    gave_bytes between after second READ_LIMIT imp d ∙ gave_bytes before between first READ_LIMIT spec c
files_gave_bytes judged holds first second before after status text (SpecRead spec between g short c (BothRead imp h low d j)) small =
    gave_bytes between after second READ_LIMIT imp d ∙ gave_bytes before between first READ_LIMIT spec c

pub none_counted : (call : Call) (status : ℕ) (text : List ℕ) → MayAnswer call status text → status < 4 → call.after.faults ≡ call.before.faults
none_counted call status text (Usage none no_pair neither c s t) small = ap (λ (r : Reads). r.faults) c
none_counted call status text (Comparing q e files) small = files_gave_bytes (AnswersTexts q.requested) call.holds q.spec q.imp call.before call.after status text files small
none_counted call status text (Making m e quiet judges) small = ap (λ (r : Reads). r.faults) quiet
none_counted call status text (Refuting f e files) small = files_gave_bytes Checks call.holds f.cnf f.adds call.before call.after status text files small

-- of a made pair none is reported
pub made_is_read : AnswersToTextsAreMeant → WordsRequestAtMostOne → (m : MadePair) (call : Call) (status : ℕ) (text : List ℕ) → requested_made_pair call.words ≡ Some m → MayAnswer call status text → status ≡ 4 → ⊥
made_is_read meant once m call status text makes (Usage none no_pair neither c s t) four = omega (arith, s, four)
made_is_read meant once m call status text makes (Comparing q e files) four = never_files_and_made once call.words q m e makes
made_is_read meant once m call status text makes (Making known e quiet judges) four = never_unread meant (request_for known.fill known.options) (made_spec known.n) (made_imp known.n) status judges.0 judges.1 four
made_is_read meant once m call status text makes (Refuting f e files) four = once.not_made_and_refuted call.words m f makes e

-- no refutation is left open
files_never_open : CheckLaws → (holds : List ℕ → Option (List ℕ)) (first second : List ℕ) (before after : Reads) (status : ℕ) (text : List ℕ) → OfFiles Checks holds first second before after status text → status ≡ 3 → ⊥
files_never_open laws holds first second before after status text (SpecUnread c s t) three = omega (arith, s, three)
files_never_open laws holds first second before after status text (SpecLong spec g l c s t) three = omega (arith, s, three)
files_never_open laws holds first second before after status text (SpecRead spec between g short c (ImpUnread d s t)) three = omega (arith, s, three)
files_never_open laws holds first second before after status text (SpecRead spec between g short c (ImpLong imp h l d s t)) three = omega (arith, s, three)
files_never_open laws holds first second before after status text (SpecRead spec between g short c (BothRead imp h low d j)) three = (laws.small spec imp status text j).0 three

pub open_compares : WordsRequestAtMostOne → CheckLaws → (call : Call) (status : ℕ) (text : List ℕ) → MayAnswer call status text → status ≡ 3
    → requested_refutation call.words ≡ None
open_compares once laws call status text (Usage none no_pair neither c s t) three = neither
open_compares once laws call status text (Refuting f e files) three = absurd (files_never_open laws call.holds f.cnf f.adds call.before call.after status text files three)
open_compares once laws call status text (Making m e quiet judges) three = by (requested_refutation call.words) refl
  where
    by : (o : Option Refutation) → requested_refutation call.words ≡ o → o ≡ None
    by None same = refl
    by (Some f) same = absurd (once.not_made_and_refuted call.words m f e same)
open_compares once laws call status text (Comparing q e files) three = by (requested_refutation call.words) refl
  where
    by : (o : Option Refutation) → requested_refutation call.words ≡ o → o ≡ None
    by None same = refl
    by (Some f) same = absurd (never_both once call.words q f e same)
