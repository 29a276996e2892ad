-- The possible answers of the program: a status and a text, given the words, what the files hold, and the reads before
-- and after.
use Rattle.std.specs.Prelude.{◌≡◌, ◌⊎◌, ℕ, ◌<◌, List, ◌++◌, length, take, Option, None, Some, option_map, codes, if◌then◌else◌}
use Rattle.std.specs.Prelude.{is_some, IfSome}
use Rattle.bb_outside.specs.Counts.{IsRead, Reads}
use Rattle.bb_frontend.specs.declared.limit.TheConstants.{READ_LIMIT}
use Rattle.bb_verdict.specs.declared.requested.TextComparison.{TextComparison}
use Rattle.bb_ladder.specs.Calls.{Call}
use Rattle.bb_ladder.specs.Refutations.{Checks}
use Rattle.bb_ladder.specs.Sources.{AreBytes, TextSource}
use Rattle.bb_verdict.specs.InvariantAnswers.{AnswersTexts, AreLeftOpenWith, AreRefutedWith, AreShownWith}
use Rattle.bb_verdict.specs.InvariantAnswers.{IsFinishedWith, IsOpenReportWith}
use Rattle.bb_verdict.specs.TextPairs.{DoFit}
use Rattle.bb_make.specs.Adders.{made_imp, made_spec}
use Rattle.bb_ladder.specs.MadePairs.{JudgesMade, request_for, head_of}
use Rattle.bb_args.specs.Requests.{MadePair, Refutation, Request, requested, requested_made_pair, requested_refutation}

-- the request of words: the names of the files of the specification and of the implementation, and the options of their
-- comparison; an invariant is handed on in the place of the care output
pub record PairRequest : Type 0 where
  pub spec : List ℕ
  pub imp : List ℕ
  pub requested : TextComparison

abbrev pub pair_request : Request → PairRequest
pair_request r = record {
  spec = r.spec;
  imp = r.imp;
  requested = record {
    spec_top = r.top_spec;
    imp_top = r.top_imp;
    care = if is_some r.invariant then r.invariant else r.care;
    invariant = is_some r.invariant;
    fill = r.fill;
    options = r.options;
  };
}

-- words that do not compare two files request nothing of them
abbrev pub pair_request_of : List (List ℕ) → Option PairRequest
pair_request_of words = option_map pair_request (requested words)

-- what a read gives: where it is known what the file holds, the bytes of the file up to the limit, which is one byte
-- more than a text may have
abbrev pub AreHeldBytes : Option (List ℕ) → List ℕ → Type 0
AreHeldBytes held bytes = IfSome held (λ h. bytes ≡ take READ_LIMIT h)

-- the possible answers after the first file was read: the second is read, and the two texts are judged
pub data AfterSpec (judged : List ℕ → List ℕ → ℕ → List ℕ → Type 0) (held : Option (List ℕ)) (second : List ℕ)
    (before after : Reads) (spec : List ℕ) (status : ℕ) (text : List ℕ) : Type 0 where
  ImpUnread : IsRead before after second READ_LIMIT (Some None) → status ≡ 4 → text ≡ codes "unread impl\n"
      → AfterSpec judged held second before after spec status text
  ImpLong : (imp : List ℕ) → AreHeldBytes held imp → length imp ≡ READ_LIMIT
      → IsRead before after second READ_LIMIT (Some (Some imp)) → status ≡ 2 → text ≡ codes "refused impl toolong\n"
      → AfterSpec judged held second before after spec status text
  BothRead : (imp : List ℕ) → AreHeldBytes held imp → length imp < READ_LIMIT
      → IsRead before after second READ_LIMIT (Some (Some imp)) → judged spec imp status text
      → AfterSpec judged held second before after spec status text

-- the possible answers to the names of two files, whatever is judged of their texts: the first is read first
pub data OfFiles (judged : List ℕ → List ℕ → ℕ → List ℕ → Type 0) (holds : List ℕ → Option (List ℕ))
    (first second : List ℕ) (before after : Reads) (status : ℕ) (text : List ℕ) : Type 0 where
  SpecUnread : IsRead before after first READ_LIMIT (Some None) → status ≡ 4 → text ≡ codes "unread spec\n"
      → OfFiles judged holds first second before after status text
  SpecLong : (spec : List ℕ) → AreHeldBytes (holds first) spec → length spec ≡ READ_LIMIT
      → IsRead before after first READ_LIMIT (Some (Some spec)) → status ≡ 2 → text ≡ codes "refused spec toolong\n"
      → OfFiles judged holds first second before after status text
  SpecRead : (spec : List ℕ) (between : Reads) → AreHeldBytes (holds first) spec → length spec < READ_LIMIT
      → IsRead before between first READ_LIMIT (Some (Some spec))
      → AfterSpec judged (holds second) second between after spec status text
      → OfFiles judged holds first second before after status text

-- the possible answers to a call
pub data MayAnswer (call : Call) (status : ℕ) (text : List ℕ) : Type 0 where
  Usage : pair_request_of call.words ≡ None → requested_made_pair call.words ≡ None → requested_refutation call.words ≡ None
      → call.after ≡ call.before → status ≡ 2 → text ≡ codes "refused usage\n" → MayAnswer call status text
  Comparing : (q : PairRequest) → pair_request_of call.words ≡ Some q
      → OfFiles (AnswersTexts q.requested) call.holds q.spec q.imp call.before call.after status text → MayAnswer call status text
  Making : (m : MadePair) → requested_made_pair call.words ≡ Some m → call.after ≡ call.before → JudgesMade m status text
      → MayAnswer call status text
  Refuting : (f : Refutation) → requested_refutation call.words ≡ Some f
      → OfFiles Checks call.holds f.cnf f.adds call.before call.after status text → MayAnswer call status text

-- the words request this of two texts: those of the two files that they name, held or given, or those of a made pair
pub data AreTexts (call : Call) (from : TextSource) (requested : TextComparison) (spec imp : List ℕ) : Type 0 where
  FileTexts : (q : PairRequest) → pair_request_of call.words ≡ Some q → requested ≡ q.requested
      → AreBytes from call.holds call.before call.after q.spec q.imp spec imp → AreTexts call from requested spec imp
  MadeTexts : (m : MadePair) → requested_made_pair call.words ≡ Some m → requested ≡ request_for m.fill m.options → spec ≡ made_spec m.n
      → imp ≡ made_imp m.n → AreTexts call from requested spec imp

-- the words request a refutation, and the two texts are those of its files, held or given
pub record AreRefutationTexts (call : Call) (from : TextSource) (f : Refutation) (first second : List ℕ) : Type 0 where
  pub requests : requested_refutation call.words ≡ Some f
  pub bytes : AreBytes from call.holds call.before call.after f.cnf f.adds first second

-- what is written is a report of the two texts, after the head of a made pair
abbrev pub IsReport : (TextComparison → List ℕ → List ℕ → List ℕ → Type 0) → List (List ℕ) → TextComparison → List ℕ → List ℕ
    → List ℕ → Type 0
IsReport Claims words requested spec imp text = (report : List ℕ) × (text ≡ head_of words ++ report)
    × Claims requested spec imp report

-- it is a status that is a verdict on two texts: 0 repairable, 1 error, 3 open
abbrev pub IsVerdict : ℕ → Type 0
IsVerdict status = ((status ≡ 0) ⊎ (status ≡ 1)) ⊎ (status ≡ 3)

-- what an answer with this status says of the texts: it is a possible answer to them, and so all else follows
pub record Means (call : Call) (status : ℕ) (text : List ℕ) (requested : TextComparison) (spec imp : List ℕ) : Type 0 where
  pub judged : IsVerdict status
      → IsReport (λ requested spec imp report. AnswersTexts requested spec imp status report) call.words requested spec imp text
  pub finished : status ≡ 0 → IsReport IsFinishedWith call.words requested spec imp text
  pub refuted : status ≡ 1 → AreRefutedWith requested spec imp
  pub fit : IsVerdict status → DoFit requested spec imp
  pub shown : status ≡ 1 → IsReport AreShownWith call.words requested spec imp text
  pub left_open : status ≡ 3 → AreLeftOpenWith requested spec imp
  pub open_report : status ≡ 3 → IsReport IsOpenReportWith call.words requested spec imp text

-- The law of it: an answer means of the texts what its status says, also where only a prefix of it is written.
abbrev pub AnswersSpeakOfTexts : Type 0
AnswersSpeakOfTexts = (call : Call) (from : TextSource) (status : ℕ) (text : List ℕ) (requested : TextComparison)
    (spec imp : List ℕ) → MayAnswer call status text → AreTexts call from requested spec imp
    → Means call status text requested spec imp
