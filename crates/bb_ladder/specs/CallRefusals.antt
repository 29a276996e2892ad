-- For what a call is refused, and the line that says so. Faults of the words come first, then a specification that is
-- too long, then an implementation that is too long, and then the first refusal of the two texts. A formula takes the
-- place of the specification, and the clause additions that of the implementation. A made pair is in no file, and has
-- no length to be refused for.
use Rattle.std.specs.Prelude.{◌≡◌, ℕ, ◌<◌, ◌≤◌, List, length, Option, None, Some, codes}
use Rattle.bb_outside.specs.Counts.{Reads}
use Rattle.bb_frontend.specs.declared.limit.TheConstants.{READ_LIMIT}
use Rattle.bb_ladder.specs.Answers.{PairRequest, MayAnswer, pair_request_of}
use Rattle.bb_ladder.specs.Calls.{Call}
use Rattle.bb_ladder.specs.Refutations.{IsCheckRefusal}
use Rattle.bb_ladder.specs.Sources.{AreBytes, IsFirstFile, MayHaveFailed, TextSource}
use Rattle.bb_verdict.specs.InvariantAnswers.{IsRefusalLine}
use Rattle.bb_make.specs.Adders.{made_imp, made_spec}
use Rattle.bb_ladder.specs.MadePairs.{request_for}
use Rattle.bb_args.specs.Requests.{MadePair, Refutation, requested_made_pair, requested_refutation}

-- the line of the first refusal of two files of these bytes, held or given, where `refuses` holds of their texts and it
pub data IsFilesRefusal (refuses : List ℕ → List ℕ → List ℕ → Type 0) (from : TextSource) (holds : List ℕ → Option (List ℕ))
    (before after : Reads) (first second line : List ℕ) : Type 0 where
  OfSpecLength : (spec : List ℕ) → IsFirstFile from holds before after first spec → READ_LIMIT ≤ length spec
      → line ≡ codes "refused spec toolong\n" → IsFilesRefusal refuses from holds before after first second line
  OfImpLength : (spec imp : List ℕ) → AreBytes from holds before after first second spec imp → length spec < READ_LIMIT
      → READ_LIMIT ≤ length imp
      → line ≡ codes "refused impl toolong\n" → IsFilesRefusal refuses from holds before after first second line
  OfTexts : (spec imp : List ℕ) → AreBytes from holds before after first second spec imp → length spec < READ_LIMIT
      → length imp < READ_LIMIT
      → refuses spec imp line → IsFilesRefusal refuses from holds before after first second line

-- the line of the first refusal of a call with these words, where the files hold these bytes or its reads gave them
pub data IsCallRefusal (call : Call) (from : TextSource) (line : List ℕ) : Type 0 where
  OfWords : pair_request_of call.words ≡ None → requested_made_pair call.words ≡ None → requested_refutation call.words ≡ None
      → line ≡ codes "refused usage\n" → IsCallRefusal call from line
  OfComparison : (q : PairRequest) → pair_request_of call.words ≡ Some q
      → IsFilesRefusal (IsRefusalLine q.requested) from call.holds call.before call.after q.spec q.imp line
      → IsCallRefusal call from line
  OfMadePair : (m : MadePair) → requested_made_pair call.words ≡ Some m
      → IsRefusalLine (request_for m.fill m.options) (made_spec m.n) (made_imp m.n) line → IsCallRefusal call from line
  OfRefutation : (f : Refutation) → requested_refutation call.words ≡ Some f
      → IsFilesRefusal IsCheckRefusal from call.holds call.before call.after f.cnf f.adds line
      → IsCallRefusal call from line

-- it is known what is read of two files: of the first, and of the second where the first is not too long
abbrev pub AreReadsKnownOf : TextSource → (List ℕ → Option (List ℕ)) → Reads → Reads → List ℕ → List ℕ → Type 0
AreReadsKnownOf from holds before after first second = (spec : List ℕ) × IsFirstFile from holds before after first spec
    × (length spec < READ_LIMIT → (imp : List ℕ) × AreBytes from holds before after first second spec imp)

-- it is known what is read of the files that the words name, if they name any
pub record AreReadsKnown (call : Call) (from : TextSource) : Type 0 where
  pub comparison : (q : PairRequest) → pair_request_of call.words ≡ Some q
      → AreReadsKnownOf from call.holds call.before call.after q.spec q.imp
  pub refutation : (f : Refutation) → requested_refutation call.words ≡ Some f
      → AreReadsKnownOf from call.holds call.before call.after f.cnf f.adds

-- laws that a reader expects

-- a call has at most one first refusal
abbrev pub CallRefusalsAreOne : Type 0
CallRefusalsAreOne = (call : Call) (from : TextSource) (line other : List ℕ)
    → IsCallRefusal call from line → IsCallRefusal call from other → line ≡ other

-- status 2 reports the first refusal of the call
abbrev pub RefusalsAreReported : Type 0
RefusalsAreReported = (call : Call) (from : TextSource) (line : List ℕ)
    → MayAnswer call 2 line → AreReadsKnown call from → IsCallRefusal call from line

-- and where a call has one and no read may have failed, it is reported
abbrev pub RefusedCallsAreReported : Type 0
RefusedCallsAreReported = (call : Call) (from : TextSource) (status : ℕ) (text line : List ℕ)
    → MayAnswer call status text → IsCallRefusal call from line → (MayHaveFailed from call.before call.after → ⊥)
    → (status ≡ 2) × (text ≡ line)
