-- A made pair: two texts of known answer that the call makes itself, so that it reads no file. Its report begins with
-- the width of its adders and how many inputs they have. Where the two texts were refused, that line would come alone.
use Rattle.std.specs.Prelude.{◌≡◌, ℕ, ◌==◌, Bool, if◌then◌else◌, List, [], ◌++◌, false, length, Option, None, Some, codes}
use Rattle.std.specs.Prelude.{decimal}
use Rattle.bb_make.specs.Adders.{inputs, made_imp, made_spec}
use Rattle.bb_options.specs.declared.options.Options.{Options}
use Rattle.bb_args.specs.Requests.{MadePair, requested_made_pair}
use Rattle.bb_verdict.specs.declared.requested.TextComparison.{TextComparison}
use Rattle.bb_verdict.specs.InvariantAnswers.{AnswersTexts}

-- the options of its comparison: the module add is the top of both, and all outputs have to be equal everywhere
abbrev pub request_for : Bool → Options → TextComparison
request_for fill options = record {
  spec_top = Some (codes "add");
  imp_top = Some (codes "add");
  care = None;
  invariant = false;
  fill = fill;
  options = options;
}

-- the lines before its report: how wide it is, and how many inputs it has
abbrev pub made_head : ℕ → List ℕ
made_head n = codes "make " ++ decimal n ++ codes "\ninputs " ++ decimal (length (inputs n)) ++ codes "\n"

-- before the report of files there is nothing
abbrev pub head_by : Option MadePair → List ℕ
head_by None = []
head_by (Some m) = made_head m.n

-- what comes before the report of a call with these words
abbrev pub head_of : List (List ℕ) → List ℕ
head_of words = head_by (requested_made_pair words)

-- what is written where this is reported of the two texts: a refusal alone, a report after its head
abbrev pub made_text : ℕ → ℕ → List ℕ → List ℕ
made_text n status reported = if status == 2 then reported else made_head n ++ reported

-- the possible answers to a made pair
abbrev pub JudgesMade : MadePair → ℕ → List ℕ → Type 0
JudgesMade m status text = (reported : List ℕ)
    × AnswersTexts (request_for m.fill m.options) (made_spec m.n) (made_imp m.n) status reported × (text ≡ made_text m.n status reported)
