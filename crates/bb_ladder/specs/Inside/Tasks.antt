-- The job of a call, as the code hands it on.
use Rattle.std.specs.Prelude.{◌≡◌, ℕ, ◌≤◌, List, Some}
use Rattle.bb_options.specs.Rungs.{AreBounds}
use Rattle.bb_args.specs.Requests.{requested_made_pair, requested_refutation}
use Rattle.bb_ladder.specs.Answers.{pair_request_of}
use Rattle.bb_ladder.specs.Refutations.{Checks}
use Rattle.bb_verdict.specs.InvariantAnswers.{AnswersTexts}
use Rattle.bb_ladder.specs.declared.words.Job.{Job}
use Rattle.bb_ladder.specs.declared.words.Job.TheVariants.{Files, Made}
use Rattle.bb_ladder.specs.declared.words.Task.{Task}
use Rattle.bb_ladder.specs.declared.words.Task.TheVariants.{Comparison, Refutation}

-- what may be answered to two texts
abbrev pub judged_by : Task → List ℕ → List ℕ → ℕ → List ℕ → Type 0
judged_by (Comparison requested) = AnswersTexts requested
judged_by Refutation = Checks

-- the words request it, of files with these names
abbrev pub RequestTask : List (List ℕ) → List ℕ → List ℕ → Task → Type 0
RequestTask words first second (Comparison requested) =
    pair_request_of words ≡ Some (record { spec = first; imp = second; requested = requested })
RequestTask words first second Refutation = requested_refutation words ≡ Some (record { cnf = first; adds = second })

-- its checks are within their bounds
abbrev pub IsBounded : Task → Type 0
IsBounded (Comparison requested) = AreBounds requested.options
IsBounded Refutation = Unit {0}

-- the words request this job
abbrev pub RequestJob : List (List ℕ) → Job → Type 0
RequestJob words (Files pair_request) = RequestTask words pair_request.spec.now pair_request.imp.now pair_request.task
RequestJob words (Made n fill options) = requested_made_pair words ≡ Some (record { n = n; fill = fill; options = options })

-- its numbers are within their bounds
abbrev pub HasBounds : Job → Type 0
HasBounds (Files pair_request) = IsBounded pair_request.task
HasBounds (Made n fill options) = (1 ≤ n) × (n ≤ 256) × AreBounds options
