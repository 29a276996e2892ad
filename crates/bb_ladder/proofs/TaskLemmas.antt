-- What the code hands on is what the words ask for.
use Rattle.std.proofs.Common.{◌≡◌, ℕ, List, Some, None, ap, option_map}
use Rattle.bb_options.specs.Rungs.{AreBounds}
use Rattle.bb_args.specs.Requests.{RequestNothing, MadePair, requested, requested_made_pair, request_of}
use Rattle.bb_args.specs.Laws.{WordsRequestAtMostOne}
use Rattle.bb_args.specs.declared.requested.FileComparison.{FileComparison}
use Rattle.bb_ladder.specs.Calls.{Call}
use Rattle.bb_ladder.specs.Answers.{OfFiles, MayAnswer, Comparing, Refuting, pair_request, pair_request_of}
use Rattle.bb_ladder.specs.Inside.Tasks.{RequestTask, IsBounded, judged_by}
use Rattle.bb_ladder.specs.declared.words.Task.{Task}
use Rattle.bb_ladder.specs.declared.words.Task.TheVariants.{Comparison, Refutation}
use Rattle.bb_ladder.proofs.HeadlineLemmas.{never_files_and_made}

pub may_answer : (call : Call) (first second : List ℕ) (task : Task) (status : ℕ) (text : List ℕ)
    → RequestTask call.words first second task → OfFiles (judged_by task) call.holds first second call.before call.after status text → MayAnswer call status text
may_answer call first second (Comparison requested) status text requests files = Comparing (record { spec = first; imp = second; requested = requested }) requests files
may_answer call first second Refutation status text requests files = Refuting (record { cnf = first; adds = second }) requests files

pub requests_comparison : (words : List (List ℕ)) (a : FileComparison) (first second : List ℕ) (task : Task) → requested words ≡ Some (request_of a) → first ≡ a.spec.now → second ≡ a.imp.now
    → task ≡ Comparison (pair_request (request_of a)).requested → RequestTask words first second task
requests_comparison words a first second task requests x y z = rw (x, y, z) (ap (option_map pair_request) requests)

pub comparison_bounded : (a : FileComparison) (task : Task) → task ≡ Comparison (pair_request (request_of a)).requested → AreBounds a.options → IsBounded task
comparison_bounded a task same bounds = rw same bounds

pub no_question : (words : List (List ℕ)) → RequestNothing words → pair_request_of words ≡ None
no_question words nothing = ap (option_map pair_request) nothing.comparison

pub ruleset questions_requested = (requests_comparison, comparison_bounded, no_question)

-- words that ask for something of two files ask for no made pair
pub task_or_pair : WordsRequestAtMostOne → (words : List (List ℕ)) (first second : List ℕ) (task : Task) (m : MadePair) → RequestTask words first second task → requested_made_pair words ≡ Some m → ⊥
task_or_pair once words first second (Comparison requested) m requests makes = never_files_and_made once words (record { spec = first; imp = second; requested = requested }) m requests makes
task_or_pair once words first second Refutation m requests makes = once.not_made_and_refuted words m (record { cnf = first; adds = second }) makes requests
