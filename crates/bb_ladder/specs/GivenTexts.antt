-- Where the reads are listed, those of a call gave what its answer speaks of. So what is said of given bytes is not
-- empty: the two texts of a verdict are there, and so is as much as a refusal rests on.
use Rattle.std.specs.Prelude.{◌≡◌, ℕ, List, Some}
use Rattle.bb_outside.specs.Counts.{FileRead}
use Rattle.bb_verdict.specs.declared.requested.TextComparison.{TextComparison}
use Rattle.bb_ladder.specs.Answers.{AreRefutationTexts, AreTexts, IsVerdict, MayAnswer}
use Rattle.bb_ladder.specs.Calls.{Call}
use Rattle.bb_ladder.specs.CallRefusals.{AreReadsKnown}
use Rattle.bb_ladder.specs.Sources.{Given}
use Rattle.bb_args.specs.Requests.{Refutation}

-- the reads of the call gave the two texts that its words name
pub data HaveTexts (call : Call) : Type 0 where
  Compared : (requested : TextComparison) (spec imp : List ℕ) → AreTexts call Given requested spec imp → HaveTexts call
  Checked : (f : Refutation) (first second : List ℕ) → AreRefutationTexts call Given f first second → HaveTexts call

-- the reads of a call with this status gave two texts where it is a verdict on them, and as much as was read where it
-- is a refusal
pub record HaveGiven (call : Call) (status : ℕ) : Type 0 where
  pub verdict : IsVerdict status → HaveTexts call
  pub refusal : status ≡ 2 → AreReadsKnown call Given

-- The law of it: where the reads are listed, they have.
abbrev pub AnsweredHaveGiven : Type 0
AnsweredHaveGiven = (call : Call) (status : ℕ) (text : List ℕ) (earlier : List FileRead)
    → MayAnswer call status text → call.before.reported ≡ Some earlier → HaveGiven call status
