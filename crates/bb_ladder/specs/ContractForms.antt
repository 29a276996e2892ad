-- The forms in which the contract of the top call speaks: of the texts of a call, and of what was written in it.
use Rattle.std.specs.Prelude.{ℕ, ◌<◌, List, length, Option}
use Rattle.std.specs.Io.KnownBytes.{Appends}
use Rattle.bb_frontend.specs.declared.limit.TheConstants.{READ_LIMIT}
use Rattle.bb_args.specs.Requests.{Refutation}
use Rattle.bb_verdict.specs.declared.requested.TextComparison.{TextComparison}
use Rattle.bb_ladder.specs.Answers.{AreRefutationTexts, AreTexts, IsReport}
use Rattle.bb_ladder.specs.Calls.{Call}
use Rattle.bb_ladder.specs.Sources.{MayHaveFailed, TextSource}

-- this holds of any two texts that the call compares: those that its files hold or that its reads gave, or those of a
-- made pair
abbrev pub OfTexts : Call → (TextComparison → List ℕ → List ℕ → Type 0) → Type 0
OfTexts call Claims = (from : TextSource) (requested : TextComparison) (spec imp : List ℕ) → AreTexts call from requested spec imp
    → Claims requested spec imp

-- this holds of them where both are within the limit and no read of them may have failed
abbrev pub OfWholeTexts : Call → (TextComparison → List ℕ → List ℕ → Type 0) → Type 0
OfWholeTexts call Claims = (from : TextSource) (requested : TextComparison) (spec imp : List ℕ) → AreTexts call from requested spec imp
    → length spec < READ_LIMIT → length imp < READ_LIMIT → (MayHaveFailed from call.before call.after → ⊥)
    → Claims requested spec imp

-- this holds of the texts of a formula and of clause additions that the call checks
abbrev pub OfRefutations : Call → (List ℕ → List ℕ → Type 0) → Type 0
OfRefutations call Claims = (from : TextSource) (f : Refutation) (first second : List ℕ)
    → AreRefutationTexts call from f first second
    → Claims first second

abbrev pub OfWholeRefutations : Call → (List ℕ → List ℕ → Type 0) → Type 0
OfWholeRefutations call Claims = (from : TextSource) (f : Refutation) (first second : List ℕ)
    → AreRefutationTexts call from f first second
    → length first < READ_LIMIT → length second < READ_LIMIT → (MayHaveFailed from call.before call.after → ⊥)
    → Claims first second

-- what was written is a text of which this holds; of a sink that keeps nothing, there is such a text
abbrev pub Writes : {K : Type 0} → (K → Option (List ℕ)) → K → K → (List ℕ → Type 0) → Type 0
Writes written old new Claims = (text : List ℕ) × Appends (written old) (written new) text × Claims text

-- what was written is a report of any two texts that the call compares, after the head of a made pair, and this holds
-- of it
abbrev pub Reports : {K : Type 0} → (K → Option (List ℕ)) → K → K → Call → (TextComparison → List ℕ → List ℕ → List ℕ → Type 0)
    → Type 0
Reports written old new call Claims = OfTexts call (λ requested spec imp.
    Writes written old new (IsReport Claims call.words requested spec imp))
