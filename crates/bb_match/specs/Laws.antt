-- Laws of refusals, of pairs and of cut points.
use Rattle.std.specs.Prelude.{◌≡◌, ◌≢◌, ◌⊎◌, ◌↔◌, ℕ, ◌<◌, Bool, List, length, All, AllPairs, Contains, Option, None, Some, slice_get}
use Rattle.bb_net.specs.CutPoints.{cut_inputs, cut_outputs}
use Rattle.bb_net.specs.Pairs.{NetPair, IsPair}
use Rattle.bb_net.specs.Flats.{FlatNet, IsFlat}
use Rattle.bb_match.specs.declared.fault.MatchFault.{MatchFault}
use Rattle.bb_match.specs.Refusals.{PairCause, Fit, IsFirstPairRefusal, IsMissing, compared, pair_cause_rank}
use Rattle.bb_match.specs.Pairing.{IsPairOf, without, without_output}

-- causes have ranks, and these are the numbers below 12
pub record CausesAreRanked : Type 0 where
  pub one : (c e : PairCause) → pair_cause_rank c ≡ pair_cause_rank e → c ≡ e
  pub below : (c : PairCause) → pair_cause_rank c < 12
  pub each : (n : ℕ) → n < 12 → (c : PairCause) × (pair_cause_rank c ≡ n)

-- no two netlists fit and are refused
abbrev pub NotFitAndRefused : Type 0
NotFitAndRefused = (care : Option (List ℕ)) (spec imp : FlatNet) (fault : MatchFault) → Fit care spec imp → IsFirstPairRefusal care spec imp fault → ⊥

-- there is one first refusal at most
abbrev pub FirstRefusalsAreOne : Type 0
FirstRefusalsAreOne = (care : Option (List ℕ)) (spec imp : FlatNet) (e f : MatchFault) → IsFirstPairRefusal care spec imp e → IsFirstPairRefusal care spec imp f → e ≡ f

-- two netlists fit or have a first refusal
abbrev pub FitOrRefused : Type 0
FitOrRefused = (care : Option (List ℕ)) (spec imp : FlatNet) → Fit care spec imp ⊎ ((fault : MatchFault) × IsFirstPairRefusal care spec imp fault)

-- the outputs of a flat netlist that are compared with a care output are all others
abbrev pub ComparedAreTheOthers : Type 0
ComparedAreTheOthers = (care : List ℕ) (f : FlatNet) (place : ℕ) → IsFlat f → slice_get f.outs place ≡ Some care → compared (Some care) f.outs ≡ without place f.outs

-- causes that hold with a care output are those without it
pub record IsTakenOut (care : List ℕ) (place : ℕ) (spec imp : FlatNet) : Type 0 where
  pub fit : Fit (Some care) spec imp ↔ Fit None (without_output place spec) imp
  pub refused : (fault : MatchFault) → IsFirstPairRefusal (Some care) spec imp fault ↔ IsFirstPairRefusal None (without_output place spec) imp fault

-- where the specification has the care output, two netlists fit, and are refused, as they do and are without it where
-- none is requested
abbrev pub CareIsTakenOut : Type 0
CareIsTakenOut = (care : List ℕ) (spec imp : FlatNet) (place : ℕ) → IsFlat spec → slice_get spec.outs place ≡ Some care → IsTakenOut care place spec imp

-- where two netlists fit with a care output, the implementation has no output of its text, and so they do not fit
-- without one
abbrev pub CareOutputsAreLeftOut : Type 0
CareOutputsAreLeftOut = (care : List ℕ) (spec imp : FlatNet) → Fit (Some care) spec imp → IsMissing imp.outs care × (Fit None spec imp → ⊥)

-- two netlists have one pair at most, where boxes of one module share their contents, and where they do not
abbrev pub PairsAreOne : Type 0
PairsAreOne = (care : Option (List ℕ)) (shared : Bool) (spec imp : FlatNet) (p q : NetPair) → IsFlat spec → IsFlat imp → IsPairOf care shared spec imp p → IsPairOf care shared spec imp q → p ≡ q

-- where they have one they fit
abbrev pub PairsFit : Type 0
PairsFit = (care : Option (List ℕ)) (shared : Bool) (spec imp : FlatNet) (p : NetPair) → IsFlat spec → IsPairOf care shared spec imp p → Fit care spec imp

-- two netlists that fit have a pair
abbrev pub FittingHavePair : Type 0
FittingHavePair = (care : Option (List ℕ)) (shared : Bool) (spec imp : FlatNet) → IsFlat spec → IsFlat imp → Fit care spec imp → (p : NetPair) × IsPairOf care shared spec imp p

-- which is what every pair keeps
abbrev pub FittingHaveKeptPair : Type 0
FittingHaveKeptPair = (care : Option (List ℕ)) (shared : Bool) (spec imp : FlatNet) → IsFlat spec → IsFlat imp → Fit care spec imp → (p : NetPair) × IsPair p × IsPairOf care shared spec imp p

-- a pair of two flat netlists keeps what every pair keeps
abbrev pub PairsAreKept : Type 0
PairsAreKept = (care : Option (List ℕ)) (shared : Bool) (spec imp : FlatNet) (p : NetPair) → IsFlat spec → IsFlat imp → IsPairOf care shared spec imp p → IsPair p

-- nothing occurs twice among the cut inputs of a flat netlist, nor among its cut outputs
pub record HasCutsApart (f : FlatNet) : Type 0 where
  pub inputs : AllPairs ◌≢◌ (cut_inputs f)
  pub outputs : AllPairs ◌≢◌ (cut_outputs f)

abbrev pub FlatNetsHaveCutsApart : Type 0
FlatNetsHaveCutsApart = (f : FlatNet) → IsFlat f → HasCutsApart f

-- a flat netlist is one without an output of the top as well
abbrev pub WithoutOutputsAreFlat : Type 0
WithoutOutputsAreFlat = (f : FlatNet) (k : ℕ) → IsFlat f → k < length f.outs → IsFlat (without_output k f)

-- where two netlists fit, each cut output of the implementation is one of the specification
abbrev pub FittingNetsHaveTheirOutputs : Type 0
FittingNetsHaveTheirOutputs = (care : Option (List ℕ)) (spec imp : FlatNet) → Fit care spec imp → All (Contains (cut_outputs spec)) (cut_outputs imp)
