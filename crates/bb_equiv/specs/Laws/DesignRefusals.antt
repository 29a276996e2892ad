-- Laws of fit and refusal: two designs fit or have a first refusal, and not both; flat netlists that implement them are
-- refused for the same, so that designs have a pair exactly where they fit.
use Rattle.std.specs.Prelude.{◌≡◌, ◌⊎◌, ◌↔◌, ℕ, Bool, List, Option}
use Rattle.bb_net.specs.Pairs.{NetPair}
use Rattle.bb_net.specs.Flats.{FlatNet, IsFlat}
use Rattle.bb_design.specs.Hierarchy.{Design}
use Rattle.bb_design.specs.Inside.Allowed.{IsAllowed}
use Rattle.bb_implements.specs.Implements.{Implements}
use Rattle.bb_match.specs.declared.fault.MatchFault.{MatchFault}
use Rattle.bb_match.specs.Pairing.{IsPairOf}
use Rattle.bb_match.specs.Refusals.{Fit, IsFirstPairRefusal}
use Rattle.bb_equiv.specs.DesignEquivalence.{IsPairFor}
use Rattle.bb_equiv.specs.DesignFit.{DesignsFit, IsRefusalFor}

-- flat netlists that implement the two designs
pub record AreNetsFor (spec imp : Design) (f g : FlatNet) : Type 0 where
  pub spec_implements : Implements spec f
  pub imp_implements : Implements imp g

-- netlists fit as the designs do that they implement, and are refused as these are
pub record AreTakenTheSame (care : Option (List ℕ)) (spec imp : Design) (f g : FlatNet) : Type 0 where
  pub fit : Fit care f g ↔ DesignsFit care spec imp
  pub refused : (fault : MatchFault) → IsFirstPairRefusal care f g fault ↔ IsRefusalFor care spec imp fault

abbrev pub NetsAreTakenAsDesigns : Type 0
NetsAreTakenAsDesigns = (care : Option (List ℕ)) (spec imp : Design) (f g : FlatNet) → IsAllowed spec → IsAllowed imp
    → AreNetsFor spec imp f g → AreTakenTheSame care spec imp f g

-- two designs have one first refusal at most
abbrev pub DesignRefusalsAreOne : Type 0
DesignRefusalsAreOne = (care : Option (List ℕ)) (spec imp : Design) (e f : MatchFault) → IsRefusalFor care spec imp e
    → IsRefusalFor care spec imp f → e ≡ f

-- and do not fit where they have one
abbrev pub NotFitAndRefused : Type 0
NotFitAndRefused = (care : Option (List ℕ)) (spec imp : Design) (fault : MatchFault) → DesignsFit care spec imp
    → IsRefusalFor care spec imp fault → ⊥

-- two designs, of which the specification is sound, fit or have a first refusal
abbrev pub FitOrRefused : Type 0
FitOrRefused = (care : Option (List ℕ)) (spec imp : Design) → IsAllowed spec
    → DesignsFit care spec imp ⊎ ((fault : MatchFault) × IsRefusalFor care spec imp fault)

-- only designs that fit have a pair, and where they fit the pair of flat netlists that implement them is theirs
pub record PairsImplementFitting (care : Option (List ℕ)) (shared : Bool) (spec imp : Design) : Type 0 where
  pub fit : (p : NetPair) → IsPairFor care shared spec imp p → DesignsFit care spec imp
  pub pair : DesignsFit care spec imp → (f g : FlatNet) → AreNetsFor spec imp f g → IsFlat f → IsFlat g
      → (p : NetPair) × IsPairOf care shared f g p

abbrev pub PairsImplementExactlyFitting : Type 0
PairsImplementExactlyFitting = (care : Option (List ℕ)) (shared : Bool) (spec imp : Design) → IsAllowed spec
    → IsAllowed imp → PairsImplementFitting care shared spec imp

-- and two sound designs that fit have a pair
abbrev pub FittingDesignsHavePairs : Type 0
FittingDesignsHavePairs = (care : Option (List ℕ)) (shared : Bool) (spec imp : Design) → IsAllowed spec → IsAllowed imp
    → DesignsFit care spec imp → (p : NetPair) × IsPairFor care shared spec imp p
