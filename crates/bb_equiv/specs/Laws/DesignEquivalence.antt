-- Laws of equivalence: what tables do to a pair of netlists, the contents that they spell do to the designs; shared
-- contents and a care output require less.
use Rattle.std.specs.Prelude.{◌≡◌, ◌↔◌, ℕ, Bool, true, false, List, map, Option, None}
use Rattle.std.specs.List.{AllZip}
use Rattle.bb_bits.specs.Contents.{Contents}
use Rattle.bb_bits.specs.Tables.{TableBits}
use Rattle.bb_net.specs.Equivalence.{TablesMakeEquivalent}
use Rattle.bb_net.specs.Kinds.{AreKinds, NoSharedTablesMakeEquivalent, representatives, per_box}
use Rattle.bb_net.specs.Pairs.{NetPair, IsPair, box_key}
use Rattle.bb_net.specs.Values.{FitBoxes}
use Rattle.bb_implements.specs.Laws.ContentTables.{AreTablesOf}
use Rattle.bb_net.specs.Flats.{FlatNet, IsFlat}
use Rattle.bb_design.specs.Hierarchy.{Design, Scope}
use Rattle.bb_design.specs.Inside.Allowed.{IsAllowed}
use Rattle.bb_implements.specs.Laws.BoxOrders.{IsBoxOrder}
use Rattle.bb_implements.specs.Implements.{Implements, box_texts}
use Rattle.bb_design.specs.Worlds.{World, Vector, HasVector, IsWorld, FitDesign, outputs_in}
use Rattle.bb_equiv.specs.DesignEquivalence.{IsRequired, ContentsMakeEquivalent, MayFill, NoContentsMakeEquivalent}
use Rattle.bb_equiv.specs.DesignEquivalence.{IsPairFor, AreSpelled, IsTableOf, AreEquivalentEverywhere}

-- this holds of any two sound designs and any pair of them
abbrev pub OfPairs : ((care : Option (List ℕ)) (shared : Bool) (spec imp : Design) (p : NetPair)
    → IsPairFor care shared spec imp p → Type 0) → Type 0
OfPairs Claims = (care : Option (List ℕ)) (shared : Bool) (spec imp : Design) (p : NetPair)
    → IsAllowed spec → IsAllowed imp → (pair : IsPairFor care shared spec imp p) → Claims care shared spec imp p pair

-- tables make a pair of two sound designs equivalent exactly where the contents with these tables do
abbrev pub TablesMakeEquivalentAsContents : Type 0
TablesMakeEquivalentAsContents = OfPairs (λ care shared spec imp p pair. (contents : Contents) (tables : List TableBits)
    → FitDesign imp contents → AreTablesOf pair.imp_net contents tables
    → TablesMakeEquivalent p.spec p.imp tables ↔ ContentsMakeEquivalent care spec imp contents)

-- and no tables, one for each sharing class, do so exactly where no contents do that may fill the boxes
abbrev pub NoTablesNoContents : Type 0
NoTablesNoContents = OfPairs (λ care shared spec imp p pair.
    NoSharedTablesMakeEquivalent p.spec p.imp p.kinds ↔ NoContentsMakeEquivalent care shared spec imp)

-- tables fit the first boxes of all classes of a pair
abbrev pub FitKindsOf : NetPair → List TableBits → Type 0
FitKindsOf p tables = FitBoxes tables (representatives p.kinds p.imp.boxes)

-- they are then tables of these
abbrev pub FittingTablesAreOfBoxes : Type 0
FittingTablesAreOfBoxes = (p : NetPair) (tables : List TableBits) → IsPair p → FitKindsOf p tables
    → AllZip IsTableOf (representatives p.kinds p.boxes) tables

-- a pair of two sound designs has the boxes of the implementation, in the order of their dependence, each of the class
-- of its key
abbrev pub PairsHaveBoxOrders : Type 0
PairsHaveBoxOrders = (care : Option (List ℕ)) (shared : Bool) (spec imp : Design) (p : NetPair) → IsAllowed imp
    → IsPairFor care shared spec imp p → (order : List Scope) × IsBoxOrder imp order
    × (p.boxes ≡ map (box_texts imp) order) × AreKinds (map (box_key shared) p.boxes) p.kinds

-- tables that fit the first boxes of all classes of a pair of two sound designs spell contents that may fill the
-- implementation
abbrev pub TablesSpellContents : Type 0
TablesSpellContents = OfPairs (λ care shared spec imp p pair. (tables : List TableBits) → FitKindsOf p tables
    → (contents : Contents) × MayFill shared imp contents × AreSpelled p.boxes p.kinds tables contents)

-- and where tables make them equivalent, so do all contents that they spell
abbrev pub SpelledContentsMakeEquivalent : Type 0
SpelledContentsMakeEquivalent = OfPairs (λ care shared spec imp p pair. (tables : List TableBits) → FitKindsOf p tables
    → TablesMakeEquivalent p.spec p.imp (per_box p.kinds tables) → (contents : Contents) → FitDesign imp contents
    → AreSpelled p.boxes p.kinds tables contents → ContentsMakeEquivalent care spec imp contents)

-- contents that the tables spell have them as tables, one for each box, in the netlist of the implementation
abbrev pub SpelledContentsHaveTables : Type 0
SpelledContentsHaveTables = OfPairs (λ care shared spec imp p pair. (tables : List TableBits) → FitKindsOf p tables
    → (contents : Contents) → AreSpelled p.boxes p.kinds tables contents
    → AreTablesOf pair.imp_net contents (per_box p.kinds tables))

-- contents that fit may fill boxes that share nothing; shared contents are some of these, so that where no contents
-- agree no shared ones do
pub record SharingNarrows : Type 0 where
  pub apart : (d : Design) (contents : Contents) → MayFill false d contents ↔ FitDesign d contents
  pub less : (d : Design) (contents : Contents) → MayFill true d contents → MayFill false d contents
  pub none : (care : Option (List ℕ)) (spec imp : Design) → NoContentsMakeEquivalent care false spec imp
      → NoContentsMakeEquivalent care true spec imp

-- equivalence is required in all worlds of the design, or in none
abbrev pub IsAlwaysRequired : Option (List ℕ) → Design → Contents → Type 0
IsAlwaysRequired care d contents = (x : Vector) (w : World) → IsWorld d contents w → HasVector d x w
    → IsRequired care (outputs_in d w)

abbrev pub IsNeverRequired : Option (List ℕ) → Design → Contents → Type 0
IsNeverRequired care d contents = (x : Vector) (w : World) → IsWorld d contents w → HasVector d x w
    → IsRequired care (outputs_in d w) → ⊥

-- with a care output less is requested than agreement at every vector: the same where it is 1 in all worlds, nothing
-- where it is 1 in none, and without one the two are the same
pub record CareRequiresLess (spec imp : Design) (contents : Contents) : Type 0 where
  pub less : (care : Option (List ℕ)) → AreEquivalentEverywhere care spec imp contents → ContentsMakeEquivalent care spec imp contents
  pub always : (care : Option (List ℕ)) → IsAlwaysRequired care spec contents → ContentsMakeEquivalent care spec imp contents
      → AreEquivalentEverywhere care spec imp contents
  pub never : (care : Option (List ℕ)) → IsNeverRequired care spec contents → ContentsMakeEquivalent care spec imp contents
  pub without : ContentsMakeEquivalent None spec imp contents ↔ AreEquivalentEverywhere None spec imp contents

abbrev pub CareOutputsRequireLess : Type 0
CareOutputsRequireLess = (spec imp : Design) (contents : Contents) → CareRequiresLess spec imp contents

-- a design agrees with itself, whatever fits its boxes
abbrev pub DesignsAreEquivalentToThemselves : Type 0
DesignsAreEquivalentToThemselves = (care : Option (List ℕ)) (d : Design) (f : FlatNet) → IsAllowed d → Implements d f
    → IsFlat f → (contents : Contents) → FitDesign d contents → ContentsMakeEquivalent care d d contents
