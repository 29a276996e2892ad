-- Laws of designs whose boxes are finished by modules.
use Rattle.std.specs.Prelude.{◌≡◌, ◌↔◌, ℕ, false, List, [], filter, map, All, Option, None, option_map}
use Rattle.bb_ast.specs.Syntax.{PlainModule}
use Rattle.bb_bits.specs.Contents.{Contents}
use Rattle.bb_design.specs.Hierarchy.{Design, boxes, top_of}
use Rattle.bb_design.specs.Inside.Allowed.{IsAllowed, IsBounded}
use Rattle.bb_design.specs.Refusals.{IsHierarchy, IsSmallDesign, input_texts, output_texts, register_texts}
use Rattle.bb_design.specs.NetBits.{top_inputs, top_outputs}
use Rattle.bb_design.specs.Registers.{registers}
use Rattle.bb_design.specs.Worlds.{World, Vector, FitDesign, IsWorld, HasVector, outputs_in}
use Rattle.bb_names.specs.Faults.{IsSound}
use Rattle.bb_names.specs.Nets.{is_empty}
use Rattle.bb_equiv.specs.Comparable.{AreComparable}
use Rattle.bb_equiv.specs.DesignEquivalence.{AreEquivalentEverywhere, ContentsMakeEquivalent}
use Rattle.bb_replace.specs.Laws.Replacement.{AllMayReplace, AreComputed, AreThoseNeeded, StandsAlone, is_unfinished}
use Rattle.bb_replace.specs.Laws.Replacement.{replaced, replaced_design}
pub mod Replacement

-- a world of a design with modules is one of the design with boxes
pub record IsWorldToo (modules : List PlainModule) (d : Design) (contents : Contents) (w : World) : Type 0 where
  pub world : IsWorld d contents w
  pub vector : (x : Vector) → HasVector (replaced_design modules d) x w ↔ HasVector d x w
  pub outputs : outputs_in (replaced_design modules d) w ≡ outputs_in d w

-- where contents are those that the modules compute
abbrev pub ReplacedWorldsAreWorlds : Type 0
ReplacedWorldsAreWorlds = (modules : List PlainModule) (d : Design) (contents : Contents) (w : World) → IsBounded d
    → AllMayReplace modules d.text → AreComputed modules d contents → IsWorld (replaced_design modules d) contents w
    → IsWorldToo modules d contents w

-- where such contents make a design equivalent to a specification, it stays so with the modules; that it has worlds with
-- them is said by the law that it is allowed
abbrev pub ReplacedStayEquivalent : Type 0
ReplacedStayEquivalent = (care : Option (List ℕ)) (modules : List PlainModule) (spec imp : Design) (contents : Contents)
    → IsBounded imp → AllMayReplace modules imp.text → AreComputed modules imp contents
    → ContentsMakeEquivalent care spec imp contents
    → ContentsMakeEquivalent care spec (replaced_design modules imp) contents

-- a text without faults stays so with modules that stand alone
abbrev pub ReplacedTextsAreSound : Type 0
ReplacedTextsAreSound = (modules text : List PlainModule) → AllMayReplace modules text → All StandsAlone modules
    → IsSound text → IsSound (map (replaced modules) text)

-- a design with modules has the ports and the registers of the design with boxes; the boxes that are left are those for
-- which there is no module, and no recursion comes with modules
pub record KeepsInterface (modules : List PlainModule) (d : Design) : Type 0 where
  pub inputs : top_inputs (replaced_design modules d) ≡ top_inputs d
  pub outputs : top_outputs (replaced_design modules d) ≡ top_outputs d
  pub registers : registers (replaced_design modules d) ≡ registers d
  pub input_names : input_texts (replaced_design modules d) ≡ input_texts d
  pub output_names : output_texts (replaced_design modules d) ≡ output_texts d
  pub register_names : register_texts (replaced_design modules d) ≡ register_texts d
  pub boxes : boxes (replaced_design modules d) ≡ filter (is_unfinished modules) (boxes d)
  pub hierarchy : IsHierarchy d → IsHierarchy (replaced_design modules d)

abbrev pub ReplacedKeepInterface : Type 0
ReplacedKeepInterface = (modules : List PlainModule) (d : Design) → IsBounded d → AllMayReplace modules d.text
    → KeepsInterface modules d

-- a design that is refused for nothing is refused for nothing but its size with modules that stand alone
abbrev pub ReplacedAreAllowed : Type 0
ReplacedAreAllowed = (modules : List PlainModule) (d : Design) → AllMayReplace modules d.text → All StandsAlone modules
    → is_empty d.top ≡ false → IsAllowed d → IsSmallDesign (replaced_design modules d)
    → IsAllowed (replaced_design modules d)

-- a design with modules, one for each empty module that has a box and no others, is finished: it is refused for nothing,
-- has the ports and registers of the design with boxes, no box, and can be compared with the specification, to which it
-- is equivalent whatever contents boxes would have; and its outputs and next states are everywhere those of the design
-- whose boxes have these contents, which fit and are what the modules compute
pub record AreFinished (care : Option (List ℕ)) (modules : List PlainModule) (spec imp : Design) (contents : Contents)
    : Type 0 where
  pub needed : AreThoseNeeded modules imp
  pub fit : FitDesign imp contents
  pub computed : AreComputed modules imp contents
  pub allowed : IsAllowed (replaced_design modules imp)
  pub interface : KeepsInterface modules imp
  pub complete : boxes (replaced_design modules imp) ≡ []
  pub comparable : AreComparable care spec (replaced_design modules imp)
  pub agree : (other : Contents) → ContentsMakeEquivalent care spec (replaced_design modules imp) other
  pub same : AreEquivalentEverywhere None (replaced_design modules imp) imp contents

-- so it is where a module for each box stands alone and computes contents that make the designs equivalent, unless it is
-- too large
abbrev pub ModulesFinish : Type 0
ModulesFinish = (care : Option (List ℕ)) (modules : List PlainModule) (spec imp : Design) (contents : Contents)
    → IsAllowed spec → IsAllowed imp → is_empty imp.top ≡ false → AllMayReplace modules imp.text
    → All StandsAlone modules → AreThoseNeeded modules imp → filter (is_unfinished modules) (boxes imp) ≡ []
    → IsSmallDesign (replaced_design modules imp) → AreComparable care spec imp → FitDesign imp contents
    → AreComputed modules imp contents → ContentsMakeEquivalent care spec imp contents
    → AreFinished care modules spec imp contents

-- the top of a text with modules is what comes in the place of its top
abbrev pub ReplacedTopsStay : Type 0
ReplacedTopsStay = (modules text : List PlainModule) (name : Option (List ℕ)) → AllMayReplace modules text
    → top_of (map (replaced modules) text) name ≡ option_map (replaced modules) (top_of text name)
