-- Laws that a reader expects of these definitions.
pub mod BitLaws
pub mod CauseLaws
pub mod DesignLaws
pub mod DriveLaws
pub mod DrivenWorlds
pub mod HierarchyLaws
pub mod SoundSites
pub mod Wired
use Rattle.std.specs.Prelude.{◌≡◌, ◌≢◌, ◌⊎◌, ℕ, true, false, List, [], map, All, AllPairs, Contains, Option, Some, None}
use Rattle.bb_ast.specs.Assignable.{is_assignable}
use Rattle.bb_ast.specs.Syntax.{Expression, PlainModule}
use Rattle.bb_names.specs.Faults.{IsSound}
use Rattle.bb_design.specs.declared.fault.ElabFault.{ElabFault}
use Rattle.bb_design.specs.Hierarchy.{Path, Design, Scope, instances_of, is_instantiated, top_of, module_at, scopes}
use Rattle.bb_design.specs.NetBits.{Bit, net_order, written_bits}
use Rattle.bb_design.specs.Contexts.{width_of, value_in}
use Rattle.bb_design.specs.Drivers.{driven_bits}
use Rattle.bb_design.specs.Reading.{IsReadBit}
use Rattle.bb_design.specs.Dependence.{dependences}
use Rattle.bb_design.specs.Refusals.{IsShallow, design_on, IsSoundText, IsFirstDesignRefusal}
use Rattle.bb_design.specs.Texts.{path_text}
use Rattle.bb_design.specs.Worlds.{World, bits_in}

-- no text is sound and refused
abbrev pub NotSoundAndRefused : Type 0
NotSoundAndRefused = (text : List PlainModule) (name : Option (List ℕ)) (fault : ElabFault) → IsSoundText text name → IsFirstDesignRefusal text name fault → ⊥

-- there is one first refusal at most
abbrev pub FirstRefusalsAreOne : Type 0
FirstRefusalsAreOne = (text : List PlainModule) (name : Option (List ℕ)) (e f : ElabFault) → IsFirstDesignRefusal text name e → IsFirstDesignRefusal text name f → e ≡ f

-- a module of the text that none instantiates, and there is no other
pub record TopIsOnly (text : List PlainModule) (top : PlainModule) : Type 0 where
  pub there : Contains text top
  pub free : is_instantiated text top.name ≡ false
  pub only : (m : PlainModule) → Contains text m → is_instantiated text m.name ≡ false → m ≡ top

-- a module of the text that has this name
pub record TopIsNamed (text : List PlainModule) (n : List ℕ) (top : PlainModule) : Type 0 where
  pub there : Contains text top
  pub named : top.name ≡ n

-- without a name it is the only one that none instantiates, else one of that name
abbrev pub TopIsMeant : List PlainModule → Option (List ℕ) → PlainModule → Type 0
TopIsMeant text None top = TopIsOnly text top
TopIsMeant text (Some n) top = TopIsNamed text n top

abbrev pub TopsAreMeant : Type 0
TopsAreMeant = (text : List PlainModule) (name : Option (List ℕ)) (top : PlainModule) → top_of text name ≡ Some top → TopIsMeant text name top

-- names without a dot: the byte 46
abbrev pub HasNoDot : List ℕ → Type 0
HasNoDot n = All (λ b. b ≢ 46) n

-- paths of equal texts are equal, where no name of an instance is empty or has a dot in it
abbrev pub PathsAreCalledApart : Type 0
PathsAreCalledApart = (p q : Path) → All (λ n. HasNoDot n × (n ≢ [])) p → All (λ n. HasNoDot n × (n ≢ [])) q → path_text p ≡ path_text q → p ≡ q

-- what may be assigned has the bits that are written there
abbrev pub WrittenBitsAreValue : Type 0
WrittenBitsAreValue = (w : World) (s : Scope) (e : Expression) → is_assignable e ≡ true → bits_in w (written_bits s e) ≡ value_in (w s.path) s e (width_of s e)

-- the bits that are driven or read are bits of the design
pub record BitsAreThere (d : Design) : Type 0 where
  pub driven : All (Contains (net_order d)) (driven_bits d)
  pub read : (b : Bit) → IsReadBit d b → Contains (net_order d) b

-- as they are in a text without faults, where the design is not too deep: otherwise scopes on the first level that is
-- too deep are listed, but the instances in them, whose ports they drive, are not
abbrev pub SoundBitsAreThere : Type 0
SoundBitsAreThere = (text : List PlainModule) (top : PlainModule) → IsSound text → Contains text top → IsShallow (design_on text top) → BitsAreThere (design_on text top)

-- a text without faults is sound or has a first refusal
abbrev pub SoundOrRefused : Type 0
SoundOrRefused = (text : List PlainModule) (name : Option (List ℕ)) → IsSound text → IsSoundText text name ⊎ ((fault : ElabFault) × IsFirstDesignRefusal text name fault)

-- what a read bit depends on is read
abbrev pub ReadNeedsRead : Type 0
ReadNeedsRead = (d : Design) (b c : Bit) → IsReadBit d b → Contains (dependences d) (b, c) → IsReadBit d c

-- instances of one module have different names, as in a text without faults
abbrev pub HasNamesApart : PlainModule → Type 0
HasNamesApart m = AllPairs ◌≢◌ (map (λ i. i.name) (instances_of m))

-- a path leads to each scope; and in a design that is not too deep each end of a path is a scope
pub record ScopesAreEnds (d : Design) : Type 0 where
  pub reached : (s : Scope) → Contains (scopes d) s → module_at d s.path ≡ Some s.source
  pub listed : IsShallow d → (path : Path) (m : PlainModule) → module_at d path ≡ Some m → Contains (scopes d) (record { path = path; source = m })

abbrev pub PathsLeadToScopes : Type 0
PathsLeadToScopes = (d : Design) → Contains d.text d.top → All HasNamesApart d.text → ScopesAreEnds d

-- in a text without faults they have
abbrev pub SoundTextsHaveNamesApart : Type 0
SoundTextsHaveNamesApart = (text : List PlainModule) → IsSound text → All HasNamesApart text
