-- The designs of which laws speak: those of well-formed texts without faults that are neither too deep nor too large,
-- and those of them that are not refused for another cause either.
use Rattle.std.specs.Prelude.{◌≡◌, ℕ, List, Contains, Option, Some}
use Rattle.std.specs.List.{AllByRecursion}
use Rattle.bb_ast.specs.Inside.Formed.{IsFormed}
use Rattle.bb_ast.specs.Syntax.{PlainModule}
use Rattle.bb_names.specs.Faults.{IsSound}
use Rattle.bb_design.specs.Hierarchy.{Design, top_of}
use Rattle.bb_design.specs.Refusals.{IsShallow, IsSmallDesign, IsSoundDesign, IsSoundText, design_on}

-- the design is one of a well-formed text without faults, and is neither too deep nor too large
pub record IsBounded (d : Design) : Type 0 where
  pub formed : AllByRecursion IsFormed d.text
  pub faultless : IsSound d.text
  pub top : Contains d.text d.top
  pub shallow : IsShallow d
  pub small : IsSmallDesign d

-- and there is no other cause to refuse it
pub record IsAllowed (d : Design) : Type 0 where
  pub bounded : IsBounded d
  pub sound : IsSoundDesign d

-- a sound text without faults has a design that is allowed
abbrev pub SoundTextsAreAllowed : Type 0
SoundTextsAreAllowed = (text : List PlainModule) (name : Option (List ℕ)) (top : PlainModule) → AllByRecursion IsFormed text → IsSound text → IsSoundText text name → top_of text name ≡ Some top
    → IsAllowed (design_on text top)
