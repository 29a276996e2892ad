-- The design of a text, or the first thing for which it is refused: a fault of its tokens; or of its statements; or it
-- reads as modules, and these break a rule on names; or they break none, and there is a cause to refuse the design of
-- the top and the modules below it. A top may be named; without a name it is the one module that none instantiates.
use Rattle.std.specs.Prelude.{◌≡◌, ◌⊎◌, ℕ, List, Option, Some}
use Rattle.bb_ast.specs.Syntax.{PlainModule}
use Rattle.bb_design.specs.Hierarchy.{Design, top_of}
use Rattle.bb_design.specs.Refusals.{IsSoundDesign, IsFirstDesignRefusal}
use Rattle.bb_names.specs.Faults.{IsSound, IsFirstFault}
use Rattle.bb_lex.specs.Cut.{IsBadOn}
use Rattle.bb_parse.specs.declared.fault.ParseFault.TheVariants as parse
use Rattle.bb_parse.specs.Sources.{ReadsAs}
use Rattle.bb_frontend.specs.declared.side_fault.SideFault.{SideFault}
use Rattle.bb_frontend.specs.declared.side_fault.SideFault.TheVariants.{Token, Statement, Deep, Unended, Named, Elaborated, NoMemory}
use Rattle.bb_frontend.specs.Refusals.{HasFault}

-- the text reads as the modules of the design, under its top, whatever may be at fault in it
pub record IsReadAs (name : Option (List ℕ)) (text : List ℕ) (d : Design) : Type 0 where
  pub reads : ReadsAs text d.text
  pub top : top_of d.text name ≡ Some d.top

-- it is the design of the text: nothing is at fault in it, and there is no cause to refuse it
pub record IsDesignOf (name : Option (List ℕ)) (text : List ℕ) (d : Design) : Type 0 where
  pub reads : ReadsAs text d.text
  pub faultless : IsSound d.text
  pub top : top_of d.text name ≡ Some d.top
  pub sound : IsSoundDesign d

-- it is the first fault of the text
abbrev pub IsSideFault : Option (List ℕ) → List ℕ → SideFault → Type 0
IsSideFault name text (Token line) = IsBadOn text line
IsSideFault name text (Statement line) = HasFault text (parse.Statement line)
IsSideFault name text (Deep line) = HasFault text (parse.Deep line)
IsSideFault name text Unended = HasFault text parse.Unended
IsSideFault name text (Named fault) = (modules : List PlainModule) × ReadsAs text modules × IsFirstFault modules fault
IsSideFault name text (Elaborated fault) = (modules : List PlainModule) × ReadsAs text modules × IsSound modules × IsFirstDesignRefusal modules name fault
IsSideFault name text NoMemory = ⊥

-- laws that a reader expects

-- a text reads as at most one design for a top
abbrev pub TextsReadAsOne : Type 0
TextsReadAsOne = (name : Option (List ℕ)) (text : List ℕ) (d e : Design) → IsReadAs name text d → IsReadAs name text e → d ≡ e

-- so it has at most one design for a top
abbrev pub TextDesignsAreOne : Type 0
TextDesignsAreOne = (name : Option (List ℕ)) (text : List ℕ) (d e : Design) → IsDesignOf name text d → IsDesignOf name text e → d ≡ e

-- and at most one first fault
abbrev pub SideFaultsAreOne : Type 0
SideFaultsAreOne = (name : Option (List ℕ)) (text : List ℕ) (e f : SideFault) → IsSideFault name text e → IsSideFault name text f → e ≡ f

-- and not both
abbrev pub NotDesignAndFault : Type 0
NotDesignAndFault = (name : Option (List ℕ)) (text : List ℕ) (d : Design) (fault : SideFault) → IsDesignOf name text d → IsSideFault name text fault → ⊥

-- but one of them
abbrev pub DesignOrFault : Type 0
DesignOrFault = (name : Option (List ℕ)) (text : List ℕ) → ((d : Design) × IsDesignOf name text d) ⊎ ((fault : SideFault) × IsSideFault name text fault)
