-- The stages of elaboration, each with what holds of the design after it.
use Rattle.std.specs.Prelude.{◌≡◌, ℕ, List, length}
use Rattle.bb_ast.specs.Syntax.{PlainModule}
use Rattle.bb_net.specs.Loose.{LooseList}
use Rattle.bb_net.specs.Netlists.{Netlist, IsNetlist}
use Rattle.bb_net.specs.Orders.{IsOrderOf}
use Rattle.bb_elab.specs.declared.elaboration.Elaborated.{Elaborated}
use Rattle.bb_blast.specs.declared.template.ModuleTemplate.{ModuleTemplate}
use Rattle.bb_blast.specs.declared.placed.Placed.{Placed}
use Rattle.bb_blast.specs.declared.stored.Stored.{Stored}
use Rattle.bb_design.specs.Hierarchy.{Design}
use Rattle.bb_design.specs.Inside.Allowed.{IsBounded}
use Rattle.bb_design.specs.NetBits.{net_order}
use Rattle.bb_blast.specs.Inside.Placements.{ArePlaced, AreTemplated, AreStored}
use Rattle.bb_elab.specs.Inside.DrivenNumbers.{AreCounts}
use Rattle.bb_implements.specs.Places.{Lowering, IsLowering, IsListOf}
use Rattle.bb_design.specs.Refusals.{AreDrivenOnce, AreDriven, IsAcyclic}
use Rattle.bb_hier.specs.Inside.Finite.{IsFinite}

-- its scopes, the constructs of its modules, its drivers and its registers are found, and no bit is driven twice
pub record AreElaborated (d : Design) (placed : List Placed) (templates : List ModuleTemplate) (counts : List ℕ) (stored : List Stored) : Type 0 where
  pub scopes : ArePlaced d placed
  pub templated : AreTemplated d placed templates
  pub counted : AreCounts d counts
  pub once : AreDrivenOnce d
  pub registers : AreStored d stored

-- its list of cells, levelized; no read bit lacks a driver, and there is no loop
pub record AreLevelized (d : Design) (list : LooseList) (net : Netlist) (numbers : List ℕ) : Type 0 where
  pub lowering : Lowering
  pub lowered : IsLowering d lowering
  pub listed : IsListOf d lowering list
  pub netlist : IsNetlist net
  pub ordered : IsOrderOf list net numbers
  pub driven : AreDriven d
  pub acyclic : IsAcyclic d

-- a finite design of a text, with its scopes, constructs, drivers and registers
pub record IsElaborated (text : List PlainModule) (d : Design) (g : Elaborated) : Type 0 where
  pub of_text : d.text ≡ text
  pub finite : IsFinite d
  pub elaborated : AreElaborated d g.placed.items g.templates.items g.counts.items g.stored.items

-- a list is that of its cells, where its expressions are lowered in some way
abbrev pub IsListed : Design → LooseList → Type 0
IsListed d list = (lowering : Lowering) × IsLowering d lowering × IsListOf d lowering list

-- a design of a text with this many bits, of which it can be found which are read
pub record IsReadable (text : List PlainModule) (d : Design) (list : LooseList) (stored : List Stored) (bits : ℕ) : Type 0 where
  pub of_text : d.text ≡ text
  pub bounded : IsBounded d
  pub once : AreDrivenOnce d
  pub listed : IsListed d list
  pub registers : AreStored d stored
  pub count : bits ≡ length (net_order d)
