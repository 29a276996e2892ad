-- The filled text as a design. The premises are those under which a text is made: there is a table for each box and no
-- name clashes, each register has a clock, and the text is not too large.
pub mod Modules
pub mod Designs
use Rattle.std.specs.Prelude.{List, [], ◌∷◌, ◌≡◌, ◌↔◌, Bool, Contains, None, Some, codes}
use Rattle.bb_bits.specs.Tables.{TableBits}
use Rattle.bb_parse.specs.Sources.{ReadsAs}
use Rattle.bb_net.specs.Flats.{FlatNet, HaveClocks}
use Rattle.bb_fill.specs.Filled.{filled_text}
use Rattle.bb_fill.specs.Laws.{IsReady}
use Rattle.bb_readback.specs.Laws.Modules.{filled_module}
use Rattle.bb_bits.specs.Contents.{Contents}
use Rattle.bb_names.specs.Faults.{IsSound}
use Rattle.bb_net.specs.CutPoints.{CutOutput}
use Rattle.bb_fill.specs.Sizes.{IsSmallText, filled_cell_count, net_count}
use Rattle.bb_design.specs.Hierarchy.{boxes, top_of}
use Rattle.bb_design.specs.Refusals.{IsSoundDesign}
use Rattle.bb_design.specs.Sizes.{bits_and_instances, cells_in}
use Rattle.bb_design.specs.Worlds.{World, Vector, HasVector, IsWorld, outputs_in}
use Rattle.bb_readback.specs.Laws.Designs.{filled_design, IsCalledAs, outputs_by}

-- the printed text reads as the one module that its lines say
abbrev pub FilledTextsAreRead : Type 0
FilledTextsAreRead = (f : FlatNet) (tables : List TableBits) → IsReady f tables → HaveClocks f → ReadsAs (filled_text f tables) (filled_module f tables ∷ [])

-- the filled module breaks no rule on names, widths and roles
abbrev pub FilledModulesAreSound : Type 0
FilledModulesAreSound = (f : FlatNet) (tables : List TableBits) → IsReady f tables → HaveClocks f → IsSmallText f tables → IsSound (filled_module f tables ∷ [])

-- it is the top of its text, whether its name is given or none is
pub record IsTop (f : FlatNet) (tables : List TableBits) : Type 0 where
  pub alone : top_of (filled_module f tables ∷ []) None ≡ Some (filled_module f tables)
  pub named : top_of (filled_module f tables ∷ []) (Some (codes "filled")) ≡ Some (filled_module f tables)

abbrev pub FilledModulesAreTops : Type 0
FilledModulesAreTops = (f : FlatNet) (tables : List TableBits) → IsTop f tables

-- the design is refused for no cause, and it has no box
pub record IsComplete (f : FlatNet) (tables : List TableBits) : Type 0 where
  pub sound : IsSoundDesign (filled_design f tables)
  pub complete : boxes (filled_design f tables) ≡ []

abbrev pub FilledDesignsAreSound : Type 0
FilledDesignsAreSound = (f : FlatNet) (tables : List TableBits) → IsReady f tables → HaveClocks f → IsSmallText f tables → IsComplete f tables

-- its sizes are those that were counted for the text
pub record AreCounted (f : FlatNet) (tables : List TableBits) : Type 0 where
  pub bits : bits_and_instances (filled_design f tables) ≡ net_count f tables
  pub cells : cells_in (filled_design f tables) ≡ filled_cell_count f tables

abbrev pub FilledDesignsAreCounted : Type 0
FilledDesignsAreCounted = (f : FlatNet) (tables : List TableBits) → IsReady f tables → HaveClocks f → IsSmallText f tables → AreCounted f tables

abbrev pub FilledDesignsAreNamedTheSame : Type 0
FilledDesignsAreNamedTheSame = (f : FlatNet) (tables : List TableBits) → IsReady f tables → HaveClocks f → IsSmallText f tables → IsCalledAs (filled_design f tables) f

-- at every vector each world has at its cut outputs the bits that the netlist has there, whose boxes hold the tables;
-- contents of boxes do not count, since there are none
abbrev pub FilledDesignsHaveBits : Type 0
FilledDesignsHaveBits = (f : FlatNet) (tables : List TableBits) → IsReady f tables → HaveClocks f → IsSmallText f tables
    → (contents : Contents) (x : Vector) (w : World) → IsWorld (filled_design f tables) contents w → HasVector (filled_design f tables) x w
    → (o : CutOutput) (b : Bool) → Contains (outputs_in (filled_design f tables) w) (o, b) ↔ Contains (outputs_by f tables x) (o, b)
