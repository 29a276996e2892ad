-- Scopes while they are numbered, one after another in elaboration order.
use Rattle.std.specs.Prelude.{◌≡◌, ℕ, ◌+◌, ◌<◌, ◌≤◌, ◌&&◌, List, ◌∷◌, ◌++◌, Vec, length, map, take, drop, Contains, Option, Some, slice_get, is_some}
use Rattle.std.specs.Global.{Global}
use Rattle.std.specs.List.{AllZip, flat_map}
use Rattle.bb_ast.specs.Syntax.{PlainModule}
use Rattle.bb_names.specs.Faults.{IsSound}
use Rattle.bb_blast.specs.declared.placed.Instance as placed
use Rattle.bb_blast.specs.declared.placed.Placed.{Placed}
use Rattle.bb_elab.specs.declared.scopes.Placing.{Placing}
use Rattle.bb_hier.specs.declared.summary.ModuleSummary.{ModuleSummary}
use Rattle.bb_design.specs.Inside.Callees.{callees}
use Rattle.bb_design.specs.Hierarchy.{Design, Scope, below, scopes}
use Rattle.bb_design.specs.NetBits.{scope_bits}
use Rattle.bb_blast.specs.Inside.Placements.{IsScopeAt, IsInstanceAt, IsPlacedAt}
use Rattle.bb_design.specs.Refusals.{IsShallow, IsSmallDesign}
use Rattle.bb_hier.specs.Inside.ModuleSummaries.{IsModuleSummary}

-- a scope of a module as it is placed: with these bits before it, and without those in it
pub record IsAdded (summary : ModuleSummary) (bits place : ℕ) (instance : Option placed.Instance) (p : Placed) : Type 0 where
  pub source : p.module ≡ place
  pub is : p.instance ≡ instance
  pub boxed : p.boxed ≡ (is_some instance && summary.empty)
  pub first : p.first ≡ bits

abbrev pub with_children : Vec ℕ Global → Placed → Placed
with_children children p = record { «module» = p.module; instance = p.instance; boxed = p.boxed; first = p.first; children = children }

-- how many bits the scopes before one have
abbrev pub bits_before : Design → ℕ → ℕ
bits_before d k = length (flat_map scope_bits (take k (scopes d)))

-- all modules of the text, each with its callees and with what its scopes have in common
pub record AreSummarized (text : List PlainModule) (called : List (List ℕ)) (module_summaries : List ModuleSummary) : Type 0 where
  pub lists : called ≡ map (callees text) text
  pub each : AllZip IsModuleSummary text module_summaries

-- the design is that of a text without faults, and is neither too deep nor too large
pub record MayBePlaced (d : Design) : Type 0 where
  pub faultless : IsSound d.text
  pub top : Contains d.text d.top
  pub shallow : IsShallow d
  pub small : IsSmallDesign d

-- these are the scopes before a scope of a module, after which come those below it, down to this many levels, and the
-- rest
pub record IsNext (d : Design) (called : List (List ℕ)) (module_summaries : List ModuleSummary) (placing : Placing) (place : ℕ) (instance : Option placed.Instance) (levels : ℕ) (s : Scope) (rest : List Scope) : Type 0 where
  pub may : MayBePlaced d
  pub summarized : AreSummarized d.text called module_summaries
  pub after : drop (length placing.scopes.items) (scopes d) ≡ (s ∷ below levels d.text s) ++ rest
  pub bits : placing.bits ≡ bits_before d (length placing.scopes.items)
  pub source : slice_get d.text place ≡ Some s.source
  pub is : IsInstanceAt d (length placing.scopes.items) s instance
  pub long : length s.path + levels ≡ 64

-- there are more scopes than before now, after which comes the rest
pub record IsPlacedNext (d : Design) (old new : Placing) (number : ℕ) (rest : List Scope) : Type 0 where
  pub is : number ≡ length old.scopes.items
  pub more : List Placed
  pub grows : new.scopes.items ≡ old.scopes.items ++ more
  pub some : 0 < length more
  pub within : length new.scopes.items ≤ length (scopes d)
  pub after : drop (length new.scopes.items) (scopes d) ≡ rest
  pub bits : new.bits ≡ bits_before d (length new.scopes.items)
  pub each : (k : ℕ) (s : Scope) (p : Placed) → length old.scopes.items ≤ k → IsScopeAt d k s → slice_get new.scopes.items k ≡ Some p → IsPlacedAt d k s p
