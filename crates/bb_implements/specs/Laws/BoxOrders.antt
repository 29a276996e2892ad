-- Laws of the order in which the boxes of a design are taken: each after those on which it depends, and of those that
-- are ready the first in elaboration order.
use Rattle.std.specs.Prelude.{◌≡◌, ℕ, ◌<◌, List, ◌∷◌, ◌++◌, map, Contains, IsPermutation}
use Rattle.bb_bits.specs.Closures.{IsFirst}
use Rattle.bb_design.specs.Inside.Allowed.{IsAllowed}
use Rattle.bb_design.specs.Hierarchy.{Design, Scope, boxes}
use Rattle.bb_net.specs.Flats.{FlatNet}
use Rattle.bb_implements.specs.Implements.{Implements, box_texts}
use Rattle.bb_implements.specs.BoxOrders.{DependsOnBox}

-- a box may be taken after these: it is none of them, and depends on them alone
pub record MayBeTakenNext (d : Design) (taken : List Scope) (s : Scope) : Type 0 where
  pub new : Contains taken s → ⊥
  pub ready : (t : Scope) → Contains (boxes d) t → DependsOnBox d s t → Contains taken t

-- all boxes of the design, each the first that may be taken after those before it
pub record IsBoxOrder (d : Design) (order : List Scope) : Type 0 where
  pub all : IsPermutation order (boxes d)
  pub next : (before : List Scope) (s : Scope) (after : List Scope) → order ≡ before ++ s ∷ after → IsFirst (MayBeTakenNext d before) (boxes d) s

-- a netlist that implements a sound design has its boxes in this order
abbrev pub ImplementingNetsHaveBoxOrders : Type 0
ImplementingNetsHaveBoxOrders = (d : Design) (f : FlatNet) → IsAllowed d → Implements d f
    → (order : List Scope) × IsBoxOrder d order × (f.boxes ≡ map (box_texts d) order)

-- in a sound design each box has a greater height than those on which it depends
abbrev pub BoxesHaveHeights : Type 0
BoxesHaveHeights = (d : Design) → IsAllowed d → (height : Scope → ℕ) × ((s t : Scope) → Contains (boxes d) t → DependsOnBox d s t → height t < height s)
