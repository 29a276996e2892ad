-- Netlists that implement one design are isomorphic: only the order of their cells, and how expressions are lowered, is
-- left open.
use Rattle.bb_iso.specs.Laws.Isomorphism.{AreIsomorphic}
use Rattle.bb_net.specs.Flats.{FlatNet}
use Rattle.bb_design.specs.Hierarchy.{Design}
use Rattle.bb_design.specs.Inside.Allowed.{IsAllowed}
use Rattle.bb_implements.specs.Implements.{Implements}

-- netlists that implement one design are isomorphic
abbrev pub ImplementingNetsAreIsomorphic : Type 0
ImplementingNetsAreIsomorphic = (d : Design) (f g : FlatNet) → IsAllowed d → Implements d f → Implements d g → AreIsomorphic f.net g.net
