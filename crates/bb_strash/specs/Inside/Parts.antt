-- How a part of a netlist is copied cell by cell.
use Rattle.std.specs.Prelude.{◌≡◌, ℕ, ◌<◌, Bool, List, length, map, slice_index}
use Rattle.bb_net.specs.declared.cell.Cell.{Cell}
use Rattle.bb_net.specs.declared.cell.Cell.TheVariants.{Const, Input, Not, And, Or, Xor, Mux, BoxOut}
use Rattle.bb_net.specs.Netlists.{Netlist}
use Rattle.bb_strash.specs.Inside.Extensions.{bit}

-- a cell that was at one place is at another one now, where the first list has the old places and the second the new
-- ones
abbrev pub IsMoved : List ℕ → List ℕ → ℕ → ℕ → Type 0
IsMoved known places old new = (i : ℕ) × (i < length known) × (i < length places)
    × (slice_index known i ≡ old) × (slice_index places i ≡ new)

-- a gate over the new places; an input and a box output have none
abbrev pub IsMovedGate : List ℕ → List ℕ → Cell → Cell → Type 0
IsMovedGate known places (Const b) new = new ≡ Const b
IsMovedGate known places (Input i) new = ⊥
IsMovedGate known places (Not a) new = (p : ℕ) × IsMoved known places a p × (new ≡ Not p)
IsMovedGate known places (And a b) new = (p q : ℕ) × IsMoved known places a p × IsMoved known places b q × (new ≡ And p q)
IsMovedGate known places (Or a b) new = (p q : ℕ) × IsMoved known places a p × IsMoved known places b q × (new ≡ Or p q)
IsMovedGate known places (Xor a b) new = (p q : ℕ) × IsMoved known places a p × IsMoved known places b q × (new ≡ Xor p q)
IsMovedGate known places (Mux c t e) new = (p q r : ℕ)
    × IsMoved known places c p × IsMoved known places t q × IsMoved known places e r × (new ≡ Mux p q r)
IsMovedGate known places (BoxOut b p) new = ⊥

-- where the inputs of the part have the bits of these cells, the cells that are known have their bits at their places
pub record AreCut (net : Netlist) (leaves known : List ℕ) (part : Netlist) (places : List ℕ) : Type 0 where
  pub there : (i : ℕ) → i < length places → slice_index places i < length part.cells
  pub same : (x : List Bool) (i : ℕ) → i < length places → i < length known
      → bit part (map (bit net x) leaves) (slice_index places i) ≡ bit net x (slice_index known i)
