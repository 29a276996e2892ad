-- A netlist without boxes to which cells are added, and the bits of its cells at a vector.
use Rattle.std.specs.Prelude.{◌≡◌, ℕ, ◌<◌, ◌≤◌, Bool, false, List, [], ◌++◌, length}
use Rattle.bb_net.specs.declared.cell.Cell.{Cell}
use Rattle.bb_net.specs.Netlists.{Netlist, IsNetlist}
use Rattle.bb_net.specs.Values.{bit_of, flat, gate}

-- the bit of the cell at a place, at a vector
abbrev pub bit : Netlist → List Bool → ℕ → Bool
bit net x place = bit_of (flat net x []) place

-- the bit of a gate over cells with these bits, where there are no boxes
abbrev pub gate_bit : List Bool → (ℕ → Bool) → Cell → Bool
gate_bit x value cell = gate [] x (λ b p ins. false) value cell

-- at most `most` cells are added at the end of a netlist without boxes, and nothing else changes
pub record Extends (old new : Netlist) (most : ℕ) : Type 0 where
  pub before : IsNetlist old
  pub after : IsNetlist new
  pub none : old.boxes ≡ []
  pub inputs : new.inputs ≡ old.inputs
  pub boxes : new.boxes ≡ []
  pub outs : new.outs ≡ old.outs
  pub more : List Cell
  pub cells : new.cells ≡ old.cells ++ more
  pub few : length more ≤ most

-- the cell at a place has at each vector the bit that is given
pub record Gives (net : Netlist) (place : ℕ) (wanted : List Bool → Bool) : Type 0 where
  pub there : place < length net.cells
  pub same : (x : List Bool) → bit net x place ≡ wanted x
