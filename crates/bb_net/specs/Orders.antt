-- When a netlist is an unordered list put in topological order: every cell but the buffers (copies) is in it once, with
-- its operands moved along; a buffer is replaced by the cell that it buffers; nothing is joined or dropped. Each box
-- comes after those on which its inputs depend, and among the boxes that are ready the first one of the list comes
-- first. Only this order of the boxes is fixed; other cells may come in any order that is possible. Every chain of
-- buffers has to end at a cell, since a buffer of itself could be anywhere.
use Rattle.std.specs.Prelude.{◌≡◌, ◌≢◌, ◌↔◌, ℕ, ◌+◌, ◌<◌, ◌≤◌, zero, suc, Bool, List, length, take, map, AllPairs, Contains, slice_index}
use Rattle.bb_net.specs.declared.cell.Cell.{Cell}
use Rattle.bb_net.specs.declared.cell.Cell.TheVariants as cell
use Rattle.bb_net.specs.declared.loose.LooseCell.{LooseCell}
use Rattle.bb_net.specs.declared.loose.LooseCell.TheVariants.{Const, Input, Not, And, Or, Xor, Mux, BoxOut, Copy}
use Rattle.bb_net.specs.Netlists.{Netlist, Pins, cell_at, box_at, IsNetlist}
use Rattle.bb_net.specs.Values.{bit_of, value_of}
use Rattle.bb_net.specs.Loose.{LooseList, loose_at, IsLoose, IsLooseValue, NeedsBox, IsOnClosedWalk}

-- it is no buffer
abbrev pub IsNoCopy : LooseCell → Type 0
IsNoCopy (Copy p) = ⊥
IsNoCopy (Const b) = Unit {0}
IsNoCopy (Input i) = Unit {0}
IsNoCopy (Not a) = Unit {0}
IsNoCopy (And a b) = Unit {0}
IsNoCopy (Or a b) = Unit {0}
IsNoCopy (Xor a b) = Unit {0}
IsNoCopy (Mux c t e) = Unit {0}
IsNoCopy (BoxOut b p) = Unit {0}

-- a chain of this many buffers leads from a place to a cell that is no buffer
abbrev pub IsCopySource : ℕ → LooseList → ℕ → ℕ → Type 0
IsCopySource zero l k source = (k ≡ source) × IsNoCopy (loose_at l k)
IsCopySource (suc n) l k source = (p : ℕ) × (p < length l.cells) × (loose_at l k ≡ Copy p) × IsCopySource n l p source

-- a cell of the list is this cell of the netlist: its operands are moved, and the number of box b in the list is entry
-- b
abbrev pub IsMoved : (ℕ → ℕ) → List ℕ → LooseCell → Cell → Type 0
IsMoved to numbers (Const b) c = c ≡ cell.Const b
IsMoved to numbers (Input i) c = c ≡ cell.Input i
IsMoved to numbers (Not a) c = c ≡ cell.Not (to a)
IsMoved to numbers (And a b) c = c ≡ cell.And (to a) (to b)
IsMoved to numbers (Or a b) c = c ≡ cell.Or (to a) (to b)
IsMoved to numbers (Xor a b) c = c ≡ cell.Xor (to a) (to b)
IsMoved to numbers (Mux i t e) c = c ≡ cell.Mux (to i) (to t) (to e)
IsMoved to numbers (BoxOut d p) c = (b : ℕ) × (b < length numbers) × (slice_index numbers b ≡ d) × (c ≡ cell.BoxOut b p)
IsMoved to numbers (Copy p) c = ⊥

-- the pins with their places moved
abbrev pub moved_pins : (ℕ → ℕ) → Pins → Pins
moved_pins to pins = record { ins = map to pins.ins; outs = map to pins.outs }

-- each box on which box c depends is among these
abbrev pub IsReadyBox : LooseList → List ℕ → ℕ → Type 0
IsReadyBox l placed c = (d : ℕ) → NeedsBox l c d → Contains placed d

pub record IsOrderOf (l : LooseList) (net : Netlist) (numbers : List ℕ) : Type 0 where
  -- where each place of the list is in the netlist
  pub to : ℕ → ℕ
  pub inputs : net.inputs ≡ l.inputs
  -- the constants and the inputs stay where they are
  pub prefix : (k : ℕ) → k < l.inputs + 2 → to k ≡ k
  -- each cell but the buffers is there once, and no other cell is
  pub there : (k : ℕ) → k < length l.cells → to k < length net.cells
  pub moved : (k : ℕ) → k < length l.cells → IsNoCopy (loose_at l k) → IsMoved to numbers (loose_at l k) (cell_at net.cells (to k))
  pub apart : (k m : ℕ) → k < length l.cells → m < length l.cells → IsNoCopy (loose_at l k) → IsNoCopy (loose_at l m) → to k ≡ to m → k ≡ m
  pub all : (place : ℕ) → place < length net.cells → (k : ℕ) × (k < length l.cells) × IsNoCopy (loose_at l k) × (to k ≡ place)
  -- a buffer is where the cell is that it buffers, directly or through others
  pub copies : (k p : ℕ) → k < length l.cells → loose_at l k ≡ Copy p → to k ≡ to p
  pub sources : (k : ℕ) → k < length l.cells → (n source : ℕ) × IsCopySource n l k source
  pub outs : net.outs ≡ map to l.outs
  -- each box is there once, with its pins moved
  pub box_count : length net.boxes ≡ length l.boxes
  pub number_count : length numbers ≡ length l.boxes
  pub numbers_apart : AllPairs ◌≢◌ numbers
  pub boxes : (b : ℕ) → b < length l.boxes → (slice_index numbers b < length l.boxes) × (box_at net.boxes b ≡ moved_pins to (box_at l.boxes (slice_index numbers b)))
  -- each is ready at its turn, and is the first of those that are
  pub ready : (b : ℕ) → b < length l.boxes → IsReadyBox l (take b numbers) (slice_index numbers b)
  pub first : (b c : ℕ) → b < length l.boxes → c < length l.boxes → (Contains (take b numbers) c → ⊥) → IsReadyBox l (take b numbers) c → slice_index numbers b ≤ c

-- what the boxes of the netlist give, where box gives it by their numbers in the list
abbrev pub renumbered : List ℕ → (ℕ → ℕ → List Bool → Bool) → ℕ → ℕ → List Bool → Bool
renumbered numbers box b p ins = box (slice_index numbers b) p ins

-- the values of the ordered netlist are the only solution of the list's equations
abbrev pub OrderKeepsValues : Type 0
OrderKeepsValues = (l : LooseList) (net : Netlist) (numbers : List ℕ) → IsLoose l → IsNetlist net → (order : IsOrderOf l net numbers)
    → (x : List Bool) (box : ℕ → ℕ → List Bool → Bool) (bits : List Bool) → length bits ≡ length l.cells
    → IsLooseValue l x box bits ↔ ((k : ℕ) → k < length l.cells → bit_of bits k ≡ bit_of (value_of net x (renumbered numbers box)) (order.to k))

-- a list that can be ordered has no closed walk
abbrev pub OrderHasNoWalk : Type 0
OrderHasNoWalk = (l : LooseList) (net : Netlist) (numbers : List ℕ) → IsLoose l → IsNetlist net → IsOrderOf l net numbers
    → (k : ℕ) → IsOnClosedWalk l k → ⊥

-- a list without a closed walk has an order
abbrev pub OrderExists : Type 0
OrderExists = (l : LooseList) → IsLoose l → ((k : ℕ) → IsOnClosedWalk l k → ⊥) → (net : Netlist) × (numbers : List ℕ) × IsNetlist net × IsOrderOf l net numbers
