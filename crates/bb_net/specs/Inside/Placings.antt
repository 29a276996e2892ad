-- A list of cells that is partly levelized: some of its cells have their places in a netlist, and the others wait for
-- theirs.
use Rattle.std.specs.Prelude.{◌≡◌, ◌≢◌, ◌↔◌, ◌⊎◌, ℕ, ◌+◌, ◌<◌, ◌≤◌, zero, suc, Bool, true, List, [], ◌∷◌, length, take, map, All, AllPairs, Contains, slice_index, Option, None, Some, unwrap_or, is_none}
use Rattle.std.specs.List.{slice_index_or, count_by}
use Rattle.std.specs.Ordering.{nat_cmp}
use Rattle.std.specs.BinaryHeap.{IsHeap, heap_items}
use Rattle.std.specs.declared.cmp.Reverse.{Reverse}
use Rattle.bb_net.specs.declared.loose.LooseCell.{LooseCell}
use Rattle.bb_net.specs.declared.loose.LooseCell.TheVariants.{Copy, BoxOut}
use Rattle.bb_net.specs.declared.ordering.placing.Waiter.{Waiter}
use Rattle.bb_net.specs.declared.ordering.placing.Waiter.TheVariants as waiter
use Rattle.bb_net.specs.declared.ordering.placing.Moved.{Moved}
use Rattle.bb_net.specs.declared.ordering.placing.Moved.TheVariants as what
use Rattle.bb_net.specs.declared.ordering.placing.Placing.{Placing}
use Rattle.bb_net.specs.Netlists.{Netlist, cell_at, box_at}
use Rattle.bb_net.specs.Values.{bit_of}
use Rattle.bb_net.specs.Loose.{LooseList, loose_at, operand_places, IsLoose}
use Rattle.bb_net.specs.Orders.{IsNoCopy, IsCopySource, IsMoved, IsReadyBox}

-- a cell of the list is at a place of the netlist
abbrev pub IsAt : List (Option ℕ) → ℕ → ℕ → Type 0
IsAt to k place = slice_index_or to k None ≡ Some place

-- it has a place
abbrev pub IsPlaced : List (Option ℕ) → ℕ → Type 0
IsPlaced to k = (place : ℕ) × IsAt to k place

-- it has none yet
abbrev pub IsOpen : List (Option ℕ) → ℕ → Type 0
IsOpen to k = slice_index_or to k None ≡ None

-- its place
abbrev pub given_place : List (Option ℕ) → ℕ → ℕ
given_place to k = unwrap_or (slice_index_or to k None) 0

-- how many cells have no place yet
abbrev pub open_count : List (Option ℕ) → ℕ
open_count to = count_by is_none to

-- every walk of dependence from a place ends before this many steps
abbrev pub EndsWithin : ℕ → LooseList → ℕ → Type 0
EndsWithin zero l k = ⊥
EndsWithin (suc n) l k = (a : ℕ) → Contains (operand_places l.boxes (loose_at l k)) a → EndsWithin n l a

-- every walk of dependence from the input pins of a box ends
abbrev pub InputsEnd : LooseList → ℕ → Type 0
InputsEnd l b = (n : ℕ) × ((pin : ℕ) → Contains (box_at l.boxes b).ins pin → EndsWithin n l pin)

-- the cells that have places and the boxes that have numbers: what each reads has its place, and each box was the first
-- one that was ready
pub record IsBegun (l : LooseList) (to : List (Option ℕ)) (numbers : List ℕ) : Type 0 where
  pub whole : length to ≡ length l.cells
  -- the constants and the inputs stay where they are
  pub prefix : (k : ℕ) → k < l.inputs + 2 → IsAt to k k
  -- what a cell reads has its place, and a buffer is where the cell is that it buffers
  pub reads : (k place a : ℕ) → IsAt to k place → Contains (operand_places l.boxes (loose_at l k)) a → IsPlaced to a
  pub copies : (k p place : ℕ) → IsAt to k place → loose_at l k ≡ Copy p → IsAt to p place
  -- chains of buffers end, and so do all walks of dependence
  pub sources : (k place : ℕ) → IsAt to k place → (n source : ℕ) × IsCopySource n l k source
  pub depth : ℕ
  pub ends : (k place : ℕ) → IsAt to k place → EndsWithin depth l k
  -- an output pin has its place only where its box has its number
  pub outputs : (k place b p : ℕ) → IsAt to k place → loose_at l k ≡ BoxOut b p → Contains numbers b
  -- each box has one number, and what it reads has its place
  pub there : (b : ℕ) → Contains numbers b → b < length l.boxes
  pub apart : AllPairs ◌≢◌ numbers
  pub pins : (b pin : ℕ) → Contains numbers b → Contains (box_at l.boxes b).ins pin → IsPlaced to pin
  -- it was ready at its turn, and the first of those that were, but for boxes that can never be ready
  pub ready : (b : ℕ) → b < length numbers → IsReadyBox l (take b numbers) (slice_index numbers b)
  pub first : (b c : ℕ) → b < length numbers → c < length l.boxes → (Contains (take b numbers) c → ⊥) → IsReadyBox l (take b numbers) c → InputsEnd l c → slice_index numbers b ≤ c

-- the netlist of the cells that have places: each but the buffers once, with its operands moved
pub record IsBuilt (l : LooseList) (net : Netlist) (to : List (Option ℕ)) (numbers : List ℕ) : Type 0 where
  pub inputs : net.inputs ≡ l.inputs
  pub outs : net.outs ≡ []
  -- a cell of the netlist is one that has got its place
  pub room : length net.cells + open_count to ≤ length l.cells
  pub there : (k place : ℕ) → IsAt to k place → place < length net.cells
  -- the cells but the buffers are there once each, moved, and no others are
  pub moved : (k place : ℕ) → IsAt to k place → IsNoCopy (loose_at l k) → IsMoved (given_place to) numbers (loose_at l k) (cell_at net.cells place)
  pub apart : (k m place : ℕ) → IsAt to k place → IsAt to m place → IsNoCopy (loose_at l k) → IsNoCopy (loose_at l m) → k ≡ m
  pub all : (place : ℕ) → place < length net.cells → (k : ℕ) × IsAt to k place × IsNoCopy (loose_at l k)
  -- the boxes have their input pins, moved; their output pins are listed as their cells are added
  pub box_count : length net.boxes ≡ length numbers
  pub ins : (b : ℕ) → b < length numbers → (box_at net.boxes b).ins ≡ map (given_place to) (box_at l.boxes (slice_index numbers b)).ins

-- the boxes of a heap of boxes of which the least comes first
abbrev pub boxes_of : List (Reverse ℕ) → List ℕ
boxes_of items = map (λ r. r.0) items

-- its order
abbrev pub IsLeastFirst : List (Reverse ℕ) → Type 0
IsLeastFirst items = IsHeap (λ x y. nat_cmp y.0 x.0) items

-- the waiters at a place
abbrev pub waiters_at : List (List Waiter) → ℕ → List Waiter
waiters_at waiting a = slice_index_or waiting a []

-- who waits is in the list, and the pins of a box before the one that it waits for have places
abbrev pub IsWaiter : LooseList → List (Option ℕ) → Waiter → Type 0
IsWaiter l to (waiter.Cell k) = k < length l.cells
IsWaiter l to (waiter.Box b pin) = (b < length l.boxes) × (pin ≤ length (box_at l.boxes b).ins) × ((p : ℕ) → p < pin → IsPlaced to (slice_index (box_at l.boxes b).ins p))

-- a place has yet to wake its waiters: it is open, or has got its place just now
abbrev pub IsAwaited : List (Option ℕ) → List ℕ → ℕ → Type 0
IsAwaited to fresh a = IsOpen to a ⊎ Contains fresh a

-- a cell waits for one of its operands
abbrev pub CellWaits : LooseList → List (Option ℕ) → List (List Waiter) → List ℕ → ℕ → Type 0
CellWaits l to waiting fresh k = (a : ℕ) × Contains (operand_places l.boxes (loose_at l k)) a × IsAwaited to fresh a × Contains (waiters_at waiting a) (waiter.Cell k)

-- a box waits for one of its input pins
abbrev pub BoxWaits : LooseList → List (Option ℕ) → List (List Waiter) → List ℕ → ℕ → Type 0
BoxWaits l to waiting fresh b = (a pin : ℕ) × Contains (box_at l.boxes b).ins a × IsAwaited to fresh a × Contains (waiters_at waiting a) (waiter.Box b pin)

-- an output pin of a box
abbrev pub IsOutput : LooseCell → Type 0
IsOutput c = (b p : ℕ) × (c ≡ BoxOut b p)

-- each open cell but the output pins of boxes, and each box without number, waits for a place, is woken and not yet
-- looked at, or is a box that is ready
pub record IsWaiting (l : LooseList) (to : List (Option ℕ)) (numbers : List ℕ) (waiting : List (List Waiter)) (fresh ready : List ℕ) (woken : List Waiter) : Type 0 where
  pub width : length waiting ≡ length l.cells
  pub fresh_there : (a : ℕ) → Contains fresh a → a < length l.cells
  pub waiters : (a : ℕ) → All (IsWaiter l to) (waiters_at waiting a)
  pub woken_there : All (IsWaiter l to) woken
  pub cells : (k : ℕ) → k < length l.cells → IsOpen to k → (IsOutput (loose_at l k) ⊎ Contains woken (waiter.Cell k)) ⊎ CellWaits l to waiting fresh k
  pub boxes : (b : ℕ) → b < length l.boxes → (Contains numbers b → ⊥) → (Contains ready b ⊎ ((pin : ℕ) × Contains woken (waiter.Box b pin))) ⊎ BoxWaits l to waiting fresh b
  pub ready_pins : (b pin : ℕ) → Contains ready b → Contains (box_at l.boxes b).ins pin → IsPlaced to pin
  pub ready_there : (b : ℕ) → Contains ready b → b < length l.boxes

-- all of this at once; the output pins that come late are those of a box that has its number just now
pub record IsPlacingBy (l : LooseList) (net : Netlist) (to : List (Option ℕ)) (numbers : List ℕ) (numbered : List Bool) (waiting : List (List Waiter)) (fresh : List ℕ) (ready : List (Reverse ℕ)) (woken : List Waiter) (late : List ℕ) : Type 0 where
  pub list : IsLoose l
  pub begun : IsBegun l to numbers
  pub built : IsBuilt l net to numbers
  pub queue : IsWaiting l to numbers waiting fresh (boxes_of ready) woken
  pub late_pins : (k b p : ℕ) → k < length l.cells → loose_at l k ≡ BoxOut b p → Contains numbers b → IsPlaced to k ⊎ Contains late k
  -- the flags say which boxes have numbers
  pub flags : length numbered ≡ length l.boxes
  pub reported : (b : ℕ) → b < length l.boxes → (bit_of numbered b ≡ true) ↔ Contains numbers b
  pub heap : IsLeastFirst ready

-- the same of the record of the code
abbrev pub IsPlacing : LooseList → Placing → List Waiter → List ℕ → Type 0
IsPlacing l s woken late = IsPlacingBy l s.net s.to.items s.numbers.items s.numbered.items s.waiting.items s.fresh.items (heap_items s.ready) woken late

-- what is left to do before no place has waiters to wake
abbrev pub work : Placing → ℕ
work s = open_count s.to.items + length s.fresh.items

-- a waiter was looked at
pub record IsLookedAt (l : LooseList) (old new : Placing) (w : Waiter) : Type 0 where
  pub placing : (woken : List Waiter) → IsPlacing l old (w ∷ woken) [] → IsPlacing l new woken []
  pub less : work new ≤ work old
  pub numbers : new.numbers.items ≡ old.numbers.items

-- the outcome for a cell: it is moved, it is where the cell is that it buffers, or it comes with its box
abbrev pub IsResolved : List (Option ℕ) → LooseCell → Moved → Type 0
IsResolved to c (what.New d) = IsNoCopy c × (IsOutput c → ⊥) × ((a : ℕ) → Contains (operand_places [] c) a → IsPlaced to a) × ((numbers : List ℕ) → IsMoved (given_place to) numbers c d)
IsResolved to c (what.Same place) = (p : ℕ) × (c ≡ Copy p) × IsAt to p place
IsResolved to c what.WithBox = IsOutput c

-- of the box with a number, which has it as the last one, output pins from some pin on are to come
pub record IsComing (l : LooseList) (net : Netlist) (to : List (Option ℕ)) (numbers : List ℕ) (b number from : ℕ) : Type 0 where
  pub there : number < length numbers
  pub is : slice_index numbers number ≡ b
  pub next : length (box_at net.boxes number).outs ≡ from
  pub free : (p : ℕ) → from ≤ p → p < length (box_at l.boxes b).outs → IsOpen to (slice_index (box_at l.boxes b).outs p)

-- all cells and all boxes of the list
pub record AreAll (l : LooseList) (all : List Waiter) : Type 0 where
  pub cells : (k : ℕ) → k < length l.cells → Contains all (waiter.Cell k)
  pub boxes : (b : ℕ) → b < length l.boxes → Contains all (waiter.Box b 0)
  pub there : (to : List (Option ℕ)) → All (IsWaiter l to) all
