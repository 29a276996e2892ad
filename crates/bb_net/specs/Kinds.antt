-- Boxes that share their contents. Each box is of a sharing class (kind), and boxes of one class hold one table.
-- Classes are numbers, in the order in which they first appear: such a list is a restricted growth string, the standard
-- form of a partition of the boxes into classes (Knuth, The Art of Computer Programming, volume 4A, 7.2.1.5).
use Rattle.std.specs.Prelude.{◌≡◌, ◌↔◌, ℕ, ◌<◌, Bool, ◌==◌, List, [], ◌∷◌, length, take, map, zip, Contains, slice_index, if◌then◌else◌}
use Rattle.std.specs.List.{list_any, range_with_len, slice_index_or}
use Rattle.bb_bits.specs.Earlier.{each_after}
use Rattle.bb_bits.specs.Tables.{TableBits}
use Rattle.bb_net.specs.Netlists.{Netlist, Pins, box_at}
use Rattle.bb_net.specs.Values.{table_at, FitBoxes}
use Rattle.bb_net.specs.Equivalence.{TablesMakeEquivalent}

-- classes are numbered in the order in which they first appear: all smaller numbers appear before a number
abbrev pub AreNumberedInOrder : List ℕ → Type 0
AreNumberedInOrder kinds = (b k : ℕ) → b < length kinds → k < slice_index kinds b → Contains (take b kinds) k

-- the classes of boxes with these keys: two boxes are of one class exactly where they have one key
pub record AreKinds (keys : List (List ℕ)) (kinds : List ℕ) : Type 0 where
  pub count : length kinds ≡ length keys
  pub same : (a b : ℕ) → a < length keys → b < length keys → (slice_index kinds a ≡ slice_index kinds b) ↔ (slice_index_or keys a [] ≡ slice_index_or keys b [])
  pub ordered : AreNumberedInOrder kinds

-- a class for each box; boxes of one class have as many input pins, and as many output pins
pub record FitKinds (kinds : List ℕ) (boxes : List Pins) : Type 0 where
  pub count : length kinds ≡ length boxes
  pub ordered : AreNumberedInOrder kinds
  pub inputs : (a b : ℕ) → a < length boxes → b < length boxes → slice_index kinds a ≡ slice_index kinds b → length (box_at boxes a).ins ≡ length (box_at boxes b).ins
  pub outputs : (a b : ℕ) → a < length boxes → b < length boxes → slice_index kinds a ≡ slice_index kinds b → length (box_at boxes a).outs ≡ length (box_at boxes b).outs

-- a box is the first of its class
abbrev pub IsFirstOfKind : List ℕ → ℕ → Type 0
IsFirstOfKind kinds b = Contains (take b kinds) (slice_index kinds b) → ⊥

-- some of the boxes are of this class
abbrev pub has_kind : {A : Type 0} → ℕ → List (ℕ × A) → Bool
has_kind kind boxes = list_any (λ box. box.0 == kind) boxes

-- what belongs to the first box of each class, in box order: nothing where a box before it is of its class
abbrev pub representatives : {A : Type 0} → List ℕ → List A → List A
representatives kinds xs = each_after (λ before box. if has_kind box.0 before then [] else box.1 ∷ []) (zip kinds xs)

-- the places of these boxes
abbrev pub first_places : List ℕ → List ℕ
first_places kinds = representatives kinds (range_with_len 0 (length kinds))

-- the tables of all boxes, where the tables are one for each class
abbrev pub per_box : List ℕ → List TableBits → List TableBits
per_box kinds tables = map (table_at tables) kinds

-- no tables agree, one for each class
abbrev pub NoSharedTablesMakeEquivalent : Netlist → Netlist → List ℕ → Type 0
NoSharedTablesMakeEquivalent spec imp kinds = (tables : List TableBits) → FitBoxes tables (representatives kinds imp.boxes) → TablesMakeEquivalent spec imp (per_box kinds tables) → ⊥

-- some tables agree, one for each class
abbrev pub SomeSharedTablesMakeEquivalent : Netlist → Netlist → List ℕ → Type 0
SomeSharedTablesMakeEquivalent spec imp kinds = (tables : List TableBits) × FitBoxes tables (representatives kinds imp.boxes) × TablesMakeEquivalent spec imp (per_box kinds tables)

-- one table for each class, with which every output is right at every vector
pub record AreSharedCompletion (spec imp : Netlist) (kinds : List ℕ) (tables : List TableBits) : Type 0 where
  pub fit : FitBoxes tables (representatives kinds imp.boxes)
  pub agree : TablesMakeEquivalent spec imp (per_box kinds tables)
