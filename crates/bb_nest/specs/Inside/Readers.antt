-- Which input pins of a box have the Refs, or the cells, of pins of the boxes before it.
use Rattle.std.specs.Prelude.{◌≡◌, ◌<◌, ℕ, List, length, take, drop, slice_index, All, Contains}
use Rattle.bb_net.specs.Netlists.{Pins, box_at}
use Rattle.bb_net.specs.Pairs.{pin_count}
use Rattle.bb_sym.specs.Inside.Made.{ref_at}
use Rattle.bb_uniq.specs.declared.store.Ref.{Ref}
use Rattle.bb_nest.specs.Nested.{pin_cells}

-- of the Refs at input pins, p is the first place of one
pub record IsReader (ins : List Ref) (ref : Ref) (p : ℕ) : Type 0 where
  pub there : p < length ins
  pub same : ref_at ins p ≡ ref
  pub first : (q : ℕ) → q < p → ref_at ins q ≡ ref → ⊥

abbrev pub HasReader : List Ref → Ref → Type 0
HasReader ins ref = (p : ℕ) × IsReader ins ref p

-- none of them is this one
abbrev pub HasNoReader : List Ref → Ref → Type 0
HasNoReader ins ref = (q : ℕ) → q < length ins → ref_at ins q ≡ ref → ⊥

-- a reader for each of some Refs
pub record AreReaders (ins refs : List Ref) (readers : List ℕ) : Type 0 where
  pub count : length readers ≡ length refs
  pub each : (q : ℕ) → q < length refs → IsReader ins (ref_at refs q) (slice_index readers q)

-- of Refs for all pins, those for the pins of the boxes before box b, and those for its input pins
abbrev pub refs_before : List Pins → ℕ → List Ref → List Ref
refs_before boxes b refs = take (pin_count (take b boxes)) refs

abbrev pub own_refs : List Pins → ℕ → List Ref → List Ref
own_refs boxes b refs = take (length (box_at boxes b).ins) (drop (pin_count (take b boxes)) refs)

-- each box has readers for all pins of the boxes before it, or some box has none for one of them
abbrev pub AllSeeRefs : List Pins → List Ref → Type 0
AllSeeRefs boxes refs = (b : ℕ) → b < length boxes → All (HasReader (own_refs boxes b refs)) (refs_before boxes b refs)

abbrev pub SomeMissesRef : List Pins → List Ref → Type 0
SomeMissesRef boxes refs = (b : ℕ) × (b < length boxes) × (q : ℕ) × (q < pin_count (take b boxes)) × HasNoReader (own_refs boxes b refs) (ref_at refs q)

-- the cells at all pins of boxes are among some input pins
abbrev pub HoldBoxes : List ℕ → List Pins → Type 0
HoldBoxes ins boxes = (a : ℕ) → a < length boxes → All (Contains ins) (pin_cells (box_at boxes a))
