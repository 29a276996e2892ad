-- The driven bits of a design by their numbers, each as often as it is driven: those of the inputs of the top, and then
-- those of the constructs, scope by scope. Stages speak first of such lists of numbers, against which a loop can be
-- proved; one lemma for each list ties it to the bits of the design.
use Rattle.std.specs.Prelude.{◌≡◌, ℕ, ◌+◌, ◌<◌, ◌==◌, min, false, if◌then◌else◌, List, [], ◌∷◌, ◌++◌, length, All, Some, slice_get, slice_index_or, Bool}
use Rattle.std.specs.List.{filter, flat_map}
use Rattle.std.specs.Option.{option_map_or}
use Rattle.bb_blast.specs.declared.template.Part.{Part}
use Rattle.bb_blast.specs.declared.template.Part.TheVariants as part
use Rattle.bb_blast.specs.declared.template.ModuleTemplate.{ModuleTemplate}
use Rattle.bb_blast.specs.declared.placed.Placed.{Placed}
use Rattle.bb_bits.specs.Closures.{IsFirst}
use Rattle.bb_design.specs.Hierarchy.{Design}
use Rattle.bb_design.specs.NetBits.{Bit, net_order, same_bit}
use Rattle.bb_bits.specs.Inside.Places.{numbers_from, AreAt}
use Rattle.std.specs.Bool.{Decides}
use Rattle.bb_design.specs.Drivers.{driven_bits}
use Rattle.bb_design.specs.Reading.{IsReadBit}

-- the number of the first bit of the scope of an instance
abbrev pub first_inside : List Placed → Placed → ℕ → ℕ
first_inside all p instance = option_map_or (λ q. q.first) (slice_get all (slice_index_or p.children.items instance 0)) 0

abbrev pub part_numbers : List Placed → Placed → Part → List ℕ
part_numbers all p (part.Assignment left right) = numbers_from p.first left.items
part_numbers all p (part.Gate gate outs ins) = numbers_from p.first outs.items
part_numbers all p (part.Register left right clock falling) = numbers_from p.first left.items
part_numbers all p (part.Supply high bits) = numbers_from p.first bits.items
part_numbers all p (part.Input instance pin value) = numbers_from (first_inside all p instance) pin.items
part_numbers all p (part.Output instance pin left) = numbers_from p.first left.items

abbrev pub template_numbers : List Placed → Placed → ModuleTemplate → List ℕ
template_numbers all p o = if p.boxed then numbers_from p.first o.outputs.items else flat_map (part_numbers all p) o.parts.items

abbrev pub scope_numbers : List Placed → List ModuleTemplate → Placed → List ℕ
scope_numbers all templates p = option_map_or (template_numbers all p) (slice_get templates p.module) []

-- the inputs of the top
abbrev pub input_numbers : List ModuleTemplate → Placed → List ℕ
input_numbers templates p = option_map_or (λ o. numbers_from p.first o.inputs.items) (slice_get templates p.module) []

abbrev pub top_numbers : List Placed → List ModuleTemplate → List ℕ
top_numbers [] templates = []
top_numbers (p ∷ rest) templates = input_numbers templates p

abbrev pub driven_numbers : List Placed → List ModuleTemplate → List ℕ
driven_numbers all templates = top_numbers all templates ++ flat_map (scope_numbers all templates) all

-- the instance to whose input something is connected is there, and so is its scope
abbrev pub IsInside : List Placed → Placed → Part → Type 0
IsInside all p (part.Input instance pin value) = (instance < length p.children.items) × (slice_index_or p.children.items instance 0 < length all)
IsInside all p part = Unit {0}

-- the inputs of the top are there, among this many bits
pub record MayCountInputs (templates : List ModuleTemplate) (bits : ℕ) (p : Placed) : Type 0 where
  pub templated : p.module < length templates
  pub numbers : All (λ k. k < bits) (input_numbers templates p)

-- what a scope drives is there, among this many bits
pub record MayBeCounted (all : List Placed) (templates : List ModuleTemplate) (bits : ℕ) (p : Placed) : Type 0 where
  pub templated : p.module < length templates
  pub inside : (o : ModuleTemplate) → slice_get templates p.module ≡ Some o → p.boxed ≡ false → All (IsInside all p) o.parts.items
  pub numbers : All (λ k. k < bits) (scope_numbers all templates p)

-- how often a number occurs in a list
abbrev pub times : ℕ → List ℕ → ℕ
times k numbers = length (filter (λ n. n == k) numbers)

-- for each number how often it occurs in a list, where 2 means two or more
abbrev pub IsTally : List ℕ → List ℕ → Type 0
IsTally numbers counts = (k : ℕ) → k < length counts → slice_index_or counts k 0 ≡ min 2 (times k numbers)

-- the bit with a number is the first in net order of which it holds
abbrev pub IsFirstAt : Design → (Bit → Type 0) → ℕ → Type 0
IsFirstAt d P k = (b : Bit) × (slice_get (net_order d) k ≡ Some b) × IsFirst P (net_order d) b

-- the bits with these numbers
abbrev pub AreBitsAt : Design → List ℕ → List Bit → Type 0
AreBitsAt d numbers bits = AreAt (net_order d) numbers bits

-- how often a bit is driven
abbrev pub times_driven : Design → Bit → ℕ
times_driven d b = length (filter (same_bit b) (driven_bits d))

-- for each bit how often it is driven, where 2 means two or more
pub record AreCounts (d : Design) (counts : List ℕ) : Type 0 where
  pub count : length counts ≡ length (net_order d)
  pub each : (k : ℕ) (b : Bit) → slice_get (net_order d) k ≡ Some b → slice_index_or counts k 0 ≡ min 2 (times_driven d b)

-- for each bit whether it is read
pub record AreReads (d : Design) (marks : List Bool) : Type 0 where
  pub count : length marks ≡ length (net_order d)
  pub each : (k : ℕ) (b : Bit) → slice_get (net_order d) k ≡ Some b → Decides (slice_index_or marks k false) (IsReadBit d b)
