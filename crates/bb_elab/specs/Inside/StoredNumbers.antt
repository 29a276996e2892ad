-- The register bits of a design by their numbers, in text order, scope by scope.
use Rattle.std.specs.Prelude.{◌≡◌, ℕ, ◌+◌, ◌<◌, ◌==◌, if◌then◌else◌, Bool, List, [], map, length, All, Option, None, slice_get, slice_index_or, Contains, Some}
use Rattle.std.specs.List.{find, flat_map}
use Rattle.std.specs.Option.{option_map_or}
use Rattle.bb_blast.specs.declared.template.Part.{Part}
use Rattle.bb_blast.specs.declared.template.Part.TheVariants as part
use Rattle.bb_blast.specs.declared.template.ModuleTemplate.{ModuleTemplate}
use Rattle.bb_blast.specs.declared.placed.Placed.{Placed}
use Rattle.bb_blast.specs.declared.stored.Stored.{Stored}
use Rattle.bb_ast.specs.Syntax.{PlainAlways}
use Rattle.bb_design.specs.Constructs.{Register, parts}
use Rattle.bb_design.specs.Hierarchy.{Design, Scope}
use Rattle.bb_design.specs.NetBits.{Bit, net_order, written_bits}

-- register bits of a scope whose first bit has this number
abbrev pub stored_from : ℕ → List ℕ → ℕ → Bool → List Stored
stored_from first left clock falling = map (λ x. record { bit = first + x; clock = first + clock; falling = falling }) left

abbrev pub part_stored : Placed → Part → List Stored
part_stored p (part.Register left right clock falling) = stored_from p.first left.items clock falling
part_stored p part = []

abbrev pub scope_stored : List ModuleTemplate → Placed → List Stored
scope_stored templates p = option_map_or (λ o. if p.boxed then [] else flat_map (part_stored p) o.parts.items) (slice_get templates p.module) []

-- what a scope stores is there, among this many bits
abbrev pub IsStorable : ℕ → Stored → Type 0
IsStorable bits x = (x.bit < bits) × (x.clock < bits)

pub record MayBeNoted (templates : List ModuleTemplate) (bits : ℕ) (p : Placed) : Type 0 where
  pub templated : p.module < length templates
  pub there : All (IsStorable bits) (scope_stored templates p)

-- for each number the first register bit that has it
abbrev pub AreNotes : List Stored → List (Option Stored) → Type 0
AreNotes all notes = (k : ℕ) → k < length notes → slice_index_or notes k None ≡ find (λ x. x.bit == k) all

-- the clocks of all registers are among these, which are numbers of bits in net order
abbrev pub AreTimed : Design → List ℕ → Type 0
AreTimed d clocks = (s : Scope) (a : PlainAlways) → Contains (parts d) (s, Register a) → (b : Bit) → Contains (written_bits s a.clock) b → (k : ℕ) × (slice_get (net_order d) k ≡ Some b) × Contains clocks k
