-- Laws of the bits of a design: their identity, and where they are.
use Rattle.std.specs.Prelude.{◌≡◌, ◌↔◌, ◌≤◌, Bool, true, List, filter, flat_map, length, map, sum_by, All, Contains}
use Rattle.std.specs.List.{list_any}
use Rattle.bb_ast.specs.Syntax.{Expression}
use Rattle.bb_bits.specs.Closures.{IsDistinct}
use Rattle.bb_bits.specs.Contents.{Contents}
use Rattle.bb_names.specs.declared.net.NetInfo.{NetInfo}
use Rattle.bb_names.specs.Faults.{IsSound}
use Rattle.bb_names.specs.Nets.{nets_of}
use Rattle.bb_names.specs.Ranges.{range_width}
use Rattle.bb_design.specs.Inside.Allowed.{IsBounded}
use Rattle.bb_design.specs.Constructs.{Construct, constructs_at, parts}
use Rattle.bb_design.specs.Contexts.{width_of}
use Rattle.bb_design.specs.Laws.DrivenWorlds.{IsLegal}
use Rattle.bb_design.specs.Hierarchy.{Path, Design, Scope, scopes}
use Rattle.bb_design.specs.Laws.{BitsAreThere, ScopesAreEnds}
use Rattle.bb_design.specs.NetBits.{Bit, bits_of_net, input_bits, net_order, output_bits, same_bit, scope_bits, written_bits}
use Rattle.bb_design.specs.Texts.{pin_text}
use Rattle.bb_design.specs.Laws.Wired.{IsWired}
use Rattle.bb_design.specs.Worlds.{FitDesign}

-- the test of bits is their equality
abbrev pub BitsAreDistinguished : Type 0
BitsAreDistinguished = (b c : Bit) → (same_bit b c ≡ true) ↔ (b ≡ c)

-- it finds a bit exactly where it is
abbrev pub BitsAreFound : Type 0
BitsAreFound = (b : Bit) (bits : List Bit) → (list_any (same_bit b) bits ≡ true) ↔ Contains bits b

-- nets have as many bits as they are wide
abbrev pub NetsHaveTheirBits : Type 0
NetsHaveTheirBits = (path : Path) (nets : List NetInfo) → length (flat_map (bits_of_net path) nets) ≡ sum_by (λ net. range_width net.range) nets

-- the bits of some nets of a scope are bits of the scope
abbrev pub NetBitsAreOfScopes : Type 0
NetBitsAreOfScopes = (s : Scope) (test : NetInfo → Bool) (b : Bit) → Contains (flat_map (bits_of_net s.path) (filter test (nets_of s.source))) b → Contains (scope_bits s) b

-- no more bits are written by an expression than it is wide
abbrev pub WrittenBitsAreFew : Type 0
WrittenBitsAreFew = (s : Scope) (e : Expression) → length (written_bits s e) ≤ width_of s e

-- no bit of a design is twice in net order
abbrev pub BitsAreDistinct : Type 0
BitsAreDistinct = (d : Design) → IsSound d.text → Contains d.text d.top → IsDistinct (net_order d)

-- the module of each scope is in the text
abbrev pub ScopesAreOfTexts : Type 0
ScopesAreOfTexts = (d : Design) (s : Scope) → Contains d.text d.top → Contains (scopes d) s → Contains d.text s.source

-- a part is a construct of its scope
abbrev pub PartsAreConstructs : Type 0
PartsAreConstructs = (d : Design) (s : Scope) (c : Construct) → Contains (parts d) (s, c) → Contains (scopes d) s × Contains (constructs_at d.text s) c

-- scopes of one module have ports of the same texts
abbrev pub PinTextsGoByModules : Type 0
PinTextsGoByModules = (d : Design) → IsBounded d → (s t : Scope) → Contains (scopes d) s → Contains (scopes d) t → s.source.name ≡ t.source.name
    → (map (pin_text d) (input_bits s) ≡ map (pin_text d) (input_bits t)) × (map (pin_text d) (output_bits s) ≡ map (pin_text d) (output_bits t))

-- what holds of the design of a well-formed text without faults that is neither too deep nor too large: it is wired, so
-- its bits are there, and a path leads to each of its scopes
abbrev pub BoundedDesignsAreWired : Type 0
BoundedDesignsAreWired = (d : Design) → IsBounded d → IsWired d

abbrev pub BoundedDesignsHaveTheirBits : Type 0
BoundedDesignsHaveTheirBits = (d : Design) → IsBounded d → BitsAreThere d

abbrev pub BoundedDesignsHaveTheirScopes : Type 0
BoundedDesignsHaveTheirScopes = (d : Design) → IsBounded d → ScopesAreEnds d

-- and its constructs are legal, where the contents fit
abbrev pub BoundedConstructsAreLegal : Type 0
BoundedConstructsAreLegal = (d : Design) → IsBounded d → (contents : Contents) → FitDesign d contents → All (λ x. IsLegal contents x.0 x.1) (parts d)
