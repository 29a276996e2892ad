-- A world bit by bit: each driven bit has the bit that its source gives.
use Rattle.std.specs.Prelude.{◌≡◌, ◌≢◌, ◌↔◌, ℕ, Bool, true, false, List, [], length, All, Contains}
use Rattle.bb_ast.specs.Assignable.{is_assignable}
use Rattle.bb_ast.specs.Names.{names_in}
use Rattle.bb_ast.specs.Syntax.{Expression, PlainModule}
use Rattle.bb_bits.specs.Contents.{Contents, HasShape, output_bit}
use Rattle.bb_names.specs.Faults.{IsSound}
use Rattle.bb_expr.specs.Terms.{term_bit}
use Rattle.bb_design.specs.Hierarchy.{Design, Scope, is_box}
use Rattle.bb_design.specs.NetBits.{Bit, input_bits, output_bits}
use Rattle.bb_design.specs.Contexts.{width_of}
use Rattle.bb_design.specs.Constructs.{Construct, Assignment, GateInstance, Register, SupplyNet, InputConnection, OutputConnection, BoxContents, constructs_at, parts}
use Rattle.bb_design.specs.Drivers.{DrivingSource, Free, MadeOf, Box, Drive, drives_at, drives}
use Rattle.bb_design.specs.Texts.{path_text}
use Rattle.bb_design.specs.Worlds.{World, Vector, HasVector, bit_in, bits_in, Holds, IsWorld}
use Rattle.bb_design.specs.Reading.{IsReadBit}
use Rattle.bb_design.specs.Refusals.{IsShallow, AreDrivenOnce, AreDriven, IsAcyclic}
use Rattle.bb_design.specs.Laws.{BitsAreThere, ScopesAreEnds}

-- the source gives this bit
abbrev pub Gives : Contents → World → DrivingSource → Bool → Type 0
Gives contents w Free b = Unit {0}
Gives contents w (MadeOf path t) b = b ≡ term_bit (w path) t
Gives contents w (Box s pin) b = b ≡ output_bit (contents (path_text s.path)) (bits_in w (input_bits s)) pin

abbrev pub IsGiven : Contents → World → Drive → Type 0
IsGiven contents w x = Gives contents w x.source (bit_in w x.bit)

-- an expression of this many bits that may be assigned
pub record MayBeDriven (s : Scope) (count : ℕ) (e : Expression) : Type 0 where
  pub assignable : is_assignable e ≡ true
  pub width : width_of s e ≡ count

-- a construct is legal: terminals have one bit, and so has a clock that names a net, as each does in a text;
-- connections are as wide as their ports, and what an output is connected to may be assigned (IEEE 1364-2005, 7.1 and
-- 12.3.9, in a profile); contents of a box have its shape
abbrev pub IsLegal : Contents → Scope → Construct → Type 0
IsLegal contents s (Assignment left right) = Unit {0}
IsLegal contents s (GateInstance gate outs ins) = All (MayBeDriven s 1) outs × All (λ e. width_of s e ≡ 1) ins
IsLegal contents s (Register r) = names_in r.clock ≢ [] → width_of s r.clock ≡ 1
IsLegal contents s (SupplyNet high n) = Unit {0}
IsLegal contents s (InputConnection i pin e) = width_of s e ≡ pin.width
IsLegal contents s (OutputConnection i pin e) = MayBeDriven s pin.width e
IsLegal contents s BoxContents = HasShape (length (input_bits s)) (length (output_bits s)) (contents (path_text s.path))

-- a construct holds where each bit that it drives is what its source gives
abbrev pub ConstructsHoldBitByBit : Type 0
ConstructsHoldBitByBit = (contents : Contents) (w : World) (s : Scope) (c : Construct) → IsLegal contents s c
    → Holds contents w s c ↔ All (IsGiven contents w) (drives_at (s, c))

-- every driven bit of a design is what its source gives
abbrev pub IsDrivenWorld : Design → Contents → World → Type 0
IsDrivenWorld d contents w = All (IsGiven contents w) (drives d)

-- two such worlds of one vector have the same bits wherever a bit is read
abbrev pub WorldsAgreeWhereRead : Type 0
WorldsAgreeWhereRead = (d : Design) (contents : Contents) (x : Vector) (w v : World) → BitsAreThere d → AreDriven d → IsAcyclic d
    → IsDrivenWorld d contents w → IsDrivenWorld d contents v → HasVector d x w → HasVector d x v
    → (b : Bit) → IsReadBit d b → bit_in w b ≡ bit_in v b

-- each vector and all contents have one
abbrev pub VectorsHaveWorlds : Type 0
VectorsHaveWorlds = (d : Design) (contents : Contents) (x : Vector) → AreDrivenOnce d → IsAcyclic d
    → (w : World) × IsDrivenWorld d contents w × HasVector d x w

-- a world is one in which every driven bit is what its source gives
abbrev pub WorldsAreDriven : Type 0
WorldsAreDriven = (d : Design) (contents : Contents) (w : World) → ScopesAreEnds d → IsShallow d → All (λ x. IsLegal contents x.0 x.1) (parts d)
    → IsWorld d contents w ↔ IsDrivenWorld d contents w

-- in a text without faults the constructs of a module are legal
abbrev pub SoundConstructsAreLegal : Type 0
SoundConstructsAreLegal = (text : List PlainModule) (contents : Contents) (s : Scope) → IsSound text → Contains text s.source → is_box s ≡ false
    → All (IsLegal contents s) (constructs_at text s)
