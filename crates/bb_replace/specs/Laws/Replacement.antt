-- A design whose boxes are finished by modules. An instance is a copy of the module that it names (IEEE 1364-2005,
-- 12.1.2), so all boxes of an empty module are finished by one module of its name, with its ports. Other modules stay,
-- empty or not. What a module gives at its outputs for the bits at its inputs are contents of the boxes that it
-- finishes.
use Rattle.std.specs.Prelude.{◌≡◌, ◌≢◌, ℕ, Bool, true, false, List, [], ◌∷◌, map, All, AllPairs, Contains, Some, if◌then◌else◌, unwrap_or, is_none}
use Rattle.bb_ast.specs.Syntax.{PlainBody, Calls, Always, PlainModule}
use Rattle.bb_bits.specs.Contents.{Contents, row_at}
use Rattle.bb_names.specs.Declarations.{is_port, port_direction, range_of}
use Rattle.bb_names.specs.Nets.{is_empty}
use Rattle.bb_names.specs.Sites.{module_named}
use Rattle.bb_design.specs.Constructs.{constructs_at}
use Rattle.bb_design.specs.Hierarchy.{Path, Design, Scope, boxes}
use Rattle.bb_design.specs.Inside.Allowed.{IsBounded}
use Rattle.bb_design.specs.NetBits.{input_bits, output_bits}
use Rattle.bb_design.specs.Refusals.{AreDriven, AreDrivenOnce, IsAcyclic, design_on}
use Rattle.bb_design.specs.Texts.{path_text}
use Rattle.bb_design.specs.Worlds.{World, Holds, bits_in}

-- what comes in the place of a module: where it is empty the first of these modules that has its name, if there is one
abbrev pub replaced : List PlainModule → PlainModule → PlainModule
replaced modules m = if is_empty m then unwrap_or (module_named modules m.name) m else m

abbrev pub replaced_design : List PlainModule → Design → Design
replaced_design modules d = record { text = map (replaced modules) d.text; top = replaced modules d.top }

-- an item without instances and registers
abbrev pub IsCombinational : PlainBody → Type 0
IsCombinational (Calls target calls) = ⊥
IsCombinational (Always register) = ⊥
IsCombinational body = Unit {0}

-- a box for which there is no module
abbrev pub is_unfinished : List PlainModule → Scope → Bool
is_unfinished modules s = is_none (module_named modules s.source.name)

-- a module may come in the place of an empty one: it has the same ports in the same order, each with the same direction
-- and range, it is not empty itself, and it is combinational
pub record MayReplace (empty m : PlainModule) : Type 0 where
  pub heads : map (λ head. head.name) m.heads ≡ map (λ head. head.name) empty.heads
  pub directions : (n : List ℕ) → port_direction m n ≡ port_direction empty n
  pub ranges : (n : List ℕ) → is_port empty n ≡ true → range_of m n ≡ range_of empty n
  pub not_empty : is_empty m ≡ false
  pub combinational : All (λ item. IsCombinational item.body) m.items

-- each that comes in the place of a module of a text may do so
abbrev pub AllMayReplace : List PlainModule → List PlainModule → Type 0
AllMayReplace modules text = (e m : PlainModule) → Contains text e → is_empty e ≡ true → module_named modules e.name ≡ Some m
    → MayReplace e m

-- each is of an empty module that has a box, and there is one of a name, so put behind the text that has no empty ones
-- they declare no module twice and bring no second top
pub record AreThoseNeeded (modules : List PlainModule) (d : Design) : Type 0 where
  pub apart : AllPairs ◌≢◌ (map (λ m. m.name) modules)
  pub used : All (λ m. (s : Scope) × Contains (boxes d) s × (s.source.name ≡ m.name)) modules

-- a module alone, as a design
abbrev pub alone : PlainModule → Design
alone m = design_on (m ∷ []) m

-- it stands alone: it is well formed, without faults and not too large, no bit of it is driven twice, each that is read
-- is driven, and it has no loop; texts of its pins may repeat, as those of a box may
pub record StandsAlone (m : PlainModule) : Type 0 where
  pub bounded : IsBounded (alone m)
  pub once : AreDrivenOnce (alone m)
  pub driven : AreDriven (alone m)
  pub acyclic : IsAcyclic (alone m)

-- a copy of a module
abbrev pub scope_of : Path → PlainModule → Scope
scope_of path m = record { path = path; source = m }

-- a module computes rows: wherever a copy of it is, where its constructs hold the bits at its outputs are the row of the
-- bits at its inputs
abbrev pub Computes : PlainModule → List (List Bool) → Type 0
Computes m rows = (path : Path) (contents : Contents) (w : World)
    → All (Holds contents w (scope_of path m)) (constructs_at (m ∷ []) (scope_of path m))
    → bits_in w (output_bits (scope_of path m)) ≡ row_at rows (bits_in w (input_bits (scope_of path m)))

-- contents have the rows that the modules compute at each box that one of them finishes
abbrev pub AreComputed : List PlainModule → Design → Contents → Type 0
AreComputed modules d contents = (s : Scope) (m : PlainModule) → Contains (boxes d) s
    → module_named modules s.source.name ≡ Some m → Computes m (contents (path_text s.path))
