-- By this file laws of modules promise to crates above; no clause of `elaborate` rests on it.
-- What the template of a module is made of, and what the module has to meet for it.
use Rattle.std.specs.Prelude.{◌≡◌, ℕ, ◌+◌, ◌<◌, ◌≤◌, ◌^◌, Bool, true, false, not, List, [], map, length, sum_by, All, Contains, Option, Some, IsSomeAnd, option_to_list, slice_get}
use Rattle.std.specs.List.{AllZip, flat_map, list_any, slice_index_or}
use Rattle.std.specs.Option.{option_map_or}
use Rattle.bb_ast.specs.Syntax.{Expression, Net, PlainModule}
use Rattle.bb_names.specs.declared.net.NetInfo.{NetInfo}
use Rattle.bb_names.specs.Inside.Checked.{ModuleFacts, syntax}
use Rattle.bb_names.specs.Faults.{is_input}
use Rattle.bb_names.specs.Nets.{nets_of}
use Rattle.bb_names.specs.Ranges.{range_width}
use Rattle.bb_names.specs.Sites.{module_named}
use Rattle.bb_expr.specs.Inside.Fit.{AreFit}
use Rattle.bb_expr.specs.Inside.Occurrences.{OccursAt}
use Rattle.bb_blast.specs.declared.module_context.ModuleContext.{ModuleContext}
use Rattle.bb_blast.specs.declared.template.Part.{Part}
use Rattle.bb_blast.specs.declared.placed.Placed.{Placed}
use Rattle.bb_design.specs.Constructs.{Construct, Assignment, GateInstance, Register, SupplyNet, InputConnection, OutputConnection, BoxContents, body_constructs}
use Rattle.bb_design.specs.Hierarchy.{Scope, Instance, instances_of}
use Rattle.bb_design.specs.NetBits.{written_bits}
use Rattle.bb_blast.specs.Inside.ModuleTemplates.{IsPartOf, net_start}
use Rattle.bb_design.specs.Reading.{cells_at}

-- the module at a place of a checked text
abbrev pub module_in : List ModuleFacts → ℕ → PlainModule
module_in checked k = option_map_or syntax (slice_get checked k) (record { name = []; line = 0; heads = []; items = [] })

-- a scope of a module
abbrev pub scope_of : PlainModule → Scope
scope_of m = record { path = []; source = m }

-- the constructs of a module, of which there are none in that of a box
abbrev pub module_constructs : List PlainModule → PlainModule → List Construct
module_constructs text m = flat_map (λ item. body_constructs text item.body) m.items

-- how many bits a scope of a module has
abbrev pub bit_count : List NetInfo → ℕ
bit_count nets = sum_by (λ net. range_width net.range) nets

-- the numbers of the first bits of nets
pub record AreStarts (nets : List NetInfo) (starts : List ℕ) : Type 0 where
  pub each : (k : ℕ) → k < length nets → slice_get starts k ≡ Some (net_start nets k)
  pub few : bit_count nets ≤ 1000000

-- the net is a port of that side
abbrev pub is_port_of : Bool → NetInfo → Bool
is_port_of true net = list_any is_input (option_to_list net.port)
is_port_of false net = list_any (λ dir. not (is_input dir)) (option_to_list net.port)

-- what occurs in the module at a place can be looked up there
abbrev pub FitsAt : List ModuleFacts → ℕ → Expression → Type 0
FitsAt checked k e = IsSomeAnd (slice_get checked k) (λ m. AreFit m e)

-- a clock is one bit
pub record IsClockAt (checked : List ModuleFacts) (k : ℕ) (e : Expression) : Type 0 where
  pub fits : FitsAt checked k e
  pub one : length (written_bits (scope_of (module_in checked k)) e) ≡ 1

-- what is written and what is read in a construct can be looked up
abbrev pub Fits : List ModuleFacts → ℕ → Construct → Type 0
Fits checked k (Assignment left right) = FitsAt checked k left × OccursAt checked k right
Fits checked k (GateInstance gate outs ins) = All (FitsAt checked k) outs × All (OccursAt checked k) ins
Fits checked k (Register r) = OccursAt checked k r.left × OccursAt checked k r.right × IsClockAt checked k r.clock
Fits checked k (SupplyNet high n) = FitsAt checked k (Net n)
Fits checked k (InputConnection i pin e) = OccursAt checked k e
Fits checked k (OutputConnection i pin e) = FitsAt checked k e
Fits checked k BoxContents = Unit {0}

-- a part can be made for a construct of the module at a place
pub record IsMakeable (checked : List ModuleFacts) (k : ℕ) (c : Construct) : Type 0 where
  pub fits : Fits checked k c
  pub few : length (cells_at (scope_of (module_in checked k), c)) ≤ 2000000

-- a part implements a construct of the module at a place
abbrev pub IsPartAt : List ModuleFacts → ℕ → Part → Construct → Type 0
IsPartAt checked k = IsPartOf (map syntax checked) (module_in checked k)

-- for the module of a context: a part can be made for the construct, and parts implement constructs
abbrev pub IsMakeableIn : ModuleContext → Construct → Type 0
IsMakeableIn context = IsMakeable context.checked.now context.«module»

abbrev pub ArePartsIn : ModuleContext → List Part → List Construct → Type 0
ArePartsIn context = AllZip (IsPartAt context.checked.now context.«module»)

-- the module has few bits, and its constructs make few cells
pub record IsModest (text : List PlainModule) (m : PlainModule) : Type 0 where
  pub bits : bit_count (nets_of m) ≤ 1000000
  pub cells : (c : Construct) → Contains (module_constructs text m) c → length (cells_at (scope_of m, c)) ≤ 2000000

-- the module at a place is there, and these are the numbers of the first bits of its nets
pub record IsStartedModule (checked : List ModuleFacts) (k : ℕ) (starts : List ℕ) : Type 0 where
  pub there : k < length checked
  pub each : AreStarts (nets_of (module_in checked k)) starts

-- the module at a place is there, and the numbers of the first bits of its nets are kept at that place
pub record IsStarted (checked : List ModuleFacts) (starts : List (List ℕ)) (k : ℕ) : Type 0 where
  pub there : k < length checked
  pub small : k < 2 ^ 32
  pub kept : k < length starts
  pub each : AreStarts (nets_of (module_in checked k)) (slice_index_or starts k [])

-- the instance with a number in the module at a place is one of the module at another place
pub record IsCallAt (checked : List ModuleFacts) (k instance target : ℕ) (called : Instance) : Type 0 where
  pub there : slice_get (instances_of (module_in checked k)) instance ≡ Some called
  pub meant : module_named (map syntax checked) called.target ≡ Some (module_in checked target)

-- consecutive instances in the module at a place, of which the first has a number, and the places of their modules
pub record AreCallsAt (checked : List ModuleFacts) (k : ℕ) (targets : List ℕ) (first : ℕ) (all : List Instance) : Type 0 where
  pub room : first + length all ≤ length targets
  pub each : (j : ℕ) (called : Instance) → slice_get all j ≡ Some called → IsCallAt checked k (first + j) (slice_index_or targets (first + j) 0) called

-- a template can be made of the module at a place, where these are the places of the modules of its instances
pub record IsOutlinable (checked : List ModuleFacts) (starts : List (List ℕ)) (k : ℕ) (called : List ℕ) : Type 0 where
  pub started : IsStarted checked starts k
  pub targets : All (IsStarted checked starts) called
  pub few : length called < 2 ^ 32
  pub calls : AreCallsAt checked k called 0 (instances_of (module_in checked k))
  pub modest : IsModest (map syntax checked) (module_in checked k)

-- the modules that have scopes are marked
pub record AreUsed (all : List Placed) (used : List Bool) : Type 0 where
  pub only : (m : ℕ) → slice_get used m ≡ Some true → (k : ℕ) × (p : Placed) × (slice_get all k ≡ Some p) × (p.module ≡ m)
  pub each : (k : ℕ) (p : Placed) → slice_get all k ≡ Some p → slice_get used p.module ≡ Some true
