-- The constructs of a module, in text order. Declarations without assignment and open ports are none. An output
-- terminal of a gate comes before its inputs: of buf and not all terminals but the last are outputs, of the other gates
-- the first is (IEEE 1364-2005, 7.2 and 7.3). A connection by order belongs to the port of the header at its place, one
-- by name to the port of that name (12.3.5 and 12.3.6).
use Rattle.std.specs.Prelude.{ℕ, Bool, if◌then◌else◌, List, [], ◌∷◌, map, length, take, drop, Option, Some, None}
use Rattle.std.specs.List.{flat_map, enumerate_from}
use Rattle.std.specs.Option.{option_and_then}
use Rattle.bb_ast.specs.declared.module.Gate.{Gate}
use Rattle.bb_ast.specs.Gates.{output_count}
use Rattle.bb_ast.specs.Syntax.{Expression, Net, PlainConns, Order, Named, PlainAlways, PlainBody, Nets, Supply, Assign, Gates, Calls, Always, PlainModule}
use Rattle.bb_names.specs.Faults.{is_input}
use Rattle.bb_names.specs.Sites.{Pin, module_named, pin_named, pin_at}
use Rattle.bb_design.specs.Hierarchy.{Design, Scope, is_box, scopes}

pub data Construct : Type 0 where
  -- an assignment, its left and its right side; that of a declared wire has the wire on its left
  Assignment : Expression → Expression → Construct
  -- a gate, its outputs and its inputs
  GateInstance : Gate → List Expression → List Expression → Construct
  -- registers
  Register : PlainAlways → Construct
  -- a net that is 0 or 1
  SupplyNet : Bool → List ℕ → Construct
  -- what is connected to an input port of an instance
  InputConnection : List ℕ → Pin → Expression → Construct
  -- what is connected to an output port of an instance
  OutputConnection : List ℕ → Pin → Expression → Construct
  -- the contents of a box
  BoxContents : Construct

abbrev pub initial_construct : List ℕ × Option Expression → List Construct
initial_construct (n, None) = []
initial_construct (n, Some e) = Assignment (Net n) e ∷ []

-- a gate with its terminals
abbrev pub gate_construct : Gate → List Expression → Construct
gate_construct gate terms = GateInstance gate (take (output_count gate (length terms)) terms) (drop (output_count gate (length terms)) terms)

-- a connection of an instance, where the port is one and not left open
abbrev pub connection : List ℕ → Option Pin → Option Expression → List Construct
connection i None e = []
connection i (Some pin) None = []
connection i (Some pin) (Some e) = (if is_input pin.dir then InputConnection i pin e else OutputConnection i pin e) ∷ []

abbrev pub connections : Option PlainModule → List ℕ × PlainConns → List Construct
connections target (i, Order places) = flat_map (λ x. connection i (option_and_then (λ m. pin_at m x.0) target) x.1) (enumerate_from 0 places)
connections target (i, Named all) = flat_map (λ x. connection i (option_and_then (λ m. pin_named m x.0) target) x.1) all

abbrev pub body_constructs : List PlainModule → PlainBody → List Construct
body_constructs text (Nets range nets) = flat_map initial_construct nets
body_constructs text (Supply high range names) = map (SupplyNet high) names
body_constructs text (Assign all) = map (λ x. Assignment x.0 x.1) all
body_constructs text (Gates gate all) = map (λ x. gate_construct gate x.1) all
body_constructs text (Calls target calls) = flat_map (connections (module_named text target)) calls
body_constructs text (Always r) = Register r ∷ []
body_constructs text body = []

-- the constructs of a scope: those of its module, or that it is a box
abbrev pub constructs_at : List PlainModule → Scope → List Construct
constructs_at text s = if is_box s then BoxContents ∷ [] else flat_map (λ item. body_constructs text item.body) s.source.items

-- all constructs of a design, each with its scope
abbrev pub parts : Design → List (Scope × Construct)
parts d = flat_map (λ s. map (λ c. (s, c)) (constructs_at d.text s)) (scopes d)
