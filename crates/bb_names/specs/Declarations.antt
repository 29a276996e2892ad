-- What the declarations of a module say of a name (IEEE 1364-2005, 4.2, 4.11 and 12.3, in a profile). A declaration
-- counts for the module as a whole, also for uses before it; where a name is declared twice, the first declaration
-- counts. An undeclared name in a gate's terminal, in a connection or on the left of assign is a wire of one bit (4.5).
use Rattle.std.specs.Prelude.{ℕ, Bool, true, false, not, ◌&&◌, ◌||◌, if◌then◌else◌, List, [], ◌++◌, map, Option, Some, None, option_map, option_to_list, is_some, unwrap_or}
use Rattle.std.specs.List.{find, filter, flat_map, list_any}
use Rattle.std.specs.Option.{option_and_then, option_map_or}
use Rattle.bb_bits.specs.Names.{same_name}
use Rattle.bb_ast.specs.declared.module.Dir.{Dir}
use Rattle.bb_ast.specs.declared.module.Port.{Port}
use Rattle.bb_ast.specs.declared.module.PortKind.{PortKind}
use Rattle.bb_ast.specs.declared.module.PortKind.TheVariants as port_kinds
use Rattle.bb_ast.specs.declared.module.Range.{Range}
use Rattle.bb_ast.specs.Syntax.{Expression, PlainConns, Order, Named, PlainBody, Ports, Nets, Regs, Supply, Assign, Gates, Calls, PlainHead, PlainModule}
use Rattle.bb_ast.specs.Names.{names_in}
use Rattle.bb_names.specs.declared.net.NetKind.{NetKind}
use Rattle.bb_names.specs.declared.net.NetKind.TheVariants.{Wire, Reg, Zero, One}
use Rattle.bb_bits.specs.Earlier.{has_name}

-- what one statement declares of a name: a direction, a kind or both, with a range or none; or an instance
pub record Declaration : Type 0 where
  pub name : List ℕ
  pub dir : Option Dir
  pub kind : Option NetKind
  pub range : Option Range
  pub instance : Bool

abbrev pub net_kind : PortKind → NetKind
net_kind port_kinds.Wire = Wire
net_kind port_kinds.Reg = Reg

abbrev pub supply_kind : Bool → NetKind
supply_kind false = Zero
supply_kind true = One

abbrev pub port_declaration : Port → List ℕ → Declaration
port_declaration port n = record { name = n; dir = Some port.dir; kind = option_map net_kind port.kind; range = port.range; instance = false }

abbrev pub net_declaration : NetKind → Option Range → List ℕ → Declaration
net_declaration kind range n = record { name = n; dir = None; kind = Some kind; range = range; instance = false }

abbrev pub instance_declaration : List ℕ → Declaration
instance_declaration n = record { name = n; dir = None; kind = None; range = None; instance = true }

-- a header declares a name where it gives it a direction
abbrev pub declared_by_head : PlainHead → List Declaration
declared_by_head head = option_to_list (option_map (λ port. port_declaration port head.name) head.decl)

abbrev pub declared_by : PlainBody → List Declaration
declared_by (Ports port names) = map (port_declaration port) names
declared_by (Nets range nets) = map (λ x. net_declaration Wire range x.0) nets
declared_by (Regs range names) = map (net_declaration Reg range) names
declared_by (Supply high range names) = map (net_declaration (supply_kind high) range) names
declared_by (Calls target calls) = map (λ x. instance_declaration x.0) calls
declared_by body = []

-- the declarations of a module, in text order
abbrev pub declarations : PlainModule → List Declaration
declarations m = flat_map declared_by_head m.heads ++ flat_map (λ item. declared_by item.body) m.items

abbrev pub is_declared : PlainModule → List ℕ → Bool
is_declared m n = list_any (λ d. same_name d.name n) (declarations m)

-- its first declaration
abbrev pub declaration_of : PlainModule → List ℕ → Option Declaration
declaration_of m n = find (λ d. same_name d.name n) (declarations m)

-- whether the name is that of an instance
abbrev pub is_instance : PlainModule → List ℕ → Bool
is_instance m n = option_map_or (λ d. d.instance) (declaration_of m n) false

-- the range of a net by its name; an instance and an implicit wire have none
abbrev pub range_of : PlainModule → List ℕ → Option Range
range_of m n = option_and_then (λ d. d.range) (declaration_of m n)

-- the first kind that is declared, else a wire; an instance has none
abbrev pub kind_of : PlainModule → List ℕ → NetKind
kind_of m n = if is_instance m n then Wire else unwrap_or (option_and_then (λ d. d.kind) (find (λ d. same_name d.name n && is_some d.kind) (declarations m))) Wire

-- the first direction that is declared; an instance has none
abbrev pub direction_of : PlainModule → List ℕ → Option Dir
direction_of m n = if is_instance m n then None else option_and_then (λ d. d.dir) (find (λ d. same_name d.name n && is_some d.dir) (declarations m))

-- a port is a name of the header
abbrev pub is_port : PlainModule → List ℕ → Bool
is_port m n = list_any (λ head. same_name head.name n) m.heads

-- the direction of a port, where it has one
abbrev pub port_direction : PlainModule → List ℕ → Option Dir
port_direction m n = option_and_then (λ head. direction_of m n) (find (λ head. same_name head.name n) m.heads)

abbrev pub names_in_optional : Option Expression → List (List ℕ)
names_in_optional e = option_map_or names_in e []

abbrev pub names_in_conns : PlainConns → List (List ℕ)
names_in_conns (Order places) = flat_map names_in_optional places
names_in_conns (Named all) = flat_map (λ x. names_in_optional x.1) all

-- the names that an item may make implicit wires: those in terminals, in connections and on the left of assign
abbrev pub implicit_places : PlainBody → List (List ℕ)
implicit_places (Assign all) = flat_map (λ x. names_in x.0) all
implicit_places (Gates gate all) = flat_map (λ x. flat_map names_in x.1) all
implicit_places (Calls target calls) = flat_map (λ x. names_in_conns x.1) calls
implicit_places body = []

-- the implicit wires of a module, each as often as it is used at such a place
abbrev pub implicit_names : PlainModule → List (List ℕ)
implicit_names m = filter (λ n. not (is_declared m n)) (flat_map (λ item. implicit_places item.body) m.items)

-- declared, or an implicit wire
abbrev pub is_known : PlainModule → List ℕ → Bool
is_known m n = is_declared m n || has_name n (implicit_names m)
