-- The faults of a source (IEEE 1364-2005, 4.2, 4.3, 4.5, 4.11, 5.2.1, 6.1, 7.1 and 12.3, in a profile). There are five
-- kinds. For each kind the rows below say what is at fault at a site, and which name is reported.
use Rattle.std.specs.Prelude.{ℕ, ◌==◌, Bool, true, false, not, ◌&&◌, ◌||◌, if◌then◌else◌, nat_lt, List, [], ◌∷◌, ◌++◌, map, length, Option, Some, None, is_some, is_none, option_to_list, codes, ◌≡◌}
use Rattle.std.specs.List.{flat_map, list_any}
use Rattle.bb_bits.specs.Names.{same_name}
use Rattle.bb_ast.specs.declared.module.Dir.{Dir}
use Rattle.bb_ast.specs.declared.module.Dir.TheVariants as dirs
use Rattle.bb_ast.specs.declared.module.Range.{Range}
use Rattle.bb_ast.specs.Syntax.{Expression, Repeat, PlainModule}
use Rattle.bb_ast.specs.Names.{names_in}
use Rattle.bb_ast.specs.Assignable.{is_assignable}
use Rattle.bb_ast.specs.Gates.{gate_bytes}
use Rattle.bb_names.specs.declared.fault.NameFault.{NameFault}
use Rattle.bb_names.specs.declared.fault.NameFault.TheVariants as faults
use Rattle.bb_names.specs.declared.net.NetKind.{NetKind}
use Rattle.bb_names.specs.declared.net.NetKind.TheVariants.{Reg, Zero, One}
use Rattle.bb_bits.specs.Earlier.{each_after, has_name}
use Rattle.bb_names.specs.Ranges.{range_width, has_bits}
use Rattle.bb_names.specs.Widths.{own_width}
use Rattle.bb_names.specs.Declarations.{Declaration, declared_by_head, declared_by, is_instance, range_of, kind_of, direction_of, is_port, port_direction, is_known}
use Rattle.bb_names.specs.Sites.{Read, Driven, Stored, Site, ModuleName, HeadName, Declared, Target, Placed, PortName, Joined, Terminal, Clock, Number, Whole, Used, module_named, header_sites, item_sites}

abbrev pub reported_if : Bool → List ℕ → List (List ℕ)
reported_if fault name = if fault then name ∷ [] else []

abbrev pub same_range : Option Range → Option Range → Bool
same_range None None = true
same_range (Some r) (Some s) = r.left == s.left && r.right == s.right
same_range _ _ = false

abbrev pub is_supply : NetKind → Bool
is_supply Zero = true
is_supply One = true
is_supply kind = false

abbrev pub is_reg : NetKind → Bool
is_reg Reg = true
is_reg kind = false

abbrev pub declares_supply : Declaration → Bool
declares_supply d = list_any is_supply (option_to_list d.kind)

abbrev pub declares_reg : Declaration → Bool
declares_reg d = list_any is_reg (option_to_list d.kind)

abbrev pub is_input : Dir → Bool
is_input dirs.Input = true
is_input dirs.Output = false

abbrev pub is_input_port : PlainModule → List ℕ → Bool
is_input_port m n = list_any is_input (option_to_list (port_direction m n))

-- two declarations of one name of which the second is one too many: two directions, two kinds, an instance and anything else,
-- or a port's direction and its kind as wire or reg with different ranges
abbrev pub clashes : PlainModule → Declaration → Declaration → Bool
clashes m d e = same_name d.name e.name
    && ((is_some d.dir && is_some e.dir) || (is_some d.kind && is_some e.kind) || d.instance || e.instance
    || (is_port m d.name && not (declares_supply d) && not (declares_supply e) && not (same_range d.range e.range)))

abbrev pub Rows : Type 0
Rows = List PlainModule → PlainModule → Site → List (List ℕ)

-- Twice: the name that is declared or used again
abbrev pub twice : Rows
-- a module has the name of an earlier one
twice text m (ModuleName before n) = reported_if (has_name n (map (λ x. x.name) before)) n
-- the header has the name already
twice text m (HeadName before n) = reported_if (has_name n (map (λ x. x.name) before)) n
-- an earlier declaration of the name leaves no room for this one
twice text m (Declared before d) = reported_if (list_any (λ x. clashes m x d) before) d.name
-- the connections name the port already
twice text m (PortName (Some target) before n) = reported_if (is_port target n && has_name n before) n
twice text m site = []

-- Unknown: the name that nothing declares
abbrev pub unknown : Rows
-- a name of the header has no direction, neither there nor in an item
unknown text m (HeadName before n) = reported_if (is_none (direction_of m n)) n
-- the module of instances is not in the text
unknown text m (Target n) = reported_if (is_none (module_named text n)) n
-- a connection names no port that has a direction
unknown text m (PortName (Some target) before n) = reported_if (is_none (port_direction target n)) n
-- the name of a net is neither declared nor an implicit wire
unknown text m (Used how n bits) = reported_if (not (is_known m n)) n
unknown text m site = []

-- Select: the net
abbrev pub wrong_select : Rows
-- the net has no range, or not these bits, or not in this direction
wrong_select text m (Used how n (Some bits)) = reported_if (not (has_bits (range_of m n) bits.0 bits.1)) n
wrong_select text m site = []

-- no net and no expression has more bits
abbrev pub widest : ℕ
widest = 65536

abbrev pub width_in : PlainModule → Expression → ℕ
width_in m = own_width (range_of m)

-- a replication of no copies
abbrev pub is_no_copy : Expression → Bool
is_no_copy (Repeat k all) = k == 0
is_no_copy e = false

-- Width: the word of the gate, the port, the net, or a word for what is wrong
abbrev pub wrong_width : Rows
-- a terminal is not one bit
wrong_width text m (Terminal gate output e) = reported_if (not (width_in m e == 1)) (gate_bytes gate)
-- a connection is not as wide as its port
wrong_width text m (Joined pin e) = reported_if (not (width_in m e == pin.width)) pin.name
-- a clock is not one bit
wrong_width text m (Clock e) = if width_in m e == 1 then [] else names_in e
-- a declared net is too wide
wrong_width text m (Declared before d) = reported_if (nat_lt widest (range_width (range_of m d.name))) d.name
-- a plain number is a part
wrong_width text m Number = codes "decimal" ∷ []
-- a replication has no copies; an expression is too wide
wrong_width text m (Whole e) = reported_if (is_no_copy e) (codes "repeat") ++ reported_if (nat_lt widest (width_in m e)) (codes "wide")
wrong_width text m site = []

-- Role: the name that is not allowed there, the word of the gate, the port or the instance
abbrev pub wrong_role : Rows
-- an instance's name is used as a net
wrong_role text m (Used Read n bits) = reported_if (is_instance m n) n
-- an input port, a supply net, a reg or an instance is driven
wrong_role text m (Used Driven n bits) = reported_if (is_input_port m n || is_supply (kind_of m n) || is_reg (kind_of m n) || is_instance m n) n
-- what is no reg, or an instance, is stored to
wrong_role text m (Used Stored n bits) = reported_if (not (is_reg (kind_of m n)) || is_instance m n) n
-- an input port or a supply net is declared as reg; a port is declared as supply; what is no port has a direction
wrong_role text m (Declared before d) = reported_if ((declares_reg d && (is_input_port m d.name || is_supply (kind_of m d.name)))
    || (declares_supply d && is_port m d.name) || (is_some d.dir && not (is_port m d.name))) d.name
-- an output terminal is not a net, bits of one, or such things side by side
wrong_role text m (Terminal gate output e) = reported_if (output && not (is_assignable e)) (gate_bytes gate)
-- nor is the connection of an output port
wrong_role text m (Joined pin e) = reported_if (not (is_input pin.dir) && not (is_assignable e)) pin.name
-- there are more connections by order than ports
wrong_role text m (Placed (Some target) n count) = reported_if (nat_lt (length target.heads) count) n
wrong_role text m site = []

-- the kinds of faults in the order in which they are reported of a statement
abbrev pub kinds : List ((ℕ → List ℕ → NameFault) × Rows)
kinds = (faults.Twice, twice) ∷ (faults.Unknown, unknown) ∷ (faults.Select, wrong_select) ∷ (faults.Width, wrong_width) ∷ (faults.Role, wrong_role) ∷ []

-- the faults of a statement: kind by kind, and the leftmost first
abbrev pub statement_faults : List PlainModule → PlainModule → ℕ → List Site → List NameFault
statement_faults text m line sites = flat_map (λ kind. map (kind.0 line) (flat_map (kind.1 text m) sites)) kinds

-- the faults of a module: its header's, then those of its items
abbrev pub module_faults : List PlainModule → List PlainModule → PlainModule → List NameFault
module_faults text earlier m = statement_faults text m m.line (header_sites earlier m) ++ each_after (λ before item.
    statement_faults text m item.line (item_sites text (flat_map declared_by_head m.heads ++ flat_map (λ x. declared_by x.body) before) item.body)) m.items

-- the faults of a source, statement by statement
abbrev pub faults_of : List PlainModule → List NameFault
faults_of text = each_after (module_faults text) text

abbrev pub IsSound : List PlainModule → Type 0
IsSound text = faults_of text ≡ []

-- the first of them
abbrev pub IsFirstFault : List PlainModule → NameFault → Type 0
IsFirstFault text fault = (rest : List NameFault) × (faults_of text ≡ fault ∷ rest)
