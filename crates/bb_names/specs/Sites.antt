-- The sites of a statement, in text order: each thing at its first token, a larger one before its parts. A fault is
-- always the fault of one such site.
use Rattle.std.specs.Prelude.{ℕ, Bool, true, false, if◌then◌else◌, List, [], ◌∷◌, ◌++◌, map, length, take, drop, Option, Some, None, option_map, slice_get}
use Rattle.std.specs.List.{find, flat_map, enumerate_from}
use Rattle.std.specs.Option.{option_and_then}
use Rattle.bb_bits.specs.Names.{same_name}
use Rattle.bb_ast.specs.declared.module.Dir.{Dir}
use Rattle.bb_ast.specs.declared.module.Dir.TheVariants as dirs
use Rattle.bb_ast.specs.declared.module.Gate.{Gate}
use Rattle.bb_ast.specs.Syntax.{Expression, Plain, PlainConns, Order, Named, PlainBody, Nets, Assign, Gates, Calls, Always, PlainHead, PlainModule}
use Rattle.bb_ast.specs.Folds.{Cases, fold_by}
use Rattle.bb_ast.specs.Gates.{output_count}
use Rattle.bb_names.specs.declared.net.NetKind.TheVariants.{Wire}
use Rattle.bb_bits.specs.Earlier.{each_after}
use Rattle.bb_names.specs.Ranges.{range_width}
use Rattle.bb_names.specs.Declarations.{Declaration, net_declaration, instance_declaration, declared_by_head, declared_by, range_of, port_direction}

-- what happens to a name: it is read; or driven, on the left of assign, in a wire with assignment, at a gate's output or in an
-- output port's connection; or stored, on the left of <=
pub data Use : Type 0 where
  Read : Use
  Driven : Use
  Stored : Use

-- a port with a direction, as an instance sees it
pub record Pin : Type 0 where
  pub name : List ℕ
  pub dir : Dir
  pub width : ℕ

pub data Site : Type 0 where
  -- the name of a module in its header, after these modules
  ModuleName : List PlainModule → List ℕ → Site
  -- a name of the header, after these
  HeadName : List PlainHead → List ℕ → Site
  -- a declared name, after these declarations
  Declared : List Declaration → Declaration → Site
  -- the name of the module of which instances follow
  Target : List ℕ → Site
  -- the name of an instance with its number of connections by order
  Placed : Option PlainModule → List ℕ → ℕ → Site
  -- the name of a port in a connection, after these names
  PortName : Option PlainModule → List (List ℕ) → List ℕ → Site
  -- an expression that is connected to a port
  Joined : Pin → Expression → Site
  -- a terminal of a gate, an output or not
  Terminal : Gate → Bool → Expression → Site
  -- the clock of a register
  Clock : Expression → Site
  -- a plain number that is a part of a concatenation or replication
  Number : Site
  -- an expression
  Whole : Expression → Site
  -- the name of a net, with the bits that are selected
  Used : Use → List ℕ → Option (ℕ × ℕ) → Site

abbrev pub is_plain : Expression → Bool
is_plain (Plain n) = true
is_plain e = false

-- an expression and its parts
abbrev pub with_inside : Expression × List Site → List Site
with_inside x = Whole x.0 ∷ x.1

abbrev pub part_sites : Expression × List Site → List Site
part_sites x = if is_plain x.0 then Number ∷ with_inside x else with_inside x

abbrev pub inside : Use → Cases (Expression × List Site) (List Site)
inside how = record {
  net = λ n. Used how n None ∷ [];
  bit = λ n i. Used how n (Some (i, i)) ∷ [];
  part = λ n i j. Used how n (Some (i, j)) ∷ [];
  sized = λ bits. [];
  plain = λ n. [];
  not = λ k e. with_inside e;
  reduce = λ op e. with_inside e;
  chain = λ e rest. with_inside e ++ flat_map (λ x. with_inside x.1) rest;
  words = λ e rest. with_inside e ++ flat_map (λ x. with_inside x.1) rest;
  cond = λ all last. flat_map (λ x. with_inside x.0 ++ with_inside x.1) all ++ with_inside last;
  concat = λ all. flat_map part_sites all;
  repeat = λ k all. flat_map part_sites all;
}

abbrev pub sites_in : Use → Expression → List Site
sites_in how e = Whole e ∷ fold_by (λ x sites. (x, sites)) (inside how) e

-- declarations, each after the earlier ones
abbrev pub declared_sites : List Declaration → List Declaration → List Site
declared_sites earlier all = each_after (λ before d. Declared (earlier ++ before) d ∷ []) all

-- a header, after the earlier modules
abbrev pub header_sites : List PlainModule → PlainModule → List Site
header_sites earlier m = ModuleName earlier m.name ∷ each_after (λ before head.
    HeadName before head.name ∷ declared_sites (flat_map declared_by_head before) (declared_by_head head)) m.heads

-- an assignment to a declared wire
abbrev pub initial_sites : List ℕ × Option Expression → List Site
initial_sites (n, None) = []
initial_sites (n, Some e) = Used Driven n None ∷ sites_in Read e

-- a gate's terminals: the outputs, then the inputs
abbrev pub gate_sites : Gate → List Expression → List Site
gate_sites gate terms = let n = output_count gate (length terms) in
    flat_map (λ e. Terminal gate true e ∷ sites_in Driven e) (take n terms) ++ flat_map (λ e. Terminal gate false e ∷ sites_in Read e) (drop n terms)

-- the first module of that name
abbrev pub module_named : List PlainModule → List ℕ → Option PlainModule
module_named modules n = find (λ m. same_name m.name n) modules

-- the port of that name, where it has a direction
abbrev pub pin_named : PlainModule → List ℕ → Option Pin
pin_named target n = option_map (λ dir. record { name = n; dir = dir; width = range_width (range_of target n) }) (port_direction target n)

abbrev pub pin_at : PlainModule → ℕ → Option Pin
pin_at target k = option_and_then (λ head. pin_named target head.name) (slice_get target.heads k)

abbrev pub use_at : Dir → Use
use_at dirs.Input = Read
use_at dirs.Output = Driven

-- a connection, which may be open, to a port, if there is one
abbrev pub joined_sites : Option Pin → Option Expression → List Site
joined_sites pin None = []
joined_sites None (Some e) = sites_in Read e
joined_sites (Some pin) (Some e) = Joined pin e ∷ sites_in (use_at pin.dir) e

abbrev pub conns_sites : Option PlainModule → PlainConns → List Site
conns_sites target (Order places) = flat_map (λ x. joined_sites (option_and_then (λ m. pin_at m x.0) target) x.1) (enumerate_from 0 places)
conns_sites target (Named all) = each_after (λ before x.
    PortName target (map (λ y. y.0) before) x.0 ∷ joined_sites (option_and_then (λ m. pin_named m x.0) target) x.1) all

-- the number of connections by order
abbrev pub place_count : PlainConns → ℕ
place_count (Order places) = length places
place_count (Named all) = 0

-- an item of a text, after the earlier declarations of its module
abbrev pub item_sites : List PlainModule → List Declaration → PlainBody → List Site
item_sites text earlier (Nets range nets) = each_after (λ before x.
    Declared (earlier ++ map (λ y. net_declaration Wire range y.0) before) (net_declaration Wire range x.0) ∷ initial_sites x) nets
item_sites text earlier (Assign all) = flat_map (λ x. sites_in Driven x.0 ++ sites_in Read x.1) all
item_sites text earlier (Gates gate all) = flat_map (λ x. gate_sites gate x.1) all
item_sites text earlier (Calls target all) = Target target ∷ each_after (λ before x.
    Declared (earlier ++ map (λ y. instance_declaration y.0) before) (instance_declaration x.0)
    ∷ Placed (module_named text target) x.0 (place_count x.1) ∷ conns_sites (module_named text target) x.1) all
item_sites text earlier (Always r) = Clock r.clock ∷ sites_in Read r.clock ++ sites_in Stored r.left ++ sites_in Read r.right
item_sites text earlier body = declared_sites earlier (declared_by body)
