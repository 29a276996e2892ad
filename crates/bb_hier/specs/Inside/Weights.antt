-- What a module adds to the size of a design, once for each scope of it: bits, and cells, construct by construct.
-- Modules and their callees go by their places in the text.
use Rattle.std.specs.Prelude.{◌≡◌, ◌⊎◌, ℕ, zero, suc, ◌+◌, ◌-◌, ◌<◌, ◌≤◌, ◌&&◌, nat_le, nat_lt, max, Bool, false, not, if◌then◌else◌, List, [], length, drop, sum_by, Option, Some, None, option_to_list, slice_get, All, IfSome, IsSomeAnd}
use Rattle.std.specs.List.{filter, flat_map, list_any, slice_index_or}
use Rattle.bb_ast.specs.declared.module.Gate.{Gate}
use Rattle.bb_ast.specs.declared.module.Range.{Range}
use Rattle.bb_ast.specs.Gates.{output_count}
use Rattle.bb_ast.specs.Syntax.{Expression, PlainBody, Nets, Assign, Gates, Calls, Always, PlainModule}
use Rattle.bb_names.specs.declared.net.NetInfo.{NetInfo}
use Rattle.bb_names.specs.Inside.Checked.{ModuleFacts}
use Rattle.bb_names.specs.Declarations.{range_of}
use Rattle.bb_names.specs.Faults.{is_input, widest}
use Rattle.bb_names.specs.Nets.{nets_of, is_empty}
use Rattle.bb_names.specs.Ranges.{distance, range_width, place_of}
use Rattle.bb_names.specs.Widths.{Ranges, own_width}
use Rattle.bb_expr.specs.Cells.{cell_count}
use Rattle.bb_expr.specs.Inside.Fit.{HasNet, ranges_in}
use Rattle.bb_expr.specs.Inside.Shares.{own_cells}
use Rattle.bb_expr.specs.Inside.Occurrences.{conns_expressions}
use Rattle.bb_design.specs.GateFunctions.{inverts}
use Rattle.bb_design.specs.Hierarchy.{Scope}
use Rattle.bb_design.specs.NetBits.{Bit, same_bit, bits_from, bits_named, scope_bits, written_bits}

-- cells

-- what is assigned to this many bits
abbrev pub assigned_cells : Ranges → ℕ → Expression → ℕ
assigned_cells ranges left right = cell_count ranges right (max left (own_width ranges right))

-- a net of the module at a place, with no more bits than a net may have
abbrev pub IsNarrowNet : List ModuleFacts → ℕ → List ℕ → Type 0
IsNarrowNet checked k n = IsSomeAnd (slice_get checked k) (λ m. HasNet m n × (range_width (ranges_in m n) ≤ widest))

-- what is assigned to in an item where it is declared is such a net
abbrev pub AreNarrowNets : List ModuleFacts → ℕ → PlainBody → Type 0
AreNarrowNets checked k (Nets range nets) = All (λ x. IfSome x.1 (λ e. IsNarrowNet checked k x.0)) nets
AreNarrowNets checked k body = Unit {0}

-- what is assigned to a wire where it is declared
abbrev pub initial_cells : Ranges → List ℕ × Option Expression → ℕ
initial_cells ranges (n, None) = 0
initial_cells ranges (n, Some e) = assigned_cells ranges (range_width (ranges n)) e

abbrev pub assignment_cells : Ranges → Expression × Expression → ℕ
assignment_cells ranges x = assigned_cells ranges (own_width ranges x.0) x.1

-- the inputs among the terminals of a gate
abbrev pub inputs_of : Gate → List Expression → List Expression
inputs_of gate terms = drop (output_count gate (length terms)) terms

abbrev pub inversions : Gate → ℕ
inversions gate = if inverts gate then 1 else 0

-- a cell for each input but the first, and one where the gate inverts
abbrev pub gate_weight : Ranges → Gate → List Expression → ℕ
gate_weight ranges gate terms = sum_by (own_cells ranges) (inputs_of gate terms) + (length (inputs_of gate terms) - 1) + inversions gate

abbrev pub item_cells : Ranges → PlainBody → ℕ
item_cells ranges (Nets range nets) = sum_by (initial_cells ranges) nets
item_cells ranges (Assign all) = sum_by (assignment_cells ranges) all
item_cells ranges (Gates gate all) = sum_by (λ x. gate_weight ranges gate x.1) all
item_cells ranges (Calls target calls) = sum_by (λ x. sum_by (own_cells ranges) (conns_expressions x.1)) calls
item_cells ranges (Always r) = assignment_cells ranges (r.left, r.right)
item_cells ranges body = 0

-- registers

-- what an item stores to
abbrev pub stored_by : Scope → PlainBody → List Bit
stored_by s (Always r) = written_bits s r.left
stored_by s body = []

-- a scope of the module, wherever it is
abbrev pub any_scope : PlainModule → Scope
any_scope m = record { path = []; source = m }

abbrev pub stored_bits : PlainModule → List Bit
stored_bits m = flat_map (λ item. stored_by (any_scope m) item.body) m.items

-- whether the bit of a net at a place is among those from an index to another, or all of them
abbrev pub is_among : Option Range → Option (ℕ × ℕ) → ℕ → Bool
is_among range None p = nat_lt p (range_width range)
is_among range (Some x) p = nat_le (place_of range x.0) p && nat_lt p (place_of range x.0 + (distance x.0 x.1 + 1))

-- these bits of a net, or all of them
abbrev pub named_bits : PlainModule → List ℕ → Option (ℕ × ℕ) → List Bit
named_bits m n None = bits_named (any_scope m) n
named_bits m n (Some x) = bits_from [] n (place_of (range_of m n) x.0) (distance x.0 x.1 + 1)

-- the bits of nets, net by net, are marked where they are among these; a net of which none is marked may have no marks
pub record AreMarks (nets : List NetInfo) (marks : List (List Bool)) (bits : List Bit) : Type 0 where
  pub long : length marks ≡ length nets
  pub whole : (k : ℕ) (net : NetInfo) → slice_get nets k ≡ Some net → (length (slice_index_or marks k []) ≡ 0) ⊎ (length (slice_index_or marks k []) ≡ range_width net.range)
  pub marked : (k p : ℕ) (net : NetInfo) → slice_get nets k ≡ Some net → p < range_width net.range
      → slice_index_or (slice_index_or marks k []) p false ≡ list_any (same_bit (record { path = []; net = net.name; place = p })) bits

-- how many of its bits are stored to
abbrev pub register_count : PlainModule → ℕ
register_count m = length (filter (λ b. list_any (same_bit b) (stored_bits m)) (scope_bits (any_scope m)))

-- modules

abbrev pub net_width : NetInfo → ℕ
net_width net = range_width net.range

abbrev pub bit_count : PlainModule → ℕ
bit_count m = sum_by net_width (nets_of m)

abbrev pub is_output_net : NetInfo → Bool
is_output_net net = list_any (λ dir. not (is_input dir)) (option_to_list net.port)

abbrev pub is_input_net : NetInfo → Bool
is_input_net net = list_any is_input (option_to_list net.port)

-- the operators and the registers of a module
abbrev pub construct_cells : PlainModule → ℕ
construct_cells m = sum_by (λ item. item_cells (range_of m) item.body) m.items + register_count m

-- the cells of an instance; a box has one for each output bit
abbrev pub instance_cells : PlainModule → ℕ
instance_cells m = if is_empty m then sum_by net_width (filter is_output_net (nets_of m)) else construct_cells m

-- the hierarchy

-- what all instances below the module at a place add, this many levels down, where each module adds its own weight
abbrev pub total_below : List (List ℕ) → (ℕ → ℕ) → ℕ → ℕ → ℕ
total_below lists own zero k = 0
total_below lists own (suc n) k = sum_by (λ j. own j + total_below lists own n j) (slice_index_or lists k [])
