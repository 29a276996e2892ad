-- The nets of a module in net order: the ports in the order of the header, then the other declared nets in text order,
-- then the implicit wires in the order in which they are first used in a terminal, in a connection or on the left of
-- assign.
use Rattle.std.specs.Prelude.{ℕ, Bool, true, false, not, ◌&&◌, List, ◌++◌, map, is_none}
use Rattle.std.specs.List.{filter, list_all}
use Rattle.bb_ast.specs.Syntax.{PlainBody, Ports, Nets, Regs, PlainModule}
use Rattle.bb_names.specs.declared.net.NetInfo.{NetInfo}
use Rattle.bb_bits.specs.Earlier.{once}
use Rattle.bb_names.specs.Declarations.{declarations, range_of, kind_of, port_direction, is_port, implicit_names}

abbrev pub net_names : PlainModule → List (List ℕ)
net_names m = once (map (λ head. head.name) m.heads ++ map (λ d. d.name) (filter (λ d. not d.instance) (declarations m)) ++ implicit_names m)

abbrev pub net_of : PlainModule → List ℕ → NetInfo
net_of m n = record { name = n; range = range_of m n; kind = kind_of m n; port = port_direction m n }

abbrev pub nets_of : PlainModule → List NetInfo
nets_of m = map (net_of m) (net_names m)

-- a declaration of a port, or of wires or registers without assignment that are all ports
abbrev pub is_of_empty : PlainModule → PlainBody → Bool
is_of_empty m (Ports port names) = true
is_of_empty m (Nets range nets) = list_all (λ x. is_none x.1 && is_port m x.0) nets
is_of_empty m (Regs range names) = list_all (is_port m) names
is_of_empty m body = false

-- a module is a black box where it declares its ports and nothing else
abbrev pub is_empty : PlainModule → Bool
is_empty m = list_all (λ item. is_of_empty m item.body) m.items
