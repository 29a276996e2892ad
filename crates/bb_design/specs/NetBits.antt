-- The bits of a design: for each scope and each net of its module, the bits of the net, the leftmost, which is the most
-- significant, first (IEEE 1364-2005, 4.3.1). Net order lists the bits of the top in the order of its nets, then those
-- of each instance in elaboration order. The pins of a box are the bits of its ports, in the order of its header.
use Rattle.std.specs.Prelude.{ℕ, ◌+◌, ◌&&◌, ◌==◌, Bool, not, List, [], map, option_to_list}
use Rattle.std.specs.List.{filter, flat_map, list_any, range_with_len}
use lib.Pointwise.{pointwise}
use Rattle.bb_bits.specs.Names.{same_name}
use Rattle.bb_ast.specs.Folds.{Cases, fold_expression}
use Rattle.bb_ast.specs.Syntax.{Expression}
use Rattle.bb_names.specs.declared.net.NetInfo.{NetInfo}
use Rattle.bb_names.specs.Declarations.{range_of}
use Rattle.bb_names.specs.Faults.{is_input}
use Rattle.bb_names.specs.Nets.{nets_of}
use Rattle.bb_names.specs.Ranges.{distance, range_width, place_of}
use Rattle.bb_names.specs.Sites.{Pin}
use Rattle.bb_design.specs.Hierarchy.{Path, Design, Scope, root, scopes}

-- a bit of a net in the scope at a path; its place in the net is counted from the leftmost on
pub record Bit : Type 0 where
  pub path : Path
  pub net : List ℕ
  pub place : ℕ

-- the test by which two bits are compared
abbrev pub same_bit : Bit → Bit → Bool
same_bit b c = pointwise same_name b.path c.path && same_name b.net c.net && b.place == c.place

-- this many bits of a net, from a place on
abbrev pub bits_from : Path → List ℕ → ℕ → ℕ → List Bit
bits_from path n place count = map (λ k. record { path = path; net = n; place = k }) (range_with_len place count)

abbrev pub bits_of_net : Path → NetInfo → List Bit
bits_of_net path net = bits_from path net.name 0 (range_width net.range)

-- the bits of a scope, in the order of the nets
abbrev pub scope_bits : Scope → List Bit
scope_bits s = flat_map (bits_of_net s.path) (nets_of s.source)

abbrev pub net_order : Design → List Bit
net_order d = flat_map scope_bits (scopes d)

-- the bits of the input ports of a scope, port by port in the order of the header
abbrev pub input_bits : Scope → List Bit
input_bits s = flat_map (bits_of_net s.path) (filter (λ net. list_any is_input (option_to_list net.port)) (nets_of s.source))

abbrev pub output_bits : Scope → List Bit
output_bits s = flat_map (bits_of_net s.path) (filter (λ net. list_any (λ dir. not (is_input dir)) (option_to_list net.port)) (nets_of s.source))

abbrev pub top_inputs : Design → List Bit
top_inputs d = input_bits (root d)

abbrev pub top_outputs : Design → List Bit
top_outputs d = output_bits (root d)

-- the bits of a net by its name
abbrev pub bits_named : Scope → List ℕ → List Bit
bits_named s n = bits_from s.path n 0 (range_width (range_of s.source n))

-- the bits of a port of the instance at a path
abbrev pub pin_bits : Path → Pin → List Bit
pin_bits path pin = bits_from path pin.name 0 pin.width

abbrev pub assigned : Scope → Cases (List Bit) (List Bit)
assigned s = record {
  net = λ n. bits_named s n;
  bit = λ n i. bits_from s.path n (place_of (range_of s.source n) i) 1;
  part = λ n i j. bits_from s.path n (place_of (range_of s.source n) i) (distance i j + 1);
  sized = λ bits. [];
  plain = λ n. [];
  not = λ k e. [];
  reduce = λ op e. [];
  chain = λ e rest. [];
  words = λ e rest. [];
  cond = λ all last. [];
  concat = λ all. flat_map (λ bits. bits) all;
  repeat = λ k all. [];
}

-- the bits of a written side: nets, selects, and concatenations; each as often as it occurs there, the most significant
-- first
abbrev pub written_bits : Scope → Expression → List Bit
written_bits s = fold_expression (assigned s)
