-- How large the filled implementation of a design may be. It is not printed where it could not be read again: where it
-- has more than 33,554,432 bytes, a million bits of nets or two million cells. For a bit of a net it has at most four
-- words, in one line or in two, and a word is a name or has a number of seven digits at most; so whichever bound it
-- exceeds, the design has so many bits of nets, or so long names, that four words for each bit have too many bytes.
use Rattle.std.specs.Prelude.{ℕ, ◌+◌, ◌-◌, ◌*◌, ◌^◌, ◌<◌, ◌++◌, length, map, sum_by}
use Rattle.bb_design.specs.Constructs.{parts}
use Rattle.bb_design.specs.Hierarchy.{Design, Scope, boxes}
use Rattle.bb_design.specs.NetBits.{input_bits, output_bits, top_outputs}
use Rattle.bb_design.specs.Refusals.{input_texts, output_texts, register_texts}
use Rattle.bb_design.specs.Registers.{cut_bits}
use Rattle.bb_design.specs.Sizes.{cell_count_at}
use Rattle.bb_fill.specs.Sizes.{most_bytes}
use Rattle.bb_fill.specs.Words.{maximum}

-- the nodes of the trees for a box with k input pins: 2^k - 1 for each output pin
abbrev pub tree_nodes : Scope → ℕ
tree_nodes box = length (output_bits box) * (2 ^ length (input_bits box) - 1)

-- the bits of nets: inputs and registers, outputs, one for each cell of a construct, and the nodes of trees
abbrev pub filled_nets : Design → ℕ
filled_nets d = length (cut_bits d) + length (top_outputs d) + sum_by cell_count_at (parts d)
    + sum_by tree_nodes (boxes d)

-- the most bytes that an input, an output or a register has as its text
abbrev pub longest_name : Design → ℕ
longest_name d = maximum (map length (input_texts d ++ register_texts d ++ output_texts d))

-- no more bytes than these: 27 in the first and the last line, and for each bit of a net four words, each with 15 bytes
-- more than the longest name
abbrev pub filled_bytes : Design → ℕ
filled_bytes d = 27 + filled_nets d * (4 * (longest_name d + 15))

-- the filled implementation may be too large
abbrev pub IsTooLargeToFill : Design → Type 0
IsTooLargeToFill d = most_bytes < filled_bytes d
