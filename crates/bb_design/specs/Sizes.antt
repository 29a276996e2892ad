-- How large a design is. Each occurrence of an operator in each scope makes cells of its own, also for bits that are
-- cut off later; nothing is folded or shared. The limits are this checker's own; the standard has none.
use Rattle.std.specs.Prelude.{ℕ, ◌+◌, length, sum_by}
use Rattle.bb_design.specs.Hierarchy.{Design, Scope, instances}
use Rattle.bb_design.specs.NetBits.{net_order, output_bits}
use Rattle.bb_design.specs.Constructs.{Construct, BoxContents, parts}
use Rattle.bb_design.specs.Reading.{cells_at}
use Rattle.bb_design.specs.Registers.{cut_bits}

-- the cells of a construct; a box has one for each output pin
abbrev pub cell_count_at : Scope × Construct → ℕ
cell_count_at (s, BoxContents) = length (output_bits s)
cell_count_at x = length (cells_at x)

-- two constants, one cell for each input and each register bit, and those of the constructs
abbrev pub cells_in : Design → ℕ
cells_in d = 2 + length (cut_bits d) + sum_by cell_count_at (parts d)

-- the bits of all nets and the instances below the top
abbrev pub bits_and_instances : Design → ℕ
bits_and_instances d = length (net_order d) + length (instances d)
