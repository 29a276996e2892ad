-- When it is not found out whether an invariant is kept: by BDDs and by clauses the netlist of its violations is too
-- large, compared with one that is always 0.
use Rattle.std.specs.Prelude.{ℕ, [], Option}
use Rattle.bb_bits.specs.Truth.{IsBeadOfAny}
use Rattle.bb_bits.specs.TruthSets.{HasMoreThan}
use Rattle.bb_expand.specs.GivenUp.{NeedsMoreClauses}
use Rattle.bb_net.specs.Flats.{FlatNet}
use Rattle.bb_sym.specs.Functions.{output_functions}
use Rattle.bb_unroll.specs.Unrolled.{never, unrolled_inputs, violation}

-- the functions of the check of all outputs have more beads than the bound on nodes, and the expansion gives up: it may
-- need more clauses than their bound, or its own BDDs are too large
pub record IsTooLarge (f : FlatNet) (k : ℕ) (care : Option ℕ) (nodes clauses : ℕ) : Type 0 where
  pub beads : HasMoreThan (IsBeadOfAny (output_functions (never (unrolled_inputs f)) (violation f k care))) nodes
  pub more_clauses : NeedsMoreClauses (never (unrolled_inputs f)) (violation f k care) [] clauses
