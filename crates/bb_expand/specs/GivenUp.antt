-- When the check by expansion gives up: the clauses over all vectors exceed the budget, and for some list of required
-- samples (vectors at each of which some tables are wrong that agree at all before it) either the clauses over it do,
-- or some tables that agree at all of it are too large for BDDs of the implementation filled with them.
use Rattle.std.specs.Prelude.{◌⊎◌, ℕ, ◌<◌, ◌^◌, Bool, List, length, All}
use Rattle.bb_bits.specs.Tables.{TableBits}
use Rattle.bb_bits.specs.Truth.{IsBeadOfAny}
use Rattle.bb_bits.specs.TruthSets.{HasMoreThan}
use Rattle.bb_subst.specs.Filled.{IsFilled}
use Rattle.bb_subst.specs.Distinguishing.{AreEquivalentAt, AreDistinguishing}
use Rattle.bb_net.specs.Completions.{table_bits}
use Rattle.bb_net.specs.Kinds.{representatives, per_box}
use Rattle.bb_net.specs.Netlists.{Netlist, IsNetlist}
use Rattle.bb_net.specs.Values.{FitBoxes}
use Rattle.bb_sym.specs.Functions.{output_functions}
use Rattle.bb_expand.specs.ClauseCounts.{clause_total}
use Rattle.bb_expand.specs.Expansions.{expansion}

-- with these tables in its boxes, the functions of the check of all outputs by diagrams have more than 1,000,000 beads
abbrev pub FillTooLarge : Netlist → Netlist → List TableBits → Type 0
FillTooLarge spec imp tables = (filled : Netlist) × (at : ℕ → ℕ) × IsNetlist filled × IsFilled imp tables filled at × HasMoreThan (IsBeadOfAny (output_functions spec filled)) 1000000

-- some tables, one for each sharing class, agree at all of these vectors, and fill the boxes so, or have more than 2^20
-- bits where each box counts: a table is filled in once for each box of its class
abbrev pub SuitsLargeTables : Netlist → Netlist → List ℕ → List (List Bool) → Type 0
SuitsLargeTables spec imp kinds vectors = (tables : List TableBits) × FitBoxes tables (representatives kinds imp.boxes) × All (AreEquivalentAt spec imp (per_box kinds tables)) vectors
    × ((2 ^ 20 < table_bits imp.boxes) ⊎ FillTooLarge spec imp (per_box kinds tables))

pub record NeedsMoreClauses (spec imp : Netlist) (kinds : List ℕ) (budget : ℕ) : Type 0 where
  pub many : budget < clause_total imp
  pub samples : List (List Bool)
  pub distinguishing : AreDistinguishing spec imp kinds samples
  pub cause : (budget < length (expansion spec imp kinds samples).clauses) ⊎ SuitsLargeTables spec imp kinds samples
