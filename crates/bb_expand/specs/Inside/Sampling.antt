-- The samples of the search.
use Rattle.std.specs.Prelude.{◌≡◌, ℕ, ◌≤◌, Bool, List, length, map, vec_items, All, Contains}
use Rattle.bb_subst.specs.Distinguishing.{AreDistinguishing}
use Rattle.bb_net.specs.Equivalence.{IsVector}
use Rattle.bb_net.specs.Netlists.{Netlist}
use Rattle.bb_expand.specs.declared.samples.SampleSet.{SampleSet}
use Rattle.bb_expand.specs.Expansions.{expansion}
use Rattle.bb_expand.specs.Inside.Failures.{AreDistinctWith}

abbrev pub sample_vectors : SampleSet → List (List Bool)
sample_vectors samples = map vec_items samples.vectors.items

-- those that are known to be required
abbrev pub distinguishing_vectors : SampleSet → List (List Bool)
distinguishing_vectors samples = map vec_items samples.distinguishing.items

-- the samples are pairwise different, those that are known to be required are among them, and the expansion is within
-- the budget
pub record IsSampleSet (spec imp : Netlist) (kinds : List ℕ) (budget : ℕ) (samples : SampleSet) : Type 0 where
  pub each : AreDistinctWith (IsVector imp) (sample_vectors samples)
  pub distinguishing : AreDistinguishing spec imp kinds (distinguishing_vectors samples)
  pub among : All (Contains (sample_vectors samples)) (distinguishing_vectors samples)
  pub expands : samples.solver ≡ expansion spec imp kinds (sample_vectors samples)
  pub within : length samples.solver.clauses ≤ budget
