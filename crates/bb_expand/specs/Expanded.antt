-- The answer of the check by expansion on a pair: tables that agree, one for each sharing class, or a refutation by
-- resolution of the expansion over some vectors, after which no such tables agree.
use Rattle.std.specs.Prelude.{◌≢◌, ◌≡◌, ℕ, ◌≤◌, Bool, List, length, map, vec_items, All, AllPairs}
use Rattle.bb_cnf.specs.declared.refutation.Step.{Step}
use Rattle.bb_cnf.specs.Chains.{IsRefutation}
use Rattle.bb_cnf.specs.Clauses.{Formula}
use Rattle.bb_net.specs.Equivalence.{IsVector}
use Rattle.bb_net.specs.Kinds.{NoSharedTablesMakeEquivalent, AreSharedCompletion}
use Rattle.bb_net.specs.Netlists.{Netlist}
use Rattle.bb_expand.specs.declared.expanded.Expanded.{Expanded}
use Rattle.bb_expand.specs.declared.expanded.Expanded.TheVariants as answers
use Rattle.bb_expand.specs.Expansions.{expansion}

-- the clauses are the expansion over these vectors, which are pairwise different, within the budget, and the steps
-- refute them
pub record IsError (spec imp : Netlist) (kinds : List ℕ) (budget : ℕ) (vectors : List (List Bool)) (cnf : Formula) (steps : List Step) : Type 0 where
  pub whole : All (IsVector imp) vectors
  pub distinct : AllPairs ◌≢◌ vectors
  pub expands : cnf ≡ expansion spec imp kinds vectors
  pub within : length cnf.clauses ≤ budget
  pub refuted : IsRefutation cnf.clauses steps
  pub none : NoSharedTablesMakeEquivalent spec imp kinds

abbrev pub IsExpanded : Netlist → Netlist → List ℕ → ℕ → Expanded → Type 0
IsExpanded spec imp kinds budget (answers.Error vectors cnf refutation) = IsError spec imp kinds budget (map vec_items vectors.items) cnf refutation.steps.items
IsExpanded spec imp kinds budget (answers.Repair tables) = AreSharedCompletion spec imp kinds tables.items
