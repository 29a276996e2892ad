-- Variables within range, of clauses and of their lists.
use Rattle.std.proofs.Common.{◌≤◌, ℕ, List, All}
use Rattle.std.proofs.lemmas.List.Elements.{All-map}
use Rattle.bb_lemmas.proofs.Turns.{all_mapped}
use Rattle.smallvec.specs.SmallVec.{SmallVec}
use Rattle.bb_cnf.specs.declared.clauses.Lit.{Lit}
use Rattle.bb_cnf.specs.Clauses.{lists_of, HasVariablesWithin}

-- each variable of these literals is within range
abbrev pub AreWithin : ℕ → List Lit → Type 0
AreWithin vars lits = All (λ l. (1 ≤ l.var) × (l.var ≤ vars)) lits

pub within_lists : (vars : ℕ) (clauses : List (SmallVec Lit)) → All (λ clause. AreWithin vars clause.items) clauses → HasVariablesWithin vars (lists_of clauses)
within_lists vars clauses all = All-map (AreWithin vars) (λ clause. clause.items) clauses all

pub within_clauses : (vars : ℕ) (clauses : List (SmallVec Lit)) → HasVariablesWithin vars (lists_of clauses) → All (λ clause. AreWithin vars clause.items) clauses
within_clauses vars clauses all = all_mapped (AreWithin vars) (λ clause. clause.items) clauses all
