-- How much is read of a text, and over which variables.
use Rattle.std.specs.Prelude.{◌≤◌, ℕ, Bool, IfOk, List, length}
use Rattle.bb_cnf.specs.Clauses.{HasVariablesWithin}
use Rattle.bb_rup.specs.TextWords.{TextWord, words_of}
use Rattle.bb_rup.specs.Dimacs.{clauses_of, dimacs_of, additions_of}

-- what is read is few clauses, over variables in their range
pub record SizeLaws : Type 0 where
  -- a text has no more words than bytes, and words give no more clauses than there are words
  pub words : (text : List ℕ) → length (words_of text) ≤ length text
  pub clauses : (deletions : Bool) (vars : ℕ) (words : List TextWord)
      → IfOk (clauses_of deletions vars words) (λ clauses. length clauses ≤ length words)
  pub formula : (text : List ℕ) → IfOk (dimacs_of text) (λ formula. length formula.clauses ≤ length text)
  pub additions : (text : List ℕ) (vars : ℕ) → IfOk (additions_of text vars) (λ clauses. length clauses ≤ length text)
  -- each variable is from 1 to the number of variables
  pub within : (deletions : Bool) (vars : ℕ) (words : List TextWord) → IfOk (clauses_of deletions vars words) (HasVariablesWithin vars)
  pub formula_within : (text : List ℕ) → IfOk (dimacs_of text) (λ formula. HasVariablesWithin formula.vars formula.clauses)
