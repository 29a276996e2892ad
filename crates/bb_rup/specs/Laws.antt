-- What a reader expects of propagation and of additions.
pub mod SizeLaws
pub mod Written
use Rattle.std.specs.Prelude.{ℕ, ◌≡◌, ◌⊎◌, Bool, true, List, All, Contains}
use Rattle.bb_cnf.specs.declared.clauses.Lit.{Lit}
use Rattle.bb_cnf.specs.Clauses.{literals_of}
use Rattle.bb_cnf.specs.Truth.{IsTrueClause, Satisfies, HaveNoModel}
use Rattle.bb_rup.specs.Propagation.{IsPropagation, Follows, Stays}
use Rattle.bb_rup.specs.Additions.{Succeed, IsFirstWithout}

-- each literal of the one clause is in the other
abbrev pub IsPart : List Lit → List Lit → Type 0
IsPart c d = (l : Lit) → literals_of c l ≡ true → literals_of d l ≡ true

-- what follows
pub record PropagationLaws : Type 0 where
  -- each clause follows or stays, and not both; so it does not matter in which order literals are found
  pub either : (clauses : List (List Lit)) (c : List Lit) → Follows clauses c ⊎ Stays clauses c
  pub not_both : (clauses : List (List Lit)) (c : List Lit) → Follows clauses c → Stays clauses c → ⊥
  -- what follows from clauses follows from more clauses, and with more literals
  pub more_clauses : (clauses more : List (List Lit)) (c : List Lit) → All (Contains more) clauses → Follows clauses c
      → Follows more c
  pub more_literals : (clauses : List (List Lit)) (c d : List Lit) → IsPart c d → Follows clauses c → Follows clauses d
  -- what was found for a clause is found for one of more literals too, or the latter follows
  pub found_for_more : (clauses : List (List Lit)) (c d list : List Lit) → IsPart c d → IsPropagation clauses c list
      → IsPropagation clauses d list ⊎ Follows clauses d
  -- what follows is true wherever the clauses are
  pub is_true : (v : ℕ → Bool) (clauses : List (List Lit)) (c : List Lit) → Satisfies v clauses → Follows clauses c
      → IsTrueClause v c

-- additions
pub record AdditionsLaws : Type 0 where
  -- where they succeed, no assignment makes all clauses true
  pub no_model : (clauses adds : List (List Lit)) → Succeed clauses adds → HaveNoModel clauses
  -- there is one answer
  pub either : (clauses adds : List (List Lit)) → Succeed clauses adds ⊎ (n : ℕ) × IsFirstWithout clauses adds n
  pub not_both : (clauses adds : List (List Lit)) (n : ℕ) → Succeed clauses adds → IsFirstWithout clauses adds n → ⊥
  pub one_number : (clauses adds : List (List Lit)) (m n : ℕ) → IsFirstWithout clauses adds m → IsFirstWithout clauses adds n
      → m ≡ n
