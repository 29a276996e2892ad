-- Clause additions: a refutation in clauses, each of which follows from the given ones and those before it by unit
-- propagation (Goldberg and Novikov, 2003). The empty clause is at its end, which no assignment satisfies; what comes
-- after an earlier empty clause says nothing.
use Rattle.std.specs.Prelude.{ℕ, ◌≡◌, ◌+◌, ◌<◌, List, [], ◌∷◌, ◌++◌, length, All}
use Rattle.bb_cnf.specs.declared.clauses.Lit.{Lit}
use Rattle.bb_rup.specs.Propagation.{Follows, Stays}
use Rattle.bb_rup.specs.declared.refutation.RupAnswer.{RupAnswer}
use Rattle.bb_rup.specs.declared.refutation.RupAnswer.TheVariants as answers

-- with the empty clause at their end
abbrev pub with_empty : List (List Lit) → List (List Lit)
with_empty adds = adds ++ [] ∷ []

-- up to the first clause without a literal, that one included, each is implied, by unit propagation, by the clauses and
-- the additions before it
abbrev pub Succeed : List (List Lit) → List (List Lit) → Type 0
Succeed clauses adds = (prefix : List (List Lit)) (c : List Lit) (back : List (List Lit)) → with_empty adds ≡ prefix ++ c ∷ back
    → All (λ a. 0 < length a) prefix → Follows (clauses ++ prefix) c

-- each follows from the clauses and the additions before it
abbrev pub EachFollows : List (List Lit) → List (List Lit) → Type 0
EachFollows clauses adds = (prefix : List (List Lit)) (c : List Lit) (back : List (List Lit)) → adds ≡ prefix ++ c ∷ back
    → Follows (clauses ++ prefix) c

-- The addition of this number, counted from 1, is the first that does not follow. The empty clause at the end counts.
pub record IsFirstWithout (clauses adds : List (List Lit)) (n : ℕ) : Type 0 where
  pub prefix : List (List Lit)
  pub clause : List Lit
  pub back : List (List Lit)
  pub split : with_empty adds ≡ prefix ++ clause ∷ back
  pub number : n ≡ length prefix + 1
  pub before : EachFollows clauses prefix
  pub stays : Stays (clauses ++ prefix) clause

-- what the checker may answer
abbrev pub IsRupAnswer : List (List Lit) → List (List Lit) → RupAnswer → Type 0
IsRupAnswer clauses adds answers.Yes = Succeed clauses adds
IsRupAnswer clauses adds (answers.No n) = IsFirstWithout clauses adds n
