-- Unit propagation, and what follows by it (reverse unit propagation, E. Goldberg and Y. Novikov, 2003). The literals
-- of a clause C are taken as false. Where all literals of a clause but one are false, that one is found, and so its
-- complement is false. Falsehood is kept for each literal and not for each variable: where C has a literal and its
-- complement, both are false.
use Rattle.std.specs.Prelude.{◌≡◌, ◌≢◌, ◌⊎◌, ◌||◌, true, false, not, List, ◌∷◌, ◌++◌, All, Any}
use Rattle.bb_cnf.specs.declared.clauses.Lit.{Lit}
use Rattle.bb_cnf.specs.Clauses.{Literals, literals_of, same_literal}

-- the same variable with the other sign
abbrev pub complement : Lit → Lit
complement l = record { var = l.var; neg = not l.neg }

-- a literal is false where it is in C, or where its complement was found
abbrev pub false_after : List Lit → List Lit → Literals
false_after c found l = literals_of c l || literals_of found (complement l)

-- each literal of the clause is false
abbrev pub IsFalseClause : Literals → List Lit → Type 0
IsFalseClause falses clause = (l : Lit) → literals_of clause l ≡ true → falses l ≡ true

-- the clause has the literal, which is not false, and its other literals are false
pub record IsUnitClause (falses : Literals) (clause : List Lit) (l : Lit) : Type 0 where
  pub own : literals_of clause l ≡ true
  pub free : falses l ≡ false
  pub others : (m : Lit) → literals_of clause m ≡ true → (same_literal l m || falses m) ≡ true

-- each literal of the list is implied by some clause after those before it on the list
abbrev pub IsPropagation : List (List Lit) → List Lit → List Lit → Type 0
IsPropagation clauses c list = (prefix : List Lit) (l : Lit) (back : List Lit) → list ≡ prefix ++ l ∷ back
    → Any (λ clause. IsUnitClause (false_after c prefix) clause l) clauses

-- C follows from the clauses: some such list ends in a clause that is false
pub record Follows (clauses : List (List Lit)) (c : List Lit) : Type 0 where
  pub list : List Lit
  pub propagation : IsPropagation clauses c list
  pub ends : Any (IsFalseClause (false_after c list)) clauses

-- the clause has a literal that is not false, and whose complement is
pub record HasTrue (falses : Literals) (clause : List Lit) : Type 0 where
  pub literal : Lit
  pub own : literals_of clause literal ≡ true
  pub free : falses literal ≡ false
  pub negation : falses (complement literal) ≡ true

-- two different literals of the clause are not false
pub record HasTwo (falses : Literals) (clause : List Lit) : Type 0 where
  pub first : Lit
  pub second : Lit
  pub differ : first ≢ second
  pub first_own : literals_of clause first ≡ true
  pub second_own : literals_of clause second ≡ true
  pub first_free : falses first ≡ false
  pub second_free : falses second ≡ false

-- the clause is not false, and nothing new is found by it
abbrev pub IsOpen : Literals → List Lit → Type 0
IsOpen falses clause = HasTrue falses clause ⊎ HasTwo falses clause

-- What holds exactly where C does not follow: with some false literals, those of C among them, no clause is false and
-- nothing new is found.
pub record Stays (clauses : List (List Lit)) (c : List Lit) : Type 0 where
  pub falses : Literals
  pub own : (l : Lit) → literals_of c l ≡ true → falses l ≡ true
  pub each : All (IsOpen falses) clauses
