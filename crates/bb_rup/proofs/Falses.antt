-- The literals that are false: more of them with more literals of C, and with more that were found.
use Rattle.std.proofs.Common.{◌≡◌, Bool, true, false, ◌||◌, List, [], ◌∷◌, ◌++◌, refl, sym, ◌∙◌, ap, subst, ◌⊎◌, inl, inr}
use Rattle.bb_lemmas.proofs.Bits.{or_cases, or_right, or_left}
use Rattle.bb_lemmas.proofs.Maps.{or-false}
use Rattle.bb_cnf.specs.declared.clauses.Lit.{Lit}
use Rattle.bb_cnf.specs.Clauses.{literals_of, same_literal}
use Rattle.bb_rup.specs.Propagation.{complement, false_after, IsFalseClause, IsUnitClause}
use Rattle.bb_rup.specs.Laws.{IsPart}
use Rattle.bb_rup.proofs.Literals.{same_literal-is, same_literal-itself, complement_twice, literals_of-push}

pub false_wider : (c d prefix : List Lit) (l : Lit) → IsPart c d → false_after c prefix l ≡ true → false_after d prefix l ≡ true
false_wider c d prefix l part is = by (or_cases (literals_of c l) (literals_of prefix (complement l)) is)
  where
    by : (literals_of c l ≡ true) ⊎ (literals_of prefix (complement l) ≡ true) → false_after d prefix l ≡ true
    by (inl own) = or_left (literals_of d l) (literals_of prefix (complement l)) (part l own)
    by (inr reported) = or_right (literals_of d l) (literals_of prefix (complement l)) reported

or_assoc : (a b c : Bool) → (a || (b || c)) ≡ ((a || b) || c)
or_assoc true b c = refl
or_assoc false b c = refl

pub false_push : (c prefix : List Lit) (x l : Lit) → false_after c (prefix ++ x ∷ []) l ≡ (false_after c prefix l || same_literal x (complement l))
false_push c prefix x l =
    ap (λ b. literals_of c l || b) (literals_of-push prefix x (complement l))
    ∙ or_assoc (literals_of c l) (literals_of prefix (complement l)) (same_literal x (complement l))

-- where one more was found, what was false still is, its complement is too, and nothing else
pub false_kept : (c prefix : List Lit) (x l : Lit) → false_after c prefix l ≡ true → false_after c (prefix ++ x ∷ []) l ≡ true
false_kept c prefix x l is = false_push c prefix x l ∙ or_left (false_after c prefix l) (same_literal x (complement l)) is

pub false_found : (c prefix : List Lit) (x : Lit) → false_after c (prefix ++ x ∷ []) (complement x) ≡ true
false_found c prefix x =
    false_push c prefix x (complement x)
    ∙ or_right (false_after c prefix (complement x)) _ (ap (same_literal x) (complement_twice x) ∙ same_literal-itself x)

pub false_cases : (c prefix : List Lit) (x l : Lit) → false_after c (prefix ++ x ∷ []) l ≡ true → (false_after c prefix l ≡ true) ⊎ (complement x ≡ l)
false_cases c prefix x l is = by (or_cases (false_after c prefix l) (same_literal x (complement l)) (sym (false_push c prefix x l) ∙ is))
  where
    by : (false_after c prefix l ≡ true) ⊎ (same_literal x (complement l) ≡ true) → (false_after c prefix l ≡ true) ⊎ (complement x ≡ l)
    by (inl old) = inl old
    by (inr new) = inr (ap complement (same_literal-is x (complement l) new) ∙ complement_twice l)

-- before anything was found
pub false_first : (c : List Lit) (l : Lit) → false_after c [] l ≡ true → literals_of c l ≡ true
false_first c l is = sym (or-false (literals_of c l)) ∙ is

pub false_own : (c prefix : List Lit) (l : Lit) → literals_of c l ≡ true → false_after c prefix l ≡ true
false_own c prefix l own = or_left (literals_of c l) (literals_of prefix (complement l)) own

-- a unit clause is one, or is false, where more literals are false
module _ (c d prefix clause : List Lit) (l : Lit) (part : IsPart c d) (unit : IsUnitClause (false_after c prefix) clause l) where
  pub unit_wider : false_after d prefix l ≡ false → IsUnitClause (false_after d prefix) clause l
  unit_wider free = record { own = unit.own; free = free; others = λ m own. by m (or_cases (same_literal l m) (false_after c prefix m) (unit.others m own)) }
    where
      by : (m : Lit) → (same_literal l m ≡ true) ⊎ (false_after c prefix m ≡ true) → (same_literal l m || false_after d prefix m) ≡ true
      by m (inl same) = or_left (same_literal l m) (false_after d prefix m) same
      by m (inr is) = or_right (same_literal l m) (false_after d prefix m) (false_wider c d prefix m part is)

  pub unit_false : false_after d prefix l ≡ true → IsFalseClause (false_after d prefix) clause
  unit_false is m own = by (or_cases (same_literal l m) (false_after c prefix m) (unit.others m own))
    where
      by : (same_literal l m ≡ true) ⊎ (false_after c prefix m ≡ true) → false_after d prefix m ≡ true
      by (inl same) = subst (λ k. false_after d prefix k ≡ true) (same_literal-is l m same) is
      by (inr old) = false_wider c d prefix m part old
