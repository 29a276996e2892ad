-- Propagations: one more literal is found, and what holds of each literal that is false.
use Rattle.std.proofs.Common.{◌≡◌, true, false, List, [], ◌∷◌, ◌++◌, All, Any, Contains, refl, sym, ◌∙◌, subst, ◌⊎◌, inl, inr, append-nil}
use Rattle.bb_lemmas.proofs.Members.{either}
use Rattle.bb_cnf.specs.declared.clauses.Lit.{Lit}
use Rattle.bb_cnf.specs.Clauses.{literals_of}
use Rattle.bb_rup.specs.Propagation.{complement, false_after, IsFalseClause, IsUnitClause, IsPropagation, Follows}
use Rattle.bb_rup.specs.Laws.{IsPart}
use Rattle.bb_rup.proofs.Splits.{split_push, no_split, next_split, any_weaker, any_in}
use Rattle.bb_rup.proofs.Falses.{false_cases, false_first, false_wider, unit_wider, unit_false}

-- some clause finds the literal
abbrev pub IsFound : List (List Lit) → List Lit → List Lit → Lit → Type 0
IsFound clauses c prefix l = Any (λ clause. IsUnitClause (false_after c prefix) clause l) clauses

pub found_none : (clauses : List (List Lit)) (c : List Lit) → IsPropagation clauses c []
found_none clauses c prefix l back e = absurd (no_split prefix l back e)

pub found_more : (clauses : List (List Lit)) (c list : List Lit) (l : Lit) → IsPropagation clauses c list → IsFound clauses c list l
    → IsPropagation clauses c (list ++ l ∷ [])
found_more clauses c list l before now prefix m back e = by (split_push list l prefix m back e)
  where
    by : ((list ≡ prefix) × (l ≡ m)) ⊎ ((rest : List Lit) × (list ≡ prefix ++ m ∷ rest)) → IsFound clauses c prefix m
    by (inl p) = subst (λ f. IsFound clauses c f m) p.0 (subst (λ k. IsFound clauses c list k) p.1 now)
    by (inr p) = before prefix m p.0 p.1

-- more clauses find as much
pub found_by_more : (clauses more : List (List Lit)) (c list : List Lit) → All (Contains more) clauses → IsPropagation clauses c list
    → IsPropagation more c list
found_by_more clauses more c list within found prefix l back e =
    any_in (λ clause. IsUnitClause (false_after c prefix) clause l) clauses more within (found prefix l back e)

next_known : (Q : Lit → Type 0) (c prefix : List Lit) (l : Lit) → ((m : Lit) → false_after c prefix m ≡ true → Q m) → Q (complement l)
    → (m : Lit) → false_after c (prefix ++ l ∷ []) m ≡ true → Q m
next_known Q c prefix l known now m is = by (false_cases c prefix l m is)
  where
    by : (false_after c prefix m ≡ true) ⊎ (complement l ≡ m) → Q m
    by (inl old) = known m old
    by (inr new) = subst Q new now

-- what holds of the literals of C, and of the complement of each literal that is found, holds of all that are false
module _ (Q : Lit → Type 0) (clauses : List (List Lit)) (c list : List Lit) (found : IsPropagation clauses c list)
    (step : (prefix : List Lit) (l : Lit) → ((m : Lit) → false_after c prefix m ≡ true → Q m) → IsFound clauses c prefix l → Q (complement l)) where
  walk : (prefix back : List Lit) → list ≡ prefix ++ back → ((m : Lit) → false_after c prefix m ≡ true → Q m) → (m : Lit) → false_after c list m ≡ true → Q m
  walk prefix [] e known = λ m is. known m (subst (λ f. false_after c f m ≡ true) (e ∙ append-nil prefix) is)
  walk prefix (l ∷ back) e known =
      walk (prefix ++ l ∷ []) back (next_split list prefix l back e) (next_known Q c prefix l known (step prefix l known (found prefix l back e)))

  pub each_false : ((l : Lit) → literals_of c l ≡ true → Q l) → (m : Lit) → false_after c list m ≡ true → Q m
  each_false own = walk [] list refl (λ m is. own m (false_first c m is))

-- what was found for a clause is found for one of more literals, or that follows
module _ (clauses : List (List Lit)) (c d list : List Lit) (part : IsPart c d) (found : IsPropagation clauses c list) where
  on : (prefix back : List Lit) → list ≡ prefix ++ back → IsPropagation clauses d prefix → IsPropagation clauses d list ⊎ Follows clauses d
  on prefix [] e done = inl (subst (IsPropagation clauses d) (sym (e ∙ append-nil prefix)) done)
  on prefix (l ∷ back) e done = by (either (false_after d prefix l)) (on (prefix ++ l ∷ []) back (next_split list prefix l back e))
    where
      old : IsFound clauses c prefix l
      old = found prefix l back e

      by : (false_after d prefix l ≡ true) ⊎ (false_after d prefix l ≡ false)
          → (IsPropagation clauses d (prefix ++ l ∷ []) → IsPropagation clauses d list ⊎ Follows clauses d) → IsPropagation clauses d list ⊎ Follows clauses d
      by (inl is) rest = inr (record {
        list = prefix;
        propagation = done;
        ends = any_weaker (λ k. IsUnitClause (false_after c prefix) k l) (IsFalseClause (false_after d prefix)) clauses (λ k unit. unit_false c d prefix k l part unit is) old;
      })
      by (inr free) rest = rest (found_more clauses d prefix l done
          (any_weaker (λ k. IsUnitClause (false_after c prefix) k l) (λ k. IsUnitClause (false_after d prefix) k l) clauses (λ k unit. unit_wider c d prefix k l part unit free) old))

  pub found_for_more : IsPropagation clauses d list ⊎ Follows clauses d
  found_for_more = on [] list refl (found_none clauses d)

pub more_clauses : (clauses more : List (List Lit)) (c : List Lit) → All (Contains more) clauses → Follows clauses c → Follows more c
more_clauses clauses more c within f = record {
  list = f.list;
  propagation = found_by_more clauses more c f.list within f.propagation;
  ends = any_in (IsFalseClause (false_after c f.list)) clauses more within f.ends;
}

pub more_literals : (clauses : List (List Lit)) (c d : List Lit) → IsPart c d → Follows clauses c → Follows clauses d
more_literals clauses c d part f = by (found_for_more clauses c d f.list part f.propagation)
  where
    by : IsPropagation clauses d f.list ⊎ Follows clauses d → Follows clauses d
    by (inl found) = record {
      list = f.list;
      propagation = found;
      ends = any_weaker (IsFalseClause (false_after c f.list)) (IsFalseClause (false_after d f.list)) clauses
          (λ k is l own. false_wider c d f.list l part (is l own)) f.ends;
    }
    by (inr follows) = follows
