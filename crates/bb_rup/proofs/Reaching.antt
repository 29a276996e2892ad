-- Each clause follows or stays: as long as something new is found, fewer complements of literals are not false.
use Rattle.std.proofs.Common.{◌≡◌, ◌≤◌, ◌<◌, ◌+◌, ℕ, suc, zero, Bool, true, false, if◌then◌else◌, List, [], ◌∷◌, ◌++◌, Any, refl, arith, ◌⊎◌, inl, inr, ap, ◌∙◌}
use Rattle.bb_cnf.specs.declared.clauses.Lit.{Lit}
use Rattle.bb_cnf.specs.Clauses.{Literals, literals_of}
use Rattle.bb_rup.specs.Propagation.{complement, false_after, IsUnitClause, IsPropagation, Follows, Stays}
use Rattle.bb_rup.proofs.Literals.{clash, in_cons}
use Rattle.bb_rup.proofs.Splits.{any_weaker}
use Rattle.bb_rup.proofs.Falses.{false_kept, false_found, false_own}
use Rattle.bb_rup.proofs.Found.{found_none, found_more}
use Rattle.bb_rup.proofs.ClauseKinds.{Finds, Look, look}

-- how many literals have a complement that is not false
unfound : Literals → List Lit → ℕ
unfound f [] = 0
unfound f (x ∷ xs) = (if f (complement x) then 0 else 1) + unfound f xs

unfound_all : Literals → List (List Lit) → ℕ
unfound_all f [] = 0
unfound_all f (c ∷ cs) = unfound f c + unfound_all f cs

module _ (f g : Literals) (more : (m : Lit) → f m ≡ true → g m ≡ true) where
  no_more : (x : Lit) (xs : List Lit) → unfound g xs ≤ unfound f xs → unfound g (x ∷ xs) ≤ unfound f (x ∷ xs)
  unfolding unfound
  no_more x xs rest = by (f (complement x)) (g (complement x)) (more (complement x))
    where
      by : (a b : Bool) → (a ≡ true → b ≡ true) → (if b then 0 else 1) + unfound g xs ≤ (if a then 0 else 1) + unfound f xs
      by true true up = omega (arith, rest)
      by true false up = clash false (up refl) refl
      by false true up = omega (arith, rest)
      by false false up = omega (arith, rest)

  less : (xs : List Lit) → unfound g xs ≤ unfound f xs
  unfolding unfound
  less [] = omega arith
  less (x ∷ xs) = no_more x xs (less xs)

  fewer_later : (x : Lit) (xs : List Lit) → unfound g xs < unfound f xs → unfound g (x ∷ xs) < unfound f (x ∷ xs)
  unfolding unfound
  fewer_later x xs rest = by (f (complement x)) (g (complement x)) (more (complement x))
    where
      by : (a b : Bool) → (a ≡ true → b ≡ true) → (if b then 0 else 1) + unfound g xs < (if a then 0 else 1) + unfound f xs
      by true true up = omega (arith, rest)
      by true false up = clash false (up refl) refl
      by false true up = omega (arith, rest)
      by false false up = omega (arith, rest)

  fewer_here : (x : Lit) (xs : List Lit) → f (complement x) ≡ false → g (complement x) ≡ true → unfound g (x ∷ xs) < unfound f (x ∷ xs)
  unfolding unfound
  fewer_here x xs old new = by (f (complement x)) (g (complement x)) old new (less xs)
    where
      by : (a b : Bool) → a ≡ false → b ≡ true → unfound g xs ≤ unfound f xs → (if b then 0 else 1) + unfound g xs < (if a then 0 else 1) + unfound f xs
      by true b off on rest = clash true refl off
      by false true off on rest = omega (arith, rest)
      by false false off on rest = clash false on refl

  all_less : (cs : List (List Lit)) → unfound_all g cs ≤ unfound_all f cs
  unfolding unfound_all
  all_less [] = omega arith
  all_less (c ∷ cs) = omega (arith, less c, all_less cs)

  module _ (l : Lit) (old : f (complement l) ≡ false) (new : g (complement l) ≡ true) where
    fewer : (xs : List Lit) → literals_of xs l ≡ true → unfound g xs < unfound f xs
    fewer [] own = clash false own refl
    fewer (x ∷ xs) own = by (in_cons x xs l own) (fewer xs)
      where
        by : (x ≡ l) ⊎ (literals_of xs l ≡ true) → (literals_of xs l ≡ true → unfound g xs < unfound f xs) → unfound g (x ∷ xs) < unfound f (x ∷ xs)
        by (inl is) rest = fewer_here x xs (ap (λ k. f (complement k)) is ∙ old) (ap (λ k. g (complement k)) is ∙ new)
        by (inr there) rest = fewer_later x xs (rest there)

    all_fewer : (cs : List (List Lit)) → Any (λ clause. literals_of clause l ≡ true) cs → unfound_all g cs < unfound_all f cs
    unfolding unfound_all
    all_fewer [] any = absurd (omega (arith, any.2))
    all_fewer (c ∷ cs) (zero, x, lt, at, own) = omega (arith, fewer c (ap (λ k. literals_of k l) at ∙ own), all_less cs)
    all_fewer (c ∷ cs) (suc k, x, lt, at, own) = omega (arith, less c, all_fewer cs (k, x, omega (arith, lt), at, own))

-- where something new is found
found_fewer : (clauses : List (List Lit)) (c list : List Lit) (l : Lit) → Finds (false_after c list) clauses l
    → unfound_all (false_after c (list ++ l ∷ [])) clauses < unfound_all (false_after c list) clauses
found_fewer clauses c list l finds =
    all_fewer (false_after c list) (false_after c (list ++ l ∷ [])) (false_kept c list l) l finds.1 (false_found c list l) clauses
    (any_weaker (λ clause. IsUnitClause (false_after c list) clause l) (λ clause. literals_of clause l ≡ true) clauses (λ clause unit. unit.own) finds.0)

module _ (clauses : List (List Lit)) (c : List Lit) where
  reach : (n : ℕ) (list : List Lit) → IsPropagation clauses c list → unfound_all (false_after c list) clauses < n → Follows clauses c ⊎ Stays clauses c
  reach zero list found lt = absurd (omega (arith, lt))
  reach (suc n) list found lt = by (look (false_after c list) clauses) (reach n)
    where
      by : Look (false_after c list) clauses
          → ((longer : List Lit) → IsPropagation clauses c longer → unfound_all (false_after c longer) clauses < n → Follows clauses c ⊎ Stays clauses c)
          → Follows clauses c ⊎ Stays clauses c
      by (inl any) rest = inl (record { list = list; propagation = found; ends = any })
      by (inr (inl u)) rest =
          let fewer : unfound_all (false_after c (list ++ u.0 ∷ [])) clauses < unfound_all (false_after c list) clauses = found_fewer clauses c list u.0 u.1 in
          rest (list ++ u.0 ∷ []) (found_more clauses c list u.0 found u.1.0) (omega (arith, lt, fewer))
      by (inr (inr all)) rest = inr (record { falses = false_after c list; own = false_own c list; each = all })

  pub follows_or_stays : Follows clauses c ⊎ Stays clauses c
  follows_or_stays = reach (suc (unfound_all (false_after c []) clauses)) [] (found_none clauses c) (omega arith)
