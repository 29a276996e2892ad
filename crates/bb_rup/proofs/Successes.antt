-- Additions that succeed leave no model. The answer on additions is one.
use Rattle.std.proofs.Common.{◌≡◌, ◌<◌, ◌+◌, ℕ, Bool, List, [], ◌∷◌, ◌++◌, length, All, Contains, get_or, refl, sym, ◌∙◌, ap, subst, arith, ◌⊎◌, inl, inr, append_assoc, append-nil}
use Rattle.std.proofs.lemmas.List.Elements.{All-nil, All-cons, All-push, All-contains, Contains-push, Contains-append_left, Contains-get_or}
use Rattle.bb_cnf.specs.declared.clauses.Lit.{Lit}
use Rattle.bb_cnf.specs.Clauses.{literals_of}
use Rattle.bb_cnf.specs.Truth.{IsTrueClause, Satisfies}
use Rattle.bb_rup.specs.Propagation.{Follows, Stays}
use Rattle.bb_rup.specs.Additions.{with_empty, Succeed, EachFollows, IsFirstWithout}
use Rattle.bb_rup.specs.Laws.{AdditionsLaws}
use Rattle.bb_rup.proofs.Literals.{clash}
use Rattle.bb_rup.proofs.Splits.{compare, split_push, no_split, next_split}
use Rattle.bb_rup.proofs.Found.{more_clauses, more_literals}
use Rattle.bb_rup.proofs.Propagations.{not_both, is_true}
use Rattle.bb_rup.proofs.Reaching.{follows_or_stays}

pub each_none : (clauses : List (List Lit)) → EachFollows clauses []
each_none clauses prefix c back e = absurd (no_split prefix c back e)

pub each_push : (clauses adds : List (List Lit)) (c : List Lit) → EachFollows clauses adds → Follows (clauses ++ adds) c → EachFollows clauses (adds ++ c ∷ [])
each_push clauses adds c each now prefix d back e = by (split_push adds c prefix d back e)
  where
    by : ((adds ≡ prefix) × (c ≡ d)) ⊎ ((rest : List (List Lit)) × (adds ≡ prefix ++ d ∷ rest)) → Follows (clauses ++ prefix) d
    by (inl p) = subst (λ f. Follows (clauses ++ f) d) p.0 (subst (λ k. Follows (clauses ++ adds) k) p.1 now)
    by (inr p) = each prefix d p.0 p.1

pub all_prefix : {A : Type 0} (xs ys : List A) → All (Contains (xs ++ ys)) xs
all_prefix xs ys k d lt = Contains-append_left xs ys (get_or xs k d) (Contains-get_or xs k d lt)

-- what follows still does where more clauses follow
pub follows_after : (clauses rest : List (List Lit)) (c : List Lit) → Follows clauses c → Follows (clauses ++ rest) c
follows_after clauses rest c f = more_clauses clauses (clauses ++ rest) c (all_prefix clauses rest) f

-- where the empty clause follows, each does
pub all_follow : (clauses : List (List Lit)) (c : List Lit) → Follows clauses [] → Follows clauses c
all_follow clauses c f = more_literals clauses [] c (λ l own. clash (literals_of [] l) own refl) f

-- and so each addition after it
module _ (clauses all : List (List Lit)) where
  pub each_from : (prefix back : List (List Lit)) → all ≡ prefix ++ back → EachFollows clauses prefix → Follows (clauses ++ prefix) [] → EachFollows clauses all
  each_from prefix [] e each now = subst (EachFollows clauses) (sym (e ∙ append-nil prefix)) each
  each_from prefix (c ∷ back) e each now =
      each_from (prefix ++ c ∷ []) back (next_split all prefix c back e) (each_push clauses prefix c each (all_follow (clauses ++ prefix) c now))
      (subst (λ k. Follows k []) (append_assoc clauses prefix (c ∷ [])) (follows_after (clauses ++ prefix) (c ∷ []) [] now))

pub each_succeeds : (clauses adds : List (List Lit)) → EachFollows clauses (with_empty adds) → Succeed clauses adds
each_succeeds clauses adds each prefix c back e _ = each prefix c back e

-- an assignment would make all additions true
module _ (clauses adds : List (List Lit)) (succeed : Succeed clauses adds) (v : ℕ → Bool) where
  on : (prefix back : List (List Lit)) → with_empty adds ≡ prefix ++ back → All (λ a. 0 < length a) prefix → Satisfies v (clauses ++ prefix) → ⊥
  on prefix [] e filled solves =
      let has : Contains prefix [] = subst (λ k. Contains k []) (e ∙ append-nil prefix) (Contains-push adds []) in
      let long : 0 < length {A = Lit} [] = All-contains (λ (a : List Lit). 0 < length a) prefix [] filled has in
      omega (arith, long)
  on prefix (c ∷ back) e filled solves =
      let now : IsTrueClause v c = is_true v (clauses ++ prefix) c solves (succeed prefix c back e filled) in
      on (prefix ++ c ∷ []) back (next_split (with_empty adds) prefix c back e)
      (All-push (λ (a : List Lit). 0 < length a) prefix c filled (omega (arith, now.2)))
      (subst (Satisfies v) (append_assoc clauses prefix (c ∷ [])) (All-push (IsTrueClause v) (clauses ++ prefix) c solves now))

  pub no_model : Satisfies v clauses → ⊥
  no_model solves = on [] (with_empty adds) refl (All-nil (λ (a : List Lit). 0 < length a)) (subst (Satisfies v) (sym (append-nil clauses)) solves)

-- the first that does not follow is found, where there is one
module _ (clauses adds : List (List Lit)) where
  seek : (prefix back : List (List Lit)) → with_empty adds ≡ prefix ++ back → EachFollows clauses prefix → Succeed clauses adds ⊎ (n : ℕ) × IsFirstWithout clauses adds n
  seek prefix [] e each = inl (each_succeeds clauses adds (subst (EachFollows clauses) (sym (e ∙ append-nil prefix)) each))
  seek prefix (c ∷ back) e each = by (follows_or_stays (clauses ++ prefix) c) (seek (prefix ++ c ∷ []) back (next_split (with_empty adds) prefix c back e))
    where
      by : Follows (clauses ++ prefix) c ⊎ Stays (clauses ++ prefix) c → (EachFollows clauses (prefix ++ c ∷ []) → Succeed clauses adds ⊎ (n : ℕ) × IsFirstWithout clauses adds n)
          → Succeed clauses adds ⊎ (n : ℕ) × IsFirstWithout clauses adds n
      by (inl f) rest = rest (each_push clauses prefix c each f)
      by (inr s) rest = inr (length prefix + 1, record { prefix = prefix; clause = c; back = back; split = e; number = refl; before = each; stays = s })

  an_answer : Succeed clauses adds ⊎ (n : ℕ) × IsFirstWithout clauses adds n
  an_answer = seek [] (with_empty adds) refl (each_none clauses)

-- no clause is empty, or the first one is
some_empty : (xs : List (List Lit)) → All (λ a. 0 < length a) xs ⊎ (f : List (List Lit)) × (b : List (List Lit)) × (xs ≡ f ++ [] ∷ b)
some_empty [] = inl (All-nil (λ (a : List Lit). 0 < length a))
some_empty ([] ∷ xs) = inr ([], xs, refl)
some_empty ((l ∷ c) ∷ xs) = by (some_empty xs)
  where
    by : All (λ a. 0 < length a) xs ⊎ (f : List (List Lit)) × (b : List (List Lit)) × (xs ≡ f ++ [] ∷ b)
        → All (λ a. 0 < length a) ((l ∷ c) ∷ xs) ⊎ (f : List (List Lit)) × (b : List (List Lit)) × ((l ∷ c) ∷ xs ≡ f ++ [] ∷ b)
    by (inl all) = inl (All-cons (λ (a : List Lit). 0 < length a) (l ∷ c) xs (omega arith) all)
    by (inr p) = inr ((l ∷ c) ∷ p.0, p.1, ap (λ ys. (l ∷ c) ∷ ys) p.2)

pub yes_or_no : (clauses adds : List (List Lit)) (n : ℕ) → Succeed clauses adds → IsFirstWithout clauses adds n → ⊥
yes_or_no clauses adds n succeed w = by (some_empty w.prefix)
  where
    by : All (λ a. 0 < length a) w.prefix ⊎ (f : List (List Lit)) × (b : List (List Lit)) × (w.prefix ≡ f ++ [] ∷ b) → ⊥
    by (inl filled) = not_both (clauses ++ w.prefix) w.clause (succeed w.prefix w.clause w.back w.split filled) w.stays
    by (inr p) =
        let after : Follows ((clauses ++ p.0) ++ [] ∷ p.1) [] = follows_after (clauses ++ p.0) ([] ∷ p.1) [] (w.before p.0 [] p.1 p.2) in
        let whole : (clauses ++ p.0) ++ [] ∷ p.1 ≡ clauses ++ w.prefix = append_assoc clauses p.0 ([] ∷ p.1) ∙ ap (λ f. clauses ++ f) (sym p.2) in
        not_both (clauses ++ w.prefix) w.clause (all_follow (clauses ++ w.prefix) w.clause (subst (λ k. Follows k []) whole after)) w.stays

pub one_number : (clauses adds : List (List Lit)) (m n : ℕ) → IsFirstWithout clauses adds m → IsFirstWithout clauses adds n → m ≡ n
one_number clauses adds m n a b = by (compare a.prefix a.clause a.back b.prefix b.clause b.back (sym a.split ∙ b.split))
  where
    by : ((a.prefix ≡ b.prefix) × (a.clause ≡ b.clause)) ⊎ (((r : List (List Lit)) × (b.prefix ≡ a.prefix ++ a.clause ∷ r)) ⊎ ((r : List (List Lit)) × (a.prefix ≡ b.prefix ++ b.clause ∷ r))) → m ≡ n
    by (inl p) = a.number ∙ ap (λ (f : List (List Lit)). length f + 1) p.0 ∙ sym b.number
    by (inr (inl p)) = absurd (not_both (clauses ++ a.prefix) a.clause (b.before a.prefix a.clause p.0 p.1) a.stays)
    by (inr (inr p)) = absurd (not_both (clauses ++ b.prefix) b.clause (a.before b.prefix b.clause p.0 p.1) b.stays)

pub additions_laws : AdditionsLaws
additions_laws = record {
  no_model = no_model;
  either = an_answer;
  not_both = yes_or_no;
  one_number = one_number;
}
