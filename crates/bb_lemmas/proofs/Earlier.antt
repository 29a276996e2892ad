-- What elements give beside those before them.
use Rattle.std.proofs.Common.{◌++◌, ◌∷◌, ◌≡◌, ◌⊎◌, ◌∙◌, List, [], Contains, ap, inl, inr, subst, sym}
use Rattle.std.proofs.lemmas.List.Elements.{Contains-append_left, Contains-append_right}
use Rattle.bb_bits.specs.Earlier.{each_from}
use Rattle.bb_lemmas.proofs.Members.{contains_cases, left_nil, none_in_nil, right_nil}

pub each_nil : {A B : Type 0} (gives : List A → A → List B) (before xs : List A) → each_from gives before xs ≡ [] → (x : A) → Contains xs x → (earlier : List A) × (gives earlier x ≡ [])
each_nil gives before [] e x has = absurd (none_in_nil x has)
each_nil gives before (y ∷ ys) e x has = by (contains_cases y ys x has) (each_nil gives (before ++ y ∷ []) ys (right_nil (gives before y) _ e) x)
  where
    by : (y ≡ x) ⊎ Contains ys x → (Contains ys x → (earlier : List _) × (gives earlier x ≡ [])) → (earlier : List _) × (gives earlier x ≡ [])
    by (inl same) rest = (before, ap (gives before) (sym same) ∙ left_nil (gives before y) _ e)
    by (inr more) rest = rest more

pub into_each : {A B : Type 0} (gives : List A → A → List B) (before xs : List A) (x : A) (z : B) → Contains xs x → ((earlier : List A) → Contains (gives earlier x) z) → Contains (each_from gives before xs) z
into_each gives before [] x z has here = absurd (none_in_nil x has)
into_each gives before (y ∷ ys) x z has here = by (contains_cases y ys x has) (λ more. into_each gives (before ++ y ∷ []) ys x z more here)
  where
    by : (y ≡ x) ⊎ Contains ys x → (Contains ys x → Contains (each_from gives (before ++ y ∷ []) ys) z) → Contains (each_from gives before (y ∷ ys)) z
    by (inl same) rest = Contains-append_left (gives before y) (each_from gives (before ++ y ∷ []) ys) z (subst (λ w. Contains (gives before w) z) (sym same) (here before))
    by (inr more) rest = Contains-append_right (gives before y) (each_from gives (before ++ y ∷ []) ys) z (rest more)

-- what an element gives is among what all give
pub each_there : {A B : Type 0} (gives : List A → A → List B) (before xs : List A) (x : A) → Contains xs x → (earlier : List A) × ((z : B) → Contains (gives earlier x) z → Contains (each_from gives before xs) z)
each_there gives before [] x has = absurd (none_in_nil x has)
each_there gives before (y ∷ ys) x has = by (contains_cases y ys x has) (each_there gives (before ++ y ∷ []) ys x)
  where
    by : (y ≡ x) ⊎ Contains ys x → (Contains ys x → (earlier : List _) × ((z : _) → Contains (gives earlier x) z → Contains (each_from gives (before ++ y ∷ []) ys) z))
        → (earlier : List _) × ((z : _) → Contains (gives earlier x) z → Contains (each_from gives before (y ∷ ys)) z)
    by (inl same) rest = (before, λ z c. Contains-append_left (gives before y) (each_from gives (before ++ y ∷ []) ys) z (subst (λ w. Contains (gives before w) z) (sym same) c))
    by (inr more) rest = let r = rest more in (r.0, λ z c. Contains-append_right (gives before y) (each_from gives (before ++ y ∷ []) ys) z (r.1 z c))
