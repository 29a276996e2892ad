-- Lists that are split at an element, and elements of which something holds.
use Rattle.std.proofs.Common.{◌≡◌, ◌+◌, suc, List, [], ◌∷◌, ◌++◌, All, Any, Contains, length, refl, sym, ◌∙◌, ap, ap₂, subst, arith, ◌⊎◌, inl, inr, append_assoc, length-append}

abbrev first_or : {A : Type 0} → A → List A → A
first_or d [] = d
first_or d (x ∷ xs) = x

abbrev rest_of : {A : Type 0} → List A → List A
rest_of [] = []
rest_of (x ∷ xs) = xs

-- of two splits of one list one comes before the other, or they are one
pub compare : {A : Type 0} (f : List A) (x : A) (b : List A) (g : List A) (y : A) (d : List A) → f ++ x ∷ b ≡ g ++ y ∷ d
    → ((f ≡ g) × (x ≡ y)) ⊎ (((m : List A) × (g ≡ f ++ x ∷ m)) ⊎ ((m : List A) × (f ≡ g ++ y ∷ m)))
compare [] x b [] y d e = inl (refl, ap (first_or x) e)
compare [] x b (h ∷ g) y d e = inr (inl (g, ap (λ z. z ∷ g) (sym (ap (first_or x) e))))
compare (z ∷ f) x b [] y d e = inr (inr (f, ap (λ w. w ∷ f) (ap (first_or z) e)))
compare (z ∷ f) x b (h ∷ g) y d e = by (compare f x b g y d (ap rest_of e))
  where
    same : z ≡ h
    same = ap (first_or z) e

    by : ((f ≡ g) × (x ≡ y)) ⊎ (((m : List _) × (g ≡ f ++ x ∷ m)) ⊎ ((m : List _) × (f ≡ g ++ y ∷ m)))
        → ((z ∷ f ≡ h ∷ g) × (x ≡ y)) ⊎ (((m : List _) × (h ∷ g ≡ z ∷ (f ++ x ∷ m))) ⊎ ((m : List _) × (z ∷ f ≡ h ∷ (g ++ y ∷ m))))
    by (inl p) = inl (ap₂ (λ w ws. w ∷ ws) same p.0, p.1)
    by (inr (inl p)) = inr (inl (p.0, ap₂ (λ w ws. w ∷ ws) (sym same) p.1))
    by (inr (inr p)) = inr (inr (p.0, ap₂ (λ w ws. w ∷ ws) same p.1))

-- where one more is at the end, a split is there or before it
pub split_push : {A : Type 0} (xs : List A) (z : A) (f : List A) (x : A) (b : List A) → xs ++ z ∷ [] ≡ f ++ x ∷ b
    → ((xs ≡ f) × (z ≡ x)) ⊎ ((m : List A) × (xs ≡ f ++ x ∷ m))
split_push xs z f x b e = by (compare xs z [] f x b e)
  where
    long : (m : List _) → f ≡ xs ++ z ∷ m → ⊥
    long m is =
        let one : length (xs ++ z ∷ []) ≡ length xs + 1 = length-append xs (z ∷ []) in
        let two : length (f ++ x ∷ b) ≡ length f + suc (length b) = length-append f (x ∷ b) in
        let three : length (xs ++ z ∷ m) ≡ length xs + suc (length m) = length-append xs (z ∷ m) in
        omega (arith, one, two, three, ap length e, ap length is)

    by : ((xs ≡ f) × (z ≡ x)) ⊎ (((m : List _) × (f ≡ xs ++ z ∷ m)) ⊎ ((m : List _) × (xs ≡ f ++ x ∷ m))) → ((xs ≡ f) × (z ≡ x)) ⊎ ((m : List _) × (xs ≡ f ++ x ∷ m))
    by (inl p) = inl p
    by (inr (inl p)) = absurd (long p.0 p.1)
    by (inr (inr p)) = inr p

pub no_split : {A : Type 0} (f : List A) (x : A) (b : List A) → [] ≡ f ++ x ∷ b → ⊥
no_split f x b e =
    let two : length (f ++ x ∷ b) ≡ length f + suc (length b) = length-append f (x ∷ b) in
    omega (arith, two, ap length e)

-- the element after a front goes to it
pub next_split : {A : Type 0} (all prefix : List A) (x : A) (back : List A) → all ≡ prefix ++ x ∷ back → all ≡ (prefix ++ x ∷ []) ++ back
next_split all prefix x back e = e ∙ sym (append_assoc prefix (x ∷ []) back)

pub any_here : {A : Type 0} (P : A → Type 0) (x : A) (xs : List A) → P x → Any P (x ∷ xs)
any_here P x xs p = (0, x, omega arith, refl, p)

pub any_later : {A : Type 0} (P : A → Type 0) (x : A) (xs : List A) → Any P xs → Any P (x ∷ xs)
any_later P x xs any = (suc any.0, any.1, omega (arith, any.2), any.3, any.4)

pub any_weaker : {A : Type 0} (P Q : A → Type 0) (xs : List A) → ((x : A) → P x → Q x) → Any P xs → Any Q xs
any_weaker P Q xs weaker any = (any.0, any.1, any.2, any.3, weaker any.1 any.4)

-- the same element is of the other list
pub any_in : {A : Type 0} (P : A → Type 0) (xs ys : List A) → All (Contains ys) xs → Any P xs → Any P ys
any_in P xs ys all any =
    let has : Contains ys any.1 = subst (Contains ys) any.3 (all any.0 any.1 any.2) in
    (has.0, any.1, has.1, has.2, any.4)

-- something that holds of each holds of that one
pub pick : {A : Type 0} (P Q : A → Type 0) (xs : List A) → (any : Any P xs) → All Q xs → Q any.1
pick P Q xs any all = subst Q any.3 (all any.0 any.1 any.2)
