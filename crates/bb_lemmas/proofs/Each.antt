-- What is so of each element of lists that are made from others.
use Rattle.std.proofs.Common.{◌≡◌, ◌⊎◌, ℕ, zero, suc, List, [], ◌∷◌, ◌++◌, reverse, take, drop, replicate, Contains, sym, subst, inl, inr}
use Rattle.std.proofs.lemmas.List.{reverse-append}
use Rattle.std.proofs.lemmas.List.Elements.{Contains-append_left, Contains-append_right, Contains-append_cases}
use Rattle.bb_lemmas.proofs.Members.{contains_here, contains_there, contains_cases, none_in_nil}

module _ {A : Type 0} where
  abbrev pub Each : List A → (A → Type 0) → Type 0
  Each xs P = (t : A) → Contains xs t → P t

  -- each element of the first list is one of the second
  abbrev pub AreIn : List A → List A → Type 0
  AreIn xs ys = (t : A) → Contains xs t → Contains ys t

  pub each_nil : (P : A → Type 0) → Each [] P
  each_nil P t has = absurd (none_in_nil t has)

  pub each_cons : (P : A → Type 0) (x : A) (xs : List A) → P x → Each xs P → Each (x ∷ xs) P
  each_cons P x xs here rest t has = by (contains_cases x xs t has)
    where
      by : (x ≡ t) ⊎ Contains xs t → P t
      by (inl e) = subst P e here
      by (inr more) = rest t more

  pub each_append : (P : A → Type 0) (xs ys : List A) → Each xs P → Each ys P → Each (xs ++ ys) P
  each_append P xs ys first second t has = by (Contains-append_cases xs ys t has)
    where
      by : Contains xs t ⊎ Contains ys t → P t
      by (inl h) = first t h
      by (inr h) = second t h

  pub each_head : (P : A → Type 0) (x : A) (xs : List A) → Each (x ∷ xs) P → P x
  each_head P x xs all = all x (contains_here x xs)

  pub each_tail : (P : A → Type 0) (x : A) (xs : List A) → Each (x ∷ xs) P → Each xs P
  each_tail P x xs all t has = all t (contains_there x xs t has)

  pub each_left : (P : A → Type 0) (xs ys : List A) → Each (xs ++ ys) P → Each xs P
  each_left P xs ys all t has = all t (Contains-append_left xs ys t has)

  pub each_right : (P : A → Type 0) (xs ys : List A) → Each (xs ++ ys) P → Each ys P
  each_right P xs ys all t has = all t (Contains-append_right xs ys t has)

  pub each_replicate : (P : A → Type 0) (n : ℕ) (x : A) → P x → Each (replicate n x) P
  each_replicate P zero x here = each_nil P
  each_replicate P (suc n) x here = each_cons P x (replicate n x) here (each_replicate P n x here)

  pub each_take : (P : A → Type 0) (n : ℕ) (xs : List A) → Each xs P → Each (take n xs) P
  each_take P zero xs all = each_nil P
  each_take P (suc n) [] all = each_nil P
  each_take P (suc n) (x ∷ xs) all = each_cons P x (take n xs) (each_head P x xs all) (each_take P n xs (each_tail P x xs all))

  pub each_drop : (P : A → Type 0) (n : ℕ) (xs : List A) → Each xs P → Each (drop n xs) P
  each_drop P zero xs all = all
  each_drop P (suc n) [] all = all
  each_drop P (suc n) (x ∷ xs) all = each_drop P n xs (each_tail P x xs all)

  pub each_reverse : (P : A → Type 0) (xs : List A) → Each xs P → Each (reverse xs) P
  each_reverse P [] all = all
  each_reverse P (x ∷ xs) all = subst (λ l. Each l P) (sym (reverse-append (x ∷ []) xs))
      (each_append P (reverse xs) (x ∷ []) (each_reverse P xs (each_tail P x xs all)) (each_cons P x [] (each_head P x xs all) (each_nil P)))
