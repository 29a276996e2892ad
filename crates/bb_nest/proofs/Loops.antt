-- One step of a loop over the places of a list, and what is known at its end.
use Rattle.std.proofs.Common.{◌≡◌, ◌<◌, ◌≤◌, ◌↔◌, ℕ, ◌+◌, Bool, true, false, List, [], ◌∷◌, ◌++◌, length, get_or, slice_index, All, AllPairs, ◌≢◌, refl, sym, ap, ◌∙◌, subst, inl, inr, arith, length-append}
use Rattle.std.specs.List.{range_with_len}
use Rattle.std.specs.Option.{is_some}
use Rattle.std.specs.Prelude.{Option, Some, None, IfSome}
use Rattle.std.proofs.lemmas.Bool.{cases_lt}
use Rattle.std.proofs.lemmas.List.{get_or_append_left, get_or-append-add, get_or_default, get_or_push}
use Rattle.std.proofs.lemmas.List.Elements.{All-from_get_or}
use Rattle.std.proofs.lemmas.List.FromFn.{get_or-range_with_len}
use Rattle.bb_lemmas.proofs.Ranges.{length-range}

last_place : (k n : ℕ) → k < n + 1 → n ≤ k → k ≡ n
last_place k n l m = omega (arith, l, m)

pub each_more : (P : ℕ → Type 0) (n : ℕ) → ((k : ℕ) → k < n → P k) → P n → (k : ℕ) → k < n + 1 → P k
each_more P n so_far here k l = elim (cases_lt k n) [
  | inl before ↦ so_far k before
  | inr after ↦ subst P (sym (last_place k n l after)) here
]

pub each_push : {A : Type 0} (P : ℕ → A → Type 0) (xs : List A) (x d : A) (n : ℕ) → length xs ≡ n → ((k : ℕ) → k < n → P k (get_or xs k d)) → P n x → (k : ℕ) → k < n + 1 → P k (get_or (xs ++ x ∷ []) k d)
each_push P xs x d n e so_far here =
    each_more (λ k. P k (get_or (xs ++ x ∷ []) k d)) n (λ k l. subst (P k) (sym (get_or_append_left xs (x ∷ []) d k (omega (arith, l, e)))) (so_far k l)) (subst (P n) (sym (get_or_push xs x d n e)) here)

never : {P : Type 0} → false ≡ true → P
never e = absurd (let h : true ≡ false = sym e in cc)

pub each_fails : (P : ℕ → Type 0) (n i : ℕ) → i < n → (P i → ⊥) → (false ≡ true) ↔ ((k : ℕ) → k < n → P k)
each_fails P n i l not = (λ e. never e, λ all. absurd (not (all i l)))

pub each_holds : (P : ℕ → Type 0) (n i : ℕ) → n ≤ i → ((k : ℕ) → k < i → P k) → (true ≡ true) ↔ ((k : ℕ) → k < n → P k)
each_holds P n i m all = (λ e k l. all k (omega (arith, l, m)), λ h. refl)

pub untrue : (b : Bool) → b ≡ false → b ≡ true → ⊥
untrue b low high = let h : true ≡ false = sym high ∙ low in cc

pub fails : {P : Type 0} → (P → ⊥) → (false ≡ true) ↔ P
fails not = (λ e. never e, λ h. absurd (not h))

-- the parts of a list
module _ (P : ℕ → Type 0) where
  pub all_left : (xs ys : List ℕ) → All P (xs ++ ys) → All P xs
  all_left xs ys all = All-from_get_or P xs 0 (λ i l. subst P (get_or_append_left xs ys 0 i l) (all i 0 (omega (arith, l, length-append xs ys))))

  pub all_right : (xs ys : List ℕ) → All P (xs ++ ys) → All P ys
  all_right xs ys all = All-from_get_or P ys 0 (λ i l. subst P (get_or-append-add xs ys i 0) (all (length xs + i) 0 (omega (arith, l, length-append xs ys))))

-- numbers that are their own places differ
pub places_apart : (kinds : List ℕ) → ((b : ℕ) → b < length kinds → slice_index kinds b ≡ b) → AllPairs ◌≢◌ kinds
places_apart kinds own i j d less l e =
    let first = get_or_default kinds i d 0 (omega (arith, less, l)) ∙ own i (omega (arith, less, l)) in
    let second = get_or_default kinds j d 0 l ∙ own j l in
    omega (arith, first, second, e, less)

pub places_own : (kinds : List ℕ) (n : ℕ) → kinds ≡ range_with_len 0 n → (b : ℕ) → b < length kinds → slice_index kinds b ≡ b
places_own kinds n e b l =
    let small : b < n = let h = ap length e in omega (arith, l, h, length-range 0 n) in
    ap (λ (xs : List ℕ). slice_index xs b) e ∙ (get_or-range_with_len 0 n b 0 small ∙ (let h : 0 + b ≡ b = omega arith in h))

-- a number that is given and small
pub few_bits : (found : Option ℕ) (n most : ℕ) → IfSome found (λ bits. bits ≡ n) → IfSome found (λ bits. bits ≤ most) → is_some found ≡ true → n ≤ most
few_bits None n most is small e = absurd (let h : true ≡ false = sym e in cc)
few_bits (Some bits) n most is small e = omega (arith, is, small)
