-- What is at the places of lists, and lists laid side by side.
use Rattle.std.proofs.Common.{◌≡◌, ◌+◌, ◌<◌, ◌++◌, ℕ, suc, List, [], ◌∷◌, map, length, drop, Some, refl, sym, ap, ap₂, ◌∙◌, arith, All}
use Rattle.std.specs.Prelude.{slice_get}
use Rattle.std.specs.List.{AllZip, flat_map}
use Rattle.std.proofs.lemmas.List.{map-append}
use Rattle.std.proofs.lemmas.List.Elements.{All-cons, All-nil}
use Rattle.bb_lemmas.proofs.Places.{got, in_prefix, head_same}
use Rattle.bb_bits.specs.Inside.Places.{AreAt, numbers_from}

-- two lists, place by place

-- what is at some places of a list, in order

pub at_append : {A : Type 0} (all : List A) (ks ls : List ℕ) (xs ys : List A) → AreAt all ks xs → AreAt all ls ys → AreAt all (ks ++ ls) (xs ++ ys)
at_append all ks ls xs ys at more = map-append (slice_get all) ks ls ∙ ap₂ ◌++◌ at more ∙ sym (map-append Some xs ys)

pub at_below : {A : Type 0} (all : List A) (ks : List ℕ) (xs : List A) → AreAt all ks xs → All (λ k. k < length all) ks
at_below all [] xs at = All-nil (λ k. k < length all)
at_below all (k ∷ ks) [] at = cc
at_below all (k ∷ ks) (x ∷ xs) at =
    All-cons (λ k. k < length all) k ks (got all k x x (head_same (slice_get all k) (Some x) (map (slice_get all) ks) (map Some xs) at)).0 (at_below all ks xs (ap (drop 1) at))

get_inside : {A : Type 0} (prefix mid back : List A) (k : ℕ) (x : A) → slice_get mid k ≡ Some x → slice_get (prefix ++ (mid ++ back)) (length prefix + k) ≡ Some x
get_inside [] mid back k x at = ap (slice_get (mid ++ back)) (omega arith) ∙ in_prefix mid back k (got mid k x x at).0 ∙ at
get_inside (y ∷ prefix) mid back k x at = ap (slice_get (y ∷ (prefix ++ (mid ++ back)))) (longer (length prefix) k) ∙ get_inside prefix mid back k x at
  where
    longer : (n k : ℕ) → suc n + k ≡ suc (n + k)
    longer n k = omega arith

pub at_inside : {A : Type 0} (prefix mid back : List A) (ks : List ℕ) (xs : List A) → AreAt mid ks xs → AreAt (prefix ++ (mid ++ back)) (numbers_from (length prefix) ks) xs
at_inside prefix mid back [] [] at = refl
at_inside prefix mid back [] (x ∷ xs) at = cc
at_inside prefix mid back (k ∷ ks) [] at = cc
at_inside prefix mid back (k ∷ ks) (x ∷ xs) at =
    ap₂ ◌∷◌ (get_inside prefix mid back k x (head_same (slice_get mid k) (Some x) (map (slice_get mid) ks) (map Some xs) at)) (at_inside prefix mid back ks xs (ap (drop 1) at))

pub zip_flat : {A B C : Type 0} (all : List C) (R : A → B → Type 0) (f : A → List ℕ) (g : B → List C) → ((x : A) (y : B) → R x y → AreAt all (f x) (g y)) → (xs : List A) (ys : List B) → AllZip R xs ys → AreAt all (flat_map f xs) (flat_map g ys)
zip_flat all R f g each [] [] zipped = refl
zip_flat all R f g each [] (y ∷ ys) zipped = absurd zipped
zip_flat all R f g each (x ∷ xs) [] zipped = absurd zipped
zip_flat all R f g each (x ∷ xs) (y ∷ ys) zipped = at_append all (f x) (flat_map f xs) (g y) (flat_map g ys) (each x y zipped.0) (zip_flat all R f g each xs ys zipped.1)
