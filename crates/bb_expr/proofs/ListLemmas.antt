-- Facts on lists: what holds of each element of joined lists, lists that are empty, a list of one element, and elements by place.
use Rattle.std.proofs.Common.{◌≡◌, ◌<◌, ℕ, zero, suc, List, [], ◌∷◌, ◌++◌, get_or, arith}
use Rattle.std.specs.Prelude.{Contains}
use Rattle.std.specs.List.{AllByRecursion, flat_map}
use Rattle.bb_lemmas.proofs.Members.{left_nil, right_nil}

pub all-prefix : {X : Type 0} (P : X → Type 0) (xs ys : List X) → AllByRecursion P (xs ++ ys) → AllByRecursion P xs
all-prefix P [] ys h = tt
all-prefix P (x ∷ xs) ys h = (h.0, all-prefix P xs ys h.1)

pub all-back : {X : Type 0} (P : X → Type 0) (xs ys : List X) → AllByRecursion P (xs ++ ys) → AllByRecursion P ys
all-back P [] ys h = h
all-back P (x ∷ xs) ys h = all-back P xs ys h.1

pub all-join : {X : Type 0} (P : X → Type 0) (xs ys : List X) → AllByRecursion P xs → AllByRecursion P ys → AllByRecursion P (xs ++ ys)
all-join P [] ys prefix back = back
all-join P (x ∷ xs) ys prefix back = (prefix.0, all-join P xs ys prefix.1 back)

pub flat-nil : {X Y : Type 0} (f : X → List Y) (xs : List X) → flat_map f xs ≡ [] → AllByRecursion (λ x. f x ≡ []) xs
flat-nil f [] h = tt
flat-nil f (x ∷ xs) h = (left_nil (f x) (flat_map f xs) h, flat-nil f xs (right_nil (f x) (flat_map f xs) h))

pub all-mapped : {X : Type 0} (P Q : X → Type 0) → ((x : X) → P x → Q x) → (xs : List X) → AllByRecursion P xs → AllByRecursion Q xs
all-mapped P Q f [] h = tt
all-mapped P Q f (x ∷ xs) h = (f x h.0, all-mapped P Q f xs h.1)

single-at : {X : Type 0} (a x : X) (k : ℕ) → k < 1 → get_or (a ∷ []) k x ≡ x → a ≡ x
single-at a x zero lt same = same
single-at a x (suc k) lt same = absurd (omega (arith, lt))

pub single : {X : Type 0} (a x : X) → Contains (a ∷ []) x → a ≡ x
single a x h = single-at a x h.0 h.1 h.2
