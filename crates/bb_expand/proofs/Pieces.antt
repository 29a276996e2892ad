-- What holds of each element of lists that are joined, piece by piece.
use Rattle.std.proofs.Common.{◌≡◌, ℕ, ◌+◌, ◌*◌, ◌<◌, ◌≤◌, zero, suc, List, [], ◌∷◌, ◌++◌, length, map, All, refl, sym, subst, inl, inr, arith}
use Rattle.std.specs.List.{flat_map, range_with_len}
use Rattle.std.proofs.lemmas.Bool.{cases_eq}
use Rattle.std.proofs.lemmas.List.{length-append, get_or_append_left, get_or-append-add}
use Rattle.std.proofs.lemmas.List.Elements.{All-nil, All-append}
use Rattle.std.proofs.lemmas.List.FromFn.{length-map-range_with_len, get_or-map-range_with_len}

pub all_left : {A : Type 0} (P : A → Type 0) (xs ys : List A) → All P (xs ++ ys) → All P xs
all_left P xs ys all k d h = subst P (get_or_append_left xs ys d k h) (all k d (let e = length-append xs ys in omega (arith, e, h)))

pub all_right : {A : Type 0} (P : A → Type 0) (xs ys : List A) → All P (xs ++ ys) → All P ys
all_right P xs ys all k d h = subst P (get_or-append-add xs ys k d) (all (length xs + k) d (let e = length-append xs ys in omega (arith, e, h)))

pieces_from : {A : Type 0} (P : A → Type 0) (f : ℕ → List A) (a n : ℕ) → ((k : ℕ) → a ≤ k → k < a + n → All P (f k)) → All P (flat_map f (range_with_len a n))
pieces_from P f a zero h = All-nil P
pieces_from P f a (suc n) h = All-append P (f a) (flat_map f (range_with_len (a + 1) n)) (h a (omega arith) (omega arith)) (pieces_from P f (a + 1) n (λ k low high. h k (omega (arith, low)) (omega (arith, high))))

piece_from : {A : Type 0} (P : A → Type 0) (f : ℕ → List A) (a n : ℕ) → All P (flat_map f (range_with_len a n)) → (k : ℕ) → a ≤ k → k < a + n → All P (f k)
piece_from P f a zero all k low high = absurd (omega (arith, low, high))
piece_from P f a (suc n) all k low high = elim (cases_eq k a) [
  | inl e ↦ subst (λ i. All P (f i)) (sym e) (all_left P (f a) (flat_map f (range_with_len (a + 1) n)) all)
  | inr ne ↦ piece_from P f (a + 1) n (all_right P (f a) (flat_map f (range_with_len (a + 1) n)) all) k (omega (arith, low, ne)) (omega (arith, high))
]

pub pieces_hold : {A : Type 0} (P : A → Type 0) (f : ℕ → List A) (n : ℕ) → ((k : ℕ) → k < n → All P (f k)) → All P (flat_map f (range_with_len 0 n))
pieces_hold P f n h = pieces_from P f 0 n (λ k low high. h k (omega (arith, high)))

pub piece_holds : {A : Type 0} (P : A → Type 0) (f : ℕ → List A) (n : ℕ) → All P (flat_map f (range_with_len 0 n)) → (k : ℕ) → k < n → All P (f k)
piece_holds P f n all k h = piece_from P f 0 n all k (omega arith) (omega (arith, h))

same_from : {A : Type 0} (f g : ℕ → List A) (a n : ℕ) → ((k : ℕ) → a ≤ k → k < a + n → f k ≡ g k) → flat_map f (range_with_len a n) ≡ flat_map g (range_with_len a n)
same_from f g a zero h = refl
same_from f g a (suc n) h =
    let first = h a (omega arith) (omega arith) in
    let rest = same_from f g (a + 1) n (λ k low high. h k (omega (arith, low)) (omega (arith, high))) in
    cc

-- the same pieces make the same list
pub same_pieces : {A : Type 0} (f g : ℕ → List A) (n : ℕ) → ((k : ℕ) → k < n → f k ≡ g k) → flat_map f (range_with_len 0 n) ≡ flat_map g (range_with_len 0 n)
same_pieces f g n h = same_from f g 0 n (λ k low high. h k (omega (arith, high)))

pub each_holds : {A : Type 0} (P : A → Type 0) (f : ℕ → A) (n : ℕ) → All P (map f (range_with_len 0 n)) → (k : ℕ) → k < n → P (f k)
each_holds P f n all k h = subst P (get_or-map-range_with_len f 0 n k k (f k) h (omega arith)) (all k (f k) (let e = length-map-range_with_len f 0 n in omega (arith, e, h)))

pub all_hold : {A : Type 0} (P : A → Type 0) (f : ℕ → A) (n : ℕ) → ((k : ℕ) → k < n → P (f k)) → All P (map f (range_with_len 0 n))
all_hold P f n each k d h =
    let below : k < n = (let e = length-map-range_with_len f 0 n in omega (arith, e, h)) in
    subst P (sym (get_or-map-range_with_len f 0 n k k d below (omega arith))) (each k below)

-- pieces of one length
pub length-pieces : {X A : Type 0} (f : X → List A) (n : ℕ) → ((x : X) → length (f x) ≡ n) → (xs : List X) → length (flat_map f xs) ≡ length xs * n
length-pieces f n each [] = omega arith
length-pieces f n each (x ∷ xs) =
    let first = each x in
    let rest = length-pieces f n each xs in
    let all = length-append (f x) (flat_map f xs) in
    omega (arith, first, rest, all)
