-- Lists that grow by one piece after another.
use Rattle.std.proofs.Common.{◌≡◌, ℕ, ◌+◌, List, [], ◌∷◌, ◌++◌, map, append_assoc, sym, ap, ◌∙◌, arith}
use Rattle.std.specs.List.{flat_map, range_with_len}
use Rattle.std.proofs.lemmas.List.{append-nil}
use Rattle.std.proofs.lemmas.List.Concat.{flat_map-append}
use Rattle.std.proofs.lemmas.List.FromFn.{map-range_with_len_more}
use Rattle.bb_lemmas.proofs.Ranges.{range_last_from_zero}

pub pieces_more : {A : Type 0} (f : ℕ → List A) (k : ℕ) → flat_map f (range_with_len 0 (k + 1)) ≡ flat_map f (range_with_len 0 k) ++ f k
pieces_more f k = ap (flat_map f) (range_last_from_zero k) ∙ flat_map-append f (range_with_len 0 k) (k ∷ []) ∙ ap (λ p. flat_map f (range_with_len 0 k) ++ p) (append-nil (f k))

-- one more piece after those before it
pub grown : {A : Type 0} (f : ℕ → List A) (k : ℕ) (start before now : List A) → before ≡ start ++ flat_map f (range_with_len 0 k) → now ≡ before ++ f k → now ≡ start ++ flat_map f (range_with_len 0 (k + 1))
grown f k start before now was is =
    is ∙ ap (λ t. t ++ f k) was ∙ append_assoc start (flat_map f (range_with_len 0 k)) (f k) ∙ ap (λ t. start ++ t) (sym (pieces_more f k))

-- the same of pieces of one element
pub grown_by_one : {A : Type 0} (f : ℕ → A) (k : ℕ) (start before now : List A) → before ≡ start ++ map f (range_with_len 0 k) → now ≡ before ++ f k ∷ [] → now ≡ start ++ map f (range_with_len 0 (k + 1))
grown_by_one f k start before now was is =
    is ∙ ap (λ t. t ++ f k ∷ []) was ∙ append_assoc start (map f (range_with_len 0 k)) (f k ∷ []) ∙ ap (λ t. start ++ t) (sym (map-range_with_len_more f 0 k k (omega arith)))
