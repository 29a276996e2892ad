-- With how many `_` texts begin.
use Rattle.std.proofs.Common.{◌≡◌, ◌∙◌, ℕ, ◌+◌, ◌<◌, ◌==◌, max, Bool, true, false, if◌then◌else◌, List, [], ◌∷◌, ◌++◌, length, map, take, drop, get_or, sym, ap, arith}
use Rattle.std.proofs.lemmas.List.{drop_more, map-append, take_more}
use Rattle.std.proofs.lemmas.Simd.{map-map}
use Rattle.bb_net.specs.declared.flat.Reg.{Reg}
use Rattle.bb_fill.specs.Words.{maximum, leading}

begins : (x : ℕ) (xs : List ℕ) (b : Bool) → (x == 95) ≡ b → leading (x ∷ xs) ≡ (if b then 1 + leading xs else 0)
begins x xs b e = ap (λ c. if c then 1 + leading xs else 0) e

pub leading_more : (bytes : List ℕ) (i x : ℕ) → i < length bytes → x ≡ get_or bytes i x → (x == 95) ≡ true → leading bytes ≡ i + leading (drop i bytes) → leading bytes ≡ (i + 1) + leading (drop (i + 1) bytes)
leading_more bytes i x within at is before =
    let rest = ap leading (drop_more bytes i x within ∙ ap (λ y. y ∷ drop (i + 1) bytes) (sym at)) ∙ begins x (drop (i + 1) bytes) true is in
    omega (arith, before, rest)

pub leading_ends : (bytes : List ℕ) (i x : ℕ) → i < length bytes → x ≡ get_or bytes i x → (x == 95) ≡ false → leading bytes ≡ i + leading (drop i bytes) → i ≡ leading bytes
leading_ends bytes i x within at is before =
    let rest = ap leading (drop_more bytes i x within ∙ ap (λ y. y ∷ drop (i + 1) bytes) (sym at)) ∙ begins x (drop (i + 1) bytes) false is in
    omega (arith, before, rest)

pub maximum-append : (xs ys : List ℕ) → maximum (xs ++ ys) ≡ max (maximum xs) (maximum ys)
maximum-append [] ys = omega arith
maximum-append (x ∷ xs) ys = let rest = maximum-append xs ys in omega (arith, rest)

pub greatest_more : {X : Type 0} (f : X → ℕ) (xs : List X) (i : ℕ) (x : X) (most first : ℕ) → i < length xs → x ≡ get_or xs i x → most ≡ max first (maximum (map f (take i xs)))
    → max most (f x) ≡ max first (maximum (map f (take (i + 1) xs)))
greatest_more f xs i x most first within at before =
    let more : take (i + 1) xs ≡ take i xs ++ x ∷ [] = take_more xs i x within ∙ ap (λ y. take i xs ++ y ∷ []) (sym at) in
    let rest = ap (λ l. maximum (map f l)) more ∙ ap maximum (map-append f (take i xs) (x ∷ [])) ∙ maximum-append (map f (take i xs)) (f x ∷ []) in
    omega (arith, before, rest)

-- the greatest number over all texts
pub stem_is : (ins outs : List (List ℕ)) (regs : List Reg) (one two three : ℕ) → one ≡ max 0 (maximum (map leading ins)) → two ≡ max one (maximum (map (λ (r : Reg). leading r.text) regs)) → three ≡ max two (maximum (map leading outs))
    → three ≡ maximum (map leading (ins ++ map (λ (r : Reg). r.text) regs ++ outs))
stem_is ins outs regs one two three first second third =
    let texts = map (λ (r : Reg). r.text) regs in
    let split : maximum (map leading (ins ++ texts ++ outs)) ≡ max (maximum (map leading (ins ++ texts))) (maximum (map leading outs)) = ap maximum (map-append leading (ins ++ texts) outs) ∙ maximum-append (map leading (ins ++ texts)) (map leading outs) in
    let prefix : maximum (map leading (ins ++ texts)) ≡ max (maximum (map leading ins)) (maximum (map leading texts)) = ap maximum (map-append leading ins texts) ∙ maximum-append (map leading ins) (map leading texts) in
    let inner : maximum (map leading texts) ≡ maximum (map (λ (r : Reg). leading r.text) regs) = ap maximum (map-map leading (λ (r : Reg). r.text) regs) in
    omega (arith, first, second, third, split, prefix, inner)
