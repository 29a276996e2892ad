-- The low bits of a list, of which the most significant is first.
use Rattle.std.proofs.Common.{◌≡◌, ◌∙◌, ◌-◌, ◌≤◌, ℕ, List, map, length, drop, sym, ap, arith, length-drop}
use Rattle.std.proofs.lemmas.List.{drop-map, length-map}
use Rattle.bb_bits.specs.Bits.{low_bits}

pub low-map : {A B : Type 0} (f : A → B) (n : ℕ) (xs : List A) → map f (low_bits n xs) ≡ low_bits n (map f xs)
low-map f n xs = sym (drop-map f (length xs - n) xs) ∙ ap (λ k. drop (k - n) (map f xs)) (sym (length-map xs f))

pub low-length : {A : Type 0} (n : ℕ) (xs : List A) → n ≤ length xs → length (low_bits n xs) ≡ n
low-length n xs fits = length-drop (length xs - n) xs ∙ omega (arith, fits)
