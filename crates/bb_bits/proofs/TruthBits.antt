-- a table and the list of its bits
use Rattle.std.proofs.Common.{◌≡◌, ℕ, zero, suc, ◌^◌, Bool, List, [], ◌∷◌, ◌++◌, length, take, drop, refl, sym, ap, ◌∙◌, arith, length-append}
use Rattle.std.proofs.lemmas.List.{take_at, drop_at, take-append-drop, length-take, length-drop}
use Rattle.std.proofs.Math.Nat.{pow-suc}
use Rattle.bb_bits.specs.Truth.{Truth, Bit, Halves, IsTruthTable, truth_bits}

pub length-truth_bits : (v : ℕ) (t : Truth) → IsTruthTable v t → length (truth_bits t) ≡ 2 ^ v
length-truth_bits zero (Bit b) h = refl
length-truth_bits zero (Halves lo hi) h = absurd h
length-truth_bits (suc v) (Bit b) h = absurd h
length-truth_bits (suc v) (Halves lo hi) h =
    let a = length-truth_bits v lo h.0 in
    let b = length-truth_bits v hi h.1 in
    omega (arith, length-append (truth_bits lo) (truth_bits hi), pow-suc 2 v)

-- the table of a list of bits
pub table_of_bits : (v : ℕ) (bits : List Bool) → length bits ≡ 2 ^ v → (t : Truth) × IsTruthTable v t × (truth_bits t ≡ bits)
table_of_bits zero [] h = absurd (omega (arith, h))
table_of_bits zero (b ∷ []) h = (Bit b, tt, refl)
table_of_bits zero (b ∷ (c ∷ bits)) h = absurd (omega (arith, h))
table_of_bits (suc v) bits h =
    let lo = table_of_bits v (take (2 ^ v) bits) (omega (arith, h, pow-suc 2 v, length-take (2 ^ v) bits)) in
    let hi = table_of_bits v (drop (2 ^ v) bits) (omega (arith, h, pow-suc 2 v, length-drop (2 ^ v) bits)) in
    (Halves lo.0 hi.0, (lo.1, hi.1), rw (lo.2, hi.2) (take-append-drop (2 ^ v) bits))

-- the two parts of a joined list, where the first parts are equally long
pub parts_same : (n : ℕ) (a b c d : List Bool) → length a ≡ n → length c ≡ n → a ++ b ≡ c ++ d → (a ≡ c) × (b ≡ d)
parts_same n a b c d h k e =
    (sym (take_at a b n h) ∙ (ap (take n) e ∙ take_at c d n k), sym (drop_at a b n h) ∙ (ap (drop n) e ∙ drop_at c d n k))

pub bits_fix_table : (v : ℕ) (t u : Truth) → IsTruthTable v t → IsTruthTable v u → truth_bits t ≡ truth_bits u → t ≡ u
bits_fix_table zero (Bit a) (Bit b) h k e = cc
bits_fix_table zero (Bit a) (Halves c d) h k e = absurd k
bits_fix_table zero (Halves a b) u h k e = absurd h
bits_fix_table (suc v) (Bit a) u h k e = absurd h
bits_fix_table (suc v) (Halves a b) (Bit c) h k e = absurd k
bits_fix_table (suc v) (Halves a b) (Halves c d) h k e =
    let parts = parts_same (2 ^ v) (truth_bits a) (truth_bits b) (truth_bits c) (truth_bits d) (length-truth_bits v a h.0) (length-truth_bits v c k.0) e in
    let first = bits_fix_table v a c h.0 k.0 parts.0 in
    let second = bits_fix_table v b d h.1 k.1 parts.1 in
    cc
