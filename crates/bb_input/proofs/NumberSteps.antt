-- one bit of a number changed
use Rattle.std.proofs.Common.{◌≡◌, ◌<◌, ℕ, zero, suc, ◌+◌, ◌-◌, ◌^◌, Bool, true, false, List, [], ◌∷◌, length, get_or, ap, ◌∙◌, arith, length-set, pow-suc}
use Rattle.std.specs.Prelude.{slice_set}
use Rattle.bb_bits.specs.Numbers.{number_of}

pub raised : (bits : List Bool) (i : ℕ) → i < length bits → get_or bits i false ≡ false → number_of (slice_set bits i true) ≡ number_of bits + 2 ^ (length bits - (i + 1))
raised [] i l e = absurd (omega (arith, l))
raised (false ∷ bits) zero l e = ap (λ k. 2 ^ k + number_of bits) (let h : length bits ≡ length (false ∷ bits) - (0 + 1) = omega arith in h) ∙ omega arith
raised (true ∷ bits) zero l e = absurd (let h : true ≡ false = e in cc)
raised (false ∷ bits) (suc i) l e = raised bits i (omega (arith, l)) e ∙ ap (λ k. number_of bits + 2 ^ k) (let h : length bits - (i + 1) ≡ length (false ∷ bits) - (suc i + 1) = omega arith in h)
raised (true ∷ bits) (suc i) l e =
    let rest = raised bits i (omega (arith, l)) e in
    let wide : 2 ^ length (slice_set bits i true) ≡ 2 ^ length bits = ap (λ k. 2 ^ k) (length-set bits i true) in
    let power : 2 ^ (length bits - (i + 1)) ≡ 2 ^ (length (true ∷ bits) - (suc i + 1)) = ap (λ k. 2 ^ k) (let h : length bits - (i + 1) ≡ length (true ∷ bits) - (suc i + 1) = omega arith in h) in
    omega (arith, rest, wide, power)

pub lowered : (bits : List Bool) (i : ℕ) → i < length bits → get_or bits i false ≡ true → number_of (slice_set bits i false) + 2 ^ (length bits - (i + 1)) ≡ number_of bits
lowered [] i l e = absurd (omega (arith, l))
lowered (true ∷ bits) zero l e = ap (λ k. number_of bits + 2 ^ k) (let h : length (true ∷ bits) - (0 + 1) ≡ length bits = omega arith in h) ∙ omega arith
lowered (false ∷ bits) zero l e = absurd (let h : false ≡ true = e in cc)
lowered (false ∷ bits) (suc i) l e = ap (λ k. number_of (slice_set bits i false) + 2 ^ k) (let h : length (false ∷ bits) - (suc i + 1) ≡ length bits - (i + 1) = omega arith in h) ∙ lowered bits i (omega (arith, l)) e
lowered (true ∷ bits) (suc i) l e =
    let rest = lowered bits i (omega (arith, l)) e in
    let wide : 2 ^ length (slice_set bits i false) ≡ 2 ^ length bits = ap (λ k. 2 ^ k) (length-set bits i false) in
    let power : 2 ^ (length bits - (i + 1)) ≡ 2 ^ (length (true ∷ bits) - (suc i + 1)) = ap (λ k. 2 ^ k) (let h : length bits - (i + 1) ≡ length (true ∷ bits) - (suc i + 1) = omega arith in h) in
    omega (arith, rest, wide, power)

-- the next power, for one bit fewer
pub next_power : (n i : ℕ) → i + 1 < n + 1 → 2 ^ (n - i) ≡ 2 ^ (n - (i + 1)) + 2 ^ (n - (i + 1))
next_power n i l = ap (λ k. 2 ^ k) (let h : n - i ≡ suc (n - (i + 1)) = omega (arith, l) in h) ∙ (pow-suc 2 (n - (i + 1)) ∙ omega arith)
