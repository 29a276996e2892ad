-- Counts that stop at a greatest number.
use Rattle.std.proofs.Common.{◌≡◌, ℕ, ◌+◌, ◌*◌, ◌^◌, min, ap, arith}
use Rattle.std.proofs.lemmas.Grind.{pow_more}

pub twice : (k n : ℕ) → 2 ^ (k + 1) * n ≡ 2 ^ k * n * 2
twice k n = omega (arith, ap (λ q. q * n) (pow_more 2 k))

pub doubled_more : (k n most : ℕ) → min (min (2 ^ k * n) most * 2) most ≡ min (2 ^ (k + 1) * n) most
doubled_more k n most = omega (arith, twice k n)
