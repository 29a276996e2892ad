-- A file that is read piece by piece.
use Rattle.std.proofs.Common.{◌≡◌, ◌≤◌, ℕ, Option, Some, None, List, [], length, take, IfSome, arith}
use Rattle.std.proofs.lemmas.Grind.{common_steps}
use Rattle.std.specs.Io.KnownBytes.{Consumes, IsAtEnd}

-- the pieces fill the limit
pub prefix-full : (before now : Option (List ℕ)) (limit : ℕ) (bytes : List ℕ) → Consumes before now bytes → length bytes ≡ limit
    → IfSome before (λ left. bytes ≡ take limit left)
prefix-full None now limit bytes read full = tt
prefix-full (Some xs) None limit bytes read full = absurd read
prefix-full (Some xs) (Some ys) limit bytes read full = grind (arith, common_steps, read, full)

-- the last read gave nothing
pub prefix-end : (before mid now : Option (List ℕ)) (limit : ℕ) (bytes nothing : List ℕ) → Consumes before mid bytes
    → Consumes mid now nothing → nothing ≡ [] → IsAtEnd now → length bytes ≤ limit → IfSome before (λ left. bytes ≡ take limit left)
prefix-end None mid now limit bytes nothing read last none end within = tt
prefix-end (Some xs) None now limit bytes nothing read last none end within = absurd read
prefix-end (Some xs) (Some ys) None limit bytes nothing read last none end within = absurd last
prefix-end (Some xs) (Some ys) (Some zs) limit bytes nothing read last none end within = grind (arith, common_steps, read, last, none, end, within)
