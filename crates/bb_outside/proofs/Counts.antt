-- A count that rose has risen over a longer time too.
use Rattle.std.proofs.Common.{◌≤◌, ℕ, arith}
use Rattle.bb_outside.specs.Counts.{Rose}

pub Rose-earlier : (a b c : ℕ) → a ≤ b → Rose b c → Rose a c
Rose-earlier a b c before rose = omega (arith, before, rose)

pub Rose-later : (a b c : ℕ) → Rose a b → b ≤ c → Rose a c
Rose-later a b c rose after = omega (arith, rose, after)
