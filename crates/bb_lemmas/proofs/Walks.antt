-- Walks along steps: one more step, and levels that fall.
use Rattle.std.proofs.Common.{◌<◌, All, Contains, List, arith, ℕ}
use Rattle.std.proofs.lemmas.List.Elements.{All-contains}
use Rattle.bb_bits.specs.Closures.{Leads, More, One}

module _ {A : Type 0} (steps : List (A × A)) where
  pub more_after : {x y z : A} → Leads steps x y → Contains steps (y, z) → Leads steps x z
  more_after (One has) last = More has (One last)
  more_after (More has rest) last = More has (more_after rest last)

  pub append : {x y z : A} → Leads steps x y → Leads steps y z → Leads steps x z
  append (One has) last = More has last
  append (More has rest) last = More has (append rest last)

  pub levels_fall : (level : A → ℕ) → All (λ x. level x.1 < level x.0) steps → {x y : A} → Leads steps x y → level y < level x
  levels_fall level down (One has) = All-contains (λ x. level x.1 < level x.0) steps _ down has
  levels_fall level down (More has rest) =
      let here = All-contains (λ x. level x.1 < level x.0) steps _ down has in
      let there = levels_fall level down rest in
      omega (arith, here, there)
