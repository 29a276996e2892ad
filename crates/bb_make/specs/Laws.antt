-- Laws of the made pair.
use Rattle.std.specs.Prelude.{◌≡◌, ◌≤◌, ◌/◌, ℕ, List, ◌++◌, codes}
use Rattle.bb_make.specs.Adders.{hole, made_imp, made_spec, stage_line}

-- the two texts are one text but for the first word in the line of the stage in the middle, and the module hole after
-- the second
pub record AreOneWordApart (n : ℕ) : Type 0 where
  pub before : List ℕ
  pub after : List ℕ
  pub spec : made_spec n ≡ before ++ stage_line (codes "fa") n (n / 2) ++ after
  pub imp : made_imp n ≡ before ++ stage_line (codes "hole") n (n / 2) ++ after ++ hole

abbrev pub MadePairsAreOneWordApart : Type 0
MadePairsAreOneWordApart = (n : ℕ) → 1 ≤ n → AreOneWordApart n
