-- What comes of one addition.
use Rattle.std.specs.Prelude.{ℕ, ◌≡◌, ◌+◌, Some, List, [], ◌++◌, take, slice_get}
use Rattle.bb_cnf.specs.declared.clauses.Lit.{Lit}
use Rattle.bb_cnf.specs.Clauses.{Literals}
use Rattle.bb_rup.specs.Propagation.{Follows, Stays}
use Rattle.bb_rup.specs.Inside.Trails.{IsReached}
use Rattle.bb_rup.specs.declared.addition.Step.{Step}
use Rattle.bb_rup.specs.declared.addition.Step.TheVariants as steps

-- there is an addition of this number, and it follows from the clauses and the additions before it
pub record FollowsThere (given adds : List (List Lit)) (k : ℕ) : Type 0 where
  pub clause : List Lit
  pub occurs : slice_get adds k ≡ Some clause
  pub follows : Follows (given ++ take k adds) clause

pub record StaysThere (given adds : List (List Lit)) (k : ℕ) : Type 0 where
  pub clause : List Lit
  pub occurs : slice_get adds k ≡ Some clause
  pub stays : Stays (given ++ take k adds) clause

abbrev pub Comes : List (List Lit) → List (List Lit) → ℕ → Literals → Step → Type 0
Comes given adds k falses steps.Stays = StaysThere given adds k
Comes given adds k falses steps.Ends = FollowsThere given adds k × Follows (given ++ take (k + 1) adds) []
Comes given adds k falses steps.Goes = FollowsThere given adds k × IsReached (given ++ take (k + 1) adds) [] falses
