-- The paths of scopes by numbers.
use Rattle.std.specs.Prelude.{◌≡◌, ℕ, ◌+◌, ◌<◌, ◌≤◌, List, [], IfSome, None, Some, slice_get}
use Rattle.bb_blast.specs.declared.placed.Instance as placed
use Rattle.bb_blast.specs.declared.placed.Placed.{Placed}
use Rattle.bb_design.specs.Hierarchy.{Path, path_to}

-- a path leads to the scope with a number
pub data IsPathAt (all : List Placed) : ℕ → Path → Type 0 where
  Top : {k : ℕ} {path : Path} (p : Placed) → slice_get all k ≡ Some p → p.instance ≡ None → path ≡ [] → IsPathAt all k path
  Below : {k : ℕ} {path : Path} (p : Placed) (i : placed.Instance) (above : Path) → slice_get all k ≡ Some p → p.instance ≡ Some i → path ≡ path_to above i.name → IsPathAt all i.scope above → IsPathAt all k path

-- an instance is in a scope with a lower number
abbrev pub AreRooted : List Placed → Type 0
AreRooted all = (k : ℕ) (p : Placed) → slice_get all k ≡ Some p → IfSome p.instance (λ i. i.scope < k)

-- the scope with a number begins with no greater number of a bit, and the next one, if there is one, with a greater
pub record IsLastBelow (all : List Placed) (number k : ℕ) : Type 0 where
  pub here : (p : Placed) × (slice_get all k ≡ Some p) × (p.first ≤ number)
  pub next : (p : Placed) → slice_get all (k + 1) ≡ Some p → number < p.first
