-- By this file `hierarchy` promises to bb_elab; no clause of `elaborate` rests on it.
-- Designs that are neither recursive nor too deep nor too large.
use Rattle.std.specs.Prelude.{◌≡◌, ℕ, List, Some, slice_get}
use Rattle.bb_ast.specs.Syntax.{PlainModule}
use Rattle.bb_design.specs.Inside.Allowed.{IsBounded}
use Rattle.bb_design.specs.Hierarchy.{Design}
use Rattle.bb_design.specs.Refusals.{IsHierarchy, design_on}

-- it holds of the design of a text with the module at a place on top
abbrev pub AtTop : List PlainModule → ℕ → (Design → Type 0) → Type 0
AtTop text top P = (t : PlainModule) → slice_get text top ≡ Some t → P (design_on text t)

-- it is neither recursive nor too deep nor too large
pub record IsFinite (d : Design) : Type 0 where
  pub hierarchy : IsHierarchy d
  pub bounded : IsBounded d
