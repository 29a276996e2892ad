-- A cause that a stage finds, where the stages before it found none, is the first refusal of the design.
use Rattle.std.proofs.Common.{ℕ, List}
use Rattle.std.specs.List.{AllByRecursion}
use Rattle.bb_ast.specs.Inside.Formed.{IsFormed}
use Rattle.bb_ast.specs.Syntax.{PlainModule}
use Rattle.bb_names.specs.Faults.{IsSound}
use Rattle.bb_design.specs.Refusals.{Recursion, Depth, Size, IsAbsentInDesign}
use Rattle.bb_hier.specs.Inside.Finite.{AtTop, IsFinite}
use Rattle.bb_lemmas.proofs.Places.{there_at}

-- a design of a well-formed text without faults
pub finite : (text : List PlainModule) (top : ℕ) → AllByRecursion IsFormed text → IsSound text → AtTop text top (λ d. IsAbsentInDesign d Recursion) → AtTop text top (λ d. IsAbsentInDesign d Depth) → AtTop text top (λ d. IsAbsentInDesign d Size) → AtTop text top IsFinite
finite text top formed sound hierarchy shallow small t at = record {
  hierarchy = hierarchy t at;
  bounded = record { formed = formed; faultless = sound; top = there_at text top t at; shallow = shallow t at; small = small t at };
}
