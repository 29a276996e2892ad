-- What code and proofs say of the flat netlist of a specification whose invariant is looked at.
use Rattle.std.specs.Prelude.{◌≡◌, ◌⊎◌, ℕ, ◌<◌, Bool, List, Contains, length, Some, None}
use Rattle.bb_design.specs.Hierarchy.{Design}
use Rattle.bb_frontend.specs.TextDesigns.{IsDesignOf}
use Rattle.bb_implements.specs.Implements.{Implements}
use Rattle.bb_invariant.specs.Invariance.{IsTooLarge}
use Rattle.bb_net.specs.Flats.{FlatNet, IsFlat}
use Rattle.bb_unroll.specs.Events.{CanBeUnrolled, IsBrokenAt, IsKept, IsOutputCell}
use Rattle.bb_unroll.specs.Unrolled.{unrolled_inputs}
use Rattle.bb_verdict.specs.declared.pair_texts.Made.{Made}
use Rattle.bb_verdict.specs.declared.requested.TextComparison.{TextComparison}
use Rattle.bb_verdict.specs.Inside.BrokenTexts.{broken_bytes}
use Rattle.bb_verdict.specs.Inside.Made.{IsMade}
use Rattle.bb_verdict.specs.InvariantAnswers.{HasInvariant, IsBrokenReport, IsUndecided, invariant_name}

-- a flat netlist of the design of the specification's text
abbrev pub IsFlatOf : TextComparison → List ℕ → FlatNet → Type 0
IsFlatOf requested spec f = (s : Design) × IsDesignOf requested.spec_top spec s × Implements s f

-- where the two texts have a pair, it can be unrolled, and the invariant is one of its outputs
abbrev pub MadeCanBeUnrolled : Type 0
MadeCanBeUnrolled = (requested : TextComparison) (spec imp name : List ℕ) (made : Made) (f : FlatNet)
    → IsMade requested spec imp made → invariant_name requested ≡ Some name → IsFlatOf requested spec f → IsFlat f
    → CanBeUnrolled f × Contains f.outs name × (length made.pair.ins ≡ f.net.inputs)

-- and what it keeps or breaks the design keeps or breaks
pub record AreMeantBy (requested : TextComparison) (spec imp name : List ℕ) (made : Made) (f : FlatNet) (k : ℕ)
    : Type 0 where
  pub kept : IsKept f k None → HasInvariant requested spec name
  pub undecided : (2048 < unrolled_inputs f) ⊎ IsTooLarge f k None requested.options.nodes requested.options.clauses
      → IsUndecided requested spec name
  pub broken : (x : List Bool) → IsBrokenAt f k None x
      → IsBrokenReport requested spec name (broken_bytes f made.pair.ins x)

abbrev pub UnrolledAreMeant : Type 0
UnrolledAreMeant = (requested : TextComparison) (spec imp name : List ℕ) (made : Made) (f : FlatNet) (k : ℕ)
    → IsMade requested spec imp made → IsFlatOf requested spec f → CanBeUnrolled f → IsOutputCell f name k
    → AreMeantBy requested spec imp name made f k
