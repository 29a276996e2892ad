-- Tables fail where the netlist that they fill differs from the specification.
use Rattle.std.proofs.Common.{◌≡◌, ℕ, Bool, List, [], ◌∷◌, length, map, Option, Some, None, Vec, Global, sym, ap, subst, ◌∙◌, arith}
use Rattle.std.specs.Prelude.{IfSome, IfNone, vec_items}
use Rattle.std.proofs.lemmas.List.{length-map}
use Rattle.std.proofs.lemmas.List.Elements.{All-nil, All-cons}
use Rattle.bb_bits.specs.Tables.{TableBits}
use Rattle.bb_subst.specs.Filled.{IsFilled}
use Rattle.bb_subst.specs.Laws.FilledLaws.{FilledAreRight, FilledAreWrong}
use Rattle.bb_miter.specs.Inside.Equivalence.{AreComparable, AreEquivalent, DiffersAt}
use Rattle.bb_net.specs.Equivalence.{TablesMakeEquivalent}
use Rattle.bb_net.specs.Netlists.{Netlist, IsNetlist}
use Rattle.bb_net.specs.Pairs.{NetPair, IsPair}
use Rattle.bb_net.specs.Values.{FitBoxes}
use Rattle.bb_expand.specs.Inside.Failures.{AreDistinctWith, FailsAt}

pub filled_comparable : (pair : NetPair) (filled : Netlist) (tables : List TableBits) (at : ℕ → ℕ) → IsPair pair → IsFilled pair.imp tables filled at → AreComparable pair.spec filled
filled_comparable pair filled tables at kept is = record {
  inputs = kept.beside.inputs ∙ sym is.occurs.inputs;
  few = omega (arith, is.occurs.inputs, kept.small.pins);
  outputs = kept.beside.outputs ∙ sym (ap length is.outs ∙ length-map pair.imp.outs at);
  spec_boxes = kept.beside.no_box;
  imp_boxes = is.boxes;
}

pub distinct_with : (P Q : List Bool → Type 0) → ((x : List Bool) → P x → Q x) → (vectors : List (List Bool)) → AreDistinctWith P vectors → AreDistinctWith Q vectors
distinct_with P Q weaker vectors are = record { each = λ k d h. weaker _ (are.each k d h); distinct = are.distinct }

pub distinct_one : (P : List Bool → Type 0) (x : List Bool) → P x → AreDistinctWith P (x ∷ [])
distinct_one P x holds = record { each = All-cons P x [] holds (All-nil P); distinct = λ i j d less within. absurd (omega (arith, less, within)) }

module _ (spec imp filled : Netlist) (tables : List TableBits) (at : ℕ → ℕ) (kept : IsNetlist imp) (new : IsNetlist filled) (fit : FitBoxes tables imp.boxes) (is : IsFilled imp tables filled at) where
  pub fails_where_differs : FilledAreWrong → (x : List Bool) → DiffersAt spec filled x → FailsAt spec imp tables x
  fails_where_differs wrong x differs = (differs.0 ∙ is.occurs.inputs, (wrong spec imp filled tables at kept new fit is x).0 differs.1)

  pub agree_if_equivalent : FilledAreRight → AreEquivalent spec filled → TablesMakeEquivalent spec imp tables
  agree_if_equivalent right same x wide = (right spec imp filled tables at kept new fit is x).0 (same x (wide ∙ sym is.occurs.inputs))

-- the list of the vector that was found, or of none
pub found_list : (P : List Bool → Type 0) (found : Option (Vec Bool Global)) (vectors : List (Vec Bool Global)) → IfSome found (λ x. P x.items) → IfSome found (λ x. map vec_items vectors ≡ x.items ∷ []) → IfNone found (vectors ≡ [])
    → AreDistinctWith P (map vec_items vectors)
found_list P (Some x) vectors holds is none = subst (AreDistinctWith P) (sym is) (distinct_one P x.items holds)
found_list P None vectors holds is none = subst (λ vs. AreDistinctWith P (map vec_items vs)) (sym none) (record { each = All-nil P; distinct = λ i j d less within. absurd (omega (arith, within)) })
