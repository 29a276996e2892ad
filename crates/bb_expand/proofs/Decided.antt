-- What a model of the expansion over the samples, or a refutation of it, says of the pair.
use Rattle.std.proofs.Common.{◌≡◌, ℕ, Bool, List, All, subst}
use Rattle.bb_bits.specs.Tables.{TableBits}
use Rattle.bb_cnf.specs.declared.clauses.Lit.{Lit}
use Rattle.bb_cnf.specs.declared.refutation.Step.{Step}
use Rattle.bb_cnf.specs.Chains.{IsRefutation}
use Rattle.bb_cnf.specs.Clauses.{Formula}
use Rattle.bb_cnf.specs.Truth.{IsModel, HaveNoModel, assignment_of}
use Rattle.bb_subst.specs.Distinguishing.{AreEquivalentAt}
use Rattle.bb_net.specs.Equivalence.{TablesMakeEquivalent, IsVector}
use Rattle.bb_net.specs.Kinds.{FitKinds, representatives, per_box}
use Rattle.bb_net.specs.Netlists.{Netlist, IsNetlist}
use Rattle.bb_net.specs.Values.{FitBoxes}
use Rattle.bb_expand.specs.declared.samples.SampleSet.{SampleSet}
use Rattle.bb_expand.specs.Expanded.{IsError}
use Rattle.bb_expand.specs.Expansions.{expansion}
use Rattle.bb_expand.specs.Inside.Sampling.{IsSampleSet, sample_vectors}
use Rattle.bb_expand.specs.Inside.LawsBelow.{Numbering, Sharing, ValueExists, ValueIsUnique}
use Rattle.bb_expand.specs.Inside.ReadTables.{tables_in}
use Rattle.bb_expand.proofs.FromModel.{model_fits, model_right}
use Rattle.bb_expand.proofs.ToModel.{bits, bits_model}

module _ (numbering : Numbering) (unique : ValueIsUnique) (sharing : Sharing) (spec imp : Netlist) (kinds : List ℕ) (kept : IsNetlist imp) (fits : FitKinds kinds imp.boxes) (vectors : List (List Bool)) (cnf : Formula) (model : List Bool)
    (is : cnf ≡ expansion spec imp kinds vectors) (holds : IsModel model cnf) where
  pub tables_fit : FitBoxes (tables_in (representatives kinds imp.boxes) model) (representatives kinds imp.boxes)
  tables_fit = model_fits numbering unique sharing spec imp kinds kept fits vectors model (subst (IsModel model) is holds)

  pub tables_agree : All (AreEquivalentAt spec imp (per_box kinds (tables_in (representatives kinds imp.boxes) model))) vectors
  tables_agree = model_right numbering unique sharing spec imp kinds kept fits vectors model (subst (IsModel model) is holds)

-- tables that agree at all vectors do so at each
pub agree_at_all : (spec imp : Netlist) (tables : List TableBits) (vectors : List (List Bool)) → All (IsVector imp) vectors → TablesMakeEquivalent spec imp tables → All (AreEquivalentAt spec imp tables) vectors
agree_at_all spec imp tables vectors whole agree k d h = agree _ (whole k d h)

pub refuted_is_error : Numbering → ValueExists → Sharing → ((clauses : List (List Lit)) (steps : List Step) → IsRefutation clauses steps → HaveNoModel clauses)
    → (spec imp : Netlist) (kinds : List ℕ) → IsNetlist imp → FitKinds kinds imp.boxes → (budget : ℕ) (samples : SampleSet) (steps : List Step) → IsSampleSet spec imp kinds budget samples → IsRefutation samples.solver.clauses steps → IsError spec imp kinds budget (sample_vectors samples) samples.solver steps
refuted_is_error numbering exists sharing sound spec imp kinds kept fits budget samples steps is refuted = record {
  whole = is.each.each;
  distinct = is.each.distinct;
  expands = is.expands;
  within = is.within;
  refuted = refuted;
  none = λ tables fit agree.
      let right = agree_at_all spec imp (per_box kinds tables) (sample_vectors samples) is.each.each agree in
      let model = bits_model numbering exists sharing spec imp kinds kept fits (sample_vectors samples) tables fit right in
      sound (expansion spec imp kinds (sample_vectors samples)).clauses steps (subst (λ (f : Formula). IsRefutation f.clauses steps) is.expands refuted)
      (assignment_of (bits numbering exists sharing spec imp kinds kept fits (sample_vectors samples) tables fit right)) model.1;
}
