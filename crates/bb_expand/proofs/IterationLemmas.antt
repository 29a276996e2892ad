-- How the search begins, and where it gives up.
use Rattle.std.proofs.Common.{◌≡◌, ℕ, ◌-◌, ◌^◌, ◌<◌, Bool, false, List, [], ◌∷◌, length, map, All, ap, sym, subst, inl, inr, arith}
use Rattle.std.specs.Prelude.{Contains, vec_items, replicate}
use Rattle.std.proofs.lemmas.List.{length-append, length-replicate}
use Rattle.std.proofs.lemmas.List.Elements.{All-nil}
use Rattle.bb_bits.specs.Tables.{TableBits}
use Rattle.bb_subst.specs.Distinguishing.{AreEquivalentAt, AreDistinguishing}
use Rattle.bb_subst.specs.Laws.DistinguishingLaws.{DistinguishingVectorsAreDistinct, VectorsAreFew}
use Rattle.bb_net.specs.Equivalence.{IsVector}
use Rattle.bb_net.specs.Completions.{table_bits}
use Rattle.bb_net.specs.Kinds.{representatives, per_box}
use Rattle.bb_net.specs.Netlists.{Netlist}
use Rattle.bb_net.specs.Values.{FitBoxes}
use Rattle.bb_expand.specs.ClauseCounts.{clause_total}
use Rattle.bb_expand.specs.declared.samples.SampleSet.{SampleSet}
use Rattle.bb_expand.specs.Expansions.{expansion}
use Rattle.bb_expand.specs.GivenUp.{FillTooLarge, NeedsMoreClauses}
use Rattle.bb_expand.specs.Inside.Failures.{AreDistinctWith}
use Rattle.bb_expand.specs.Inside.Sampling.{IsSampleSet, distinguishing_vectors, sample_vectors}
use Rattle.bb_expand.specs.Inside.ReadTables.{tables_in}
use Rattle.bb_expand.proofs.DistinguishingAmong.{all_among}
use Rattle.bb_expand.proofs.TableBits.{read_fit}

distinguishing_none : (spec imp : Netlist) (kinds : List ℕ) → AreDistinguishing spec imp kinds []
distinguishing_none spec imp kinds = record {
  whole = All-nil (IsVector imp);
  each = λ before after x is. absurd (let long = ap length is in omega (arith, long, length-append before (x ∷ after)));
}

pub no_samples : (spec imp : Netlist) (kinds : List ℕ) (budget : ℕ) (samples : SampleSet) → samples.vectors.items ≡ [] → samples.distinguishing.items ≡ [] → samples.solver ≡ expansion spec imp kinds [] → IsSampleSet spec imp kinds budget samples
no_samples spec imp kinds budget samples none no_distinguishing is =
    let empty : sample_vectors samples ≡ [] = ap (map vec_items) none in
    let bare : distinguishing_vectors samples ≡ [] = ap (map vec_items) no_distinguishing in
    record {
      each = subst (AreDistinctWith (IsVector imp)) (sym empty) (record { each = All-nil (IsVector imp); distinct = λ i j d less within. absurd (omega (arith, within)) });
      distinguishing = subst (AreDistinguishing spec imp kinds) (sym bare) (distinguishing_none spec imp kinds);
      among = subst (All (Contains (sample_vectors samples))) (sym bare) (All-nil (Contains (sample_vectors samples)));
      expands = subst (λ vectors. samples.solver ≡ expansion spec imp kinds vectors) (sym empty) is;
      within = rw is (omega arith);
    }

-- tables that are too large to fill the boxes are not looked through
pub large_tables : (spec imp : Netlist) (kinds : List ℕ) (budget : ℕ) → budget < clause_total imp → 2 ^ 20 < table_bits imp.boxes → NeedsMoreClauses spec imp kinds budget
large_tables spec imp kinds budget many large =
    let boxes = representatives kinds imp.boxes in
    let zeros : List Bool = replicate (table_bits boxes) false in
    let fit = read_fit boxes zeros (omega (arith, length-replicate (table_bits boxes) false)) in
    record { many = many; samples = []; distinguishing = distinguishing_none spec imp kinds; cause = inr (tables_in boxes zeros, fit, All-nil (AreEquivalentAt spec imp (per_box kinds (tables_in boxes zeros))), inl large) }

-- nor are those whose filled netlist has too large diagrams
pub large_fill : (spec imp : Netlist) (kinds : List ℕ) (budget : ℕ) (samples : SampleSet) (tables : List TableBits) → IsSampleSet spec imp kinds budget samples → FitBoxes tables (representatives kinds imp.boxes) → All (AreEquivalentAt spec imp (per_box kinds tables)) (sample_vectors samples)
    → budget < clause_total imp → FillTooLarge spec imp (per_box kinds tables) → NeedsMoreClauses spec imp kinds budget
large_fill spec imp kinds budget samples tables is fit agree many large = record {
  many = many;
  samples = distinguishing_vectors samples;
  distinguishing = is.distinguishing;
  cause = inr (tables, fit, all_among (AreEquivalentAt spec imp (per_box kinds tables)) (distinguishing_vectors samples) (sample_vectors samples) agree is.among, inr large);
}

-- a turn after which more vectors are distinguishing brings the search nearer to its end
pub fewer_left : VectorsAreFew → DistinguishingVectorsAreDistinct → (spec imp : Netlist) (kinds : List ℕ) (budget : ℕ) (old new : SampleSet) → IsSampleSet spec imp kinds budget new → length (distinguishing_vectors old) < length (distinguishing_vectors new)
    → 2 ^ imp.inputs - length (distinguishing_vectors new) < 2 ^ imp.inputs - length (distinguishing_vectors old)
fewer_left few apart spec imp kinds budget old new is more =
    let most = few imp.inputs (distinguishing_vectors new) is.distinguishing.whole (apart spec imp kinds (distinguishing_vectors new) is.distinguishing) in
    omega (arith, most, more)
