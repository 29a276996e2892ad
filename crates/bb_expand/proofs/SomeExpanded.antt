-- Each pair has an answer: tables that agree, or a refutation, where one is short enough; or the check needs more clauses.
use Rattle.std.proofs.Common.{◌≡◌, ◌≢◌, ◌⊎◌, ◌<◌, ◌≤◌, ◌+◌, ◌*◌, ◌^◌, ◌∙◌, ℕ, zero, suc, Bool, false, List, [], ◌∷◌, ◌++◌, All, AllPairs, Contains, length, map, take, refl, sym, ap, subst, inl, inr, arith, Global}
use Rattle.std.specs.Prelude.{Vec, vec_items, sum_by}
use Rattle.std.specs.List.{range_with_len}
use Rattle.std.proofs.lemmas.Bool.{cases_lt}
use Rattle.std.proofs.lemmas.List.Elements.{All-head, All-nil, All-tail}
use Rattle.std.proofs.lemmas.List.Sums.{sum_by-cons}
use Rattle.std.proofs.lemmas.List.{length-append, length-take}
use Rattle.bb_bits.specs.Numbers.{bits_of}
use Rattle.bb_bits.specs.Tables.{TableBits}
use Rattle.bb_cnf.specs.Chains.{IsRefutation}
use Rattle.bb_cnf.specs.Clauses.{Formula}
use Rattle.bb_cnf.specs.Laws.{ModelLaws, RefutationsExist, SoundnessLaws}
use Rattle.bb_cnf.specs.Truth.{HaveNoModel, assignment_of}
use Rattle.bb_cdcl.specs.Inside.Outcomes.{HasModel}
use Rattle.bb_subst.specs.Distinguishing.{AreEquivalentAt, AreDistinguishing, FailAt}
use Rattle.bb_subst.specs.Laws.DistinguishingLaws.{DistinguishingVectorsAreDistinct, VectorsAreFew}
use Rattle.bb_lemmas.proofs.Members.{from_map}
use Rattle.bb_lemmas.proofs.Ranges.{length-run}
use Rattle.bb_lemmas.proofs.Vectors.{vec_of}
use Rattle.bb_net.specs.declared.cell.Cell.{Cell}
use Rattle.bb_net.specs.declared.cell.Cell.TheVariants.{Const, Input}
use Rattle.bb_net.specs.Equivalence.{IsVector, TablesMakeEquivalent}
use Rattle.bb_net.specs.Kinds.{FitKinds, representatives, per_box}
use Rattle.bb_net.specs.Netlists.{Netlist, IsNetlist, first_cells}
use Rattle.bb_net.specs.Values.{FitBoxes}
use Rattle.bb_expand.specs.declared.expanded.Expanded.{Expanded}
use Rattle.bb_expand.specs.declared.expanded.Expanded.TheVariants as answers
use Rattle.bb_expand.specs.ClauseCounts.{cell_clause_count, clauses_per_vector, clause_total}
use Rattle.bb_expand.specs.Expanded.{IsExpanded}
use Rattle.bb_expand.specs.GivenUp.{NeedsMoreClauses}
use Rattle.bb_expand.specs.Expansions.{expansion, all_vectors}
use Rattle.bb_expand.specs.Laws.{AllVectorsDecide, AnswersExist, ClausesAreCounted, ExpansionsAreRefuted, HaveShortRefutations, ModelsAreTables, RefutationsShowVectors, SomeTablesSuit, VariablesAreWithin, VectorsAreAll}
use Rattle.bb_expand.specs.Inside.LawsBelow.{Numbering, Sharing}
use Rattle.bb_expand.proofs.AllVectors.{agree_from_all}
use Rattle.bb_expand.proofs.SampleVectors.{distinguishing_push}
use Rattle.bb_expand.proofs.SharedBoxes.{few_shown}
use Rattle.bb_expand.proofs.SomeModels.{agree_or_fail, all_or_one, model_or_none}

pub expansions_are_refuted : RefutationsExist → ModelLaws → AllVectorsDecide → VariablesAreWithin → ExpansionsAreRefuted
expansions_are_refuted exist models decide within spec imp kinds kept fits none =
    let formula = expansion spec imp kinds (all_vectors imp.inputs) in
    let inside = within spec imp kinds kept fits (all_vectors imp.inputs) in
    exist formula inside (λ v satisfied. (let some = (decide spec imp kinds kept fits).0 (models.has_list v formula inside satisfied) in none some.0 some.1 some.2))

-- tables that are right at all vectors of a refuted expansion would give a model
pub refutations_show_vectors : SoundnessLaws → ModelsAreTables → RefutationsShowVectors
refutations_show_vectors sound suit spec imp kinds budget vectors cnf steps kept fits error tables fit =
    let all = per_box kinds tables in
    elim (all_or_one (AreEquivalentAt spec imp all) (FailAt spec imp all) (agree_or_fail spec imp all) vectors) [
      | inl agree ↦
          let (model, holds) = (suit spec imp kinds kept fits vectors).1 (tables, fit, agree) in
          let refuted = subst (λ (f : Formula). IsRefutation f.clauses steps) error.expands error.refuted in
          absurd (sound.refutation (expansion spec imp kinds vectors).clauses steps refuted (assignment_of model) holds.1)
      | inr one ↦ one
    ]

-- a netlist has a cell, and so a vector a clause
some_clause : (imp : Netlist) → IsNetlist imp → 1 ≤ clauses_per_vector imp
some_clause imp kept = by imp.cells kept.prefix
  where
    by : (cells : List Cell) → take (imp.inputs + 2) cells ≡ first_cells imp.inputs → 1 ≤ sum_by (cell_clause_count imp.boxes) cells + length imp.outs
    by [] prefix = absurd (let long = ap length prefix in omega (arith, long, length-take {A = Cell} (imp.inputs + 2) []))
    by (c ∷ cells) prefix = omega (arith, sum_by-cons (cell_clause_count imp.boxes) c cells, first (imp.inputs + 2) (omega arith) prefix)
      where
        first : (n : ℕ) → 1 ≤ n → take n (c ∷ cells) ≡ first_cells imp.inputs → 1 ≤ cell_clause_count imp.boxes c
        first zero some e = absurd (omega (arith, some))
        first (suc n) some e = let is : c ≡ Const false = head c (Const false) _ _ e in subst (λ d. 1 ≤ cell_clause_count imp.boxes d) (sym is) (omega arith)
          where
            head : (x y : Cell) (xs ys : List Cell) → x ∷ xs ≡ y ∷ ys → x ≡ y
            head x y xs ys e = cc e

-- vectors as they are in memory
in_memory : (imp : Netlist) → imp.inputs < 2 ^ 63 → (xs : List (List Bool)) → All (IsVector imp) xs → (vectors : List (Vec Bool Global)) × (map vec_items vectors ≡ xs) × (length vectors ≡ length xs)
in_memory imp few [] whole = ([], refl, refl)
in_memory imp few (x ∷ xs) whole =
    let long : length x ≡ imp.inputs = All-head (IsVector imp) x xs whole in
    let rest = in_memory imp few xs (All-tail (IsVector imp) x xs whole) in
    (vec_of x (omega (arith, few, long)) ∷ rest.0, ap (λ l. x ∷ l) rest.1, ap suc rest.2)

none_distinguishing : (spec imp : Netlist) (kinds : List ℕ) → AreDistinguishing spec imp kinds []
none_distinguishing spec imp kinds = record {
  whole = All-nil (IsVector imp);
  each = λ before after x e. absurd (let long = ap length e in omega (arith, long, length-append before (x ∷ after)));
}

-- the laws on which this rests
pub record LawsOfAnswers : Type 0 where
  pub numbering : Numbering
  pub sharing : Sharing
  pub models : ModelLaws
  pub tables : ModelsAreTables
  pub counted : ClausesAreCounted
  pub within : VariablesAreWithin
  pub each : VectorsAreAll
  pub distinct : DistinguishingVectorsAreDistinct
  pub few : VectorsAreFew

module _ (laws : LawsOfAnswers) (spec imp : Netlist) (kinds : List ℕ) (budget : ℕ) (kept : IsNetlist imp) (fits : FitKinds kinds imp.boxes) (small : budget < 2 ^ 63) (short : HaveShortRefutations spec imp kinds budget) where
  abbrev clauses_over : List (List Bool) → ℕ
  clauses_over samples = length (expansion spec imp kinds samples).clauses

  abbrev Answer : Type 0
  Answer = ((answer : Expanded) × IsExpanded spec imp kinds budget answer) ⊎ NeedsMoreClauses spec imp kinds budget

  few_inputs : imp.inputs < 2 ^ 63
  few_inputs =
      let long = ap length kept.prefix in
      omega (arith, kept.cells_fit, length-take (imp.inputs + 2) imp.cells, long, length-run Input 0 imp.inputs)

  product_grows : (n m k : ℕ) → n ≤ m → n * k ≤ m * k
  product_grows n m zero h = omega arith
  product_grows n m (suc k) h = let rest = product_grows n m k h in grind (arith, rest, h)

  product_is_as_large : (n k : ℕ) → 1 ≤ k → n ≤ n * k
  product_is_as_large n zero some = absurd (omega (arith, some))
  product_is_as_large n (suc k) some = grind arith

  distinguishing_are_few : (samples : List (List Bool)) → AreDistinguishing spec imp kinds samples → length samples ≤ 2 ^ imp.inputs
  distinguishing_are_few samples distinguishing = laws.few imp.inputs samples distinguishing.whole (laws.distinct spec imp kinds samples distinguishing)

  -- more clauses over distinguishing vectors than the budget are more over all vectors
  many : (samples : List (List Bool)) → AreDistinguishing spec imp kinds samples → budget < clauses_over samples → budget < clause_total imp
  many samples distinguishing over =
      let count = laws.counted spec imp kinds samples in
      omega (arith, over, count, product_grows (length samples) (2 ^ imp.inputs) (clauses_per_vector imp) (distinguishing_are_few samples distinguishing))

  refuted : (samples : List (List Bool)) → AreDistinguishing spec imp kinds samples → clauses_over samples ≤ budget → HaveNoModel (expansion spec imp kinds samples).clauses → Answer
  refuted samples distinguishing within none =
      let s = short samples distinguishing within none in
      let vectors = in_memory imp few_inputs samples distinguishing.whole in
      let count = laws.counted spec imp kinds samples in
      let few : length vectors.0 < 2 ^ 63 = omega (arith, vectors.2, count, within, small, product_is_as_large (length samples) (clauses_per_vector imp) (some_clause imp kept)) in
      inl (
        answers.Error (vec_of vectors.0 few) (expansion spec imp kinds samples) (record { steps = vec_of s.0 s.1 }),
        record {
          whole = subst (All (IsVector imp)) (sym vectors.1) distinguishing.whole;
          distinct = subst (AllPairs ◌≢◌) (sym vectors.1) (laws.distinct spec imp kinds samples distinguishing);
          expands = ap (expansion spec imp kinds) (sym vectors.1);
          within = within;
          refuted = s.2;
          none = λ tables fit agree.
              let model = (laws.tables spec imp kinds kept fits samples).1 (tables, fit, All-map_of samples distinguishing.whole agree) in
              none (assignment_of model.0) model.1.1;
        },
      )
    where
      All-map_of : {P Q : List Bool → Type 0} (xs : List (List Bool)) → All P xs → ((x : List Bool) → P x → Q x) → All Q xs
      All-map_of xs all f k d h = f _ (all k d h)

  found : (tables : List TableBits) → FitBoxes tables (representatives kinds imp.boxes) → TablesMakeEquivalent spec imp (per_box kinds tables) → Answer
  found tables fit agree =
      let few : length tables < 2 ^ 63 = (let count = fit.count in omega (arith, count, few_shown laws.sharing kinds imp.boxes fits, kept.boxes_fit)) in
      inl (answers.Repair (vec_of tables few), record { fit = fit; agree = agree })

  -- what may come after distinguishing vectors, when n more may come
  abbrev Next : ℕ → Type 0
  Next n = (samples : List (List Bool)) → AreDistinguishing spec imp kinds samples → 2 ^ imp.inputs < length samples + n → clauses_over samples ≤ budget → Answer

  -- one vector more is held, or the clauses are too many
  hold : (n : ℕ) → Next n → (samples : List (List Bool)) → AreDistinguishing spec imp kinds samples → 2 ^ imp.inputs < length samples + suc n
      → (x : List Bool) (tables : List TableBits) → IsVector imp x → FitBoxes tables (representatives kinds imp.boxes) → All (AreEquivalentAt spec imp (per_box kinds tables)) samples → FailAt spec imp (per_box kinds tables) x → Answer
  hold n next samples distinguishing left x tables is fit agree fail = by_budget (cases_lt budget (clauses_over (samples ++ x ∷ [])))
    where
      afterwards : AreDistinguishing spec imp kinds (samples ++ x ∷ [])
      afterwards = distinguishing_push spec imp kinds tables fit samples agree distinguishing x (is, fail)

      by_budget : (budget < clauses_over (samples ++ x ∷ [])) ⊎ (clauses_over (samples ++ x ∷ []) ≤ budget) → Answer
      by_budget (inl over) = inr (record { many = many (samples ++ x ∷ []) afterwards over; samples = samples ++ x ∷ []; distinguishing = afterwards; cause = inl over })
      by_budget (inr fits) = next (samples ++ x ∷ []) afterwards (let long = length-append samples (x ∷ []) in omega (arith, left, long)) fits

  -- tables that are right at all samples agree everywhere, or are wrong at a further one
  try : (n : ℕ) → Next n → (samples : List (List Bool)) → AreDistinguishing spec imp kinds samples → 2 ^ imp.inputs < length samples + suc n → SomeTablesSuit spec imp kinds samples → Answer
  try n next samples distinguishing left some = from (all_or_one (AreEquivalentAt spec imp (per_box kinds some.0)) (FailAt spec imp (per_box kinds some.0)) (agree_or_fail spec imp (per_box kinds some.0)) (all_vectors imp.inputs))
    where
      from : All (AreEquivalentAt spec imp (per_box kinds some.0)) (all_vectors imp.inputs) ⊎ ((x : List Bool) × Contains (all_vectors imp.inputs) x × FailAt spec imp (per_box kinds some.0) x) → Answer
      from (inl right) = found some.0 some.1 (agree_from_all laws.numbering spec imp (per_box kinds some.0) right)
      from (inr one) =
          let number = from_map (bits_of imp.inputs) (range_with_len 0 (2 ^ imp.inputs)) one.0 one.1 in
          hold n next samples distinguishing left one.0 some.0 (sym (ap length number.2) ∙ laws.numbering.width imp.inputs number.0) some.1 some.2 one.2

  iteration : (n : ℕ) → Next n → (samples : List (List Bool)) → AreDistinguishing spec imp kinds samples → 2 ^ imp.inputs < length samples + suc n → clauses_over samples ≤ budget
      → HasModel (expansion spec imp kinds samples) ⊎ HaveNoModel (expansion spec imp kinds samples).clauses → Answer
  iteration n next samples distinguishing left within (inl model) = try n next samples distinguishing left ((laws.tables spec imp kinds kept fits samples).0 model)
  iteration n next samples distinguishing left within (inr none) = refuted samples distinguishing within none

  -- by the number of vectors that may still come
  answer : (n : ℕ) → Next n
  answer zero samples distinguishing left within = absurd (omega (arith, left, distinguishing_are_few samples distinguishing))
  answer (suc n) samples distinguishing left within = iteration n (answer n) samples distinguishing left within (model_or_none laws.models laws.each (expansion spec imp kinds samples) (laws.within spec imp kinds kept fits samples))

pub answers_exist : LawsOfAnswers → AnswersExist
answers_exist laws spec imp kinds budget kept fits small short =
    let none = laws.counted spec imp kinds [] in
    answer laws spec imp kinds budget kept fits small short (2 ^ imp.inputs + 1) [] (none_distinguishing spec imp kinds) (omega arith) (omega (arith, none))
