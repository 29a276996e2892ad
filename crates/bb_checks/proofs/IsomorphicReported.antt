-- What a check may say of a pair it may say of one that is alike, unless it refutes the clauses of the one.
use Rattle.std.proofs.Common.{◌≡◌, ◌<◌, ◌^◌, ◌⊎◌, inl, inr, refl, subst}
use Rattle.std.specs.Prelude.{List}
use Rattle.bb_bits.specs.Truth.{Truth}
use Rattle.bb_net.specs.Completions.{HaveSmallTables}
use Rattle.bb_net.specs.Conditions.{MayBeRightAmong, IsFirstHit, IsKnownWrong, MayBeRight, IsAlwaysWrong, AlwaysSomeWrongAt}
use Rattle.bb_net.specs.Kinds.{NoSharedTablesMakeEquivalent, representatives}
use Rattle.bb_net.specs.Pairs.{NetPair}
use Rattle.bb_tern.specs.Patterns.{patterns}
use Rattle.bb_sym.specs.declared.found.Found.{Found}
use Rattle.bb_sym.specs.Finds.{IsSometimesRight}
use Rattle.bb_expand.specs.declared.expanded.Expanded.TheVariants as expanded
use Rattle.bb_input.specs.declared.InputAnswer.{InputAnswer}
use Rattle.bb_input.specs.declared.InputAnswer.TheVariants as choices
use Rattle.bb_nest.specs.Answers.{IsInputAnswer}
use Rattle.bb_checks.specs.declared.line.Evidence.TheVariants.{Refutation}
use Rattle.bb_checks.specs.declared.line.Proof.{Proof}
use Rattle.bb_checks.specs.declared.line.CheckResult.{CheckResult}
use Rattle.bb_checks.specs.declared.line.CheckResult.TheVariants.{Error}
use Rattle.bb_options.specs.declared.options.Options.{Options}
use Rattle.bb_options.specs.declared.rung.Rung.{Rung}
use Rattle.bb_options.specs.declared.rung.Rung.TheVariants.{Ternary, Symbolic, Local, Output, Input, Expand}
use Rattle.bb_checks.specs.Laws.IsomorphicPairs.{IsomorphicPairsAreReported, IsNoRefutation}
use Rattle.bb_checks.specs.Rungs.{IsFirstOf, IsLeastOf, MayReport, MayHit, Hit, NoHit, MayFind, TooMany, Finding, Without, MayChoose, ChoicesTooMany, Answered, TooWide, ClausesTooMany, Decided}
use Rattle.bb_checks.proofs.IsomorphicConditions.{right_among_isomorphic, right_everywhere_isomorphic, each_right_isomorphic, all_right_isomorphic, choices_isomorphic, may_be_right}
use Rattle.bb_checks.specs.Inside.IsomorphismLaws.{PairLaws}
use Rattle.bb_checks.proofs.IsomorphicRows.{nested_tables_isomorphic}
use Rattle.bb_checks.proofs.IsomorphicShared.{Share, bits_isomorphic, small_isomorphic, finishable_isomorphic, shared_completion_isomorphic, share, share_back}
use Rattle.bb_checks.proofs.IsomorphicTables.{AreAmong, too_many_among}
use Rattle.bb_checks.proofs.IsomorphicWitnesses.{known_wrong_isomorphic, always_wrong_isomorphic, sometimes_right_isomorphic, has_wrong_isomorphic, first_hit_isomorphic, least_vector_isomorphic, first_found_isomorphic}

-- the clauses of a pair are refuted
pub record IsRefuted (p : NetPair) (o : Options) (r : Rung) (check_result : CheckResult) : Type 0 where
  pub at : r ≡ Expand
  pub small : HaveSmallTables (representatives p.kinds p.imp.boxes)
  pub proof : Proof
  pub same : check_result ≡ Error (Refutation proof)
  pub none : NoSharedTablesMakeEquivalent p.spec p.imp p.kinds

module _ (p q : NetPair) (to : Share p q) (from : Share q p) (o : Options) where
  hits_reported : (check_result : CheckResult) → MayHit p o check_result → MayHit q o check_result
  hits_reported check_result (Hit found j is hit same) =
      Hit found j is
      (subst (λ n. IsFirstHit q.spec q.imp (patterns n o.patterns o.seed) found.input.items j) to.nets.imp.inputs
      (first_hit_isomorphic p.spec p.imp q.spec q.imp to.nets to.known (patterns p.imp.inputs o.patterns o.seed) found.input.items j hit)) same
  hits_reported check_result (NoHit right same) =
      NoHit
      (subst (λ n. MayBeRightAmong q.spec q.imp (patterns n o.patterns o.seed)) to.nets.imp.inputs
      (right_among_isomorphic p.spec p.imp q.spec q.imp to.nets to.known (patterns p.imp.inputs o.patterns o.seed) right)) same

  finds_reported : (fs gs : List Truth) → AreAmong fs gs → AreAmong gs fs → (F G : Found → Type 0) → ((found : Found) → F found → G found) → (none clear : Type 0) → (none → clear)
      → (check_result : CheckResult) → MayFind o fs F none check_result → MayFind o gs G clear check_result
  finds_reported fs gs there back F G find none clear lack check_result (TooMany many same) = TooMany (too_many_among o fs gs there many) same
  finds_reported fs gs there back F G find none clear lack check_result (Finding few found is same) = Finding (λ many. few (too_many_among o gs fs back many)) found (find found is) same
  finds_reported fs gs there back F G find none clear lack check_result (Without few is same) = Without (λ many. few (too_many_among o gs fs back many)) (lack is) same

  known_reported : (found : Found) → IsFirstOf p (IsKnownWrong p.spec p.imp) (MayBeRight p.spec p.imp) found → IsFirstOf q (IsKnownWrong q.spec q.imp) (MayBeRight q.spec q.imp) found
  known_reported found (j, is, first) = (
    j,
    is,
    first_found_isomorphic p.spec p.imp q.spec q.imp to.nets from.nets _ _ _ _
        (λ y. known_wrong_isomorphic p.spec p.imp q.spec q.imp to.nets to.known y) (λ y. known_wrong_isomorphic q.spec q.imp p.spec p.imp from.nets from.known y)
        (λ y. may_be_right p.spec p.imp q.spec q.imp to.nets to.known y) found.input.items j first,
  )

  always_reported : (found : Found) → IsFirstOf p (IsAlwaysWrong p.spec p.imp) (IsSometimesRight p.spec p.imp) found → IsFirstOf q (IsAlwaysWrong q.spec q.imp) (IsSometimesRight q.spec q.imp) found
  always_reported found (j, is, first) = (
    j,
    is,
    first_found_isomorphic p.spec p.imp q.spec q.imp to.nets from.nets _ _ _ _
        (λ y. always_wrong_isomorphic p.spec p.imp q.spec q.imp to.nets y) (λ y. always_wrong_isomorphic q.spec q.imp p.spec p.imp from.nets y)
        (λ y. sometimes_right_isomorphic p.spec p.imp q.spec q.imp to.nets y) found.input.items j first,
  )

  least_reported : (found : Found) → IsLeastOf p found → IsLeastOf q found
  least_reported found (is, least) = (
    is,
    least_vector_isomorphic p.spec p.imp q.spec q.imp to.nets from.nets (AlwaysSomeWrongAt p.spec p.imp) (AlwaysSomeWrongAt q.spec q.imp)
        (has_wrong_isomorphic p.spec p.imp q.spec q.imp to.nets) (has_wrong_isomorphic q.spec q.imp p.spec p.imp from.nets) found.input.items least,
  )

  answers_reported : (answer : InputAnswer) → IsInputAnswer p.spec p.imp p.kinds answer → IsInputAnswer q.spec q.imp q.kinds answer
  answers_reported choices.Error none = λ suit. none (choices_isomorphic q.spec q.imp p.spec p.imp from.nets suit)
  answers_reported choices.Clear (suit, none) = (choices_isomorphic p.spec p.imp q.spec q.imp to.nets suit, λ finishable. none (finishable_isomorphic q p from finishable))
  answers_reported (choices.Repair tables) (finishable, least) = (finishable_isomorphic p q to finishable, nested_tables_isomorphic p.spec p.imp q.spec q.imp to.nets from.nets to.pins tables.items least)

  chosen_reported : (check_result : CheckResult) → MayChoose p o check_result → MayChoose q o check_result
  chosen_reported check_result (ChoicesTooMany many same) = ChoicesTooMany (too_many_among o _ _ to.input many) same
  chosen_reported check_result (Answered few answer is same) = Answered (λ many. few (too_many_among o _ _ from.input many)) answer (answers_reported answer is) same

  pub reported_or_refuted : (r : Rung) (check_result : CheckResult) → MayReport p o r check_result → MayReport q o r check_result ⊎ IsRefuted p o r check_result
  reported_or_refuted Ternary check_result reports = inl (hits_reported check_result reports)
  reported_or_refuted Symbolic check_result reports = inl (finds_reported _ _ to.symbolic from.symbolic _ _ known_reported _ _ (right_everywhere_isomorphic p.spec p.imp q.spec q.imp to.nets to.known) check_result reports)
  reported_or_refuted Local check_result reports = inl (finds_reported _ _ to.local from.local _ _ always_reported _ _ (each_right_isomorphic p.spec p.imp q.spec q.imp to.nets) check_result reports)
  reported_or_refuted Output check_result reports = inl (finds_reported _ _ to.output from.output _ _ least_reported _ _ (all_right_isomorphic p.spec p.imp q.spec q.imp to.nets) check_result reports)
  reported_or_refuted Input check_result reports = inl (chosen_reported check_result reports)
  reported_or_refuted Expand check_result (TooWide wide same) = inl (TooWide (subst (λ n. 2 ^ 24 < n) (bits_isomorphic p q to) wide) same)
  reported_or_refuted Expand check_result (ClausesTooMany small needs same) = inl (ClausesTooMany (small_isomorphic p q to small) (to.needs o.clauses needs) same)
  reported_or_refuted Expand check_result (Decided small (expanded.Error vectors cnf refutation) is same) =
      inr (record { at = refl; small = small; proof = record { vectors = vectors; cnf = cnf; refutation = refutation }; same = same; none = is.none })
  reported_or_refuted Expand check_result (Decided small (expanded.Repair tables) is same) =
      inl (Decided (small_isomorphic p q to small) (expanded.Repair tables) (shared_completion_isomorphic p q to tables.items is) same)

pub isomorphic_pairs_are_reported : PairLaws → IsomorphicPairsAreReported
isomorphic_pairs_are_reported laws p q o r check_result one other alike plain reports = elim (reported_or_refuted p q (share laws p q one other alike) (share_back laws p q one other alike) o r check_result reports) [
  | inl reported ↦ reported
  | inr refuted ↦ absurd (subst IsNoRefutation refuted.same plain)
]
