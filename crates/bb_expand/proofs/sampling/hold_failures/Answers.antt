use Rattle.std.proofs.Common.{rules, [], ◌∷◌, ◌++◌, ◌+◌, ◌-◌, ◌<◌, length, map, take, drop, ap, sym, subst, ◌∙◌}
use Rattle.std.specs.Prelude.{vec_items, IsErrOf}
use Rattle.bb_subst.specs.Distinguishing.{AreEquivalentAt, AreDistinguishing}
use Rattle.bb_net.specs.Equivalence.{IsVector}
use Rattle.bb_net.specs.Kinds.{per_box}
use Rattle.bb_expand.specs.ClauseCounts.{clauses_per_vector}
use Rattle.bb_expand.specs.declared.expanded.ExpandFault.TheVariants as fault
use Rattle.bb_expand.specs.Expansions.{expansion}
use Rattle.bb_expand.specs.Inside.Failures.{AreDistinctWith}
use Rattle.bb_expand.specs.Inside.Sampling.{distinguishing_vectors, sample_vectors}
use Rattle.bb_expand.proofs.DistinguishingAmong.{all_among}
use Rattle.bb_expand.proofs.SampleVectors.{first_beside, first_fails, first_has_no_room, distinguishing_push, others_beside}
use Rattle.bb_expand.proofs.sampling.hold_failures.Goals as goal

pub add_distinguishing-requires-clause-each : goal.add_distinguishing-requires-clause-each
add_distinguishing-requires-clause-each c =
    let spec = c.args.pair.now.spec in
    let imp = c.args.pair.now.imp in
    let kinds = c.args.pair.now.kinds in
    let tables = c.args.tables.now in
    let samples = sample_vectors c.in_ok-samples.samples in
    let agree = all_among (AreEquivalentAt spec imp (per_box kinds tables)) samples (sample_vectors c.args.samples) c.requires.agree c.in_ok-samples.ensures.among in
    subst (λ x. AreDistinctWith (IsVector imp) (samples ++ x ∷ [])) (sym (c.deref.ensures.value ∙ ap vec_items c.index-failures-0.is))
    (first_beside spec imp kinds tables c.requires.fit samples agree c.in_ok-samples.ensures.samples.each c.args.failures.now c.requires.some c.requires.failures c.index-failures-0.result)

pub add_distinguishing-requires-clause-distinguishing : goal.add_distinguishing-requires-clause-distinguishing
add_distinguishing-requires-clause-distinguishing c =
    let spec = c.args.pair.now.spec in
    let imp = c.args.pair.now.imp in
    let kinds = c.args.pair.now.kinds in
    let tables = c.args.tables.now in
    let samples = sample_vectors c.in_ok-samples.samples in
    let distinguishing = distinguishing_vectors c.in_ok-samples.samples in
    let agree = all_among (AreEquivalentAt spec imp (per_box kinds tables)) samples (sample_vectors c.args.samples) c.requires.agree c.in_ok-samples.ensures.among in
    let is = c.in_ok-samples.ensures.samples in
    subst (λ x. AreDistinguishing spec imp kinds (distinguishing ++ x ∷ [])) (sym (c.deref.ensures.value ∙ ap vec_items c.index-failures-0.is))
    (distinguishing_push spec imp kinds tables c.requires.fit distinguishing (all_among (AreEquivalentAt spec imp (per_box kinds tables)) distinguishing samples agree is.among) is.distinguishing _
    (first_fails spec imp kinds tables c.requires.fit samples agree is.each c.args.failures.now c.requires.some c.requires.failures c.index-failures-0.result))

pub hold_others-requires-clause-each : goal.hold_others-requires-clause-each
hold_others-requires-clause-each c =
    let spec = c.args.pair.now.spec in
    let imp = c.args.pair.now.imp in
    let kinds = c.args.pair.now.kinds in
    let tables = c.args.tables.now in
    let samples = sample_vectors c.in_ok-samples.samples in
    let others = length c.args.failures.now - 1 in
    let agree = all_among (AreEquivalentAt spec imp (per_box kinds tables)) samples (sample_vectors c.args.samples) c.requires.agree c.in_ok-samples.ensures.among in
    subst (λ l. AreDistinctWith (IsVector imp) (l ++ map vec_items (take others (drop 1 c.args.failures.now)))) (sym (c.in_ok-samples-2.ensures.vectors ∙ ap (λ x. samples ++ x ∷ []) (c.deref.ensures.value ∙ ap vec_items c.index-failures-0.is)))
    (others_beside spec imp kinds tables c.requires.fit samples agree c.in_ok-samples.ensures.samples.each c.args.failures.now c.requires.some c.requires.failures c.index-failures-0.result others)

pub returns-in_err-samples-clause-clauses : goal.returns-in_err-samples-clause-clauses
returns-in_err-samples-clause-clauses c e =
    let spec = c.args.pair.now.spec in
    let imp = c.args.pair.now.imp in
    let kinds = c.args.pair.now.kinds in
    let reported : IsErrOf c.from_residual.result fault.Clauses → c.args.clauses < length (expansion spec imp kinds (distinguishing_vectors c.args.samples)).clauses + clauses_per_vector imp = search rules in
    first_has_no_room c.vectors_are_few.ensures c.distinguishing_vectors_are_distinct.ensures c.expansions_and_tables.ensures.counted spec imp kinds c.args.clauses c.args.tables.now c.requires.fit c.args.samples c.requires.samples
    c.requires.agree c.args.failures.now c.requires.some c.requires.failures (reported e)
