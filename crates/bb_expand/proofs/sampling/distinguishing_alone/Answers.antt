use Rattle.std.proofs.Common.{◌≡◌, [], ◌∷◌, ◌++◌, suc, length, map, drop, All, ap, sym, subst, refl, ◌∙◌, arith}
use Rattle.std.specs.Prelude.{vec_items, Contains}
use Rattle.std.proofs.lemmas.List.{take_all}
use Rattle.bb_cnf.specs.Clauses.{Formula}
use Rattle.bb_net.specs.Equivalence.{IsVector}
use Rattle.bb_expand.specs.Inside.Failures.{AreDistinctWith}
use Rattle.bb_expand.specs.Inside.Sampling.{sample_vectors}
use Rattle.bb_expand.proofs.DistinguishingAmong.{all_in_itself, clauses_of_prefix, with_distinguishing}
use Rattle.bb_expand.proofs.SampleVectors.{clauses_of_one_more, distinct_left, taken_next, up_to_next}
use Rattle.bb_expand.proofs.IterationLemmas.{no_samples}
use Rattle.bb_expand.proofs.sampling.distinguishing_alone.Goals as goal

pub loop-x-init : goal.loop-x-init
loop-x-init c = record {
  vectors = ap (map vec_items) c.in_ok-alone.ensures.none;
  distinguishing = c.in_ok-alone.ensures.distinguishing;
  samples = no_samples c.args.pair.now.spec c.args.pair.now.imp c.args.pair.now.kinds c.args.clauses c.in_ok-alone.alone c.in_ok-alone.ensures.none c.in_ok-alone.ensures.distinguishing c.in_ok-alone.ensures.cnf;
}

pub hold-requires-clause-room : goal.hold-requires-clause-room
hold-requires-clause-room c =
    let spec = c.args.pair.now.spec in
    let imp = c.args.pair.now.imp in
    let kinds = c.args.pair.now.kinds in
    let counted = c.expansions_and_tables.ensures.counted in
    let samples = sample_vectors c.loop-x.alone in
    let prefix = up_to_next vec_items [] samples c.deref-x-items.result.now c.loop-x.x-index c.x-item.result c.deref.result.now c.loop-x-test.true c.x-item.is c.deref.ensures.value c.loop-x.invariant.vectors in
    omega (
      arith,
      c.requires.within,
      clauses_of_prefix counted spec imp kinds (map vec_items c.args.distinguishing.items) (samples ++ c.deref.result.now ∷ []) (map vec_items (drop (suc c.loop-x.x-index) c.deref-x-items.result.now))
          (ap (map vec_items) (sym c.deref-x-items.ensures.value) ∙ prefix),
      clauses_of_one_more counted spec imp kinds samples c.deref.result.now,
      ap (λ (f : Formula). length f.clauses) c.loop-x.invariant.samples.expands,
    )

pub loop-x-preserved : goal.loop-x-preserved
loop-x-preserved c = record {
  vectors = c.in_ok-alone-2.ensures.vectors
      ∙ taken_next vec_items [] (sample_vectors c.loop-x.alone) c.deref-x-items.result.now c.loop-x.x-index c.x-item.result c.deref.result.now c.loop-x-test.true c.x-item.is c.deref.ensures.value c.loop-x.invariant.vectors;
  distinguishing = c.in_ok-alone-2.ensures.distinguishing ∙ c.loop-x.invariant.distinguishing;
  samples = c.in_ok-alone-2.ensures.samples;
}

pub hold-requires-clause-each : goal.hold-requires-clause-each
hold-requires-clause-each c =
    let distinguishing = map vec_items c.args.distinguishing.items in
    let now = sample_vectors c.loop-x.alone ++ c.deref.result.now ∷ [] in
    let prefix = up_to_next vec_items [] (sample_vectors c.loop-x.alone) c.deref-x-items.result.now c.loop-x.x-index c.x-item.result c.deref.result.now c.loop-x-test.true c.x-item.is c.deref.ensures.value c.loop-x.invariant.vectors in
    distinct_left (IsVector c.args.pair.now.imp) now (map vec_items (drop (suc c.loop-x.x-index) c.deref-x-items.result.now))
    (subst (AreDistinctWith (IsVector c.args.pair.now.imp)) (ap (map vec_items) (sym c.deref-x-items.ensures.value) ∙ prefix)
    (record { each = c.requires.distinguishing.whole; distinct = c.distinguishing_vectors_are_distinct.ensures c.args.pair.now.spec c.args.pair.now.imp c.args.pair.now.kinds distinguishing c.requires.distinguishing }))

pub returns-clause-samples : goal.returns-clause-samples
returns-clause-samples c =
    let whole : sample_vectors c.loop-x.alone ≡ map vec_items c.args.distinguishing.items = c.loop-x.invariant.vectors ∙ ap (map vec_items) (take_all c.loop-x.x-index c.deref-x-items.result.now c.loop-x-test.false ∙ c.deref-x-items.ensures.value) in
    with_distinguishing c.args.pair.now.spec c.args.pair.now.imp c.args.pair.now.kinds c.args.clauses c.loop-x.alone _ c.loop-x.invariant.samples refl refl c.requires.distinguishing
    (subst (λ xs. All (Contains xs) (map vec_items c.args.distinguishing.items)) (sym whole) (all_in_itself (map vec_items c.args.distinguishing.items)))
