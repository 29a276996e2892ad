use Rattle.std.proofs.Common.{rules, ◌<◌, ◌≡◌, ℕ, ◌==◌, Bool, true, List, [], ◌∷◌, length, map, All, vec_len, refl, sym, ap, subst, ◌∙◌, arith}
use Rattle.std.specs.Prelude.{IsErrOf, vec_items}
use Rattle.std.proofs.lemmas.List.Elements.{All-nil}
use Rattle.bb_cnf.specs.Chains.{IsRefutation}
use Rattle.bb_cnf.specs.Clauses.{Formula}
use Rattle.bb_cnf.specs.Truth.{IsModel}
use Rattle.bb_subst.specs.Distinguishing.{AreEquivalentAt}
use Rattle.bb_net.specs.Equivalence.{TablesMakeEquivalent}
use Rattle.bb_net.specs.Kinds.{per_box}
use Rattle.bb_expand.specs.ClauseCounts.{clause_total}
use Rattle.bb_expand.specs.declared.expanded.ExpandFault.TheVariants as fault
use Rattle.bb_expand.specs.GivenUp.{FillTooLarge}
use Rattle.bb_expand.specs.Inside.Sampling.{sample_vectors}
use Rattle.bb_expand.proofs.DistinguishingAmong.{with_distinguishing}
use Rattle.bb_expand.proofs.IterationLemmas.{fewer_left, large_fill, no_samples}
use Rattle.bb_expand.proofs.cegis.expand.Goals as goal

is_zero : (n : ℕ) (b : Bool) → b ≡ (n == 0) → b ≡ true → n ≡ 0
is_zero n b e f = grind (arith, e, f)

is_nil : {A : Type 0} (xs : List A) → length xs ≡ 0 → xs ≡ []
is_nil [] e = refl
is_nil (x ∷ xs) e = absurd (omega (arith, e))

pub returns-then-is_empty-clause-ok : goal.returns-then-is_empty-clause-ok
returns-then-is_empty-clause-ok c =
    let failing = c.in_ok-failing.failing in
    let none : failing.items ≡ [] = is_nil failing.items (let zero_long = is_zero (vec_len failing) c.is_empty.result c.is_empty.ensures c.if-is_empty.true in omega (arith, failing.ok, zero_long)) in
    record { fit = c.loop-tables.invariant.fit; agree = subst (λ tables. TablesMakeEquivalent c.args.pair.now.spec c.args.pair.now.imp (per_box c.args.pair.now.kinds tables)) c.deref.ensures.value (c.in_ok-failing.ensures.none none) }

pub hold_failures-requires-clause-agree : goal.hold_failures-requires-clause-agree
hold_failures-requires-clause-agree c = subst (λ tables. All (AreEquivalentAt c.args.pair.now.spec c.args.pair.now.imp (per_box c.args.pair.now.kinds tables)) (sample_vectors c.loop-tables.samples)) (sym c.deref-in-loop-tables.ensures.value) c.loop-tables.invariant.agree

pub loop-tables-init : goal.loop-tables-init
loop-tables-init c =
    let spec = c.args.pair.now.spec in
    let imp = c.args.pair.now.imp in
    let kinds = c.args.pair.now.kinds in
    let none : sample_vectors c.in_ok-samples.samples ≡ [] = ap (map vec_items) c.in_ok-samples.ensures.none in
    record {
      samples = no_samples spec imp kinds c.args.clauses c.in_ok-samples.samples c.in_ok-samples.ensures.none c.in_ok-samples.ensures.distinguishing c.in_ok-samples.ensures.cnf;
      fit = c.in_ok-tables.ensures.fit;
      all = c.in_ok-tables.ensures.spread;
      agree = subst (All (AreEquivalentAt spec imp (per_box kinds c.in_ok-tables.tables.items))) (sym none) (All-nil (AreEquivalentAt spec imp (per_box kinds c.in_ok-tables.tables.items)));
    }

pub tables_of-requires-clause-expands : goal.tables_of-requires-clause-expands
tables_of-requires-clause-expands c =
    let solved = rw c.in-Sat.is at c.in_ok-model.ensures.sat in
    solved.1 ∙ c.in_ok-vectors.ensures.samples.expands

pub tables_of-requires-clause-holds : goal.tables_of-requires-clause-holds
tables_of-requires-clause-holds c =
    let solved = rw c.in-Sat.is at c.in_ok-model.ensures.sat in
    subst (λ m. IsModel m c.in-Sat.solver) (sym c.deref-in-Sat.ensures.value) (subst (IsModel c.in-Sat.model.items) (sym solved.1) solved.0)

pub loop-tables-preserved : goal.loop-tables-preserved
loop-tables-preserved c =
    let solved = rw c.in-Sat.is at c.in_ok-model.ensures.sat in
    let is = c.in_ok-vectors.ensures.samples in
    record {
      samples = with_distinguishing c.args.pair.now.spec c.args.pair.now.imp c.args.pair.now.kinds c.args.clauses _ _ is refl solved.1 is.distinguishing is.among;
      fit = c.in_ok-tables-in-Sat.ensures.fit;
      all = c.in_ok-tables-in-Sat.ensures.spread;
      agree = c.in_ok-tables-in-Sat.ensures.agree;
    }

pub refuted-requires : goal.refuted-requires
refuted-requires c =
    let solved = rw c.in-Unsat.is at c.in_ok-model.ensures.unsat in
    record { refuted = subst (λ (f : Formula). IsRefutation f.clauses c.in-Unsat.refutation.steps.items) (sym solved.1) solved.0 }

pub returns-in-Unsat-clause-ok : goal.returns-in-Unsat-clause-ok
returns-in-Unsat-clause-ok c =
    let solved = rw c.in-Unsat.is at c.in_ok-model.ensures.unsat in
    c.refuted.ensures.error c.args.clauses _ c.in_ok-vectors.ensures.samples refl (sym solved.1)

pub returns-in_err-failing-clause-clauses : goal.returns-in_err-failing-clause-clauses
returns-in_err-failing-clause-clauses c e =
    let spec = c.args.pair.now.spec in
    let imp = c.args.pair.now.imp in
    let kinds = c.args.pair.now.kinds in
    let reported : IsErrOf c.from_residual-in_err-failing.result fault.Clauses → (c.args.clauses < clause_total imp) × FillTooLarge spec imp (per_box kinds c.deref.result.now) = search rules in
    let large = subst (λ tables. FillTooLarge spec imp (per_box kinds tables)) c.deref.ensures.value (reported e).1 in
    (c.in_ok-bits.ensures.small, large_fill spec imp kinds c.args.clauses c.loop-tables.samples c.loop-tables.tables.items c.loop-tables.invariant.samples c.loop-tables.invariant.fit c.loop-tables.invariant.agree (reported e).0 large)

pub loop-tables-smaller : goal.loop-tables-smaller
loop-tables-smaller c =
    fewer_left c.vectors_are_few.ensures c.distinguishing_vectors_are_distinct.ensures c.args.pair.now.spec c.args.pair.now.imp c.args.pair.now.kinds c.args.clauses c.loop-tables.samples _ c.in_ok-vectors.ensures.samples c.in_ok-vectors.ensures.more
