use Rattle.std.proofs.Common.{◌≡◌, ℕ, [], map, subst}
use Rattle.std.specs.Prelude.{vec_items}
use Rattle.std.proofs.lemmas.Result.{IfOk-weaker}
use Rattle.bb_subst.specs.Filled.{IsFilled}
use Rattle.bb_miter.specs.Inside.Equivalence.{AreEquivalent, DiffersAt}
use Rattle.bb_net.specs.Equivalence.{TablesMakeEquivalent}
use Rattle.bb_net.specs.Kinds.{per_box}
use Rattle.bb_expand.specs.Inside.Failures.{AreDistinctWith, FailsAt}
use Rattle.bb_expand.proofs.FilledFailures.{agree_if_equivalent, distinct_with, fails_where_differs, filled_comparable}
use Rattle.bb_expand.proofs.counterexamples.by_filling.Goals as goal

pub find_counterexample-requires-clause-comparable : goal.find_counterexample-requires-clause-comparable
find_counterexample-requires-clause-comparable c =
    let filled = subst (λ ks. (at : ℕ → ℕ) × IsFilled c.args.pair.now.imp (per_box ks c.args.tables.now) c.in_ok-filled.filled at) c.kinds.ensures.kinds
    (subst (λ n. (at : ℕ → ℕ) × IsFilled n (per_box c.kinds.result.now c.args.tables.now) c.in_ok-filled.filled at) c.imp.ensures.imp c.in_ok-filled.ensures.filled) in
    rw c.spec.ensures.spec (filled_comparable c.args.pair.now c.in_ok-filled.filled (per_box c.args.pair.now.kinds c.args.tables.now) filled.0 c.imp.ensures.kept filled.1)

pub returns-clause-found : goal.returns-clause-found
returns-clause-found c =
    let filled = subst (λ ks. (at : ℕ → ℕ) × IsFilled c.args.pair.now.imp (per_box ks c.args.tables.now) c.in_ok-filled.filled at) c.kinds.ensures.kinds
    (subst (λ n. (at : ℕ → ℕ) × IsFilled n (per_box c.kinds.result.now c.args.tables.now) c.in_ok-filled.filled at) c.imp.ensures.imp c.in_ok-filled.ensures.filled) in
    let found = rw c.spec.ensures.spec at c.find_counterexample.ensures.found in
    IfOk-weaker c.find_counterexample.result (λ v. AreDistinctWith (DiffersAt c.args.pair.now.spec c.in_ok-filled.filled) (map vec_items v.items)) (λ v. AreDistinctWith (FailsAt c.args.pair.now.spec c.args.pair.now.imp (per_box c.args.pair.now.kinds c.args.tables.now)) (map vec_items v.items))
    (λ v are. distinct_with (DiffersAt c.args.pair.now.spec c.in_ok-filled.filled) (FailsAt c.args.pair.now.spec c.args.pair.now.imp (per_box c.args.pair.now.kinds c.args.tables.now))
    (fails_where_differs c.args.pair.now.spec c.args.pair.now.imp c.in_ok-filled.filled (per_box c.args.pair.now.kinds c.args.tables.now) filled.0 c.imp.ensures.kept.imp c.inputs.ensures.kept c.requires.fit filled.1 c.filled_are_right.ensures.wrong) (map vec_items v.items) are) found

pub returns-clause-none : goal.returns-clause-none
returns-clause-none c =
    let filled = subst (λ ks. (at : ℕ → ℕ) × IsFilled c.args.pair.now.imp (per_box ks c.args.tables.now) c.in_ok-filled.filled at) c.kinds.ensures.kinds
    (subst (λ n. (at : ℕ → ℕ) × IsFilled n (per_box c.kinds.result.now c.args.tables.now) c.in_ok-filled.filled at) c.imp.ensures.imp c.in_ok-filled.ensures.filled) in
    let none = rw c.spec.ensures.spec at c.find_counterexample.ensures.none in
    IfOk-weaker c.find_counterexample.result (λ v. v.items ≡ [] → AreEquivalent c.args.pair.now.spec c.in_ok-filled.filled) (λ v. v.items ≡ [] → TablesMakeEquivalent c.args.pair.now.spec c.args.pair.now.imp (per_box c.args.pair.now.kinds c.args.tables.now))
    (λ v same e. agree_if_equivalent c.args.pair.now.spec c.args.pair.now.imp c.in_ok-filled.filled (per_box c.args.pair.now.kinds c.args.tables.now) filled.0 c.imp.ensures.kept.imp c.inputs.ensures.kept c.requires.fit filled.1 c.filled_are_right.ensures.right (same e)) none

pub returns-clause-nodes : goal.returns-clause-nodes
returns-clause-nodes c e =
    let filled = subst (λ ks. (at : ℕ → ℕ) × IsFilled c.args.pair.now.imp (per_box ks c.args.tables.now) c.in_ok-filled.filled at) c.kinds.ensures.kinds
    (subst (λ n. (at : ℕ → ℕ) × IsFilled n (per_box c.kinds.result.now c.args.tables.now) c.in_ok-filled.filled at) c.imp.ensures.imp c.in_ok-filled.ensures.filled) in
    let nodes = rw c.spec.ensures.spec at c.find_counterexample.ensures.nodes in
    (c.in_ok-filled.filled, filled.0, c.inputs.ensures.kept, filled.1, nodes e)
