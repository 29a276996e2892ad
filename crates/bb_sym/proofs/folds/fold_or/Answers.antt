use Rattle.std.proofs.Common.{rules, IsErrOf, ◌≡◌, ◌||◌, subst, map, length, arith}
use Rattle.std.specs.List.{range_with_len}
use Rattle.bb_bits.specs.Truth.{joined_tables}
use Rattle.bb_uniq.specs.Inside.Meaning.{truth_of, IsTooMany}
use Rattle.bb_sym.specs.declared.fault.RungFault.TheVariants.{Nodes}
use Rattle.bb_sym.specs.Plain.{table, one_of, first_of}
use Rattle.bb_sym.specs.Inside.Made.{Makes, Represents, ref_at}
use Rattle.bb_sym.proofs.MadeLemmas.{keeps_self, keeps_then}
use Rattle.bb_sym.proofs.FoldLoop.{none_yet, fold_refused, fold_made, fold_tables}
use Rattle.bb_sym.proofs.folds.fold_or.Goals as goal

pub loop-f-init : goal.loop-f-init
loop-f-init c = (omega arith, keeps_self c.args.d.now.store, λ f occur. none_yet c.stores.ensures c.args.d.now.store f)

pub or-requires-clause-g : goal.or-requires-clause-g
or-requires-clause-g c = c.loop-f.invariant.1.refs _ (c.requires c.loop-f.f-index c.loop-f-test.true)

pub returns-in_err-any-clause-nodes : goal.returns-in_err-any-clause-nodes
returns-in_err-any-clause-nodes c =
    let now = c.loop-f.d.store in
    let reported : IsErrOf c.from_residual.result Nodes → IsTooMany now (joined_tables ◌||◌ (truth_of now c.loop-f.any.0) (truth_of now (ref_at c.args.fs.now c.loop-f.f-index).0)) = search rules in
    λ f occur full. fold_refused c.args.d.now.store now f c.args.fs.now c.loop-f.any c.loop-f.f-index c.loop-f-test.true occur (c.loop-f.invariant.2 f occur) (reported full)

pub loop-f-preserved : goal.loop-f-preserved
loop-f-preserved c =
    let first = c.args.d.now.store in
    let now = c.loop-f.d.store in
    let added = c.in_ok-any.ensures.ok in (
      added.ref,
      keeps_then first now c.or.new.self.store c.loop-f.invariant.1 added.kept,
      λ f occur. fold_made first now f c.args.fs.now c.loop-f.any c.loop-f.f-index c.loop-f-test.true occur (c.loop-f.invariant.2 f occur) c.or.new.self.store c.in_ok-any.any added,
    )

pub returns-clause-result : goal.returns-clause-result
returns-clause-result c =
    let count : c.loop-f.f-index ≡ length c.args.fs.now = omega (arith, c.loop-f-test.false, c.loop-f.auto.f-index-end) in
    λ f occur. subst (λ i. Represents c.loop-f.d.store (table c.args.d.now.store.vars (one_of f i)) c.loop-f.any) count (c.loop-f.invariant.2 f occur).0

pub returns-clause-makes : goal.returns-clause-makes
returns-clause-makes c =
    let first = c.args.d.now.store in
    let count : c.loop-f.f-index ≡ length c.args.fs.now = omega (arith, c.loop-f-test.false, c.loop-f.auto.f-index-end) in
    λ f occur. subst (Makes first c.loop-f.d.store) (fold_tables first.vars (length c.args.fs.now) f)
    (subst (λ i. Makes first c.loop-f.d.store (map (λ j. table first.vars (first_of f j)) (range_with_len 0 i))) count (c.loop-f.invariant.2 f occur).1)

pub returns-in_err-any-clause-kept : goal.returns-in_err-any-clause-kept
returns-in_err-any-clause-kept c = keeps_then c.args.d.now.store c.loop-f.d.store c.or.new.self.store c.loop-f.invariant.1 c.or.ensures.kept
