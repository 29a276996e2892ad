use Rattle.std.proofs.Common.{rules, IsErrOf, subst, sym, ◌∙◌, ◌≡◌, ◌+◌, ◌-◌, ◌≤◌, ◌<◌, ℕ, Bool, false, List, length, get_or, arith}
use Rattle.std.proofs.lemmas.List.{get_or_default}
use Rattle.bb_bits.specs.Truth.{quantified}
use Rattle.bb_dd.specs.Inside.Results.{quantifier}
use Rattle.bb_uniq.specs.Inside.Meaning.{truth_of, IsTooMany}
use Rattle.bb_sym.specs.declared.fault.RungFault.TheVariants.{Nodes}
use Rattle.bb_sym.specs.Inside.Made.{Represents, Makes}
use Rattle.bb_sym.specs.Inside.Dependence.{IsIndependent}
use Rattle.bb_sym.proofs.DependenceLemmas.{independent_later}
use Rattle.bb_sym.proofs.BlockLemmas.{from_each, functions_from, occurs_earlier, makes_earlier, refused_earlier, block_whole}
use Rattle.bb_sym.proofs.blocks.quantify_block.Goals as goal

get_or_at_any : (xs : List Bool) (i : ℕ) (x d : Bool) → x ≡ get_or xs i x → i < length xs → get_or xs i d ≡ x
get_or_at_any xs i x d e l = get_or_default xs i d x l ∙ sym e

pub returns-in_err-r-clause-nodes : goal.returns-in_err-r-clause-nodes
returns-in_err-r-clause-nodes c =
    let start = c.args.d.now.store in
    let old = c.loop-left.d.store in
    let op = quantifier c.args.all in
    let t = truth_of start c.args.f.0 in
    let k = c.loop-left.left - 1 in
    let next : c.loop-left.left ≡ k + 1 = omega (arith, c.loop-left-test.true) in
    let reported : IsErrOf c.from_residual-in_err-r.result Nodes → IsTooMany old (quantified op (c.args.first + k) (truth_of old c.loop-left.r.0)) = search rules in
    λ full. refused_earlier op c.args.first c.args.count t start old k c.loop-left.r (omega (arith, next, c.loop-left.invariant.0))
    (subst (λ i. Represents old (from_each op c.args.first c.args.count t i) c.loop-left.r) next c.loop-left.invariant.1)
    (subst (λ i. Makes start old (functions_from op c.args.first c.args.count t i)) next c.loop-left.invariant.2) (reported full)

pub loop-left-preserved : goal.loop-left-preserved
loop-left-preserved c =
    let start = c.args.d.now.store in
    let old = c.loop-left.d.store in
    let new = c.quantify_one.new.d.store in
    let op = quantifier c.args.all in
    let t = truth_of start c.args.f.0 in
    let k = c.loop-left.left - 1 in
    let next : c.loop-left.left ≡ k + 1 = omega (arith, c.loop-left-test.true) in
    let l : k + 1 ≤ c.args.count = omega (arith, next, c.loop-left.invariant.0) in
    let occur = subst (λ i. Represents old (from_each op c.args.first c.args.count t i) c.loop-left.r) next c.loop-left.invariant.1 in
    let made = subst (λ i. Makes start old (functions_from op c.args.first c.args.count t i)) next c.loop-left.invariant.2 in (
      omega (arith, l),
      occurs_earlier op c.args.first c.args.count t start old k c.loop-left.r l occur made new c.in_ok-r.r c.in_ok-r.ensures.ok,
      makes_earlier op c.args.first c.args.count t start old k c.loop-left.r l occur made new c.in_ok-r.r c.in_ok-r.ensures.ok,
    )

pub returns-clause-makes : goal.returns-clause-makes
returns-clause-makes c =
    let t = truth_of c.args.d.now.store c.args.f.0 in
    let last : c.loop-left.left ≡ 0 = omega (arith, c.loop-left-test.false) in
    block_whole (quantifier c.args.all) c.args.first c.args.count t c.args.d.now.store c.loop-left.d.store c.loop-left.left last c.loop-left.invariant.2

pub quantify_one-requires-clause-free : goal.quantify_one-requires-clause-free
quantify_one-requires-clause-free c =
    let start = c.args.d.now.store in
    let old = c.loop-left.d.store in
    let op = quantifier c.args.all in
    let t = truth_of start c.args.f.0 in
    let k = c.loop-left.left - 1 in
    let next : c.loop-left.left ≡ k + 1 = omega (arith, c.loop-left-test.true) in
    let l : k + 1 ≤ c.args.count = omega (arith, next, c.loop-left.invariant.0) in
    let occur = subst (λ i. Represents old (from_each op c.args.first c.args.count t i) c.loop-left.r) next c.loop-left.invariant.1 in
    let made = c.loop-left.invariant.2 in
    let marked = c.in_ok-marked.ensures in
    let v = c.args.first + k in
    λ off.
    let free = marked.marked v (omega (arith, l, marked.len)) (get_or_at_any c.in_ok-marked.marked.items v c.index.result.now false c.index.ensures (omega (arith, l, marked.len)) ∙ off) in
    let later = independent_later c.tables.ensures c.quantifiers.ensures op start.vars v t (c.stores.ensures.table_size start c.args.f.0) free (c.args.count - (k + 1)) (c.args.first + (k + 1)) (omega (arith, l, c.requires.vars)) in
    subst (λ n. IsIndependent n (truth_of old c.loop-left.r.0) v) (sym made.kept.vars) (subst (λ u. IsIndependent start.vars u v) (sym occur.table) later)

pub returns-in_err-r-clause-kept : goal.returns-in_err-r-clause-kept
returns-in_err-r-clause-kept c = c.growth.ensures.keeps_then c.args.d.now.store c.loop-left.d.store c.quantify_one.new.d.store c.loop-left.invariant.2.kept c.quantify_one.ensures.kept
