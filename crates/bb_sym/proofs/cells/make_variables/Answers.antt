use Rattle.std.proofs.Common.{rules, IsErrOf, subst, sym, ◌∙◌, ◌≡◌, ◌+◌, map, length, arith}
use Rattle.std.specs.List.{range_with_len}
use Rattle.bb_bits.specs.Truth.{variable}
use Rattle.bb_uniq.specs.Inside.Meaning.{Adds, IsTooMany}
use Rattle.bb_sym.specs.declared.fault.RungFault.TheVariants.{Nodes}
use Rattle.bb_sym.specs.Inside.Made.{Makes, RepresentAll}
use Rattle.bb_sym.proofs.MadeLemmas.{Makes-more, keeps_then, refused_more, RepresentAll-push, Represents-added}
use Rattle.bb_sym.proofs.cells.make_variables.Goals as goal

pub returns-in_err-r-clause-nodes : goal.returns-in_err-r-clause-nodes
returns-in_err-r-clause-nodes c =
    let n = c.args.d.now.store.vars in
    let reported : IsErrOf c.from_residual-in_err-r.result Nodes → IsTooMany c.loop-v.d.store (variable c.loop-v.d.store.vars c.loop-v.v) = search rules in
    λ full. refused_more c.args.d.now.store c.loop-v.d.store (variable n) c.loop-v.v n c.loop-v.invariant.2 (omega (arith, c.loop-v-test.true, c.requires))
    (subst (λ k. IsTooMany c.loop-v.d.store (variable k c.loop-v.v)) c.loop-v.invariant.2.kept.vars (reported full))

pub loop-v-preserved : goal.loop-v-preserved
loop-v-preserved c =
    let first = c.args.d.now.store in
    let old = c.loop-v.d.store in
    let new = c.var.new.self.store in
    let r = c.in_ok-r.r in
    let added = subst (λ n. Adds old new (variable n c.loop-v.v) r.0) c.loop-v.invariant.2.kept.vars c.in_ok-r.ensures.ok in (
      (let count : length c.push.new.self.items ≡ c.loop-v.v + 1 = search rules in count),
      subst (RepresentAll new (variable first.vars)) (sym c.in_ok-push.ensures.items)
          (RepresentAll-push old new (variable first.vars) c.loop-v.made.items r c.loop-v.v c.loop-v.invariant.0 added.kept c.loop-v.invariant.1 (Represents-added old new (variable first.vars c.loop-v.v) r added)),
      Makes-more first old new (variable first.vars) c.loop-v.v r.0 c.loop-v.invariant.2 added,
    )

pub returns-clause-refs : goal.returns-clause-refs
returns-clause-refs c = let count : c.loop-v.v ≡ c.args.d.now.store.vars = search rules in (c.loop-v.invariant.0 ∙ count, c.loop-v.invariant.1)

pub returns-clause-makes : goal.returns-clause-makes
returns-clause-makes c =
    let count : c.loop-v.v ≡ c.args.d.now.store.vars = search rules in
    subst (λ k. Makes c.args.d.now.store c.loop-v.d.store (map (variable c.args.d.now.store.vars) (range_with_len 0 k))) count c.loop-v.invariant.2

pub returns-in_err-r-clause-kept : goal.returns-in_err-r-clause-kept
returns-in_err-r-clause-kept c = keeps_then c.args.d.now.store c.loop-v.d.store c.var.new.self.store c.loop-v.invariant.2.kept c.var.ensures.kept

pub returns-in_err-push-clause-kept : goal.returns-in_err-push-clause-kept
returns-in_err-push-clause-kept c = keeps_then c.args.d.now.store c.loop-v.d.store c.var.new.self.store c.loop-v.invariant.2.kept c.var.ensures.kept
