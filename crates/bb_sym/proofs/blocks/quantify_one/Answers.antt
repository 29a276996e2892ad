use Rattle.std.proofs.Common.{◌≡◌, Bool, true, false, IfOk, refl, rules, sym, subst}
use Rattle.bb_bits.specs.Truth.{quantified}
use Rattle.bb_dd.specs.Inside.Results.{quantifier}
use Rattle.bb_uniq.specs.Inside.Meaning.{truth_of, Adds}
use Rattle.bb_sym.proofs.DependenceLemmas.{independent_stays}
use Rattle.bb_sym.proofs.blocks.quantify_one.Goals as goal

pub returns-then-all-clause-ok : goal.returns-then-all-clause-ok
returns-then-all-clause-ok c =
    subst (λ all. IfOk c.forall.result (λ r. Adds c.args.d.now.store c.forall.new.d.store (quantified (quantifier all) c.args.v (truth_of c.args.d.now.store c.args.f.0)) r.0)) (sym c.if-all.true) c.forall.ensures.ok

pub returns-else-all-clause-ok : goal.returns-else-all-clause-ok
returns-else-all-clause-ok c =
    subst (λ all. IfOk c.exists.result (λ r. Adds c.args.d.now.store c.exists.new.d.store (quantified (quantifier all) c.args.v (truth_of c.args.d.now.store c.args.f.0)) r.0)) (sym c.if-all.false) c.exists.ensures.ok

same_twice : (all b : Bool) → quantifier all b b ≡ b
same_twice true true = refl
same_twice true false = refl
same_twice false true = refl
same_twice false false = refl

pub returns-then-not-depends-clause-ok : goal.returns-then-not-depends-clause-ok
returns-then-not-depends-clause-ok c =
    let s = c.args.d.now.store in
    let f = c.args.f.0 in
    let t = truth_of s f in
    let off : c.args.depends ≡ false = search rules in
    let stays = independent_stays c.tables.ensures c.quantifiers.ensures (quantifier c.args.all) (same_twice c.args.all) s.vars c.args.v t c.requires.v (c.stores.ensures.table_size s f) (c.requires.free off) in
    c.growth.ensures.adds_nothing s c.is_canonical.ensures.sound.store (quantified (quantifier c.args.all) c.args.v t) f c.requires.f (sym stays)
