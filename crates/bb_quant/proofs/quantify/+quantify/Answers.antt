use Rattle.std.proofs.Common.{rules, ◌≡◌, ◌<◌, ◌-◌, sym, ap, ◌∙◌, subst, arith}
use Rattle.std.specs.Prelude.{IsErrOf, IfOk}
use Rattle.bb_bits.specs.Truth.{Truth, quantified}
use Rattle.bb_uniq.specs.Inside.Nodes.{NodeStore, IsRef}
use Rattle.bb_uniq.specs.Inside.Meaning.{truth_of, branch, Adds, Keeps, IsTooMany}
use Rattle.bb_uniq.specs.Inside.Cofactors.{variable_seen, top_of}
use Rattle.bb_dd.specs.declared.fault.DdFault.TheVariants.{Full}
use Rattle.bb_dd.specs.Inside.Results.{quantifier}
use Rattle.bb_quant.proofs.Quantifying.{adds_later, children, joined_here, Node, quantified_in, second_ref, second_falls, first_refused, second_refused, ready, node_refused, made}
use Rattle.bb_quant.proofs.quantify.+quantify.Goals as goal

pub quantify-returns-in_default-clause-ok : goal.quantify-returns-in_default-clause-ok
quantify-returns-in_default-clause-ok t c =
    let s = c.args.d.now.store in
    let top : top_of s c.args.f.0 ≡ s.vars = ap (variable_seen s.vars) (sym c.in_default.ensures.view) in
    adds_later (record { tables = c.tables.ensures; quantifiers = c.quantifiers.ensures; stores = c.stores.ensures; growth = c.growth.ensures; steps = c.steps.ensures }) s c.is_canonical.ensures.sound.store c.args.all c.args.f.0 c.args.v c.requires.f c.requires.v (omega (arith, top, c.requires.v))

pub quantify-returns-then-v-var-clause-ok : goal.quantify-returns-then-v-var-clause-ok
quantify-returns-then-v-var-clause-ok t c =
    let s = c.args.d.now.store in
    let top : top_of s c.args.f.0 ≡ c.in-Node.var = ap (variable_seen s.vars) (sym c.in-Node.ensures.view) in
    adds_later (record { tables = c.tables.ensures; quantifiers = c.quantifiers.ensures; stores = c.stores.ensures; growth = c.growth.ensures; steps = c.steps.ensures }) s c.is_canonical.ensures.sound.store c.args.all c.args.f.0 c.args.v c.requires.f c.requires.v (omega (arith, top, c.if-v-var.true))

pub quantify-returns-in-Some-clause-ok : goal.quantify-returns-in-Some-clause-ok
quantify-returns-in-Some-clause-ok t c =
    let s = c.args.d.now.store in
    let table = quantified (quantifier c.args.all) c.args.v (truth_of s c.args.f.0) in
    subst (λ (n : NodeStore). Adds s n table c.in-Some.r.0) (sym c.in-Some.ensures.store)
    (c.growth.ensures.adds_nothing s c.is_canonical.ensures.sound.store table c.in-Some.r.0 c.in-Some.ensures.right.0 c.in-Some.ensures.right.1)

pub quantify-returns-in_err-r-clause-full : goal.quantify-returns-in_err-r-clause-full
quantify-returns-in_err-r-clause-full t c =
    let n = c.recall.new.self.store in
    let reported : IsErrOf c.from_residual.result Full → IsTooMany n (quantified (quantifier c.args.all) c.args.v (truth_of n c.args.f.0)) = search rules in
    λ full. subst (λ (k : NodeStore). IsTooMany k (quantified (quantifier c.args.all) c.args.v (truth_of k c.args.f.0))) c.recall.ensures.store (reported full)

pub quantify-keep-requires-clause-right : goal.quantify-keep-requires-clause-right
quantify-keep-requires-clause-right t c =
    let added = c.in_ok-r.ensures.ok in
    let ref : IsRef c.recall.new.self.store c.args.f.0 = subst (λ (n : NodeStore). IsRef n c.args.f.0) (sym c.recall.ensures.store) c.requires.f in
    added.table ∙ ap (quantified (quantifier c.args.all) c.args.v) (sym (added.kept.tables c.args.f.0 ref))

pub quantify-returns-clause-ok : goal.quantify-returns-clause-ok
quantify-returns-clause-ok t c =
    let s = c.args.d.now.store in
    let m = c.quantify_node.new.d.store in
    subst (λ (n : NodeStore). Adds s n (quantified (quantifier c.args.all) c.args.v (truth_of s c.args.f.0)) c.in_ok-r.r.0) (sym c.keep.ensures.store)
    (subst (λ (n : NodeStore). Adds n m (quantified (quantifier c.args.all) c.args.v (truth_of n c.args.f.0)) c.in_ok-r.r.0) c.recall.ensures.store c.in_ok-r.ensures.ok)

pub quantify_node-returns-then-var-v-clause-ok : goal.quantify_node-returns-then-var-v-clause-ok
quantify_node-returns-then-var-v-clause-ok t c =
    let s = c.args.d.now.store in
    let inside : c.args.var < s.vars = omega (arith, c.requires.no_later, c.requires.v) in
    let x = children (record { tables = c.tables.ensures; quantifiers = c.quantifiers.ensures; stores = c.stores.ensures; growth = c.growth.ensures; steps = c.steps.ensures }) s c.is_canonical.ensures.sound.store c.args.f.0 c.args.var c.args.lo c.args.hi c.requires.f inside c.requires.node in
    let e = joined_here (record { tables = c.tables.ensures; quantifiers = c.quantifiers.ensures; stores = c.stores.ensures; growth = c.growth.ensures; steps = c.steps.ensures }) s c.args.all c.args.var (s.vars - c.args.var - 1) c.args.f.0 c.args.lo.0 c.args.hi.0 x ∙ ap (λ k. quantified (quantifier c.args.all) k (truth_of s c.args.f.0)) c.if-var-v.true in
    subst (λ (table : Truth). IfOk c.join.result (λ r. Adds s c.join.new.d.store table r.0)) e c.join.ensures.ok

pub quantify_node-returns-then-var-v-clause-full : goal.quantify_node-returns-then-var-v-clause-full
quantify_node-returns-then-var-v-clause-full t c =
    let s = c.args.d.now.store in
    let inside : c.args.var < s.vars = omega (arith, c.requires.no_later, c.requires.v) in
    let x = children (record { tables = c.tables.ensures; quantifiers = c.quantifiers.ensures; stores = c.stores.ensures; growth = c.growth.ensures; steps = c.steps.ensures }) s c.is_canonical.ensures.sound.store c.args.f.0 c.args.var c.args.lo c.args.hi c.requires.f inside c.requires.node in
    let e = joined_here (record { tables = c.tables.ensures; quantifiers = c.quantifiers.ensures; stores = c.stores.ensures; growth = c.growth.ensures; steps = c.steps.ensures }) s c.args.all c.args.var (s.vars - c.args.var - 1) c.args.f.0 c.args.lo.0 c.args.hi.0 x ∙ ap (λ k. quantified (quantifier c.args.all) k (truth_of s c.args.f.0)) c.if-var-v.true in
    λ full. subst (λ (table : Truth). IsTooMany s table) e (c.join.ensures.full full)

pub quantify_node-returns-in_err-first-clause-full : goal.quantify_node-returns-in_err-first-clause-full
quantify_node-returns-in_err-first-clause-full t c =
    let n : Node = (record { s = c.args.d.now.store; sound = c.is_canonical.ensures.sound.store; all = c.args.all; v = c.args.v; u = c.args.var; f = c.args.f.0; lo = c.args.lo; hi = c.args.hi; ref = c.requires.f; inside = c.requires.v; earlier = omega (arith, c.requires.no_later, c.if-var-v.false); node = c.requires.node }) in
    let reported : IsErrOf c.from_residual.result Full → IsTooMany n.s (quantified_in n n.s n.lo.0) = search rules in
    λ full. first_refused (record { tables = c.tables.ensures; quantifiers = c.quantifiers.ensures; stores = c.stores.ensures; growth = c.growth.ensures; steps = c.steps.ensures }) n (reported full)

pub quantify_node-quantify-requires-2 : goal.quantify_node-quantify-requires-2
quantify_node-quantify-requires-2 t c =
    let n : Node = (record { s = c.args.d.now.store; sound = c.is_canonical.ensures.sound.store; all = c.args.all; v = c.args.v; u = c.args.var; f = c.args.f.0; lo = c.args.lo; hi = c.args.hi; ref = c.requires.f; inside = c.requires.v; earlier = omega (arith, c.requires.no_later, c.if-var-v.false); node = c.requires.node }) in
    let kept = c.in_ok-first.ensures.kept in
    let fall = second_falls (record { tables = c.tables.ensures; quantifiers = c.quantifiers.ensures; stores = c.stores.ensures; growth = c.growth.ensures; steps = c.steps.ensures }) n c.quantify.new.d.store kept in
    (omega (arith, c.decreases, fall), (second_ref (record { tables = c.tables.ensures; quantifiers = c.quantifiers.ensures; stores = c.stores.ensures; growth = c.growth.ensures; steps = c.steps.ensures }) n c.quantify.new.d.store kept, omega (arith, c.requires.v, kept.vars)))

pub quantify_node-returns-in_err-second-clause-full : goal.quantify_node-returns-in_err-second-clause-full
quantify_node-returns-in_err-second-clause-full t c =
    let n : Node = (record { s = c.args.d.now.store; sound = c.is_canonical.ensures.sound.store; all = c.args.all; v = c.args.v; u = c.args.var; f = c.args.f.0; lo = c.args.lo; hi = c.args.hi; ref = c.requires.f; inside = c.requires.v; earlier = omega (arith, c.requires.no_later, c.if-var-v.false); node = c.requires.node }) in
    let mid = c.quantify.new.d.store in
    let reported : IsErrOf c.from_residual-in_err-second.result Full → IsTooMany mid (quantified_in n mid n.hi.0) = search rules in
    λ full. second_refused (record { tables = c.tables.ensures; quantifiers = c.quantifiers.ensures; stores = c.stores.ensures; growth = c.growth.ensures; steps = c.steps.ensures }) n mid c.in_ok-first.first.0 c.in_ok-first.ensures.ok (reported full)

pub quantify_node-returns-in_err-second-clause-kept : goal.quantify_node-returns-in_err-second-clause-kept
quantify_node-returns-in_err-second-clause-kept t c =
    c.growth.ensures.keeps_then c.args.d.now.store c.quantify.new.d.store c.quantify-2.new.d.store c.in_ok-first.ensures.kept c.in_err-second.ensures.kept

pub quantify_node-make-requires-clause-lo : goal.quantify_node-make-requires-clause-lo
quantify_node-make-requires-clause-lo t c =
    let n : Node = (record { s = c.args.d.now.store; sound = c.is_canonical.ensures.sound.store; all = c.args.all; v = c.args.v; u = c.args.var; f = c.args.f.0; lo = c.args.lo; hi = c.args.hi; ref = c.requires.f; inside = c.requires.v; earlier = omega (arith, c.requires.no_later, c.if-var-v.false); node = c.requires.node }) in
    (ready (record { tables = c.tables.ensures; quantifiers = c.quantifiers.ensures; stores = c.stores.ensures; growth = c.growth.ensures; steps = c.steps.ensures }) n c.quantify.new.d.store c.quantify-2.new.d.store c.is_canonical-2.ensures.sound.store c.in_ok-first.first.0 c.in_ok-second.second.0 c.in_ok-first.ensures.ok c.in_ok-second.ensures.ok).lo_below

pub quantify_node-make-requires-clause-hi : goal.quantify_node-make-requires-clause-hi
quantify_node-make-requires-clause-hi t c =
    let n : Node = (record { s = c.args.d.now.store; sound = c.is_canonical.ensures.sound.store; all = c.args.all; v = c.args.v; u = c.args.var; f = c.args.f.0; lo = c.args.lo; hi = c.args.hi; ref = c.requires.f; inside = c.requires.v; earlier = omega (arith, c.requires.no_later, c.if-var-v.false); node = c.requires.node }) in
    (ready (record { tables = c.tables.ensures; quantifiers = c.quantifiers.ensures; stores = c.stores.ensures; growth = c.growth.ensures; steps = c.steps.ensures }) n c.quantify.new.d.store c.quantify-2.new.d.store c.is_canonical-2.ensures.sound.store c.in_ok-first.first.0 c.in_ok-second.second.0 c.in_ok-first.ensures.ok c.in_ok-second.ensures.ok).hi_below

pub quantify_node-returns-in_err-r-clause-full : goal.quantify_node-returns-in_err-r-clause-full
quantify_node-returns-in_err-r-clause-full t c =
    let n : Node = (record { s = c.args.d.now.store; sound = c.is_canonical.ensures.sound.store; all = c.args.all; v = c.args.v; u = c.args.var; f = c.args.f.0; lo = c.args.lo; hi = c.args.hi; ref = c.requires.f; inside = c.requires.v; earlier = omega (arith, c.requires.no_later, c.if-var-v.false); node = c.requires.node }) in
    let last = c.quantify-2.new.d.store in
    let reported : IsErrOf c.from_residual-in_err-r.result Full → IsTooMany last (branch last c.args.var c.in_ok-first.first.0 c.in_ok-second.second.0) = search rules in
    λ full. node_refused (record { tables = c.tables.ensures; quantifiers = c.quantifiers.ensures; stores = c.stores.ensures; growth = c.growth.ensures; steps = c.steps.ensures }) n c.quantify.new.d.store last c.is_canonical-2.ensures.sound.store c.in_ok-first.first.0 c.in_ok-second.second.0 c.in_ok-first.ensures.ok c.in_ok-second.ensures.ok (reported full)

pub quantify_node-returns-in_err-r-clause-kept : goal.quantify_node-returns-in_err-r-clause-kept
quantify_node-returns-in_err-r-clause-kept t c =
    subst (λ (k : NodeStore). Keeps c.args.d.now.store k) (sym c.in_err-r.ensures.err)
    (c.growth.ensures.keeps_then c.args.d.now.store c.quantify.new.d.store c.quantify-2.new.d.store c.in_ok-first.ensures.kept c.in_ok-second.ensures.kept)

pub quantify_node-returns-clause-ok : goal.quantify_node-returns-clause-ok
quantify_node-returns-clause-ok t c =
    let n : Node = (record { s = c.args.d.now.store; sound = c.is_canonical.ensures.sound.store; all = c.args.all; v = c.args.v; u = c.args.var; f = c.args.f.0; lo = c.args.lo; hi = c.args.hi; ref = c.requires.f; inside = c.requires.v; earlier = omega (arith, c.requires.no_later, c.if-var-v.false); node = c.requires.node }) in
    made (record { tables = c.tables.ensures; quantifiers = c.quantifiers.ensures; stores = c.stores.ensures; growth = c.growth.ensures; steps = c.steps.ensures }) n c.quantify.new.d.store c.quantify-2.new.d.store c.make.new.self.store c.is_canonical-2.ensures.sound.store c.is_canonical-3.ensures.sound.store
    c.in_ok-first.first.0 c.in_ok-second.second.0 c.in_ok-r.r.0 c.in_ok-first.ensures.ok c.in_ok-second.ensures.ok c.in_ok-r.ensures.adds

pub quantify_node-returns-clause-kept : goal.quantify_node-returns-clause-kept
quantify_node-returns-clause-kept t c = (quantify_node-returns-clause-ok t c).kept
