use Rattle.std.proofs.Common.{◌≡◌, ◌<◌, subst, sym, ap}
use Rattle.std.specs.Prelude.{IfOk}
use Rattle.std.proofs.lemmas.Result.{IfOk-weaker}
use Rattle.bb_bits.specs.Truth.{Truth, variable}
use Rattle.bb_uniq.specs.Inside.Nodes.{NodeStore}
use Rattle.bb_uniq.specs.Inside.Meaning.{Adds, IsTooMany, branch}
use Rattle.bb_dd.specs.Inside.State.{DiagramState}
use Rattle.bb_dd.proofs.Recalled.{AreRight-kept}
use Rattle.bb_dd.proofs.Variables.{branch-leaves}
use Rattle.bb_dd.proofs.diagrams.Diagrams.var.Goals as goal

pub invariant_of-self : goal.invariant_of-self
invariant_of-self c =
    let i = c.self.inside in
    record { store = c.make_node.ensures.store; entries = AreRight-kept i.store c.make_node.new.store c.make_node.ensures.kept i.cache.entries c.self.invariant.entries }

pub returns-clause-ok : goal.returns-clause-ok
returns-clause-ok c =
    let s = c.self.inside.store in
    let new = c.make_node.new.store in
    let e : s ≡ c.args.self.now.store = ap (λ (d : DiagramState). d.store) c.self.view_is in
    let l : c.args.v < s.vars = subst (λ (n : NodeStore). c.args.v < n.vars) (sym e) c.requires in
    subst (λ (n : NodeStore). IfOk c.make_node.result (λ r. Adds n new (variable n.vars c.args.v) r.0)) e
    (IfOk-weaker c.make_node.result (λ r. Adds s new (branch s c.args.v 0 1) r.0) (λ r. Adds s new (variable s.vars c.args.v) r.0)
    (λ r a. subst (λ (t : Truth). Adds s new t r.0) (branch-leaves (record { tables = c.tables.ensures; stores = c.stores.ensures; growth = c.growth.ensures; steps = c.steps.ensures }) s c.args.v l) a) c.make_node.ensures.adds)

pub returns-clause-full : goal.returns-clause-full
returns-clause-full c =
    let s = c.self.inside.store in
    let e : s ≡ c.args.self.now.store = ap (λ (d : DiagramState). d.store) c.self.view_is in
    let l : c.args.v < s.vars = subst (λ (n : NodeStore). c.args.v < n.vars) (sym e) c.requires in
    λ full. subst (λ (n : NodeStore). IsTooMany n (variable n.vars c.args.v)) e (subst (λ (t : Truth). IsTooMany s t) (branch-leaves (record { tables = c.tables.ensures; stores = c.stores.ensures; growth = c.growth.ensures; steps = c.steps.ensures }) s c.args.v l) (c.make_node.ensures.too_many full))
