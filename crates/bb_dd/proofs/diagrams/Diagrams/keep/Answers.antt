use Rattle.std.proofs.Common.{◌≡◌, sym, ap, subst}
use Rattle.bb_uniq.specs.Inside.Nodes.{NodeStore}
use Rattle.bb_dd.specs.declared.key.Key.{Key}
use Rattle.bb_dd.specs.declared.key.Key.TheVariants.{Quantify}
use Rattle.bb_dd.specs.Inside.Results.{IsRight}
use Rattle.bb_dd.specs.Inside.State.{DiagramState}
use Rattle.bb_dd.proofs.Recalled.{AreRight-after, found_after}
use Rattle.bb_dd.proofs.diagrams.Diagrams.keep.Goals as goal

pub invariant_of-self : goal.invariant_of-self
invariant_of-self c =
    let i = c.self.inside in
    let key : Key = Quantify c.args.all c.args.f c.args.v in
    let e : i.store ≡ c.args.self.now.store = ap (λ (d : DiagramState). d.store) c.self.view_is in
    let now_right : IsRight c.args.self.now.store (key, c.args.r) = record { operands = (c.requires.f, c.requires.v); ref = c.requires.r; table = c.requires.right } in
    let fresh : IsRight i.store (key, c.args.r) = subst (λ (n : NodeStore). IsRight n (key, c.args.r)) (sym e) now_right in
    record {
      store = c.self.invariant.store;
      entries = AreRight-after i.store _ c.same_keys.ensures.same i.cache c.put.new.cache key c.args.r c.put.result c.put.ensures.ok c.put.ensures.err c.self.invariant.entries fresh;
    }

pub returns-clause-recalled : goal.returns-clause-recalled
returns-clause-recalled c =
    found_after _ c.same_keys.ensures.same c.same_keys.ensures.equal c.self.inside.cache c.put.new.cache (Quantify c.args.all c.args.f c.args.v) c.args.r c.put.result c.put.ensures.ok
