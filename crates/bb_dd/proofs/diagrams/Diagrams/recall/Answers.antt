use Rattle.std.proofs.Common.{sym, ◌≡◌, subst}
use Rattle.std.specs.Prelude.{IfSome, IfNone, Contains}
use Rattle.lru.specs.LruCache.{LruCache}
use Rattle.bb_uniq.specs.declared.store.Ref.{Ref}
use Rattle.bb_uniq.specs.Inside.Nodes.{IsRef}
use Rattle.bb_uniq.specs.Inside.Meaning.{truth_of}
use Rattle.bb_dd.specs.declared.key.Key.{Key}
use Rattle.bb_dd.specs.declared.key.Key.TheVariants.{Quantify}
use Rattle.bb_dd.specs.contracts.key.KeyPartialEq.TheImpl.{ghosts}
use Rattle.bb_dd.specs.Inside.Results.{AreRight, table_of_key}
use Rattle.bb_dd.specs.Inside.State.{DiagramState}
use Rattle.bb_dd.proofs.Recalled.{AreRight-promoted, found_entry, absent_entry, right_entry}
use Rattle.bb_dd.proofs.diagrams.Diagrams.recall.Goals as goal

pub invariant_of-self : goal.invariant_of-self
invariant_of-self c =
    let i = c.self.inside in
    record {
      store = c.self.invariant.store;
      entries = subst (λ (k : LruCache Key Ref). AreRight i.store k.entries) (sym c.look_up.ensures.entries) (AreRight-promoted i.store _ i.cache.entries c.self.invariant.entries);
    }

pub returns-clause-some : goal.returns-clause-some
returns-clause-some c =
    let key : Key = Quantify c.args.all c.args.f c.args.v in
    subst (λ (d : DiagramState). IfSome c.look_up.result (λ r. Contains d.entries (key, r))) c.self.view_is
    (found_entry _ c.same_keys.ensures.same c.self.inside.cache.entries key c.look_up.result c.look_up.ensures.found)

pub returns-clause-none : goal.returns-clause-none
returns-clause-none c =
    let key : Key = Quantify c.args.all c.args.f c.args.v in
    subst (λ (d : DiagramState). IfNone c.look_up.result ((r : Ref) → Contains d.entries (key, r) → ⊥)) c.self.view_is
    (absent_entry ghosts.eq c.same_keys.ensures.equal c.self.inside.cache.entries key c.look_up.result c.look_up.ensures.found)

pub returns-clause-right : goal.returns-clause-right
returns-clause-right c =
    let i = c.self.inside in
    let key : Key = Quantify c.args.all c.args.f c.args.v in
    subst (λ (d : DiagramState). IfSome c.look_up.result (λ r. IsRef d.store r.0 × (truth_of d.store r.0 ≡ table_of_key d.store key))) c.self.view_is
    (right_entry i.store _ c.same_keys.ensures.same i.cache.entries key c.look_up.result c.self.invariant.entries c.look_up.ensures.found)
