use Rattle.std.proofs.Common.{rules, ◌<◌, ◌-◌, ℕ, min, refl, sym, ap, ◌∙◌, subst, inl, inr, arith}
use Rattle.std.specs.Prelude.{IsErrOf, Contains}
use Rattle.lru.specs.LruCache.{LruCache}
use Rattle.bb_uniq.specs.declared.store.Ref.{Ref}
use Rattle.bb_uniq.specs.Inside.Nodes.{NodeStore, IsRef, IsBelow}
use Rattle.bb_uniq.specs.Inside.Meaning.{Adds, IsTooMany, branch}
use Rattle.bb_uniq.specs.Inside.Cofactors.{top_of, IsReady}
use Rattle.bb_dd.specs.declared.fault.DdFault.TheVariants.{Full}
use Rattle.bb_dd.specs.declared.key.Key.{Key}
use Rattle.bb_dd.specs.declared.key.Key.TheVariants.{Apply, Quantify}
use Rattle.bb_dd.specs.Inside.Operations.{value_of}
use Rattle.bb_dd.specs.Inside.Results.{result_table, AreRight, Leaves, IsRight}
use Rattle.bb_dd.proofs.Given.{Given}
use Rattle.bb_dd.proofs.Halving.{adds_terminal, Halved, halved, falls, refused_first, refused_second, both, result_kept}
use Rattle.bb_dd.proofs.Recalled.{IsRight-found, AreRight-kept, AreRight-put}
use Rattle.bb_dd.proofs.Entries.{keeps_self, keeps_then, quantified_put}
use Rattle.bb_dd.proofs.Faults.{refused_full}
use Rattle.bb_dd.proofs.apply.+apply.Goals as goal
use Rattle.bb_dd.proofs.apply.+apply.Goals.{After-first_cofactors-at, In_ok-lo, In_ok-hi, In_ok-r}

pub returns-in-Some-clause-ok : goal.returns-in-Some-clause-ok
returns-in-Some-clause-ok t c =
    adds_terminal (record { tables = c.tables.ensures; stores = c.stores.ensures; growth = c.growth.ensures; steps = c.steps.ensures }) c.args.store.now c.requires.store (value_of c.args.call.operation) c.args.call.f.0 c.args.call.g.0 c.args.call.h.0 c.in-Some.r.0 c.requires.f c.requires.g c.requires.h c.in-Some.ensures.value c.in-Some.ensures.given

pub returns-in-Some-clause-leaves : goal.returns-in-Some-clause-leaves
returns-in-Some-clause-leaves t c =
    record { kept = c.growth.ensures.keeps_self c.args.store.now; store = c.requires.store; entries_right = c.requires.entries; entries_kept = keeps_self c.args.cache.now.entries; capacity = refl }

pub returns-in-Some-peek-clause-ok : goal.returns-in-Some-peek-clause-ok
returns-in-Some-peek-clause-ok t c =
    let s = c.args.store.now in
    let found = IsRight-found s _ c.same_keys.ensures.same c.args.cache.now.entries c.key_of-key.result c.in-Some-peek.r c.requires.entries (sym c.in-Some-peek.ensures) in
    let right = subst (λ (k : Key). IsRight s (k, c.in-Some-peek.r)) c.key_of-key.ensures found in
    c.growth.ensures.adds_nothing s c.requires.store (result_table c.args.store.now (value_of c.args.call.operation) c.args.call.f.0 c.args.call.g.0 c.args.call.h.0) c.in-Some-peek.r.0 right.ref right.table

pub returns-in-Some-peek-clause-leaves : goal.returns-in-Some-peek-clause-leaves
returns-in-Some-peek-clause-leaves t c =
    record { kept = c.growth.ensures.keeps_self c.args.store.now; store = c.requires.store; entries_right = c.requires.entries; entries_kept = keeps_self c.args.cache.now.entries; capacity = refl }

laws_at : (t : ℕ) (c : After-first_cofactors-at t) → Given
laws_at t c = record { tables = c.tables.ensures; stores = c.stores.ensures; growth = c.growth.ensures; steps = c.steps.ensures }

-- the halves of the result at the first variable
halves : (t : ℕ) (c : After-first_cofactors-at t) → Halved c.args.store.now (value_of c.args.call.operation) (result_table c.args.store.now (value_of c.args.call.operation) c.args.call.f.0 c.args.call.g.0 c.args.call.h.0) c.first_cofactors-at.result.var (c.args.store.now.vars - c.first_cofactors-at.result.var - 1) c.first_cofactors-at.result.f.0.0 c.first_cofactors-at.result.g.0.0 c.first_cofactors-at.result.h.0.0 c.first_cofactors-at.result.f.1.0 c.first_cofactors-at.result.g.1.0 c.first_cofactors-at.result.h.1.0
halves t c =
    halved (laws_at t c) c.args.store.now c.requires.store (value_of c.args.call.operation) c.first_cofactors-at.result.var c.args.call.f.0 c.args.call.g.0 c.args.call.h.0 c.first_cofactors-at.result.f.0.0 c.first_cofactors-at.result.g.0.0 c.first_cofactors-at.result.h.0.0 c.first_cofactors-at.result.f.1.0 c.first_cofactors-at.result.g.1.0 c.first_cofactors-at.result.h.1.0
    c.requires.f c.requires.g c.requires.h c.in_default.ensures.none c.first_cofactors-at.ensures.var c.first_cofactors-at.ensures.f c.first_cofactors-at.ensures.g c.first_cofactors-at.ensures.h

pub apply-requires : goal.apply-requires
apply-requires t c =
    let at = (goal.at.apply-requires t c).After-first_cofactors-at in
    let given = laws_at t at in
    let s = c.args.store.now in
    let x = halves t at in
    let f0 = c.first_cofactors-at.result.f.0.0 in
    let g0 = c.first_cofactors-at.result.g.0.0 in
    let h0 = c.first_cofactors-at.result.h.0.0 in
    let n = min (min (top_of s c.args.call.f.0) (top_of s c.args.call.g.0)) (top_of s c.args.call.h.0) in
    let fall = falls given s s (c.growth.ensures.keeps_self s) c.first_cofactors-at.result.var n f0 g0 h0 (omega (arith, at.first_cofactors-at.ensures.var)) (omega (arith, x.level)) x.f0_below x.g0_below x.h0_below in
    let less : s.vars - min (min (top_of s f0) (top_of s g0)) (top_of s h0) < t = omega (arith, c.decreases, fall) in
    (less, (c.requires.store, (c.requires.entries, (c.stores.ensures.below_is_ref s c.first_cofactors-at.result.var f0 x.f0_below, (c.stores.ensures.below_is_ref s c.first_cofactors-at.result.var g0 x.g0_below, c.stores.ensures.below_is_ref s c.first_cofactors-at.result.var h0 x.h0_below)))))

pub returns-in_err-lo-clause-full : goal.returns-in_err-lo-clause-full
returns-in_err-lo-clause-full t c =
    let at = (goal.at.returns-in_err-lo-clause-full t c).After-first_cofactors-at in
    let s = c.args.store.now in
    let reported : IsErrOf c.from_residual.result Full → IsTooMany s (result_table s (value_of c.args.call.operation) c.first_cofactors-at.result.f.0.0 c.first_cofactors-at.result.g.0.0 c.first_cofactors-at.result.h.0.0) = search rules in
    λ full. refused_first (laws_at t at) s (value_of c.args.call.operation) (result_table c.args.store.now (value_of c.args.call.operation) c.args.call.f.0 c.args.call.g.0 c.args.call.h.0) c.first_cofactors-at.result.var (c.args.store.now.vars - c.first_cofactors-at.result.var - 1) c.first_cofactors-at.result.f.0.0 c.first_cofactors-at.result.g.0.0 c.first_cofactors-at.result.h.0.0 c.first_cofactors-at.result.f.1.0 c.first_cofactors-at.result.g.1.0 c.first_cofactors-at.result.h.1.0 (halves t at) (reported full)

pub apply-requires-2 : goal.apply-requires-2
apply-requires-2 t c =
    let at = (goal.at.apply-requires-2 t c).After-first_cofactors-at in
    let given = laws_at t at in
    let s = c.args.store.now in
    let mid = c.apply.new.store in
    let x = halves t at in
    let left = c.in_ok-lo.ensures.leaves in
    let f1 = c.first_cofactors-at.result.f.1.0 in
    let g1 = c.first_cofactors-at.result.g.1.0 in
    let h1 = c.first_cofactors-at.result.h.1.0 in
    let n = min (min (top_of s c.args.call.f.0) (top_of s c.args.call.g.0)) (top_of s c.args.call.h.0) in
    let fall = falls given s mid left.kept c.first_cofactors-at.result.var n f1 g1 h1 (omega (arith, at.first_cofactors-at.ensures.var)) (omega (arith, x.level)) x.f1_below x.g1_below x.h1_below in
    let less : mid.vars - min (min (top_of mid f1) (top_of mid g1)) (top_of mid h1) < t = omega (arith, c.decreases, fall) in
    let ref : (r : ℕ) → IsBelow s c.first_cofactors-at.result.var r → IsRef mid r = λ r b. left.kept.refs r (c.stores.ensures.below_is_ref s c.first_cofactors-at.result.var r b) in
    (less, (left.store, (left.entries_right, (ref f1 x.f1_below, (ref g1 x.g1_below, ref h1 x.h1_below)))))

pub returns-in_err-hi-clause-full : goal.returns-in_err-hi-clause-full
returns-in_err-hi-clause-full t c =
    let at = (goal.at.returns-in_err-hi-clause-full t c).After-first_cofactors-at in
    let s = c.args.store.now in
    let mid = c.apply.new.store in
    let reported : IsErrOf c.from_residual-in_err-hi.result Full → IsTooMany mid (result_table mid (value_of c.args.call.operation) c.first_cofactors-at.result.f.1.0 c.first_cofactors-at.result.g.1.0 c.first_cofactors-at.result.h.1.0) = search rules in
    λ full. refused_second (laws_at t at) s (value_of c.args.call.operation) (result_table c.args.store.now (value_of c.args.call.operation) c.args.call.f.0 c.args.call.g.0 c.args.call.h.0) c.first_cofactors-at.result.var (c.args.store.now.vars - c.first_cofactors-at.result.var - 1) c.first_cofactors-at.result.f.0.0 c.first_cofactors-at.result.g.0.0 c.first_cofactors-at.result.h.0.0 c.first_cofactors-at.result.f.1.0 c.first_cofactors-at.result.g.1.0 c.first_cofactors-at.result.h.1.0 (halves t at) mid c.in_ok-lo.lo.0 c.in_ok-lo.ensures.ok (reported full)

pub returns-in_err-hi-clause-leaves : goal.returns-in_err-hi-clause-leaves
returns-in_err-hi-clause-leaves t c =
    let first = c.in_ok-lo.ensures.leaves in
    let left = c.in_err-hi.ensures.leaves in
    record {
      kept = c.growth.ensures.keeps_then c.args.store.now c.apply.new.store c.apply-2.new.store first.kept left.kept;
      store = left.store;
      entries_right = left.entries_right;
      entries_kept = keeps_then c.args.cache.now.entries c.apply.new.cache.entries c.apply-2.new.cache.entries first.entries_kept left.entries_kept;
      capacity = left.capacity ∙ first.capacity;
    }

-- what both calls leave, and the node that joins their results
left_by_both : (t : ℕ) (c : In_ok-hi t) → Leaves c.args.store.now c.apply-2.new.store c.args.cache.now c.apply-2.new.cache
left_by_both t c =
    let first = c.in_ok-lo.ensures.leaves in
    let left = c.in_ok-hi.ensures.leaves in
    record {
      kept = c.growth.ensures.keeps_then c.args.store.now c.apply.new.store c.apply-2.new.store first.kept left.kept;
      store = left.store;
      entries_right = left.entries_right;
      entries_kept = keeps_then c.args.cache.now.entries c.apply.new.cache.entries c.apply-2.new.cache.entries first.entries_kept left.entries_kept;
      capacity = left.capacity ∙ first.capacity;
    }

joined : (t : ℕ) (c : In_ok-hi t) → Halved c.args.store.now (value_of c.args.call.operation) (result_table c.args.store.now (value_of c.args.call.operation) c.args.call.f.0 c.args.call.g.0 c.args.call.h.0) c.first_cofactors-at.result.var (c.args.store.now.vars - c.first_cofactors-at.result.var - 1) c.first_cofactors-at.result.f.0.0 c.first_cofactors-at.result.g.0.0 c.first_cofactors-at.result.h.0.0 c.first_cofactors-at.result.f.1.0 c.first_cofactors-at.result.g.1.0 c.first_cofactors-at.result.h.1.0 →
    IsReady c.args.store.now c.apply-2.new.store c.first_cofactors-at.result.var (result_table c.args.store.now (value_of c.args.call.operation) c.args.call.f.0 c.args.call.g.0 c.args.call.h.0) c.in_ok-lo.lo.0 c.in_ok-hi.hi.0
joined t c x =
    both (record { tables = c.tables.ensures; stores = c.stores.ensures; growth = c.growth.ensures; steps = c.steps.ensures }) c.args.store.now (value_of c.args.call.operation) (result_table c.args.store.now (value_of c.args.call.operation) c.args.call.f.0 c.args.call.g.0 c.args.call.h.0) c.first_cofactors-at.result.var (c.args.store.now.vars - c.first_cofactors-at.result.var - 1) c.first_cofactors-at.result.f.0.0 c.first_cofactors-at.result.g.0.0 c.first_cofactors-at.result.h.0.0 c.first_cofactors-at.result.f.1.0 c.first_cofactors-at.result.g.1.0 c.first_cofactors-at.result.h.1.0 x
    c.apply.new.store c.apply-2.new.store c.in_ok-hi.ensures.leaves.store c.in_ok-lo.lo.0 c.in_ok-hi.hi.0 c.in_ok-lo.ensures.ok c.in_ok-hi.ensures.ok

pub make-requires-clause-var : goal.make-requires-clause-var
make-requires-clause-var t c =
    let x = halves t ((goal.at.make-requires-clause-var t c).After-first_cofactors-at) in
    omega (arith, x.level, c.in_ok-hi.ensures.leaves.kept.vars, c.in_ok-lo.ensures.leaves.kept.vars)

pub make-requires-clause-lo : goal.make-requires-clause-lo
make-requires-clause-lo t c = (joined t ((goal.at.make-requires-clause-lo t c).In_ok-hi) (halves t ((goal.at.make-requires-clause-lo t c).After-first_cofactors-at))).lo_below

pub make-requires-clause-hi : goal.make-requires-clause-hi
make-requires-clause-hi t c = (joined t ((goal.at.make-requires-clause-hi t c).In_ok-hi) (halves t ((goal.at.make-requires-clause-hi t c).After-first_cofactors-at))).hi_below

pub returns-in_err-r-clause-full : goal.returns-in_err-r-clause-full
returns-in_err-r-clause-full t c =
    let s = c.args.store.now in
    let last = c.apply-2.new.store in
    λ full.
    let reported : IsTooMany last (branch last c.first_cofactors-at.result.var c.in_ok-lo.lo.0 c.in_ok-hi.hi.0) = c.in_err-r.ensures.too_many (refused_full c.in_err-r.field-0.0) in
    c.steps.ensures.node_refused s last c.first_cofactors-at.result.var (result_table c.args.store.now (value_of c.args.call.operation) c.args.call.f.0 c.args.call.g.0 c.args.call.h.0) c.in_ok-lo.lo.0 c.in_ok-hi.hi.0 (joined t ((goal.at.returns-in_err-r-clause-full t c).In_ok-hi) (halves t ((goal.at.returns-in_err-r-clause-full t c).After-first_cofactors-at))) reported

pub returns-in_err-r-clause-leaves : goal.returns-in_err-r-clause-leaves
returns-in_err-r-clause-leaves t c =
    subst (λ (n : NodeStore). Leaves c.args.store.now n c.args.cache.now c.apply-2.new.cache) (sym c.in_err-r.ensures.err) (left_by_both t ((goal.at.returns-in_err-r-clause-leaves t c).In_ok-hi))

-- the result, in the store with its node
made : (t : ℕ) (c : In_ok-r t) → IsReady c.args.store.now c.apply-2.new.store c.first_cofactors-at.result.var (result_table c.args.store.now (value_of c.args.call.operation) c.args.call.f.0 c.args.call.g.0 c.args.call.h.0) c.in_ok-lo.lo.0 c.in_ok-hi.hi.0 →
    Adds c.args.store.now c.make.new.self (result_table c.args.store.now (value_of c.args.call.operation) c.args.call.f.0 c.args.call.g.0 c.args.call.h.0) c.in_ok-r.r.0
made t c ready =
    c.steps.ensures.made c.args.store.now c.apply-2.new.store c.make.new.self c.in_ok-r.ensures.store c.first_cofactors-at.result.var (result_table c.args.store.now (value_of c.args.call.operation) c.args.call.f.0 c.args.call.g.0 c.args.call.h.0) c.in_ok-lo.lo.0 c.in_ok-hi.hi.0 c.in_ok-r.r.0 ready c.in_ok-r.ensures.adds

pub returns-clause-ok : goal.returns-clause-ok
returns-clause-ok t c =
    let at = goal.at.returns-clause-ok t c in
    made t at.In_ok-r (joined t at.In_ok-hi (halves t at.After-first_cofactors-at))

pub returns-clause-leaves : goal.returns-clause-leaves
returns-clause-leaves t c =
    let at = goal.at.returns-clause-leaves t c in
    let s = c.args.store.now in
    let last = c.apply-2.new.store in
    let new = c.make.new.self in
    let op = (value_of c.args.call.operation) in
    let call = c.args.call in
    let added = made t at.In_ok-r (joined t at.In_ok-hi (halves t at.After-first_cofactors-at)) in
    let key : Key = Apply call.operation call.f call.g call.h in
    let before = AreRight-kept last new c.in_ok-r.ensures.adds.kept c.apply-2.new.cache.entries c.in_ok-hi.ensures.leaves.entries_right in
    let i = c.requires.f in
    let j = c.requires.g in
    let k = c.requires.h in
    let fresh : IsRight new (key, c.in_ok-r.r) = record {
      operands = (added.kept.refs call.f.0 i, added.kept.refs call.g.0 j, added.kept.refs call.h.0 k);
      ref = added.ref;
      table = added.table ∙ sym (result_kept s new added.kept op call.f.0 call.g.0 call.h.0 i j k);
    } in
    let left = left_by_both t at.In_ok-hi in
    let put = c.remember.ensures.entries in
    record {
      kept = added.kept;
      store = c.in_ok-r.ensures.store;
      entries_right = elim put [
        | inl unchanged ↦ subst (λ (k : LruCache Key Ref). AreRight new k.entries) (sym unchanged) before
        | inr stored ↦ subst (λ (k : LruCache Key Ref). AreRight new k.entries) (sym stored) (AreRight-put new _ c.same_keys.ensures.same c.apply-2.new.cache c.key_of-key.result c.in_ok-r.r before (subst (λ (k : Key). IsRight new (k, c.in_ok-r.r)) (sym c.key_of-key.ensures) fresh))
      ];
      entries_kept = keeps_then c.args.cache.now.entries c.apply-2.new.cache.entries c.remember.new.cache.entries left.entries_kept (record {
        no_fewer = c.remember.ensures.no_fewer;
        quantified = λ all f v r e. elim put [
          | inl unchanged ↦ subst (λ (k : LruCache Key Ref). Contains k.entries (Quantify all f v, r)) unchanged e
          | inr stored ↦ quantified_put _ c.same_keys.ensures.same c.apply-2.new.cache c.key_of-key.result call.operation call.f call.g call.h c.key_of-key.ensures c.in_ok-r.r all f v r (subst (λ (k : LruCache Key Ref). Contains k.entries (Quantify all f v, r)) stored e)
        ];
      });
      capacity = elim put [ inl unchanged ↦ ap (λ (k : LruCache Key Ref). k.cap) unchanged ∙ left.capacity | inr stored ↦ ap (λ (k : LruCache Key Ref). k.cap) stored ∙ left.capacity ];
    }
