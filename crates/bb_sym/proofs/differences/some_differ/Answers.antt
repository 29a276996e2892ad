use Rattle.std.proofs.Common.{rules, IsErrOf, ℕ, subst, sym, ap, ap₂, ◌∙◌, ◌≡◌, ◌++◌, List, map, length}
use Rattle.std.specs.List.{range_with_len}
use Rattle.bb_bits.specs.Truth.{Truth}
use Rattle.bb_uniq.specs.declared.store.Ref.{Ref}
use Rattle.bb_uniq.specs.Inside.Nodes.{NodeStore}
use Rattle.bb_sym.specs.declared.fault.RungFault.TheVariants.{Nodes}
use Rattle.bb_sym.specs.Plain.{Function, differ, table, tables, one_of, first_of}
use Rattle.bb_sym.specs.Inside.Made.{AreTooMany, Represents, RepresentAll}
use Rattle.bb_sym.proofs.MadeLemmas.{too_many_within, within_append_left}
use Rattle.bb_sym.proofs.PairLemmas.{lists_refused, lists_made}
use Rattle.bb_sym.proofs.differences.some_differ.Goals as goal

-- the functions that are folded, over the variables of either store
abbrev folds : (k n : ℕ) (d : ℕ → Function) → List Truth
folds k n d = tables k (map (first_of d) (range_with_len 0 n))

occur_now : (now : NodeStore) (n k : ℕ) (d : ℕ → Function) (refs rs : List Ref) → n ≡ k → rs ≡ refs → RepresentAll now (λ j. table k (d j)) refs → RepresentAll now (λ j. table n (d j)) rs
occur_now now n k d refs rs e same occur = subst (λ m. RepresentAll now (λ j. table m (d j)) rs) (sym e) (subst (RepresentAll now (λ j. table k (d j))) (sym same) occur)

pub returns-in_err-different-clause-nodes : goal.returns-in_err-different-clause-nodes
returns-in_err-different-clause-nodes c = λ f g left right.
    let s = c.args.d.now.store in
    let n = length c.args.fs.now in
    let d : ℕ → Function = λ j. differ (f j) (g j) in
    let ts = tables s.vars (map d (range_with_len 0 n)) in
    let more = c.in_err-different.ensures.nodes f g left right in
    let reported : IsErrOf c.from_residual.result Nodes → AreTooMany s ts = search (rules, more) in
    λ full. too_many_within s ts (ts ++ folds s.vars n d) (within_append_left ts (folds s.vars n d)) (reported full)

pub returns-in_err-any-clause-nodes : goal.returns-in_err-any-clause-nodes
returns-in_err-any-clause-nodes c = λ f g left right.
    let s = c.args.d.now.store in
    let m = c.differences.new.d.store in
    let n = length c.args.fs.now in
    let d : ℕ → Function = λ j. differ (f j) (g j) in
    let made = c.in_ok-different.ensures.makes f g left right in
    let occur = occur_now m m.vars s.vars d c.in_ok-different.different.items c.deref.result.now made.kept.vars c.deref.ensures.value (c.in_ok-different.ensures.occur f g left right) in
    let more = c.in_err-any.ensures.nodes d occur in
    let reported : IsErrOf c.from_residual-in_err-any.result Nodes → AreTooMany m (folds m.vars (length c.deref.result.now) d) = search (rules, more) in
    λ full. lists_refused s m (tables s.vars (map d (range_with_len 0 n))) (folds s.vars n d) (folds m.vars (length c.deref.result.now) d) made
    (ap₂ (λ k i. folds k i d) made.kept.vars (ap length c.deref.ensures.value ∙ c.in_ok-different.ensures.count)) (reported full)

pub returns-clause-result : goal.returns-clause-result
returns-clause-result c = λ f g left right.
    let s = c.args.d.now.store in
    let m = c.differences.new.d.store in
    let d : ℕ → Function = λ j. differ (f j) (g j) in
    let made = c.in_ok-different.ensures.makes f g left right in
    let occur = occur_now m m.vars s.vars d c.in_ok-different.different.items c.deref.result.now made.kept.vars c.deref.ensures.value (c.in_ok-different.ensures.occur f g left right) in
    subst (λ k. Represents c.fold_or.new.d.store (table k (one_of d (length c.args.fs.now))) c.in_ok-any.any) made.kept.vars
    (subst (λ i. Represents c.fold_or.new.d.store (table m.vars (one_of d i)) c.in_ok-any.any) (ap length c.deref.ensures.value ∙ c.in_ok-different.ensures.count) (c.in_ok-any.ensures.result d occur))

pub returns-clause-makes : goal.returns-clause-makes
returns-clause-makes c = λ f g left right.
    let s = c.args.d.now.store in
    let m = c.differences.new.d.store in
    let n = length c.args.fs.now in
    let d : ℕ → Function = λ j. differ (f j) (g j) in
    let made = c.in_ok-different.ensures.makes f g left right in
    let occur = occur_now m m.vars s.vars d c.in_ok-different.different.items c.deref.result.now made.kept.vars c.deref.ensures.value (c.in_ok-different.ensures.occur f g left right) in
    lists_made s m (tables s.vars (map d (range_with_len 0 n))) (folds s.vars n d) (folds m.vars (length c.deref.result.now) d) made
    (ap₂ (λ k i. folds k i d) made.kept.vars (ap length c.deref.ensures.value ∙ c.in_ok-different.ensures.count)) c.fold_or.new.d.store (c.in_ok-any.ensures.makes d occur)
