use Rattle.std.proofs.Common.{◌≡◌, ◌∙◌, sym, cond}
use Rattle.bb_uniq.specs.Inside.Meaning.{truth_of}
use Rattle.bb_uniq.specs.Inside.Cofactors.{top_of}
use Rattle.bb_quant.proofs.FirstBits.{least_by_fewer, least_given}
use Rattle.bb_quant.proofs.Walks.{other_leaf, none_at_leaf}
use Rattle.bb_quant.proofs.points.least.Goals as goal

pub returns-then-eq-clause-none : goal.returns-then-eq-clause-none
returns-then-eq-clause-none c =
    let leaf_is : c.under-below.result.0 ≡ cond c.args.want 0 1 = other_leaf c.under-below.result.0 c.leaf.result.0 c.args.want c.leaf.ensures (sym c.eq.ensures ∙ c.if-eq.true) in
    λ none q b h. none_at_leaf c.stores.ensures c.tables.ensures c.args.d.now.store c.under-below.result.0 c.args.want q leaf_is (b.0 ∙ c.requires.point) (sym (c.under-below.ensures.same q b) ∙ h)

pub returns-clause-found : goal.returns-clause-found
returns-clause-found c =
    let s = c.args.d.now.store in
    let f = truth_of s c.args.f.0 in
    let r = truth_of s c.under-below.result.0 in
    let k = c.args.fixed in
    let cleared = c.clear_after.new.point in
    let p = c.descend.new.point in
    λ found. least_given f r c.args.want k c.args.point.now cleared p c.clear_after.ensures.len c.clear_after.ensures.first c.under-below.ensures.same
    (least_by_fewer c.number_is_below.ensures r c.args.want k (top_of s c.under-below.result.0) cleared p c.under-below.ensures.later c.clear_after.ensures.zeros c.descend.ensures)
