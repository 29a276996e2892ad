use Rattle.std.proofs.Common.{◌≡◌, ◌∙◌, cond, sym}
use Rattle.bb_quant.proofs.Walks.{other_leaf, least_by_first, least_by_second}
use Rattle.bb_quant.proofs.points.+descend.Goals as goal

pub returns-then-eq : goal.returns-then-eq
returns-then-eq t c =
    let leaf_is : c.in-Node.lo.0 ≡ cond c.args.want 0 1 = other_leaf c.in-Node.lo.0 c.leaf.result.0 c.args.want c.leaf.ensures (sym c.eq.ensures ∙ c.if-eq.true) in
    least_by_second c.stores.ensures c.tables.ensures c.number_is_below.ensures c.args.d.now.store c.args.f.0 c.in-Node.var c.in-Node.lo c.in-Node.hi c.args.want c.args.point.now c.descend.new.point
    (sym c.in-Node.ensures.view) c.in-Node.ensures.table c.requires.point c.requires.zeros leaf_is c.descend.ensures

pub returns-else-eq : goal.returns-else-eq
returns-else-eq t c =
    least_by_first c.stores.ensures c.tables.ensures c.number_is_below.ensures c.args.d.now.store c.args.f.0 c.in-Node.var c.in-Node.lo c.in-Node.hi c.args.want c.args.point.now c.descend-else-eq.new.point
    (sym c.in-Node.ensures.view) c.in-Node.ensures.table c.requires.point c.requires.zeros c.descend-else-eq.ensures
