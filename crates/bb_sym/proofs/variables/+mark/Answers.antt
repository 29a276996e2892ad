use Rattle.bb_uniq.specs.Inside.Meaning.{truth_of}
use Rattle.bb_sym.proofs.DependenceLemmas.{node_depends, seen_more, seen_one, still_seen}
use Rattle.bb_sym.proofs.variables.+mark.Goals as goal

pub returns-clause-seen : goal.returns-clause-seen
returns-clause-seen t c =
    let s = c.args.d.now.store in
    let f = c.args.f.0 in
    let lo = c.in-Node.lo.0 in
    let hi = c.in-Node.hi.0 in
    let means = c.in-Node.ensures.table in
    let both = c.mark-2.ensures in
    let set = c.set.ensures in
    let lo_free = both.seen lo (c.stores.ensures.below_is_ref s c.in-Node.var lo means.1) (both.still lo c.mark.ensures.own) in
    let hi_free = both.seen hi (c.stores.ensures.below_is_ref s c.in-Node.var hi means.2) both.own in
    let own = node_depends c.stores.ensures s c.in-Node.var lo hi (truth_of s f) c.mark-2.new.marked c.set.new.marked means.0 means.3 set.len set.own set.others lo_free hi_free in
    seen_one s c.mark-2.new.seen c.set.new.marked f (seen_more s c.mark-2.new.seen c.mark-2.new.marked c.set.new.marked set.len set.others both.seen) own

pub returns-clause-still : goal.returns-clause-still
returns-clause-still t c = λ r e. still_seen c.mark-2.new.seen c.args.f.0 r (c.mark-2.ensures.still r (c.mark.ensures.still r e))
