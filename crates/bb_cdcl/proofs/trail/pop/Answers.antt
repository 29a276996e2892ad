use Rattle.std.proofs.Common.{subst, arith}
use Rattle.bb_cdcl.specs.Inside.Trails.{AreNew, AreValues, HasRoom}
use Rattle.bb_cdcl.proofs.Assigned.{last_in_range, last_is_new, pop_values, pop_room}
use Rattle.bb_cdcl.proofs.trail.pop.Goals as goal

pub index_mut-requires : goal.index_mut-requires
index_mut-requires c =
    let below = last_in_range _ c.in-Some.last _ (subst (λ es. AreValues es c.args.trail.now.values.items) c.in-Some.ensures.items c.requires.values) in
    grind (arith, below)

pub returns-in-Some-clause-values : goal.returns-in-Some-clause-values
returns-in-Some-clause-values c =
    pop_values _ c.in-Some.last _ (subst (λ es. AreValues es c.args.trail.now.values.items) c.in-Some.ensures.items c.requires.values)
    (last_is_new _ c.in-Some.last (subst AreNew c.in-Some.ensures.items c.requires.new))

pub returns-in-Some-clause-room : goal.returns-in-Some-clause-room
returns-in-Some-clause-room c =
    pop_room _ c.in-Some.last _ (subst (λ es. AreValues es c.args.trail.now.values.items) c.in-Some.ensures.items c.requires.values)
    (subst (λ es. HasRoom es c.args.trail.now.values.items) c.in-Some.ensures.items c.requires.room)
