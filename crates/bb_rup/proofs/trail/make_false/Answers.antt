use Rattle.std.proofs.Common.{true, set, ap}
use Rattle.bb_rup.proofs.Trails.{trail_push}
use Rattle.bb_rup.proofs.trail.make_false.Goals as goal

pub returns-clause-trail : goal.returns-clause-trail
returns-clause-trail c =
    trail_push c.args.trail.now _ c.args.lit c.requires.trail c.requires.in_range c.requires.new c.in_ok-push.ensures.items
    (ap (λ k. set c.args.trail.now.marks.items k true) c.place.ensures)
