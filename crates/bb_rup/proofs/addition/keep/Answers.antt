use Rattle.std.proofs.Common.{[]}
use Rattle.bb_rup.specs.Inside.Trails.{marked_by}
use Rattle.bb_rup.proofs.Reached.{reached_false}
use Rattle.bb_rup.proofs.addition.keep.Goals as goal

pub returns-clause-yes : goal.returns-clause-yes
returns-clause-yes c e =
    reached_false c.args.clauses.now [] (marked_by c.propagate.new.trail) (c.in_ok-yes.ensures.propagates.reached [] c.requires.reached)
    (c.in_ok-yes.ensures.conflict e)
