use Rattle.bb_cdcl.proofs.events.event_of.Goals as goal

pub returns-in-False : goal.returns-in-False
returns-in-False c = record { clause = c.at.result.now; occurs = c.at.ensures; is_false = c.in-False.ensures }

pub returns-then-lit-values : goal.returns-then-lit-values
returns-then-lit-values c = record { clause = c.at.result.now; occurs = c.at.ensures; is_unit = c.in-Unit.ensures; in_range = c.if-lit-values.true }
