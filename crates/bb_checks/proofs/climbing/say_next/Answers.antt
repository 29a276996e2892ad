use Rattle.bb_checks.proofs.climbing.say_next.Goals as goal

pub returns-clause-known : goal.returns-clause-known
returns-clause-known c = c.known_after.ensures.known c.args.pair.now c.args.options.now c.in_ok-known.ensures.known
