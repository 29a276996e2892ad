use Rattle.std.proofs.Common.{take}
use Rattle.bb_cnf.specs.Clauses.{lists_of}
use Rattle.bb_cdcl.proofs.Derived.{derived_kept}
use Rattle.bb_cdcl.proofs.resumption.resume.Goals as goal

pub move_trail-requires-clause-derived : goal.move_trail-requires-clause-derived
move_trail-requires-clause-derived c =
    c.take_back.ensures.derived (take c.args.known (lists_of c.args.given.now))
    (derived_kept (take c.args.known (lists_of c.args.given.now)) c.args.s.now c.widen_trail.new.s c.args.s.now.trail.entries.items c.requires.derived c.widen_trail.ensures.learned
    c.widen_trail.ensures.steps c.widen_trail.ensures.entries c.requires.derived.reasons)
