use Rattle.std.proofs.Common.{true, set, ap, ◌∙◌, [], ◌∷◌, ◌++◌}
use Rattle.bb_rup.specs.Propagation.{complement}
use Rattle.bb_rup.specs.Inside.Trails.{mark_place}
use Rattle.bb_rup.proofs.Trails.{makes_one}
use Rattle.bb_rup.proofs.Reached.{propagates_one}
use Rattle.bb_rup.proofs.propagation.imply.Goals as goal

pub returns-clause-propagates : goal.returns-clause-propagates
returns-clause-propagates c =
    let old = c.args.trail.now in
    let lits = c.in_ok-make_false.ensures.lits ∙ ap (λ k. old.lits.items ++ k ∷ []) c.negation.ensures in
    let marks = c.in_ok-make_false.ensures.marks ∙ ap (λ k. set old.marks.items (mark_place k) true) c.negation.ensures in
    propagates_one c.args.clauses.now old c.make_false.new.trail c.args.lit c.requires.implied
    (makes_one old c.make_false.new.trail (complement c.args.lit) c.requires.trail c.requires.implied.in_range c.requires.implied.new lits marks) marks
