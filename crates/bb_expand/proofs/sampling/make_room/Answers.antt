use Rattle.std.proofs.Common.{length, All, ap, sym, subst, ◌∙◌, arith}
use Rattle.std.specs.Prelude.{Contains}
use Rattle.bb_cnf.specs.Clauses.{Formula}
use Rattle.bb_expand.specs.ClauseCounts.{clauses_per_vector}
use Rattle.bb_expand.specs.Expansions.{expansion}
use Rattle.bb_expand.specs.Inside.Sampling.{sample_vectors}
use Rattle.bb_expand.proofs.DistinguishingAmong.{distinguishing_fit}
use Rattle.bb_expand.proofs.sampling.make_room.Goals as goal

pub distinguishing_alone-requires-clause-within : goal.distinguishing_alone-requires-clause-within
distinguishing_alone-requires-clause-within c = distinguishing_fit c.expansions_and_tables.ensures.counted c.distinguishing_vectors_are_distinct.ensures c.args.pair.now.spec c.args.pair.now.imp c.args.pair.now.kinds c.args.clauses c.args.samples c.requires.samples

pub returns-clause-among : goal.returns-clause-among
returns-clause-among c = subst (All (Contains (sample_vectors c.args.samples))) (sym c.in_ok-alone.ensures.vectors) c.requires.samples.among

pub returns-then-has_room-clause-room : goal.returns-then-has_room-clause-room
returns-then-has_room-clause-room c =
    omega (arith, c.has_room.ensures.yes c.if-has_room.true, ap (λ (f : Formula). length f.clauses) c.cnf.ensures, ap clauses_per_vector c.imp.ensures.imp)

pub returns-then-not-has_room-clause-clauses : goal.returns-then-not-has_room-clause-clauses
returns-then-not-has_room-clause-clauses c e =
    let is = c.cnf-2.ensures ∙ (c.in_ok-alone.ensures.samples.expands ∙ ap (expansion c.args.pair.now.spec c.args.pair.now.imp c.args.pair.now.kinds) c.in_ok-alone.ensures.vectors) in
    omega (arith, c.has_room-2.ensures.no c.if-not-has_room.true, ap (λ (f : Formula). length f.clauses) is, ap clauses_per_vector c.imp-2.ensures.imp)
