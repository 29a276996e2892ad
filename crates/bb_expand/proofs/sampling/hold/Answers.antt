use Rattle.std.proofs.Common.{[], ◌∷◌, ◌++◌, length, map, ap, sym, subst, ◌∙◌, All, arith}
use Rattle.std.specs.Prelude.{vec_items, Contains}
use Rattle.std.proofs.lemmas.List.Elements.{All-head}
use Rattle.bb_cnf.specs.Clauses.{Formula}
use Rattle.bb_subst.specs.Distinguishing.{AreDistinguishing}
use Rattle.bb_net.specs.Equivalence.{IsVector}
use Rattle.bb_expand.specs.Expansions.{expansion}
use Rattle.bb_expand.specs.Inside.Failures.{AreDistinctWith}
use Rattle.bb_expand.specs.Inside.Sampling.{distinguishing_vectors, sample_vectors}
use Rattle.bb_expand.proofs.DistinguishingAmong.{among_after}
use Rattle.bb_expand.proofs.SampleVectors.{clauses_of_one_more}
use Rattle.bb_expand.proofs.Pieces.{all_right}
use Rattle.bb_expand.proofs.Pushed.{room_for_cells}
use Rattle.bb_expand.proofs.sampling.hold.Goals as goal

pub with_vector-requires-clause-inputs : goal.with_vector-requires-clause-inputs
with_vector-requires-clause-inputs c = All-head (IsVector c.args.pair.now.imp) c.args.x.now [] (all_right (IsVector c.args.pair.now.imp) (sample_vectors c.args.samples) (c.args.x.now ∷ []) c.requires.each.each)

pub with_vector-requires-clause-fits : goal.with_vector-requires-clause-fits
with_vector-requires-clause-fits c =
    let room = room_for_cells c.expansions_and_tables.ensures.counted c.args.pair.now.spec c.args.pair.now.imp c.args.pair.now.kinds (sample_vectors c.args.samples) c.args.samples.solver c.args.clauses c.requires.samples.expands c.requires.room in
    omega (arith, room, c.requires.small, c.requires.budget)

pub returns-clause-samples : goal.returns-clause-samples
returns-clause-samples c =
    let vectors = c.in_ok-new.ensures.vectors in
    let distinguishing = ap (map vec_items) c.in_ok-new.ensures.distinguishing in
    let cnf = c.in_ok-new.ensures.cnf in
    record {
      each = subst (AreDistinctWith (IsVector c.args.pair.now.imp)) (sym vectors) c.requires.each;
      distinguishing = subst (AreDistinguishing c.args.pair.now.spec c.args.pair.now.imp c.args.pair.now.kinds) (sym distinguishing) c.requires.samples.distinguishing;
      among = subst (λ xs. All (Contains xs) (distinguishing_vectors c.in_ok-new.new)) (sym vectors)
          (subst (All (Contains (sample_vectors c.args.samples ++ c.args.x.now ∷ []))) (sym distinguishing) (among_after (distinguishing_vectors c.args.samples) (sample_vectors c.args.samples) c.args.x.now c.requires.samples.among));
      expands = cnf ∙ ap (expansion c.args.pair.now.spec c.args.pair.now.imp c.args.pair.now.kinds) (sym vectors);
      within = omega (
        arith,
        c.requires.room,
        ap (λ (f : Formula). length f.clauses) cnf,
        ap (λ (f : Formula). length f.clauses) c.requires.samples.expands,
        clauses_of_one_more c.expansions_and_tables.ensures.counted c.args.pair.now.spec c.args.pair.now.imp c.args.pair.now.kinds (sample_vectors c.args.samples) c.args.x.now,
      );
    }
