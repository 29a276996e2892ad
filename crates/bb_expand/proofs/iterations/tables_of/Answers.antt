use Rattle.std.proofs.Common.{subst, sym, All}
use Rattle.bb_subst.specs.Distinguishing.{AreEquivalentAt}
use Rattle.bb_net.specs.Kinds.{representatives, per_box}
use Rattle.bb_net.specs.Values.{FitBoxes}
use Rattle.bb_expand.specs.Inside.Sampling.{sample_vectors}
use Rattle.bb_expand.proofs.Decided.{tables_fit, tables_agree}
use Rattle.bb_expand.proofs.iterations.tables_of.Goals as goal

pub returns-clause-fit : goal.returns-clause-fit
returns-clause-fit c =
    let pair = c.args.pair.now in
    let below = c.laws_below.ensures in
    subst (λ tables. FitBoxes tables (representatives pair.kinds pair.imp.boxes)) (sym c.in_ok-tables.ensures.tables)
    (tables_fit below.numbering below.unique below.sharing pair.spec pair.imp pair.kinds c.imp.ensures.kept.imp c.imp.ensures.kept.beside.kinds (sample_vectors c.args.samples.now) c.args.samples.now.solver c.args.model.now c.requires.expands c.requires.holds)

pub returns-clause-spread : goal.returns-clause-spread
returns-clause-spread c =
    let pair = c.args.pair.now in
    let below = c.laws_below.ensures in
    subst (λ tables. FitBoxes (per_box pair.kinds tables) pair.imp.boxes) (sym c.in_ok-tables.ensures.tables)
    (below.sharing.fit pair.kinds pair.imp.boxes _ c.imp.ensures.kept.beside.kinds
    (tables_fit below.numbering below.unique below.sharing pair.spec pair.imp pair.kinds c.imp.ensures.kept.imp c.imp.ensures.kept.beside.kinds (sample_vectors c.args.samples.now) c.args.samples.now.solver c.args.model.now c.requires.expands c.requires.holds))

pub returns-clause-agree : goal.returns-clause-agree
returns-clause-agree c =
    let pair = c.args.pair.now in
    let below = c.laws_below.ensures in
    subst (λ tables. All (AreEquivalentAt pair.spec pair.imp (per_box pair.kinds tables)) (sample_vectors c.args.samples.now)) (sym c.in_ok-tables.ensures.tables)
    (tables_agree below.numbering below.unique below.sharing pair.spec pair.imp pair.kinds c.imp.ensures.kept.imp c.imp.ensures.kept.beside.kinds (sample_vectors c.args.samples.now) c.args.samples.now.solver c.args.model.now c.requires.expands c.requires.holds)
