use Rattle.std.proofs.Common.{sym, subst, map}
use Rattle.std.specs.Prelude.{vec_items}
use Rattle.bb_cnf.specs.Chains.{IsRefutation}
use Rattle.bb_cnf.specs.Clauses.{Formula}
use Rattle.bb_expand.specs.Expanded.{IsError}
use Rattle.bb_expand.proofs.Decided.{refuted_is_error}
use Rattle.bb_expand.proofs.iterations.refuted.Goals as goal

pub returns : goal.returns
returns c =
    let spec = c.args.pair.now.spec in
    let imp = c.args.pair.now.imp in
    let kinds = c.args.pair.now.kinds in
    let steps = c.args.refutation.steps.items in
    record {
      error = λ budget samples is vectors cnf.
          subst (λ (f : Formula). IsError spec imp kinds budget (map vec_items c.args.vectors.items) f steps) cnf
          (subst (λ xs. IsError spec imp kinds budget xs samples.solver steps) vectors
          (refuted_is_error c.laws_below.ensures.numbering c.laws_below.ensures.exists c.laws_below.ensures.sharing c.refutations.ensures.refutation spec imp kinds c.imp.ensures.kept.imp c.imp.ensures.kept.beside.kinds budget samples steps is
          (subst (λ (f : Formula). IsRefutation f.clauses steps) (sym cnf) c.requires.refuted)));
    }
