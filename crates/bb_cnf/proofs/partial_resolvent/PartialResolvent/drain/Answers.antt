use Rattle.std.proofs.Common.{sym, ◌∙◌, ap}
use Rattle.bb_cnf.specs.Clauses.{literals_of}
use Rattle.bb_cnf.proofs.Marked.{drain_kept, listed_kept}
use Rattle.bb_cnf.proofs.partial_resolvent.PartialResolvent.drain.Goals as goal

pub loop-lit-preserved-in-Continue-branch-2 : goal.loop-lit-preserved-in-Continue-branch-2
loop-lit-preserved-in-Continue-branch-2 c = (
  drain_kept _ _ _ _ _ c.in-Some.lit c.loop-lit.invariant.0 (sym c.has.ensures ∙ c.if-has.true) c.in_ok-push.ensures.ok c.take_out.ensures.held,
  λ m marked. ap (λ xs. literals_of xs m) c.take_out.ensures.marked
      ∙ listed_kept _ _ _ _ c.in-Some.lit c.loop-lit.invariant.1 c.in-Some.ensures.items c.take_out.ensures.held m marked,
)
