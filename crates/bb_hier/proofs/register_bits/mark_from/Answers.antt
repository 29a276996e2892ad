use Rattle.std.proofs.Common.{true, set, refl, arith, ◌∙◌}
use Rattle.std.proofs.lemmas.List.{length-set}
use Rattle.bb_hier.proofs.MarkLemmas.{mark_more, mark_ends}
use Rattle.bb_hier.proofs.register_bits.mark_from.Goals as goal

pub loop-p-preserved : goal.loop-p-preserved
loop-p-preserved c = (
  length-set c.loop-p.marks c.loop-p.p true ∙ c.loop-p.invariant.0,
  omega (arith, c.loop-p-test.true),
  mark_more c.args.marks.now c.loop-p.marks (set c.loop-p.marks c.loop-p.p true) c.args.first c.loop-p.p c.loop-p.auto.p (omega (arith, c.loop-p-test.true, c.requires.end, c.loop-p.invariant.0)) refl c.loop-p.invariant.2,
)

pub returns-clause-marked : goal.returns-clause-marked
returns-clause-marked c = mark_ends c.args.marks.now c.loop-p.marks c.args.first c.args.end c.loop-p.p c.loop-p-test.false c.loop-p.invariant.1 c.loop-p.invariant.2
