use Rattle.bb_expand.proofs.Swept.{lifted_at, lifted_nowhere}
use Rattle.bb_expand.proofs.outputs.lifted.Goals as goal

pub returns-clause-at : goal.returns-clause-at
returns-clause-at c = lifted_at c.args.spec.now c.args.imp.now c.args.net.now c.requires.miter c.args.search_result c.requires.one

pub returns-clause-nowhere : goal.returns-clause-nowhere
returns-clause-nowhere c = lifted_nowhere c.args.spec.now c.args.imp.now c.args.net.now c.requires.miter c.args.search_result c.requires.zero
