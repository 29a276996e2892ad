use Rattle.std.proofs.Common.{subst}
use Rattle.bb_uniq.specs.Inside.Nodes.{IsStore}
use Rattle.bb_uniq.proofs.Making.{one_ref}
use Rattle.bb_uniq.proofs.store.Store.is_canonical.Goals as goal

pub returns-clause-refs : goal.returns-clause-refs
returns-clause-refs c = one_ref c.args.self.now (subst IsStore c.self.view_is c.self.invariant.0)
