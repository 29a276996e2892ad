use Rattle.bb_dd.proofs.Recalled.{AreRight-kept}
use Rattle.bb_dd.proofs.diagrams.Diagrams.make.Goals as goal

pub invariant_of-self : goal.invariant_of-self
invariant_of-self c =
    let i = c.self.inside in
    record { store = c.make_node.ensures.store; entries = AreRight-kept i.store c.make_node.new.store c.make_node.ensures.kept i.cache.entries c.self.invariant.entries }
